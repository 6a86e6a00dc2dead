-- A part of an alteration: what its steps came to, with the journal that leads back.
use Rattle.std.specs.Prelude.{◌≡◌, ◌+◌, List, length}
use Rattle.base_items.specs.declared.items.ItemSort.TheVariants as sorts
use Rattle.plain_digraph.specs.Digraph.{Digraph}
use Rattle.plain_digraph.specs.Items.{count_of}
use Rattle.plain_digraph.specs.PlainSteps.{PlainStep}
use Rattle.alter_graph.specs.declared.faults.AlterFault.{AlterFault}
use Rattle.alter_graph.specs.declared.faults.AlterFault.TheVariants as fault
use Rattle.alter_graph.specs.declared.steps.Done.{Done}
use Rattle.alter_graph.specs.State.{State, IsSame}
use Rattle.alter_graph.specs.Steps.{undone, CanUndo}
use Rattle.alter_graph.specs.Room.{HasRoomFor, nodes_in, arcs_in}
use Rattle.alter_graph.specs.Verdict.{Guard, guards_of, Passes, Vetoes}
use Rattle.alter_graph.specs.Outcome.{Goes}

-- how much larger the digraph is
pub record Grows (steps : List PlainStep) (g h : Digraph) : Type 0 where
  pub nodes : count_of h sorts.Node ≡ count_of g sorts.Node + nodes_in steps
  pub arcs : count_of h sorts.Arc ≡ count_of g sorts.Arc + arcs_in steps
  pub stamps : h.stamps ≡ g.stamps + length steps

-- the steps were taken, and the journals lead back to one state
pub record Takes (steps : List PlainStep) (old new : State) (before now : List Done) : Type 0 where
  pub goes : Goes steps old new
  pub passes : Passes (guards_of old.chains) steps old.graph
  pub grows : Grows steps old.graph new.graph
  pub undo : CanUndo now new
  pub start : IsSame (undone before old) (undone now new)

-- a guard refuses, or there is no room, or no memory
abbrev pub Denied : List Guard → List PlainStep → Digraph → AlterFault → Type 0
Denied guards steps g (fault.Vetoed sort key) = Vetoes guards steps g sort key
Denied guards steps g fault.SameNode = ⊥
Denied guards steps g (fault.Full limit) = HasRoomFor steps g → ⊥
Denied guards steps g fault.Stale = ⊥
Denied guards steps g fault.Memory = Unit {0}

-- one of the steps was refused, and all is as the journal leads back to
pub record Fails (steps : List PlainStep) (old new : State) (before : List Done)
    (why : AlterFault) : Type 0 where
  pub back : IsSame (undone before old) new
  pub denied : Denied (guards_of old.chains) steps old.graph why
