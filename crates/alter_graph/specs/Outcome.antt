-- How an alteration ends: all of its steps happen, or nothing does.
use Rattle.std.specs.Prelude.{List}
use Rattle.plain_digraph.specs.Digraph.{Digraph}
use Rattle.plain_digraph.specs.PlainSteps.{PlainStep}
use Rattle.plain_digraph.specs.Alterations.{Alteration, all_steps, refusable_steps}
use Rattle.alter_graph.specs.declared.faults.AlterFault.{AlterFault}
use Rattle.alter_graph.specs.declared.faults.AlterFault.TheVariants as fault
use Rattle.alter_graph.specs.State.{State, IsSame, IsInStep, SnapsFollow}
use Rattle.alter_graph.specs.Steps.{altered}
use Rattle.alter_graph.specs.Room.{HasRoomFor, WouldPass}
use Rattle.alter_graph.specs.Verdict.{Guard, guards_of, Passes, Vetoes}

-- the steps were taken, each chain was told of those of its sort, and all is in step
pub record Goes (steps : List PlainStep) (old new : State) : Type 0 where
  pub took : IsSame (altered steps old) new
  pub in_step : IsInStep new
  pub snaps : SnapsFollow steps old new

-- all steps were taken, and no guard refuses one
pub record Alters (steps refusable : List PlainStep) (old new : State) : Type 0 where
  pub goes : Goes steps old new
  pub passes : Passes (guards_of old.chains) refusable old.graph

-- the whole alteration happened
abbrev pub Happens : Alteration → State → State → Type 0
Happens alteration old new =
    Alters (all_steps old.graph alteration) (refusable_steps old.graph alteration) old new

-- all steps of an alteration without refusable ones were taken
abbrev pub Erases : Alteration → State → State → Type 0
Erases alteration old new = Goes (all_steps old.graph alteration) old new

-- a step would pass a limit; or else a guard refuses, the oldest at the first step that any
-- refuses. Want of memory may come at any place
abbrev pub Refused : List Guard → List PlainStep → Digraph → AlterFault → Type 0
Refused guards steps g (fault.Vetoed sort key) =
    HasRoomFor steps g × Vetoes guards steps g sort key
Refused guards steps g fault.SameNode = ⊥
Refused guards steps g (fault.Full limit) = WouldPass steps g limit
Refused guards steps g fault.Stale = ⊥
Refused guards steps g fault.Memory = Unit {0}

-- all is as before, and the fault says why
pub record Stays (steps : List PlainStep) (old new : State) (why : AlterFault) : Type 0 where
  pub same : IsSame old new
  pub refused : Refused (guards_of old.chains) steps old.graph why
  pub in_step : IsInStep new

-- nothing of the alteration happened
abbrev pub Refuses : Alteration → State → State → AlterFault → Type 0
Refuses alteration old new why = Stays (refusable_steps old.graph alteration) old new why
