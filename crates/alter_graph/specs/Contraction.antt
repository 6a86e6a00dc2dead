-- How a contraction ends.
use Rattle.std.specs.Prelude.{◌≡◌, ◌≢◌, Bool, true, false}
use Rattle.base_items.specs.declared.items.Node.{Node}
use Rattle.plain_digraph.specs.Alterations.{Alteration, contraction, loop_contraction}
use Rattle.alter_graph.specs.declared.faults.AlterFault.{AlterFault}
use Rattle.alter_graph.specs.declared.faults.AlterFault.TheVariants as fault
use Rattle.alter_graph.specs.State.{State, IsSame, IsInStep}
use Rattle.alter_graph.specs.Outcome.{Happens, Refuses}

-- v goes into u, with all its arcs or without those between the two
abbrev pub contraction_of : Bool → Node → Node → Alteration
contraction_of true u v = loop_contraction u.0 v.0
contraction_of false u v = contraction u.0 v.0

-- two nodes were contracted
pub record Contracts (loops : Bool) (u v : Node) (old new : State) : Type 0 where
  pub differ : u.0 ≢ v.0
  pub happens : Happens (contraction_of loops u v) old new

pub record IsUnchanged (old new : State) : Type 0 where
  pub same : IsSame old new
  pub in_step : IsInStep new

-- all is as before: the nodes are the same, or else the alteration is refused
abbrev pub Keeps : Bool → Node → Node → State → State → AlterFault → Type 0
Keeps loops u v old new fault.SameNode = (u.0 ≡ v.0) × IsUnchanged old new
Keeps loops u v old new (fault.Vetoed sort key) =
    (u.0 ≢ v.0) × Refuses (contraction_of loops u v) old new (fault.Vetoed sort key)
Keeps loops u v old new (fault.Full limit) =
    (u.0 ≢ v.0) × Refuses (contraction_of loops u v) old new (fault.Full limit)
Keeps loops u v old new fault.Stale = ⊥
Keeps loops u v old new fault.Memory = Refuses (contraction_of loops u v) old new fault.Memory
