-- The fault by which some steps are refused.
use Rattle.std.specs.Prelude.{ℕ, Bool, ◌&&◌, ◌==◌, List, Option, option_map}
use Rattle.base_items.specs.declared.items.ItemSort.{ItemSort}
use Rattle.report_text.specs.declared.faults.Fault.{Fault}
use Rattle.report_text.specs.declared.faults.Fault.TheVariants as faults
use Rattle.plain_digraph.specs.PlainSteps.{PlainStep}
use Rattle.plain_digraph.specs.Alterations.{vetoer}
use Rattle.observe_core.specs.Seen.{Watched}
use Rattle.alter_graph.specs.declared.faults.AlterFault.{AlterFault}
use Rattle.alter_graph.specs.Chains.{chains_seen}
use Rattle.alter_graph.specs.Outcome.{Refused}
use Rattle.alter_graph.specs.Room.{HasRoomFor}
use Rattle.alter_graph.specs.Verdict.{guards_of, is_sort}
use Rattle.plain_world.specs.Refusals.{refuses}
use Rattle.plain_world.specs.Tables.{Named}
use Rattle.plain_world.specs.World as plain
use Rattle.desk_world.specs.declared.tables.GuardRow.{GuardRow}
use Rattle.desk_world.specs.declared.world.World.{World}

-- the guard is that in this seat
abbrev pub is_seat_of : ItemSort → ℕ → GuardRow → Bool
is_seat_of sort key row = is_sort row.sort sort && row.key.0 == key

abbrev pub is_row_of : ItemSort → ℕ → Named GuardRow → Bool
is_row_of sort key e = is_seat_of sort key e.value

-- the digraph refuses the steps with this fault, though there is room for them
pub record AreRefused {O : Type 0} (watch : O → Watched) (w : World O) (fault : AlterFault)
    (steps : List PlainStep) : Type 0 where
  pub room : HasRoomFor steps w.graph.graph.graph
  pub refused : Refused (guards_of (chains_seen watch w.graph.chains)) steps
      w.graph.graph.graph fault

-- the veto of the oldest guard that refuses the earliest step that one refuses
abbrev pub veto_of_steps : plain.World → List PlainStep → Option Fault
veto_of_steps world steps =
    option_map (λ guard. faults.Vetoed guard.name) (vetoer refuses world.guards world.graph steps)
