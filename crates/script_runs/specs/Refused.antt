-- How the refusal of a graph file ends.
use Rattle.std.specs.Prelude.{◌≡◌, ℕ, List, []}
use Rattle.edge_io.specs.Causes.{Rose}
use Rattle.lgf_file.specs.declared.faults.LgfFault.{LgfFault}
use Rattle.plain_machine.specs.declared.statuses.Status.{Status}
use Rattle.plain_machine.specs.declared.statuses.Status.TheVariants as statuses
use Rattle.plain_machine.specs.Texts.{graph_fault_text}
use Rattle.plain_machine.specs.Outcome.{IsPrefixOf}

-- The text of the fault went out, or a prefix of it before a write failed, or nothing where memory
-- ran out. The numbers are the counts of failed writes.
abbrev pub RefusesGraph : LgfFault → List ℕ → ℕ → ℕ → Status → Type 0
RefusesGraph fault out before now statuses.BadGraph = out ≡ graph_fault_text fault
RefusesGraph fault out before now statuses.WriteFault =
    IsPrefixOf out (graph_fault_text fault) × Rose before now
RefusesGraph fault out before now statuses.Memory = out ≡ []
RefusesGraph fault out before now _ = ⊥
