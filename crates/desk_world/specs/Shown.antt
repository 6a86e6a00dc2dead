-- Views that come, and what a listing of a view tells.
use Rattle.std.specs.Prelude.{ℕ, true, false, List, length, Option}
use Rattle.base_items.specs.declared.items.ItemSort.TheVariants.{Node, Arc}
use Rattle.base_items.specs.declared.limits.Limit.TheVariants as limits
use Rattle.base_items.specs.declared.limits.TheConstants.{MAX_NODES, MAX_ARCS}
use Rattle.script_words.specs.declared.commands.Direction.{Direction}
use Rattle.script_words.specs.declared.commands.Direction.TheVariants.{In, Out}
use Rattle.script_words.specs.declared.commands.LayerWord.{LayerWord}
use Rattle.report_text.specs.declared.faults.Fault.{Fault}
use Rattle.report_text.specs.declared.faults.Fault.TheVariants.{Full}
use Rattle.report_text.specs.declared.faults.StepFault.{StepFault}
use Rattle.report_text.specs.declared.faults.StepFault.TheVariants.{Refused, Memory}
use Rattle.plain_views.specs.Shown as shown
use Rattle.plain_views.specs.Shown.{Shown, ShownArc}
use Rattle.plain_world.specs.Refusals.{above_limits}
use Rattle.plain_world.specs.Tables.{Name, with_entry, with_change}
use Rattle.plain_world.specs.World.{World}
use Rattle.view_numbers.specs.declared.fault.NumberFault.{NumberFault}
use Rattle.view_numbers.specs.declared.fault.NumberFault.TheVariants as faults

-- a new view comes last
abbrev pub with_view : World → Name → LayerWord → Name → World
with_view world name layer below = record world {
  views = with_entry world.views name (record { layer = layer; below = below; kept = false });
}

-- a view is kept
abbrev pub with_kept : World → Name → World
with_kept world name = record world {
  views = with_change world.views name (λ view. record view { kept = true });
}

-- ---- views that are too large

-- the fault of a view that shows more than the limits
abbrev pub fault_of_size : Shown → Option Fault
fault_of_size p = above_limits (length p.nodes) (length p.by_source)

-- as a command tells it
abbrev pub told_as : NumberFault → StepFault
told_as (faults.Full limits.Nodes) = Refused (Full Node MAX_NODES)
told_as (faults.Full _) = Refused (Full Arc MAX_ARCS)
told_as faults.Memory = Memory

-- ---- the arcs at a node

-- those from the node, or to it
abbrev pub arcs_at : Direction → Shown → ℕ → List ShownArc
arcs_at Out p node = shown.arcs_from p node
arcs_at In p node = shown.arcs_to p node

abbrev pub ids_at : Direction → Shown → ℕ → List ℕ
ids_at Out p node = shown.out_ids p node
ids_at In p node = shown.in_ids p node

-- the arc that follows one of them
abbrev pub next_at : Direction → Shown → ℕ → Option ℕ
next_at Out p arc = shown.next_out p arc
next_at In p arc = shown.next_in p arc
