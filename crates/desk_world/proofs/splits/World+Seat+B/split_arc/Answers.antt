use Rattle.std.proofs.Common.{false, true, refl, sym, ap, subst, ◌∙◌, ◌∷◌, [], ◌+◌, ◌*◌, ◌<◌, ◌≤◌}
use Rattle.std.proofs.Common.{length}
use Rattle.std.proofs.Common.{arith, None, Some}
use Rattle.std.specs.Option.{option_or}
use Rattle.base_items.specs.declared.items.ItemSort.TheVariants as sorts
use Rattle.base_items.specs.declared.limits.TheConstants.{MAX_ARCS, MAX_STAMP}
use Rattle.index_maps.specs.RefViews.{IsFreeLabel}
use Rattle.list_digraph.specs.Roomy.{Roomy}
use Rattle.script_words.specs.declared.commands.Command.TheVariants as commands
use Rattle.report_text.specs.declared.faults.StepFault.TheVariants as faults
use Rattle.plain_digraph.specs.Items.{IsLive}
use Rattle.plain_digraph.specs.Alterations.{node_split, refusable_steps}
use Rattle.plain_world.specs.Demands as demands
use Rattle.plain_world.specs.World as plain
use Rattle.plain_world.specs.World.{attached}
use Rattle.plain_world.specs.Tables.{Name}
use Rattle.plain_world.proofs.Attaching.{IsUnused}
use Rattle.desk_seats.specs.contracts.seat.SeatObserver.TheImpl.{watch-value}
use Rattle.desk_world.specs.Edits.{CanSplit, Edits, node_demands, split_by, split_demands}
use Rattle.desk_world.specs.Faults.{Answers}
use Rattle.desk_world.specs.Plain.{plain_of}
use Rattle.desk_world.proofs.Answered.{same_stamps, still_valid}
use Rattle.desk_world.proofs.Asked.{node_live, splits_arc, splits_node, splits_off}
use Rattle.desk_world.proofs.Demanded.{fault_of, met, not_met, refused}
use Rattle.desk_world.proofs.Edited.{ends, few_asked, memory_edits, unmet_edits}
use Rattle.desk_world.proofs.Entered.{free_there}
use Rattle.desk_world.proofs.Handed.{handed_on}
use Rattle.desk_world.proofs.SplitDone.{no_node, split_met}
use Rattle.desk_world.proofs.splits.World+Seat+B.split_arc.Goals as goal

pub returns-in_err-id : goal.returns-in_err-id
returns-in_err-id g c =
    let w = (watch-value g.row.B g.B.Observer g.B.Observer-dict g.B.Destruct-dict).it in
    let self = c.args.self.now in
    let world = plain_of w self in
    let name = c.args.arc.now in
    let label = c.args.label.now in
    let arc_label = c.args.arc_label.now in
    let asked = commands.SplitArc name label arc_label in
    record {
      step = handed_on (Answers world asked world) c.from_residual.result _
          c.from_residual.ensures.1
          (refused world asked _ (not_met world (demands.There (demands.Labels sorts.Arc) name)
          (split_demands label arc_label) _ c.in_err-id.ensures.meets));
      in_step = c.requires.in_step;
      stamps = same_stamps _ _ refl;
    }

pub split-requires : goal.split-requires
split-requires g c =
    let w = (watch-value g.row.B g.B.Observer g.B.Observer-dict g.B.Destruct-dict).it in
    let self = c.args.self.now in
    let world = plain_of w self in
    let valid = c.requires.in_step.valid in
    let name = c.args.arc.now in
    let label = c.args.label.now in
    let arc_label = c.args.arc_label.now in
    let asks = splits_arc world valid.graph_ok name _ c.in_ok-id.ensures.found label arc_label in
    record {
      in_step = c.requires.in_step;
      stamps = c.requires.stamps;
      can = asks.can;
      few = few_asked world (commands.SplitArc name label arc_label) _ valid asks.alters;
    }

pub returns : goal.returns
returns g c =
    let w = (watch-value g.row.B g.B.Observer g.B.Observer-dict g.B.Destruct-dict).it in
    let self = c.args.self.now in
    let world = plain_of w self in
    let valid = c.requires.in_step.valid in
    let name = c.args.arc.now in
    let label = c.args.label.now in
    let arc_label = c.args.arc_label.now in
    let last = c.split.new.self in
    let asks = splits_arc world valid.graph_ok name _ c.in_ok-id.ensures.found label arc_label in
    let done = ends w self last (commands.SplitArc name label arc_label)
    (demands.There (demands.Labels sorts.Arc) name ∷ []) (split_demands label arc_label) _
    ((sorts.Node, label) ∷ (sorts.Arc, arc_label) ∷ []) c.requires.in_step c.requires.stamps tt refl
    asks.alters (ap (λ o. option_or o None) c.in_ok-id.ensures.meets)
    (λ reply later quiet is. (quiet, is)) c.split.ensures.in_step c.split.result
    c.split.ensures.edits in
    record { step = done.step; in_step = done.in_step; stamps = c.split.ensures.stamps }
