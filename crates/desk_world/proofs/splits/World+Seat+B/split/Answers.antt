use Rattle.std.proofs.Common.{false, true, refl, sym, ap, subst, ◌∙◌, ◌∷◌, [], ◌+◌, ◌*◌, ◌<◌, ◌≤◌}
use Rattle.std.proofs.Common.{length}
use Rattle.std.proofs.Common.{arith, List, None, Some}
use Rattle.base_items.specs.declared.items.ItemSort.{ItemSort}
use Rattle.std.specs.Option.{option_or}
use Rattle.base_items.specs.declared.items.ItemSort.TheVariants as sorts
use Rattle.base_items.specs.declared.limits.TheConstants.{MAX_ARCS, MAX_STAMP}
use Rattle.index_maps.specs.RefViews.{IsFreeLabel}
use Rattle.list_digraph.specs.Roomy.{Roomy}
use Rattle.script_words.specs.declared.commands.Command.TheVariants as commands
use Rattle.report_text.specs.declared.faults.StepFault.TheVariants as faults
use Rattle.plain_digraph.specs.Items.{IsLive}
use Rattle.plain_digraph.specs.Alterations.{node_split, refusable_steps}
use Rattle.plain_world.specs.Demands as demands
use Rattle.plain_world.specs.World as plain
use Rattle.plain_world.specs.World.{attached}
use Rattle.plain_world.specs.Tables.{Name}
use Rattle.plain_world.proofs.Attaching.{IsUnused}
use Rattle.desk_seats.specs.contracts.seat.SeatObserver.TheImpl.{watch-value}
use Rattle.desk_world.specs.Edits.{CanSplit, Edits, node_demands, split_by, split_demands}
use Rattle.desk_world.specs.Faults.{Answers}
use Rattle.desk_world.specs.Plain.{plain_of}
use Rattle.desk_world.proofs.Answered.{same_stamps, still_valid}
use Rattle.desk_world.proofs.Asked.{node_live, splits_arc, splits_node, splits_off}
use Rattle.desk_world.proofs.Demanded.{fault_of, met, not_met, refused}
use Rattle.desk_world.proofs.Edited.{ends, few_asked, memory_edits, unmet_edits}
use Rattle.desk_world.proofs.Entered.{free_there}
use Rattle.desk_world.proofs.Handed.{handed_on}
use Rattle.desk_world.proofs.SplitDone.{no_node, split_met}
use Rattle.desk_world.proofs.splits.World+Seat+B.split.Goals as goal

pub returns-in_err-ask_split : goal.returns-in_err-ask_split
returns-in_err-ask_split g c =
    let w = (watch-value g.row.B g.B.Observer g.B.Observer-dict g.B.Destruct-dict).it in
    let self = c.args.self.now in
    let world = plain_of w self in
    let label = c.args.label.now in
    let arc_label = c.args.arc_label.now in
    let asks = split_demands label arc_label in
    let alteration = split_by world.graph c.args.split in
    let labels : List (ItemSort × Name) = (sorts.Node, label) ∷ (sorts.Arc, arc_label) ∷ [] in
    record {
      edits = handed_on (Edits world asks alteration labels (plain_of w self))
          c.from_residual.result _ c.from_residual.ensures.1
          (unmet_edits world asks alteration labels _ c.in_err-ask_split.ensures.meets);
      in_step = c.requires.in_step.seats;
      stamps = same_stamps _ _ refl;
    }

pub ready_label-requires : goal.ready_label-requires
ready_label-requires g c =
    record { in_step = c.requires.in_step.seats; free = c.in_ok-ask_split.ensures.free }

pub returns-in_err-text : goal.returns-in_err-text
returns-in_err-text g c =
    let w = (watch-value g.row.B g.B.Observer g.B.Observer-dict g.B.Destruct-dict).it in
    let self = c.args.self.now in
    let world = plain_of w self in
    let label = c.args.label.now in
    let arc_label = c.args.arc_label.now in
    let asks = split_demands label arc_label in
    let alteration = split_by world.graph c.args.split in
    let labels : List (ItemSort × Name) = (sorts.Node, label) ∷ (sorts.Arc, arc_label) ∷ [] in
    let one = c.ready_label.new.self in
    record {
      edits = handed_on (Edits world asks alteration labels (plain_of w one))
          c.from_residual-in_err-text.result faults.Memory c.from_residual-in_err-text.ensures.1
          (memory_edits world (plain_of w one) asks alteration labels c.ready_label.ensures.same);
      in_step = c.ready_label.ensures.in_step;
      stamps = same_stamps _ _ (ap (λ (r : Roomy). r.graph.stamps) c.ready_label.ensures.graph);
    }

pub ready_label-requires-2 : goal.ready_label-requires-2
ready_label-requires-2 g c =
    let w = (watch-value g.row.B g.B.Observer g.B.Observer-dict g.B.Destruct-dict).it in
    let self = c.args.self.now in
    let world = plain_of w self in
    let label = c.args.label.now in
    let arc_label = c.args.arc_label.now in
    let asks = split_demands label arc_label in
    let alteration = split_by world.graph c.args.split in
    let labels : List (ItemSort × Name) = (sorts.Node, label) ∷ (sorts.Arc, arc_label) ∷ [] in
    let one = c.ready_label.new.self in
    let unused = (split_met world c.requires.in_step.valid label arc_label
    c.in_ok-ask_split.ensures.meets).arc_new in
    record {
      in_step = c.ready_label.ensures.in_step;
      free = free_there w one sorts.Arc c.ready_label.ensures.in_step arc_label
          (subst (λ (v : plain.World). IsUnused v.arcs.labels arc_label)
          (sym c.ready_label.ensures.same) unused);
    }

pub returns-in_err-arc_text : goal.returns-in_err-arc_text
returns-in_err-arc_text g c =
    let w = (watch-value g.row.B g.B.Observer g.B.Observer-dict g.B.Destruct-dict).it in
    let self = c.args.self.now in
    let world = plain_of w self in
    let label = c.args.label.now in
    let arc_label = c.args.arc_label.now in
    let asks = split_demands label arc_label in
    let alteration = split_by world.graph c.args.split in
    let labels : List (ItemSort × Name) = (sorts.Node, label) ∷ (sorts.Arc, arc_label) ∷ [] in
    let two = c.ready_label-2.new.self in
    record {
      edits = handed_on (Edits world asks alteration labels (plain_of w two))
          c.from_residual-in_err-arc_text.result faults.Memory
          c.from_residual-in_err-arc_text.ensures.1
          (memory_edits world (plain_of w two) asks alteration labels (c.ready_label-2.ensures.same
          ∙ c.ready_label.ensures.same));
      in_step = c.ready_label-2.ensures.in_step;
      stamps = same_stamps _ _ (ap (λ (r : Roomy). r.graph.stamps) (c.ready_label-2.ensures.graph ∙
          c.ready_label.ensures.graph));
    }

pub split_labelled-requires : goal.split_labelled-requires
split_labelled-requires g c =
    let w = (watch-value g.row.B g.B.Observer g.B.Observer-dict g.B.Destruct-dict).it in
    let self = c.args.self.now in
    let world = plain_of w self in
    let label = c.args.label.now in
    let arc_label = c.args.arc_label.now in
    let asks = split_demands label arc_label in
    let alteration = split_by world.graph c.args.split in
    let labels : List (ItemSort × Name) = (sorts.Node, label) ∷ (sorts.Arc, arc_label) ∷ [] in
    let two = c.ready_label-2.new.self in
    let split = c.args.split in
    let same = c.ready_label-2.ensures.same ∙ c.ready_label.ensures.same in
    let graph = sym (c.ready_label-2.ensures.graph ∙ c.ready_label.ensures.graph) in
    let text = c.in_ok-text.ensures.label in
    let arc_text = c.in_ok-arc_text.ensures.label in
    let there = c.in_ok-text.ensures.room in
    let other = c.ready_label-2.ensures.others sorts.Node refl in
    record {
      in_step = still_valid w self two c.ready_label-2.ensures.in_step same c.requires.in_step;
      stamps = subst (λ (r : Roomy). r.graph.stamps + 16777216 ≤ MAX_STAMP) graph
          c.requires.stamps;
      can = subst (λ (r : Roomy). CanSplit split r.graph) graph c.requires.can;
      few = subst (λ (r : Roomy). length (refusable_steps r.graph (split_by r.graph split))
          ≤ 2 * MAX_ARCS) graph c.requires.few;
      met = (λ i. fault_of (same i) (split_demands (text i) (arc_text i)))
          ∙ c.in_ok-ask_split.ensures.meets;
      room = omega (arith, there, other);
      arc_room = c.in_ok-arc_text.ensures.room;
    }

pub returns : goal.returns
returns g c =
    let w = (watch-value g.row.B g.B.Observer g.B.Observer-dict g.B.Destruct-dict).it in
    let self = c.args.self.now in
    let world = plain_of w self in
    let label = c.args.label.now in
    let arc_label = c.args.arc_label.now in
    let asks = split_demands label arc_label in
    let alteration = split_by world.graph c.args.split in
    let labels : List (ItemSort × Name) = (sorts.Node, label) ∷ (sorts.Arc, arc_label) ∷ [] in
    let two = c.ready_label-2.new.self in
    let last = c.split_labelled.new.self in
    let split = c.args.split in
    let same = c.ready_label-2.ensures.same ∙ c.ready_label.ensures.same in
    let graph = c.ready_label-2.ensures.graph ∙ c.ready_label.ensures.graph in
    let text = c.in_ok-text.ensures.label in
    let arc_text = c.in_ok-arc_text.ensures.label in
    let said : plain.World → Name → Name → Type 0 = λ v l m. Edits v (split_demands l m)
    (split_by v.graph split) ((sorts.Node, l) ∷ (sorts.Arc, m) ∷ []) (plain_of w last)
    c.split_labelled.result in
    record {
      edits = subst (λ v. said v label arc_label) same
          (subst (λ m. said (plain_of w two) label m) arc_text
          (subst (λ l. said (plain_of w two) l c.in_ok-arc_text.arc_text) text
          c.split_labelled.ensures.edits));
      in_step = c.split_labelled.ensures.in_step;
      stamps = subst (λ (r : Roomy). last.graph.graph.graph.stamps < r.graph.stamps + 16777216)
          graph c.split_labelled.ensures.stamps;
    }
