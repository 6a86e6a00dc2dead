use Rattle.std.proofs.Common.{false, true, refl, sym, ap, subst, ◌∙◌, ◌∷◌, [], ◌+◌, ◌*◌, ◌<◌, ◌≤◌}
use Rattle.std.proofs.Common.{length}
use Rattle.std.proofs.Common.{arith, List, None, Some}
use Rattle.base_items.specs.declared.items.ItemSort.{ItemSort}
use Rattle.std.specs.Option.{option_or}
use Rattle.base_items.specs.declared.items.ItemSort.TheVariants as sorts
use Rattle.base_items.specs.declared.limits.TheConstants.{MAX_ARCS, MAX_STAMP}
use Rattle.index_maps.specs.RefViews.{IsFreeLabel}
use Rattle.list_digraph.specs.Roomy.{Roomy}
use Rattle.script_words.specs.declared.commands.Command.TheVariants as commands
use Rattle.report_text.specs.declared.faults.StepFault.TheVariants as faults
use Rattle.plain_digraph.specs.Items.{IsLive}
use Rattle.plain_digraph.specs.Alterations.{node_split, refusable_steps}
use Rattle.plain_world.specs.Demands as demands
use Rattle.plain_world.specs.World as plain
use Rattle.plain_world.specs.World.{attached}
use Rattle.plain_world.specs.Tables.{Name}
use Rattle.plain_world.proofs.Attaching.{IsUnused}
use Rattle.desk_seats.specs.contracts.seat.SeatObserver.TheImpl.{watch-value}
use Rattle.desk_world.specs.Edits.{CanSplit, Edits, node_demands, split_by, split_demands}
use Rattle.desk_world.specs.Faults.{Answers}
use Rattle.desk_world.specs.Plain.{plain_of}
use Rattle.desk_world.proofs.Answered.{same_stamps, still_valid}
use Rattle.desk_world.proofs.Asked.{node_live, splits_arc, splits_node, splits_off}
use Rattle.desk_world.proofs.Demanded.{fault_of, met, not_met, refused}
use Rattle.desk_world.proofs.Edited.{ends, few_asked, memory_edits, unmet_edits}
use Rattle.desk_world.proofs.Entered.{free_there}
use Rattle.desk_world.proofs.Handed.{handed_on}
use Rattle.desk_world.proofs.SplitDone.{no_node, split_met}
use Rattle.desk_world.proofs.splits.World+Seat+B.split_off.Goals as goal

pub returns-in_err-ask_new_label : goal.returns-in_err-ask_new_label
returns-in_err-ask_new_label g c =
    let w = (watch-value g.row.B g.B.Observer g.B.Observer-dict g.B.Destruct-dict).it in
    let self = c.args.self.now in
    let world = plain_of w self in
    let label = c.args.label.now in
    let asks = node_demands label in
    let alteration = node_split world.graph c.args.node.0 false in
    let labels : List (ItemSort × Name) = (sorts.Node, label) ∷ [] in
    record {
      edits = handed_on (Edits world asks alteration labels (plain_of w self))
          c.from_residual.result _ c.from_residual.ensures.1
          (unmet_edits world asks alteration labels _ (not_met world (demands.New (demands.Labels
          sorts.Node) label) (demands.HasRoom 1 0 ∷ []) _
          c.in_err-ask_new_label.ensures.meets));
      in_step = c.requires.in_step.seats;
      stamps = same_stamps _ _ refl;
    }

pub returns-in_err-ask_room : goal.returns-in_err-ask_room
returns-in_err-ask_room g c =
    let w = (watch-value g.row.B g.B.Observer g.B.Observer-dict g.B.Destruct-dict).it in
    let self = c.args.self.now in
    let world = plain_of w self in
    let label = c.args.label.now in
    let asks = node_demands label in
    let alteration = node_split world.graph c.args.node.0 false in
    let labels : List (ItemSort × Name) = (sorts.Node, label) ∷ [] in
    record {
      edits = handed_on (Edits world asks alteration labels (plain_of w self))
          c.from_residual-in_err-ask_room.result _ c.from_residual-in_err-ask_room.ensures.1
          (unmet_edits world asks alteration labels _ (met world (demands.New (demands.Labels
          sorts.Node) label) (demands.HasRoom 1 0 ∷ []) _ c.in_ok-ask_new_label.ensures.meets
          (not_met world (demands.HasRoom 1 0) [] _ c.in_err-ask_room.ensures)));
      in_step = c.requires.in_step.seats;
      stamps = same_stamps _ _ refl;
    }

pub ready_label-requires : goal.ready_label-requires
ready_label-requires g c =
    record { in_step = c.requires.in_step.seats; free = c.in_ok-ask_new_label.ensures.free }

pub returns-in_err-text : goal.returns-in_err-text
returns-in_err-text g c =
    let w = (watch-value g.row.B g.B.Observer g.B.Observer-dict g.B.Destruct-dict).it in
    let self = c.args.self.now in
    let world = plain_of w self in
    let label = c.args.label.now in
    let asks = node_demands label in
    let alteration = node_split world.graph c.args.node.0 false in
    let labels : List (ItemSort × Name) = (sorts.Node, label) ∷ [] in
    let one = c.ready_label.new.self in
    record {
      edits = handed_on (Edits world asks alteration labels (plain_of w one))
          c.from_residual-in_err-text.result faults.Memory c.from_residual-in_err-text.ensures.1
          (memory_edits world (plain_of w one) asks alteration labels c.ready_label.ensures.same);
      in_step = c.ready_label.ensures.in_step;
      stamps = same_stamps _ _ (ap (λ (r : Roomy). r.graph.stamps) c.ready_label.ensures.graph);
    }

pub split_off_labelled-requires : goal.split_off_labelled-requires
split_off_labelled-requires g c =
    let w = (watch-value g.row.B g.B.Observer g.B.Observer-dict g.B.Destruct-dict).it in
    let self = c.args.self.now in
    let world = plain_of w self in
    let label = c.args.label.now in
    let asks = node_demands label in
    let alteration = node_split world.graph c.args.node.0 false in
    let labels : List (ItemSort × Name) = (sorts.Node, label) ∷ [] in
    let one = c.ready_label.new.self in
    let node = c.args.node.0 in
    let same = c.ready_label.ensures.same in
    let graph = sym c.ready_label.ensures.graph in
    let text = c.in_ok-text.ensures.label in
    record {
      in_step = still_valid w self one c.ready_label.ensures.in_step same c.requires.in_step;
      stamps = subst (λ (r : Roomy). r.graph.stamps + 16777216 ≤ MAX_STAMP) graph
          c.requires.stamps;
      live = subst (λ (r : Roomy). IsLive r.graph sorts.Node node) graph c.requires.live;
      few = subst (λ (r : Roomy). length (refusable_steps r.graph (node_split r.graph node false))
          ≤ 2 * MAX_ARCS) graph c.requires.few;
      met = (λ i. fault_of (same i) (node_demands (text i)))
          ∙ (λ i. option_or (c.in_ok-ask_new_label.ensures.meets i)
          (option_or (c.in_ok-ask_room.ensures i) None));
      room = c.in_ok-text.ensures.room;
    }

pub returns : goal.returns
returns g c =
    let w = (watch-value g.row.B g.B.Observer g.B.Observer-dict g.B.Destruct-dict).it in
    let self = c.args.self.now in
    let world = plain_of w self in
    let label = c.args.label.now in
    let asks = node_demands label in
    let alteration = node_split world.graph c.args.node.0 false in
    let labels : List (ItemSort × Name) = (sorts.Node, label) ∷ [] in
    let one = c.ready_label.new.self in
    let last = c.split_off_labelled.new.self in
    let node = c.args.node.0 in
    let text = c.in_ok-text.ensures.label in
    let said : plain.World → Name → Type 0 = λ v l. Edits v (node_demands l)
    (node_split v.graph node false) ((sorts.Node, l) ∷ []) (plain_of w last)
    c.split_off_labelled.result in
    record {
      edits = subst (λ v. said v label) c.ready_label.ensures.same
          (subst (λ l. said (plain_of w one) l) text c.split_off_labelled.ensures.edits);
      in_step = c.split_off_labelled.ensures.in_step;
      stamps = subst (λ (r : Roomy). last.graph.graph.graph.stamps < r.graph.stamps + 16777216)
          c.ready_label.ensures.graph c.split_off_labelled.ensures.stamps;
    }
