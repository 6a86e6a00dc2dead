use Rattle.std.proofs.Common.{◌+◌, ◌∷◌, [], refl, sym, ap, subst, ◌∙◌}
use Rattle.base_items.specs.declared.items.ItemSort.TheVariants as sorts
use Rattle.script_words.specs.declared.commands.Command.TheVariants as commands
use Rattle.report_text.specs.declared.faults.StepFault.TheVariants as faults
use Rattle.report_text.specs.declared.replies.Reply.TheVariants.{Quiet}
use Rattle.list_digraph.specs.Roomy.{Roomy}
use Rattle.plain_digraph.specs.Digraph.{Digraph}
use Rattle.plain_digraph.specs.Items.{IsLive}
use Rattle.plain_digraph.specs.Alterations.{single}
use Rattle.plain_digraph.specs.PlainSteps.{AddArc}
use Rattle.plain_digraph.specs.Steps.{new_arc}
use Rattle.index_maps.specs.RefViews.{IsFreeLabel}
use Rattle.plain_world.specs.declared.answers.Answer.TheVariants.{Answered}
use Rattle.plain_world.specs.Altering.{item_at}
use Rattle.desk_seats.specs.contracts.seat.SeatObserver.TheImpl.{watch-value}
use Rattle.desk_world.specs.Entries.{labels_at}
use Rattle.desk_world.specs.Faults.{Answers}
use Rattle.desk_world.specs.Plain.{plain_of}
use Rattle.desk_world.proofs.Added.{arc_joins, takes_label}
use Rattle.desk_world.proofs.Answered.{no_source, no_target, arc_taken, no_arc_room, arc_room}
use Rattle.desk_world.proofs.Answered.{labelled_then, arc_answered, answered_in_step, still_valid}
use Rattle.desk_world.proofs.Answered.{one_stamp, few_stamps, same_stamps, item_found}
use Rattle.desk_world.proofs.Answered.{arc_asked, arc_met}
use Rattle.desk_world.proofs.Demanded.{told_then, no_veto}
use Rattle.desk_world.proofs.Handed.{handed_on}
use Rattle.desk_world.proofs.Unchanged.{still_in_step, plain_still}
use Rattle.desk_world.proofs.VetoesTold.{refused_after, unvetoed}
use Rattle.desk_world.proofs.additions.World+Seat+B.add_arc.Goals as goal

pub returns-in_err-source : goal.returns-in_err-source
returns-in_err-source g c =
    let w = (watch-value g.row.B g.B.Observer g.B.Observer-dict g.B.Destruct-dict).it in
    let world = plain_of w c.args.self.now in
    let label = c.args.label.now in
    let from = c.args.from.now in
    let to = c.args.to.now in
    record {
      step = handed_on (Answers world (commands.AddArc label from to) world)
          c.from_residual.result _ c.from_residual.ensures.1
          (no_source world label _ from to c.in_err-source.ensures.meets);
      in_step = c.requires.in_step;
      stamps = same_stamps _ _ refl;
    }

pub returns-in_err-target : goal.returns-in_err-target
returns-in_err-target g c =
    let w = (watch-value g.row.B g.B.Observer g.B.Observer-dict g.B.Destruct-dict).it in
    let world = plain_of w c.args.self.now in
    let label = c.args.label.now in
    let from = c.args.from.now in
    let to = c.args.to.now in
    record {
      step = handed_on (Answers world (commands.AddArc label from to) world)
          c.from_residual-in_err-target.result _ c.from_residual-in_err-target.ensures.1
          (no_target world label _ from to c.in_ok-source.ensures.meets
          c.in_err-target.ensures.meets);
      in_step = c.requires.in_step;
      stamps = same_stamps _ _ refl;
    }

pub returns-in_err-ask_new_label : goal.returns-in_err-ask_new_label
returns-in_err-ask_new_label g c =
    let w = (watch-value g.row.B g.B.Observer g.B.Observer-dict g.B.Destruct-dict).it in
    let world = plain_of w c.args.self.now in
    let label = c.args.label.now in
    let from = c.args.from.now in
    let to = c.args.to.now in
    record {
      step = handed_on (Answers world (commands.AddArc label from to) world)
          c.from_residual-in_err-ask_new_label.result _
          c.from_residual-in_err-ask_new_label.ensures.1
          (arc_taken world label _ from to c.in_ok-source.ensures.meets
          c.in_ok-target.ensures.meets c.in_err-ask_new_label.ensures.meets);
      in_step = c.requires.in_step;
      stamps = same_stamps _ _ refl;
    }

pub returns-in_err-ask_room : goal.returns-in_err-ask_room
returns-in_err-ask_room g c =
    let w = (watch-value g.row.B g.B.Observer g.B.Observer-dict g.B.Destruct-dict).it in
    let world = plain_of w c.args.self.now in
    let label = c.args.label.now in
    let from = c.args.from.now in
    let to = c.args.to.now in
    record {
      step = handed_on (Answers world (commands.AddArc label from to) world)
          c.from_residual-in_err-ask_room.result _ c.from_residual-in_err-ask_room.ensures.1
          (no_arc_room world label _ from to c.in_ok-source.ensures.meets
          c.in_ok-target.ensures.meets c.in_ok-ask_new_label.ensures.meets
          c.in_err-ask_room.ensures);
      in_step = c.requires.in_step;
      stamps = same_stamps _ _ refl;
    }

pub returns-in_err-label : goal.returns-in_err-label
returns-in_err-label g c =
    let w = (watch-value g.row.B g.B.Observer g.B.Observer-dict g.B.Destruct-dict).it in
    let world = plain_of w c.args.self.now in
    let asks = commands.AddArc c.args.label.now c.args.from.now c.args.to.now in
    record {
      step = handed_on (Answers world asks world) c.from_residual-in_err-label.result faults.Memory
          c.from_residual-in_err-label.ensures.1 refl;
      in_step = c.requires.in_step;
      stamps = same_stamps _ _ refl;
    }

pub reserve_label-requires-clause-in_step : goal.reserve_label-requires-clause-in_step
reserve_label-requires-clause-in_step g c = c.requires.in_step.seats

pub reserve_label-requires-clause-free : goal.reserve_label-requires-clause-free
reserve_label-requires-clause-free g c =
    let w = (watch-value g.row.B g.B.Observer g.B.Observer-dict g.B.Destruct-dict).it in
    subst (λ name. IsFreeLabel name (labels_at w c.args.self.now sorts.Arc))
    (sym (c.in_ok-label.ensures ∙ c.as_bytes.ensures)) c.in_ok-ask_new_label.ensures.free

pub returns-in_err-reserve_label : goal.returns-in_err-reserve_label
returns-in_err-reserve_label g c =
    let w = (watch-value g.row.B g.B.Observer g.B.Observer-dict g.B.Destruct-dict).it in
    let self = c.args.self.now in
    let ready = c.reserve_label.new.self in
    let same = c.reserve_label.ensures.same in
    let asks = commands.AddArc c.args.label.now c.args.from.now c.args.to.now in
    record {
      step = handed_on (Answers (plain_of w self) asks (plain_of w ready))
          c.from_residual-in_err-reserve_label.result faults.Memory
          c.from_residual-in_err-reserve_label.ensures.1 same;
      in_step = still_valid w self ready c.reserve_label.ensures.in_step same c.requires.in_step;
      stamps = same_stamps _ _ (ap (λ (r : Roomy). r.graph.stamps) c.reserve_label.ensures.graph);
    }

pub add_arc-requires-clause-in_step : goal.add_arc-requires-clause-in_step
add_arc-requires-clause-in_step g c = c.reserve_label.ensures.in_step.graph

pub add_arc-requires-clause-from : goal.add_arc-requires-clause-from
add_arc-requires-clause-from g c =
    let w = (watch-value g.row.B g.B.Observer g.B.Observer-dict g.B.Destruct-dict).it in
    subst (λ (r : Roomy). IsLive r.graph sorts.Node c.in_ok-source.source)
    (sym c.reserve_label.ensures.graph)
    (item_found (plain_of w c.args.self.now) sorts.Node c.args.from.now c.in_ok-source.source
    c.requires.in_step.valid.graph_ok c.in_ok-source.ensures.found).0

pub add_arc-requires-clause-to : goal.add_arc-requires-clause-to
add_arc-requires-clause-to g c =
    let w = (watch-value g.row.B g.B.Observer g.B.Observer-dict g.B.Destruct-dict).it in
    subst (λ (r : Roomy). IsLive r.graph sorts.Node c.in_ok-target.target)
    (sym c.reserve_label.ensures.graph)
    (item_found (plain_of w c.args.self.now) sorts.Node c.args.to.now c.in_ok-target.target
    c.requires.in_step.valid.graph_ok c.in_ok-target.ensures.found).0

pub refusal-requires : goal.refusal-requires
refusal-requires g c =
    let w = (watch-value g.row.B g.B.Observer g.B.Observer-dict g.B.Destruct-dict).it in
    let self = c.args.self.now in
    let ready = c.reserve_label.new.self in
    let new = c.add_arc.new.self in
    let source = c.in_ok-source.source in
    let target = c.in_ok-target.target in
    let stays = c.in-Err.ensures.refuses in
    let room = arc_room (plain_of w self) source target c.in_ok-ask_room.ensures
    (one_stamp _ _ c.requires.stamps) in
    record {
      in_step = still_in_step w ready new c.reserve_label.ensures.in_step stays.same
          stays.in_step;
      refused = (
        AddArc source target ∷ [],
        refused_after w self ready new (AddArc source target ∷ []) c.in-Err.fault
            c.reserve_label.ensures.graph room stays,
      );
    }

pub returns-in-Err : goal.returns-in-Err
returns-in-Err g c =
    let w = (watch-value g.row.B g.B.Observer g.B.Observer-dict g.B.Destruct-dict).it in
    let self = c.args.self.now in
    let world = plain_of w self in
    let ready = c.reserve_label.new.self in
    let new = c.add_arc.new.self in
    let later = record ready { graph = new } in
    let label = c.args.label.now in
    let from = c.args.from.now in
    let to = c.args.to.now in
    let valid = c.requires.in_step.valid.graph_ok in
    let source = c.in_ok-source.source in
    let target = c.in_ok-target.target in
    let stays = c.in-Err.ensures.refuses in
    let seats = still_in_step w ready new c.reserve_label.ensures.in_step stays.same stays.in_step
    in
    let same = plain_still w ready new c.reserve_label.ensures.in_step stays.same stays.in_step
    ∙ c.reserve_label.ensures.same in
    let room = arc_room world source target c.in_ok-ask_room.ensures
    (one_stamp _ _ c.requires.stamps) in
    let told = c.refusal.ensures (AddArc source target ∷ [])
    (refused_after w self ready new (AddArc source target ∷ []) c.in-Err.fault
    c.reserve_label.ensures.graph room stays) in
    let all_met = arc_met world label from to c.in_ok-source.ensures.meets
    c.in_ok-target.ensures.meets c.in_ok-ask_new_label.ensures.meets c.in_ok-ask_room.ensures in
    let one = item_found world sorts.Node from source valid c.in_ok-source.ensures.found in
    let two = item_found world sorts.Node to target valid c.in_ok-target.ensures.found in
    record {
      step = told_then world (plain_of w later) (commands.AddArc label from to)
          (single (arc_asked world label from to)) (AddArc source target ∷ []) _ same all_met refl
          (λ i. AddArc (one.1 i) (two.1 i) ∷ []) told;
      in_step = still_valid w self later seats same c.requires.in_step;
      stamps = same_stamps _ _
          (ap (λ (d : Digraph). d.stamps) stays.same.graph
          ∙ ap (λ (r : Roomy). r.graph.stamps) c.reserve_label.ensures.graph);
    }

pub put_label-requires : goal.put_label-requires
put_label-requires g c =
    let w = (watch-value g.row.B g.B.Observer g.B.Observer-dict g.B.Destruct-dict).it in
    let world = plain_of w c.args.self.now in
    let ready = c.reserve_label.new.self in
    let later = record ready { graph = c.add_arc.new.self } in
    let label = c.in_ok-label.label in
    let source = c.in_ok-source.source in
    let target = c.in_ok-target.target in
    let graph = sym c.reserve_label.ensures.graph in
    let valid = c.requires.in_step.valid.graph_ok in
    let from = subst (λ (r : Roomy). IsLive r.graph sorts.Node source) graph
    (item_found world sorts.Node c.args.from.now source valid c.in_ok-source.ensures.found).0 in
    let to = subst (λ (r : Roomy). IsLive r.graph sorts.Node target) graph
    (item_found world sorts.Node c.args.to.now target valid c.in_ok-target.ensures.found).0 in
    let joined = arc_joins w ready c.add_arc.new.self c.reserve_label.ensures.in_step source target
    from to c.in-Ok.ensures.happens in
    let free = subst (IsFreeLabel label) (sym c.reserve_label.ensures.labels)
    (subst (λ name. IsFreeLabel name (labels_at w c.args.self.now sorts.Arc))
    (sym (c.in_ok-label.ensures ∙ c.as_bytes.ensures)) c.in_ok-ask_new_label.ensures.free) in
    let takes = takes_label w (AddArc source target) (new_arc ready.graph.graph.graph) ready later
    c.in-Ok.arc.0 label joined c.in-Ok.ensures.arc free c.in_ok-reserve_label.ensures.room in
    record { in_step = joined.in_step; live = takes.live; free = takes.free; room = takes.room }

pub returns-in-Ok : goal.returns-in-Ok
returns-in-Ok g c =
    let w = (watch-value g.row.B g.B.Observer g.B.Observer-dict g.B.Destruct-dict).it in
    let self = c.args.self.now in
    let world = plain_of w self in
    let ready = c.reserve_label.new.self in
    let later = record ready { graph = c.add_arc.new.self } in
    let last = c.put_label.new.self in
    let label = c.args.label.now in
    let from = c.args.from.now in
    let to = c.args.to.now in
    let source = c.in_ok-source.source in
    let target = c.in_ok-target.target in
    let graph = c.reserve_label.ensures.graph in
    let valid = c.requires.in_step.valid.graph_ok in
    let one = item_found world sorts.Node from source valid c.in_ok-source.ensures.found in
    let two = item_found world sorts.Node to target valid c.in_ok-target.ensures.found in
    let joined = arc_joins w ready c.add_arc.new.self c.reserve_label.ensures.in_step source target
    (subst (λ (r : Roomy). IsLive r.graph sorts.Node source) (sym graph) one.0)
    (subst (λ (r : Roomy). IsLive r.graph sorts.Node target) (sym graph) two.0)
    c.in-Ok.ensures.happens in
    let is = labelled_then world (plain_of w ready) (plain_of w later) (plain_of w last)
    (AddArc source target) (AddArc (item_at world sorts.Node from) (item_at world sorts.Node to))
    sorts.Arc c.in-Ok.arc.0 c.in_ok-label.label label c.reserve_label.ensures.same joined.plain
    c.put_label.ensures.labelled (λ i. AddArc (one.1 i) (two.1 i))
    (c.in-Ok.ensures.arc ∙ ap (λ (r : Roomy). new_arc r.graph) graph)
    (c.in_ok-label.ensures ∙ c.as_bytes.ensures) in
    let asked = arc_asked world label from to in
    let none = no_veto world (plain_of w ready) (AddArc source target ∷ []) (asked ∷ [])
    c.reserve_label.ensures.same (λ i. AddArc (one.1 i) (two.1 i) ∷ [])
    (unvetoed w ready c.reserve_label.ensures.in_step (AddArc source target ∷ [])
    c.in-Ok.ensures.happens.passes) in
    let step = arc_answered world label from to (plain_of w last)
    (arc_met world label from to c.in_ok-source.ensures.meets c.in_ok-target.ensures.meets
    c.in_ok-ask_new_label.ensures.meets c.in_ok-ask_room.ensures) none is in
    record {
      step = step;
      in_step = answered_in_step w last world (commands.AddArc label from to) (Answered Quiet)
          c.put_label.ensures.in_step c.requires.in_step.valid tt
          (one_stamp _ _ c.requires.stamps) step;
      stamps = few_stamps _ _
          (ap (λ (r : Roomy). r.graph.stamps) c.put_label.ensures.graph
          ∙ ap (λ (d : Digraph). d.stamps) c.in-Ok.ensures.happens.goes.took.graph
          ∙ ap (λ (r : Roomy). r.graph.stamps + 1) graph);
    }
