use Rattle.std.proofs.Common.{◌+◌, ◌∷◌, [], refl, sym, ap, subst, ◌∙◌}
use Rattle.base_items.specs.declared.items.ItemSort.TheVariants as sorts
use Rattle.script_words.specs.declared.commands.Command.TheVariants as commands
use Rattle.report_text.specs.declared.faults.StepFault.TheVariants as faults
use Rattle.report_text.specs.declared.replies.Reply.TheVariants.{Quiet}
use Rattle.list_digraph.specs.Roomy.{Roomy}
use Rattle.plain_digraph.specs.Digraph.{Digraph}
use Rattle.plain_digraph.specs.Alterations.{single}
use Rattle.plain_digraph.specs.PlainSteps.{AddNode}
use Rattle.plain_digraph.specs.Steps.{new_node}
use Rattle.index_maps.specs.RefViews.{IsFreeLabel}
use Rattle.plain_world.specs.declared.answers.Answer.TheVariants.{Answered}
use Rattle.desk_seats.specs.contracts.seat.SeatObserver.TheImpl.{watch-value}
use Rattle.desk_world.specs.Entries.{labels_at}
use Rattle.desk_world.specs.Faults.{Answers}
use Rattle.desk_world.specs.Plain.{plain_of}
use Rattle.desk_world.proofs.Added.{node_joins, takes_label}
use Rattle.desk_world.proofs.Answered.{node_taken, no_node_room, node_room, node_met}
use Rattle.desk_world.proofs.Answered.{labelled_then, node_answered, answered_in_step, still_valid}
use Rattle.desk_world.proofs.Answered.{one_stamp, few_stamps, same_stamps}
use Rattle.desk_world.proofs.Demanded.{told_then, no_veto}
use Rattle.desk_world.proofs.Handed.{handed_on}
use Rattle.desk_world.proofs.Unchanged.{still_in_step, plain_still}
use Rattle.desk_world.proofs.VetoesTold.{refused_after, unvetoed}
use Rattle.desk_world.proofs.additions.World+Seat+B.add_node.Goals as goal

pub returns-in_err-ask_new_label : goal.returns-in_err-ask_new_label
returns-in_err-ask_new_label g c =
    let w = (watch-value g.row.B g.B.Observer g.B.Observer-dict g.B.Destruct-dict).it in
    let world = plain_of w c.args.self.now in
    let label = c.args.label.now in
    record {
      step = handed_on (Answers world (commands.AddNode label) world) c.from_residual.result _
          c.from_residual.ensures.1
          (node_taken world label _ c.in_err-ask_new_label.ensures.meets);
      in_step = c.requires.in_step;
      stamps = same_stamps _ _ refl;
    }

pub returns-in_err-ask_room : goal.returns-in_err-ask_room
returns-in_err-ask_room g c =
    let w = (watch-value g.row.B g.B.Observer g.B.Observer-dict g.B.Destruct-dict).it in
    let world = plain_of w c.args.self.now in
    let label = c.args.label.now in
    record {
      step = handed_on (Answers world (commands.AddNode label) world)
          c.from_residual-in_err-ask_room.result _ c.from_residual-in_err-ask_room.ensures.1
          (no_node_room world label _ c.in_ok-ask_new_label.ensures.meets
          c.in_err-ask_room.ensures);
      in_step = c.requires.in_step;
      stamps = same_stamps _ _ refl;
    }

pub returns-in_err-label : goal.returns-in_err-label
returns-in_err-label g c =
    let w = (watch-value g.row.B g.B.Observer g.B.Observer-dict g.B.Destruct-dict).it in
    let world = plain_of w c.args.self.now in
    record {
      step = handed_on (Answers world (commands.AddNode c.args.label.now) world)
          c.from_residual-in_err-label.result faults.Memory c.from_residual-in_err-label.ensures.1
          refl;
      in_step = c.requires.in_step;
      stamps = same_stamps _ _ refl;
    }

pub reserve_label-requires-clause-in_step : goal.reserve_label-requires-clause-in_step
reserve_label-requires-clause-in_step g c = c.requires.in_step.seats

pub reserve_label-requires-clause-free : goal.reserve_label-requires-clause-free
reserve_label-requires-clause-free g c =
    let w = (watch-value g.row.B g.B.Observer g.B.Observer-dict g.B.Destruct-dict).it in
    subst (λ name. IsFreeLabel name (labels_at w c.args.self.now sorts.Node))
    (sym (c.in_ok-label.ensures ∙ c.as_bytes.ensures)) c.in_ok-ask_new_label.ensures.free

pub returns-in_err-reserve_label : goal.returns-in_err-reserve_label
returns-in_err-reserve_label g c =
    let w = (watch-value g.row.B g.B.Observer g.B.Observer-dict g.B.Destruct-dict).it in
    let self = c.args.self.now in
    let ready = c.reserve_label.new.self in
    let same = c.reserve_label.ensures.same in
    record {
      step = handed_on
          (Answers (plain_of w self) (commands.AddNode c.args.label.now) (plain_of w ready))
          c.from_residual-in_err-reserve_label.result faults.Memory
          c.from_residual-in_err-reserve_label.ensures.1 same;
      in_step = still_valid w self ready c.reserve_label.ensures.in_step same c.requires.in_step;
      stamps = same_stamps _ _ (ap (λ (r : Roomy). r.graph.stamps) c.reserve_label.ensures.graph);
    }

pub add_node-requires : goal.add_node-requires
add_node-requires g c = record { in_step = c.reserve_label.ensures.in_step.graph }

pub refusal-requires : goal.refusal-requires
refusal-requires g c =
    let w = (watch-value g.row.B g.B.Observer g.B.Observer-dict g.B.Destruct-dict).it in
    let self = c.args.self.now in
    let ready = c.reserve_label.new.self in
    let new = c.add_node.new.self in
    let stays = c.in-Err.ensures.refuses in
    let room = node_room (plain_of w self) c.in_ok-ask_room.ensures
    (one_stamp _ _ c.requires.stamps) in
    record {
      in_step = still_in_step w ready new c.reserve_label.ensures.in_step stays.same
          stays.in_step;
      refused = (
        AddNode ∷ [],
        refused_after w self ready new (AddNode ∷ []) c.in-Err.fault
            c.reserve_label.ensures.graph room stays,
      );
    }

pub returns-in-Err : goal.returns-in-Err
returns-in-Err g c =
    let w = (watch-value g.row.B g.B.Observer g.B.Observer-dict g.B.Destruct-dict).it in
    let self = c.args.self.now in
    let world = plain_of w self in
    let ready = c.reserve_label.new.self in
    let new = c.add_node.new.self in
    let later = record ready { graph = new } in
    let label = c.args.label.now in
    let stays = c.in-Err.ensures.refuses in
    let seats = still_in_step w ready new c.reserve_label.ensures.in_step stays.same stays.in_step
    in
    let same = plain_still w ready new c.reserve_label.ensures.in_step stays.same stays.in_step
    ∙ c.reserve_label.ensures.same in
    let room = node_room world c.in_ok-ask_room.ensures (one_stamp _ _ c.requires.stamps) in
    let told = c.refusal.ensures (AddNode ∷ [])
    (refused_after w self ready new (AddNode ∷ []) c.in-Err.fault c.reserve_label.ensures.graph room
    stays) in
    let all_met = node_met world label c.in_ok-ask_new_label.ensures.meets
    c.in_ok-ask_room.ensures in
    record {
      step = told_then world (plain_of w later) (commands.AddNode label) (single AddNode)
          (AddNode ∷ []) _ same all_met refl refl told;
      in_step = still_valid w self later seats same c.requires.in_step;
      stamps = same_stamps _ _
          (ap (λ (d : Digraph). d.stamps) stays.same.graph
          ∙ ap (λ (r : Roomy). r.graph.stamps) c.reserve_label.ensures.graph);
    }

pub put_label-requires : goal.put_label-requires
put_label-requires g c =
    let w = (watch-value g.row.B g.B.Observer g.B.Observer-dict g.B.Destruct-dict).it in
    let ready = c.reserve_label.new.self in
    let later = record ready { graph = c.add_node.new.self } in
    let label = c.in_ok-label.label in
    let joined = node_joins w ready c.add_node.new.self c.reserve_label.ensures.in_step
    c.in-Ok.ensures.happens in
    let free = subst (IsFreeLabel label) (sym c.reserve_label.ensures.labels)
    (subst (λ name. IsFreeLabel name (labels_at w c.args.self.now sorts.Node))
    (sym (c.in_ok-label.ensures ∙ c.as_bytes.ensures)) c.in_ok-ask_new_label.ensures.free) in
    let takes = takes_label w AddNode (new_node ready.graph.graph.graph) ready later
    c.in-Ok.node.0 label joined c.in-Ok.ensures.node free c.in_ok-reserve_label.ensures.room in
    record { in_step = joined.in_step; live = takes.live; free = takes.free; room = takes.room }

pub returns-in-Ok : goal.returns-in-Ok
returns-in-Ok g c =
    let w = (watch-value g.row.B g.B.Observer g.B.Observer-dict g.B.Destruct-dict).it in
    let self = c.args.self.now in
    let world = plain_of w self in
    let ready = c.reserve_label.new.self in
    let later = record ready { graph = c.add_node.new.self } in
    let last = c.put_label.new.self in
    let label = c.args.label.now in
    let graph = c.reserve_label.ensures.graph in
    let joined = node_joins w ready c.add_node.new.self c.reserve_label.ensures.in_step
    c.in-Ok.ensures.happens in
    let is = labelled_then world (plain_of w ready) (plain_of w later) (plain_of w last) AddNode
    AddNode sorts.Node c.in-Ok.node.0 c.in_ok-label.label label c.reserve_label.ensures.same
    joined.plain c.put_label.ensures.labelled refl
    (c.in-Ok.ensures.node ∙ ap (λ (r : Roomy). new_node r.graph) graph)
    (c.in_ok-label.ensures ∙ c.as_bytes.ensures) in
    let none = no_veto world (plain_of w ready) (AddNode ∷ []) (AddNode ∷ [])
    c.reserve_label.ensures.same refl
    (unvetoed w ready c.reserve_label.ensures.in_step (AddNode ∷ [])
    c.in-Ok.ensures.happens.passes) in
    let step = node_answered world label (plain_of w last)
    (node_met world label c.in_ok-ask_new_label.ensures.meets c.in_ok-ask_room.ensures) none is in
    record {
      step = step;
      in_step = answered_in_step w last world (commands.AddNode label) (Answered Quiet)
          c.put_label.ensures.in_step c.requires.in_step.valid tt
          (one_stamp _ _ c.requires.stamps) step;
      stamps = few_stamps _ _
          (ap (λ (r : Roomy). r.graph.stamps) c.put_label.ensures.graph
          ∙ ap (λ (d : Digraph). d.stamps) c.in-Ok.ensures.happens.goes.took.graph
          ∙ ap (λ (r : Roomy). r.graph.stamps + 1) graph);
    }
