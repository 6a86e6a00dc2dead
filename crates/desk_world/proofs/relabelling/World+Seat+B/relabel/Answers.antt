use Rattle.std.proofs.Common.{refl, sym, ap, subst, ◌∙◌}
use Rattle.script_words.specs.declared.commands.Command.TheVariants as commands
use Rattle.report_text.specs.declared.faults.StepFault.TheVariants as faults
use Rattle.report_text.specs.declared.replies.Reply.TheVariants.{Quiet}
use Rattle.list_digraph.specs.Roomy.{Roomy}
use Rattle.plain_digraph.specs.Items.{IsLive}
use Rattle.index_maps.specs.RefViews.{IsFreeLabel}
use Rattle.plain_world.specs.declared.answers.Answer.TheVariants.{Answered}
use Rattle.plain_world.specs.Following.{labelled}
use Rattle.plain_world.proofs.CommandsKept.{commands_kept}
use Rattle.desk_seats.specs.contracts.seat.SeatObserver.TheImpl.{watch-value}
use Rattle.desk_world.specs.Entries.{labels_at}
use Rattle.desk_world.specs.Faults.{Answers}
use Rattle.desk_world.specs.Plain.{plain_of}
use Rattle.desk_world.proofs.Answered.{same_stamps, still_valid, item_found}
use Rattle.desk_world.proofs.Handed.{handed_on}
use Rattle.desk_world.proofs.MapCommands.{left}
use Rattle.desk_world.proofs.Renamed.{none_named, label_taken, relabelled}
use Rattle.desk_world.proofs.relabelling.World+Seat+B.relabel.Goals as goal

pub returns-in_err-id : goal.returns-in_err-id
returns-in_err-id g c =
    let w = (watch-value g.row.B g.B.Observer g.B.Observer-dict g.B.Destruct-dict).it in
    let world = plain_of w c.args.self.now in
    let old = c.args.old.now in
    let new = c.args.new.now in
    record {
      step = handed_on (Answers world (commands.Relabel c.args.sort old new) world)
          c.from_residual.result _ c.from_residual.ensures.1
          (none_named world c.args.sort old new _ c.in_err-id.ensures.meets);
      in_step = c.requires.in_step;
      stamps = same_stamps _ _ refl;
    }

pub returns-in_err-ask_new_label : goal.returns-in_err-ask_new_label
returns-in_err-ask_new_label g c =
    let w = (watch-value g.row.B g.B.Observer g.B.Observer-dict g.B.Destruct-dict).it in
    let world = plain_of w c.args.self.now in
    let old = c.args.old.now in
    let new = c.args.new.now in
    record {
      step = handed_on (Answers world (commands.Relabel c.args.sort old new) world)
          c.from_residual-in_err-ask_new_label.result _
          c.from_residual-in_err-ask_new_label.ensures.1
          (label_taken world c.args.sort old new _ c.in_ok-id.ensures.meets
          c.in_err-ask_new_label.ensures.meets);
      in_step = c.requires.in_step;
      stamps = same_stamps _ _ refl;
    }

pub ready_label-requires-clause-in_step : goal.ready_label-requires-clause-in_step
ready_label-requires-clause-in_step g c = c.requires.in_step.seats

pub ready_label-requires-clause-free : goal.ready_label-requires-clause-free
ready_label-requires-clause-free g c = c.in_ok-ask_new_label.ensures.free

pub returns-in_err-label : goal.returns-in_err-label
returns-in_err-label g c =
    let w = (watch-value g.row.B g.B.Observer g.B.Observer-dict g.B.Destruct-dict).it in
    let self = c.args.self.now in
    let ready = c.ready_label.new.self in
    let world = plain_of w self in
    let same = c.ready_label.ensures.same in
    record {
      step = handed_on (Answers world (commands.Relabel c.args.sort c.args.old.now c.args.new.now)
          (plain_of w ready)) c.from_residual-in_err-label.result faults.Memory
          c.from_residual-in_err-label.ensures.1 same;
      in_step = still_valid w self ready c.ready_label.ensures.in_step same c.requires.in_step;
      stamps = same_stamps _ _ (ap (λ (r : Roomy). r.graph.stamps) c.ready_label.ensures.graph);
    }

pub change_label-requires-clause-in_step : goal.change_label-requires-clause-in_step
change_label-requires-clause-in_step g c =
    let w = (watch-value g.row.B g.B.Observer g.B.Observer-dict g.B.Destruct-dict).it in
    still_valid w c.args.self.now c.ready_label.new.self c.ready_label.ensures.in_step
    c.ready_label.ensures.same c.requires.in_step

pub change_label-requires-clause-live : goal.change_label-requires-clause-live
change_label-requires-clause-live g c =
    let w = (watch-value g.row.B g.B.Observer g.B.Observer-dict g.B.Destruct-dict).it in
    let world = plain_of w c.args.self.now in
    subst (λ (r : Roomy). IsLive r.graph c.args.sort c.in_ok-id.id)
    (sym c.ready_label.ensures.graph)
    (item_found world c.args.sort c.args.old.now c.in_ok-id.id
    c.requires.in_step.seats.graph.valid c.in_ok-id.ensures.found).0

pub change_label-requires-clause-free : goal.change_label-requires-clause-free
change_label-requires-clause-free g c =
    let w = (watch-value g.row.B g.B.Observer g.B.Observer-dict g.B.Destruct-dict).it in
    let free = subst (IsFreeLabel c.args.new.now) (sym c.ready_label.ensures.labels)
    c.in_ok-ask_new_label.ensures.free in
    subst (λ name. IsFreeLabel name (labels_at w c.ready_label.new.self c.args.sort))
    (sym c.in_ok-label.ensures.label) free

pub change_label-requires-clause-room : goal.change_label-requires-clause-room
change_label-requires-clause-room g c = c.in_ok-label.ensures.room

pub returns : goal.returns
returns g c =
    let w = (watch-value g.row.B g.B.Observer g.B.Observer-dict g.B.Destruct-dict).it in
    let self = c.args.self.now in
    let ready = c.ready_label.new.self in
    let last = c.change_label.new.self in
    let world = plain_of w self in
    let sort = c.args.sort in
    let id = c.in_ok-id.id in
    let asked = commands.Relabel sort c.args.old.now c.args.new.now in
    let is = c.change_label.ensures.labelled
    ∙ (λ i. labelled (c.ready_label.ensures.same i) sort id (c.in_ok-label.ensures.label i)) in
    let step = relabelled world sort c.args.old.now c.args.new.now (plain_of w last) id
    c.requires.in_step.seats.graph.valid c.in_ok-id.ensures.meets
    c.in_ok-ask_new_label.ensures.meets c.in_ok-id.ensures.found is in
    let graph = c.change_label.ensures.graph ∙ c.ready_label.ensures.graph in
    record {
      step = step;
      in_step = record {
        seats = c.change_label.ensures.in_step;
        valid = commands_kept world (plain_of w last) asked (Answered Quiet)
            c.requires.in_step.valid tt (left world c.requires.stamps) step;
      };
      stamps = same_stamps _ _ (ap (λ (r : Roomy). r.graph.stamps) graph);
    }
