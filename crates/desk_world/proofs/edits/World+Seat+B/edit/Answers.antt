use Rattle.std.proofs.Common.{refl, sym, ap, subst, ◌∙◌, ◌+◌, ◌<◌}
use Rattle.list_digraph.specs.Roomy.{Roomy}
use Rattle.plain_digraph.specs.Alterations.{all_steps, refusable_steps}
use Rattle.desk_seats.specs.contracts.seat.SeatObserver.TheImpl.{watch-value}
use Rattle.desk_world.specs.Edits.{alteration_by}
use Rattle.desk_world.proofs.Altered.{valid_then}
use Rattle.desk_world.proofs.EditSteps.{edit_takes, edit_sure, edit_room}
use Rattle.desk_world.proofs.EditsDone.{is_done, stamps_after, seats_stay, plain_stays, are_refused}
use Rattle.desk_world.proofs.EditsDone.{veto_is, stamps_stay}
use Rattle.desk_world.proofs.edits.World+Seat+B.edit.Goals as goal

pub refusal-requires : goal.refusal-requires
refusal-requires g c =
    let w = (watch-value g.row.B g.B.Observer g.B.Observer-dict g.B.Destruct-dict).it in
    let self = c.args.self.now in
    let d = self.graph.graph.graph in
    let alteration = alteration_by c.args.edit in
    let room = edit_room c.args.edit d c.requires.in_step.valid.graph_ok c.requires.few
    c.requires.stamps in
    record {
      in_step = seats_stay w self c.apply.new.graph alteration c.requires.in_step c.in-Err.fault
          room c.in-Err.ensures.refuses;
      refused = (
        refusable_steps d alteration,
        are_refused w self c.apply.new.graph alteration c.requires.in_step c.in-Err.fault room
            c.in-Err.ensures.refuses,
      );
    }

pub returns-in-Err : goal.returns-in-Err
returns-in-Err g c =
    let w = (watch-value g.row.B g.B.Observer g.B.Observer-dict g.B.Destruct-dict).it in
    let self = c.args.self.now in
    let d = self.graph.graph.graph in
    let alteration = alteration_by c.args.edit in
    let room = edit_room c.args.edit d c.requires.in_step.valid.graph_ok c.requires.few
    c.requires.stamps in
    let refused = are_refused w self c.apply.new.graph alteration c.requires.in_step c.in-Err.fault
    room c.in-Err.ensures.refuses in
    record {
      edits = record {
        why = veto_is w self c.apply.new.graph alteration c.requires.in_step c.in-Err.fault room
            c.in-Err.ensures.refuses c.refusal.result
            (c.refusal.ensures (refusable_steps d alteration) refused);
        same = plain_stays w self c.apply.new.graph alteration c.requires.in_step c.in-Err.fault
            room c.in-Err.ensures.refuses;
      };
      in_step = seats_stay w self c.apply.new.graph alteration c.requires.in_step c.in-Err.fault
          room c.in-Err.ensures.refuses;
      stamps = stamps_stay w self c.apply.new.graph alteration c.requires.in_step c.in-Err.fault
          room c.in-Err.ensures.refuses;
    }

pub let_guards_go-requires : goal.let_guards_go-requires
let_guards_go-requires g c =
    let w = (watch-value g.row.B g.B.Observer g.B.Observer-dict g.B.Destruct-dict).it in
    let self = c.args.self.now in
    let d = self.graph.graph.graph in
    let edit = c.args.edit in
    let alteration = alteration_by edit in
    let happens = c.in-Ok.ensures.happens in
    let takes = edit_takes edit d c.requires.in_step.valid.graph_ok c.requires.can
    (valid_then w self c.apply.new.graph (all_steps d alteration) c.requires.in_step.seats
    happens.goes) in
    record {
      altered = (is_done w self c.apply.new.graph alteration c.requires.in_step takes happens).seats;
    }

pub returns-in-Ok : goal.returns-in-Ok
returns-in-Ok g c =
    let w = (watch-value g.row.B g.B.Observer g.B.Observer-dict g.B.Destruct-dict).it in
    let self = c.args.self.now in
    let d = self.graph.graph.graph in
    let edit = c.args.edit in
    let alteration = alteration_by edit in
    let happens = c.in-Ok.ensures.happens in
    let takes = edit_takes edit d c.requires.in_step.valid.graph_ok c.requires.can
    (valid_then w self c.apply.new.graph (all_steps d alteration) c.requires.in_step.seats
    happens.goes) in
    let done = is_done w self c.apply.new.graph alteration c.requires.in_step takes happens in
    record {
      edits = record {
        met = refl;
        unvetoed = done.unvetoed;
        quiet = refl;
        world = c.let_guards_go.ensures.same ∙ done.plain;
      };
      in_step = c.let_guards_go.ensures.in_step;
      stamps = subst (λ (r : Roomy). r.graph.stamps < d.stamps + 16777216)
          (sym c.let_guards_go.ensures.graph)
          (stamps_after w self c.apply.new.graph alteration c.requires.in_step (edit_sure edit d)
          c.requires.few happens);
    }
