use Rattle.std.proofs.Common.{sym, ◌∙◌}
use Rattle.desk_seats.specs.contracts.seat.SeatObserver.TheImpl.{watch-value}
use Rattle.desk_world.specs.Plain.{plain_of}
use Rattle.desk_world.proofs.ViewCommands.{unview_answered, unview_valid}
use Rattle.desk_world.proofs.views.World+Seat+B.unview.Goals as goal

pub returns-clause-step : goal.returns-clause-step
returns-clause-step g c =
    let w = (watch-value g.row.B g.B.Observer g.B.Observer-dict g.B.Destruct-dict).it in
    let world = plain_of w c.args.self.now in
    unview_answered world c.args.name.now c.in_ok-ask_view.ensures
    (sym c.is_base.ensures ∙ c.if-is_base.false) (plain_of w c.remove_view.new.self)
    c.in_ok-ask_alone.ensures c.remove_view.ensures.gone

pub returns-clause-in_step : goal.returns-clause-in_step
returns-clause-in_step g c =
    let w = (watch-value g.row.B g.B.Observer g.B.Observer-dict g.B.Destruct-dict).it in
    let world = plain_of w c.args.self.now in
    let later = plain_of w c.remove_view.new.self in
    let name = c.args.name.now in
    record {
      seats = c.remove_view.ensures.in_step;
      valid = unview_valid world later c.requires.in_step.valid c.requires.stamps name
          (unview_answered world name c.in_ok-ask_view.ensures
          (sym c.is_base.ensures ∙ c.if-is_base.false) later c.in_ok-ask_alone.ensures
          c.remove_view.ensures.gone);
    }
