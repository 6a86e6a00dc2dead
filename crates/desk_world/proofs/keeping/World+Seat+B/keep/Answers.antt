use Rattle.desk_seats.specs.contracts.seat.SeatObserver.TheImpl.{watch-value}
use Rattle.desk_world.specs.Plain.{plain_of}
use Rattle.desk_world.proofs.KeepCommands.{keep_answered, keep_valid}
use Rattle.desk_world.proofs.keeping.World+Seat+B.keep.Goals as goal

pub returns-clause-in_step : goal.returns-clause-in_step
returns-clause-in_step g c =
    let w = (watch-value g.row.B g.B.Observer g.B.Observer-dict g.B.Destruct-dict).it in
    let world = plain_of w c.args.self.now in
    let later = plain_of w c.keep_view.new.self in
    let name = c.args.view.now in
    record {
      seats = c.keep_view.ensures.in_step;
      valid = keep_valid world later c.requires.in_step.valid c.requires.stamps name
          (keep_answered world name c.in_ok-ask_view.ensures c.in_ok-ask_unkept.ensures later
          c.in_ok-maps.ensures.meets c.in_ok-keep_view.ensures.kept);
    }
