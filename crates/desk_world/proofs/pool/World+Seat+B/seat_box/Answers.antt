use Rattle.std.proofs.Common.{refl, ap, ◌∙◌}
use Rattle.std.specs.List.{insert}
use Rattle.std.proofs.lemmas.Option.{slice_get_read}
use Rattle.desk_seats.specs.contracts.seat.SeatObserver.TheImpl.{watch-value}
use Rattle.desk_world.proofs.GuardCalls.{went_back}
use Rattle.desk_world.proofs.pool.World+Seat+B.seat_box.Goals as goal

pub returns-in-Ok-clause-seated : goal.returns-in-Ok-clause-seated
returns-in-Ok-clause-seated g c =
    let w = (watch-value g.row.B g.B.Observer g.B.Observer-dict g.B.Destruct-dict).it in
    let pool = c.args.self.now.pool in
    record {
      box = c.remove-seat.result;
      at = slice_get_read pool.items pool.len c.args.place c.remove-seat.result pool.ok.0
          c.requires.there c.remove-seat.ensures.value;
      came = w c.arm.new.self;
      armed_by = c.arm.ensures.armed;
      attaches = c.in-Ok.ensures.attaches;
      in_step = c.attach.ensures.in_step;
      pool = c.remove-seat.ensures.items;
      others = refl;
    }

pub returns-in-Err-clause-refused : goal.returns-in-Err-clause-refused
returns-in-Err-clause-refused g c =
    let w = (watch-value g.row.B g.B.Observer g.B.Observer-dict g.B.Destruct-dict).it in
    let self = c.args.self.now in
    let place = c.args.place in
    let box = c.remove-seat.result in
    let at = slice_get_read self.pool.items self.pool.len place box self.pool.ok.0
    c.requires.there c.remove-seat.ensures.value in
    went_back w self c.requires.in_step place c.args.sort c.args.limit box at
    (record self { pool = c.put_at.new.values }) c.attach.new.self c.in-Err.veto c.in-Err.seat
    (w c.arm.new.self) c.arm.ensures.armed c.in-Err.ensures.same c.attach.ensures.in_step
    c.in-Err.ensures.refused
    (c.put_at.ensures
    ∙ ap (λ boxes. insert boxes place c.in-Err.seat) c.remove-seat.ensures.items)
