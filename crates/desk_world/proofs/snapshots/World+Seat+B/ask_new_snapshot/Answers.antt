use Rattle.std.proofs.Common.{sym, ap, subst, ◌∙◌, not}
use Rattle.report_text.specs.declared.faults.Fault.TheVariants as faults
use Rattle.plain_world.specs.Refusals.{unless}
use Rattle.desk_seats.specs.contracts.seat.SeatObserver.TheImpl.{watch-value}
use Rattle.desk_world.specs.Faults.{Is}
use Rattle.desk_world.proofs.SnapsFound.{snap_there}
use Rattle.desk_world.proofs.snapshots.World+Seat+B.ask_new_snapshot.Goals as goal

pub returns-then-has : goal.returns-then-has
returns-then-has g c =
    let w = (watch-value g.row.B g.B.Observer g.B.Observer-dict g.B.Destruct-dict).it in
    let name = c.args.name.now in
    let has = snap_there w c.args.self.now c.requires.seats name ∙ sym c.has.ensures
    ∙ c.if-has.true in
    subst (λ b. Is (unless (not b) (faults.Taken name)) c.taken.result) (sym has) c.taken.ensures

pub returns : goal.returns
returns g c =
    let w = (watch-value g.row.B g.B.Observer g.B.Observer-dict g.B.Destruct-dict).it in
    let name = c.args.name.now in
    let has = snap_there w c.args.self.now c.requires.seats name ∙ sym c.has.ensures
    ∙ c.if-has.false in
    ap (λ b. unless (not b) (faults.Taken name)) has
