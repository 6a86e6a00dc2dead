use Rattle.std.proofs.Common.{sym, ◌∙◌}
use Rattle.desk_seats.specs.contracts.seat.SeatObserver.TheImpl.{watch-value}
use Rattle.desk_world.proofs.SnapLines.{stale_line, valid_line}
use Rattle.desk_world.proofs.snapshots.World+Seat+B.snap_line.Goals as goal

pub returns-then-not-snapshot_valid : goal.returns-then-not-snapshot_valid
returns-then-not-snapshot_valid g c =
    let w = (watch-value g.row.B g.B.Observer g.B.Observer-dict g.B.Destruct-dict).it in
    stale_line w c.args.self.now c.requires.in_step.seats c.args.place c.value-keys.result.now
    c.value-keys.ensures c.name.result.now c.name.ensures c.in_ok-name.name
    (c.in_ok-name.ensures ∙ c.as_bytes.ensures)
    (sym c.snapshot_valid.ensures ∙ c.if-not-snapshot_valid.true)

pub returns : goal.returns
returns g c =
    let w = (watch-value g.row.B g.B.Observer g.B.Observer-dict g.B.Destruct-dict).it in
    valid_line w c.args.self.now c.requires.in_step.seats c.args.place c.value-keys.result.now
    c.value-keys.ensures c.name.result.now c.name.ensures c.in_ok-name.name
    (c.in_ok-name.ensures ∙ c.as_bytes.ensures)
    (sym c.snapshot_valid.ensures ∙ c.if-not-snapshot_valid.false) c.added_since.result
    c.added_since-2.result c.added_since.ensures c.added_since-2.ensures
