use Rattle.std.proofs.Common.{◌∙◌, map, arith}
use Rattle.plain_world.specs.Replies.{snap_line}
use Rattle.desk_seats.specs.contracts.seat.SeatObserver.TheImpl.{watch-value}
use Rattle.desk_world.specs.Plain.{plain_of, look_of, snapshot_seen}
use Rattle.desk_world.proofs.GuardLines.{lines_next, looked_whole}
use Rattle.desk_world.proofs.snapshots.World+Seat+B.snap_lines.Goals as goal

pub loop-place-preserved : goal.loop-place-preserved
loop-place-preserved g c =
    let w = (watch-value g.row.B g.B.Observer g.B.Observer-dict g.B.Destruct-dict).it in
    let world = plain_of w c.args.self.now in
    let below = c.loop-place-test.true in
    let counted = c.len.ensures in (
      c.in_ok-push.ensures.items
          ∙ lines_next c.loop-place.lines.items (map (snap_line world) world.snapshots)
          c.loop-place.place c.in_ok-snap_line.field-0 c.loop-place.invariant.0
          c.in_ok-snap_line.ensures,
      omega (arith, below, counted),
    )

pub returns : goal.returns
returns g c =
    let w = (watch-value g.row.B g.B.Observer g.B.Observer-dict g.B.Destruct-dict).it in
    let self = c.args.self.now in
    let world = plain_of w self in
    let over = c.loop-place-test.false in
    let counted = c.len.ensures in
    c.from_vec.ensures
    ∙ looked_whole (snapshot_seen self.graph.graph.graph (look_of w self)) self.snapshots.rows
    (snap_line world) c.loop-place.lines.items c.loop-place.place c.loop-place.invariant.0
    (omega (arith, over, counted))
