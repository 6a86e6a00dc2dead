use Rattle.std.proofs.Common.{length, subst, sym}
use Rattle.plain_certificates.specs.Tables.{at}
use Rattle.static_digraph.specs.Fixed.{graph_of}
use Rattle.flow_mincost.proofs.Least.{least_less, least_same}
use Rattle.flow_mincost.specs.Pushing.{IsLeastRoom, room_at}
use Rattle.flow_mincost.proofs.pushing.least_room.Goals.{then-room-least, else-room-least}
use Rattle.flow_mincost.proofs.pushing.least_room.Goals as goal

pub loop-i-preserved : goal.loop-i-preserved
loop-i-preserved c =
    let round = c.args.round.now in
    let rooms = room_at (graph_of c.args.g.now) (at 0 c.args.cap.now) (at 0 c.args.sent.now)
    c.args.ahead round in
    let i = c.loop-i.i in
    elim c.if-room-least.branch [
      | then-room-least w ↦
          subst (IsLeastRoom rooms (length round) _) (sym w.least-is)
          (least_less rooms (length round) i c.loop-i.least c.room_of-room.result
          c.loop-i-test.true c.room_of-room.ensures w.if-room-least.true c.loop-i.invariant)
      | else-room-least w ↦
          subst (IsLeastRoom rooms (length round) _) (sym w.least-is)
          (least_same rooms (length round) i c.loop-i.least c.room_of-room.result
          c.room_of-room.ensures w.if-room-least.false c.loop-i.invariant)
    ]
