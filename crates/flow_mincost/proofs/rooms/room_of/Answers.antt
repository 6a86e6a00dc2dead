use Rattle.std.proofs.Common.{sym}
use Rattle.plain_certificates.specs.Tables.{at}
use Rattle.pace_search.specs.Paces.{pace_at as pace_of}
use Rattle.static_digraph.specs.Fixed.{graph_of}
use Rattle.flow_mincost.proofs.RoomCases.{lowered_room, raised_room}
use Rattle.flow_mincost.proofs.rooms.room_of.Goals as goal

pub returns-then-raises : goal.returns-then-raises
returns-then-raises c =
    let pace = pace_of (graph_of c.args.g.now) c.args.pace in
    raised_room (at 0 c.args.cap.now) (at 0 c.args.sent.now) c.args.ahead pace
    c.pace_at-arc.result.0 c.raises.result
    (c.raises.ensures pace (sym c.pace_at-arc.ensures.onward)) c.if-raises.true
    c.pace_at-arc.ensures.arc

pub returns-else-raises : goal.returns-else-raises
returns-else-raises c =
    let pace = pace_of (graph_of c.args.g.now) c.args.pace in
    lowered_room (at 0 c.args.cap.now) (at 0 c.args.sent.now) c.args.ahead pace
    c.pace_at-arc.result.0 c.raises.result
    (c.raises.ensures pace (sym c.pace_at-arc.ensures.onward)) c.if-raises.false
    c.pace_at-arc.ensures.arc
