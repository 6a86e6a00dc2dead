use Rattle.std.proofs.Common.{length}
use Rattle.plain_certificates.specs.Tables.{at}
use Rattle.static_digraph.specs.Fixed.{graph_of}
use Rattle.flow_mincost.specs.Pushing.{IsLeastRoom, room_at}
use Rattle.flow_mincost.proofs.pushing.least_room.Given as goal

abbrev pub invariant-loop-i : goal.invariant-loop-i
invariant-loop-i l =
    IsLeastRoom (room_at (graph_of l.g) (at 0 l.cap) (at 0 l.sent) l.ahead l.round)
    (length l.round) l.i l.least
