use Rattle.std.proofs.Common.{◌≡◌, true, take}
use Rattle.std.specs.List.{list_all}
use Rattle.plain_certificates.specs.Tables.{at}
use Rattle.pace_search.specs.Paces.{pace_at}
use Rattle.static_digraph.specs.Fixed.{graph_of}
use Rattle.flow_mincost.specs.Rooms.{is_open}
use Rattle.flow_mincost.proofs.cancelling.are_open.Given as goal

abbrev pub invariant-loop-i : goal.invariant-loop-i
invariant-loop-i l =
    list_all (λ k. is_open (at 0 l.cap) (pace_at (graph_of l.g) k)) (take l.i l.round) ≡ true
