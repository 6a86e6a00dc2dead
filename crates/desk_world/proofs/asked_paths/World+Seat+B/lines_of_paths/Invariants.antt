use Rattle.std.proofs.Common.{◌≡◌, ◌≤◌, ◌-◌, map, None}
use Rattle.std.specs.List.{range_with_len}
use Rattle.plain_certificates.specs.Tables.{at}
use Rattle.plain_world.specs.Queries.{path_line}
use Rattle.desk_seats.specs.contracts.seat.SeatObserver.TheImpl.{watch-value}
use Rattle.desk_world.specs.Plain.{plain_of}
use Rattle.desk_world.proofs.asked_paths.World+Seat+B.lines_of_paths.Given as goal

abbrev pub invariant-loop-node : goal.invariant-loop-node
invariant-loop-node g l = record {
  inside : l.node ≤ l.count;
  lines : l.lines.items
      ≡ map (path_line (plain_of
      (watch-value g.row.B g.B.Observer g.B.Observer-dict g.B.Destruct-dict).it l.self)
      l.asked.view.now (at None l.paths.dist) (at None l.paths.via)) (range_with_len 0 l.node);
}

abbrev pub decreases-loop-node : goal.decreases-loop-node
decreases-loop-node g l = l.count - l.node
