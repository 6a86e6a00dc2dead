use Rattle.std.proofs.Common.{◌≡◌, ◌++◌, map}
use Rattle.lemon_desk.specs.Found.{in_seat}
use Rattle.lemon_desk.proofs.desk.seat_all.Given as goal

abbrev pub invariant-loop-guard : goal.invariant-loop-guard
invariant-loop-guard g l = record {
  can_next : (goal.iterator-loop-guard g).can_next l.guard-iterator;
  finite : (goal.iterator-loop-guard g).is_finite l.guard-iterator;
  seated : l.seats.items ++ map in_seat l.guard-iterator.rest.items ≡ map in_seat l.fn.pool.items;
}
