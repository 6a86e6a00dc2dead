use Rattle.std.proofs.Common.{◌≡◌, ◌++◌, map}
use Rattle.lemon_desk.proofs.desk.wrap_boxes.Given as goal

abbrev pub invariant-loop-it : goal.invariant-loop-it
invariant-loop-it g l = record {
  can_next : (goal.iterator-loop-it g).can_next l.it-iterator;
  finite : (goal.iterator-loop-it g).is_finite l.it-iterator;
  wrapped : l.boxes.items ++ map (λ it. record { it = it }) l.it-iterator.rest.items
      ≡ map (λ it. record { it = it }) l.fn.pool.items;
}
