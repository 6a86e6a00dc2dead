use Rattle.std.proofs.Common.{length, ◌≤◌}
use Rattle.observe_core.specs.Changes.{untold}
use Rattle.notify_chain.specs.Seats.{Became, IsKept, Between, Untouched}
use Rattle.notify_chain.proofs.telling.take_back.Given as goal

abbrev pub invariant-loop-i : goal.invariant-loop-i
invariant-loop-i g l = record {
  kept : IsKept l.slab l.order;
  within : l.i ≤ l.below;
  untold : Between g.O.Observer.watch l.order (Became
      (untold l.change)) l.initial.slab l.slab l.i l.below;
  below : Untouched g.O.Observer.watch l.order l.initial.slab l.slab 0 l.i;
  above : Untouched g.O.Observer.watch l.order l.initial.slab l.slab l.below (length l.order);
}

abbrev pub decreases-loop-i : goal.decreases-loop-i
decreases-loop-i g l = l.i
