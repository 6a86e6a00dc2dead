use Rattle.std.proofs.Common.{◌≡◌, ℕ, ◌+◌, ◌<◌, ◌≤◌, ◌++◌, length, drop, slice_index, vec_len}
use Rattle.std.proofs.Common.{vec_capacity}
use Rattle.slab.specs.Slab.{get}
use Rattle.notify_chain.specs.Seats.{seats_of, Became, Each, IsKept}
use Rattle.notify_chain.specs.Leaving.{stayers, goers}
use Rattle.notify_chain.proofs.losing.lose_all.Given as goal

abbrev pub invariant-loop-i : goal.invariant-loop-i
invariant-loop-i g l = record {
  kept : IsKept l.slab l.order.items;
  room : vec_len l.left + vec_len l.order ≤ vec_capacity l.left;
  within : l.i ≤ length l.order.items;
  within_old : l.i ≤ length l.initial.order.items;
  front : (j : ℕ) → j < l.i → (slice_index l.order.items j ≡ slice_index l.initial.order.items j)
      × (get l.slab (slice_index l.initial.order.items j)
      ≡ get l.initial.slab (slice_index l.initial.order.items j));
  lost : Each (Became (λ s. s)) (stayers l.loss
      (seats_of g.O.Observer.watch l.initial.slab (drop l.i l.initial.order.items)))
      (seats_of g.O.Observer.watch l.slab (drop l.i l.order.items));
  left : l.left.items ≡ l.initial.left.items
      ++ goers l.loss (seats_of g.O.Observer.watch l.initial.slab (drop l.i l.initial.order.items));
}

abbrev pub decreases-loop-i : goal.decreases-loop-i
decreases-loop-i g l = l.i
