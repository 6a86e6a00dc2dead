use Rattle.std.proofs.Common.{ℕ, ◌-◌, ◌<◌, ◌≤◌, length, Bool}
use Rattle.pivot_flow.specs.Enter.{MayEnter}
use Rattle.pivot_flow.specs.Spread.{price_at}
use Rattle.pivot_flow.specs.Tree.{at, task_of}
use Rattle.pivot_flow.proofs.entering.seek_from.Given as goal

abbrev pub invariant-loop-k : goal.invariant-loop-k
invariant-loop-k l = record {
  range : l.k ≤ l.stop;
  none : (e : ℕ) → l.start ≤ e → e < l.k → (forward : Bool)
      → MayEnter (task_of (length l.price) l.ends l.cap) (price_at l.cost) (at l.flow)
      (price_at l.price) e forward → ⊥;
}

abbrev pub decreases-loop-k : goal.decreases-loop-k
decreases-loop-k l = l.stop - l.k
