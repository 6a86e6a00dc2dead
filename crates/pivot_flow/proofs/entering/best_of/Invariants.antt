use Rattle.std.proofs.Common.{◌≡◌, ℕ, ◌<◌, ◌≤◌, length, Bool, pos, ◌<ℤ◌, ◌≤ℤ◌}
use Rattle.pivot_flow.specs.Enter.{MayEnter}
use Rattle.pivot_flow.specs.Spread.{price_at}
use Rattle.pivot_flow.specs.Tree.{at, task_of}
use Rattle.pivot_flow.proofs.entering.best_of.Given as goal

abbrev pub invariant-loop-e : goal.invariant-loop-e
invariant-loop-e l = record {
  low : pos 0 ≤ℤ l.best.saving;
  some : pos 0 <ℤ l.best.saving → MayEnter (task_of (length l.price) l.ends l.cap) (price_at l.cost)
      (at l.flow) (price_at l.price) l.best.arc l.best.forward;
  none : l.best.saving ≡ pos 0 → (k : ℕ) → l.start ≤ k → k < l.e → (forward : Bool)
      → MayEnter (task_of (length l.price) l.ends l.cap) (price_at l.cost) (at l.flow)
      (price_at l.price) k forward → ⊥;
}
