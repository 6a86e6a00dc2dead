use Rattle.std.proofs.Common.{length, ℕ, ◌-◌, ◌<◌, ◌≢◌, slice_index}
use Rattle.notify_chain.proofs.losing.place_of.Given as goal

abbrev pub invariant-loop-i : goal.invariant-loop-i
invariant-loop-i l = record {
  before : (j : ℕ) → j < l.i → slice_index l.order j ≢ l.key;
}

abbrev pub decreases-loop-i : goal.decreases-loop-i
decreases-loop-i l = length l.order - l.i
