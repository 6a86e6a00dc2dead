use Rattle.std.proofs.Common.{◌≡◌, ◌-◌, ◌==◌, ◌<◌, ◌≤◌, vec_len, get_or}
use Rattle.guard_kinds.specs.Counting.{keys_of, last_where, bucket}
use Rattle.guard_kinds.proofs.counts.KeyCounts.place.Given as goal

abbrev pub invariant-loop-at : goal.invariant-loop-at
invariant-loop-at l = record {
  left : last_where (λ k. k == l.fn.key) (keys_of l.self.entries.items) (vec_len l.self.entries)
      ≡ last_where (λ k. k == l.fn.key) (keys_of l.self.entries.items) l.at;
  within : l.at ≤ vec_len l.self.entries;
  same : 0 < l.at
      → bucket (vec_len l.self.heads) (get_or (keys_of l.self.entries.items) (l.at - 1) 0)
      ≡ bucket (vec_len l.self.heads) l.fn.key;
}

abbrev pub decreases-loop-at : goal.decreases-loop-at
decreases-loop-at l = l.at
