use Rattle.std.proofs.Common.{◌≡◌, ◌+◌, ◌<◌, ℕ, length}
use Rattle.plain_certificates.specs.Tables.{at}
use Rattle.net_simplex.proofs.start.first_tree.Given as goal

abbrev pub invariant-loop-v : goal.invariant-loop-v
invariant-loop-v l = record {
  arc_all : length l.arc.items ≡ l.n + 1;
  next_all : length l.next.items ≡ l.n + 1;
  prev_all : length l.prev.items ≡ l.n + 1;
  arc : (j : ℕ) → j < l.v → at 0 l.arc.items j ≡ l.m + j;
  next : (j : ℕ) → j < l.v → at 0 l.next.items j ≡ j + 1;
  prev : (j : ℕ) → j < l.v → at 0 l.prev.items (j + 1) ≡ j;
  last : at 0 l.next.items l.n ≡ l.n;
  start : at 0 l.prev.items 0 ≡ l.n;
}
