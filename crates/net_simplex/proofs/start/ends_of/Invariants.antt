use Rattle.std.proofs.Common.{◌≡◌, ◌<◌, ℕ, pos, length}
use Rattle.plain_certificates.specs.Tables.{at}
use Rattle.pivot_flow.specs.Tree.{ends_at}
use Rattle.static_digraph.specs.Fixed.{graph_of}
use Rattle.net_simplex.specs.Start.{IsEnd}
use Rattle.net_simplex.proofs.start.ends_of.Given as goal

abbrev pub invariant-loop-k : goal.invariant-loop-k
invariant-loop-k l = record {
  all : length l.ends.items ≡ l.all;
  each : (j : ℕ) → j < l.k
      → IsEnd (graph_of l.g) (at (pos 0) l.excess) j (ends_at l.ends.items j);
}
