use Rattle.std.proofs.Common.{length, ◌-◌, ◌≡◌, ◌≤◌, map}
use Rattle.std.specs.List.{range_with_len}
use Rattle.plain_certificates.specs.Tables.{at}
use Rattle.path_search.specs.Answers.{via_in}
use Rattle.path_search.specs.Tree.{signed_in}
use Rattle.path_search.proofs.signed.signed_paths_of.Given as goal

abbrev pub invariant-loop-node : goal.invariant-loop-node
invariant-loop-node l = record {
  below : l.node ≤ length l.dist;
  dists : l.dists.items ≡ map (λ v. signed_in (at 0 l.dist v)) (range_with_len 0 l.node);
  vias : l.vias.items
      ≡ map (λ v. via_in (at 0 l.dist v) (at 0 l.via v) v l.s) (range_with_len 0 l.node);
}

abbrev pub decreases-loop-node : goal.decreases-loop-node
decreases-loop-node l = length l.dist - l.node
