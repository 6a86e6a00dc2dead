use Rattle.std.proofs.Common.{length, ◌≤◌, option_map}
use Rattle.plain_digraph.specs.Lists.{ahead}
use Rattle.view_numbers.specs.Listed.{IsWalking}
use Rattle.view_numbers.proofs.listing.list_nodes.Given as goal

abbrev pub invariant-loop-next : goal.invariant-loop-next
invariant-loop-next g l = record {
  walking : IsWalking (g.G.Shown.graph l.g).nodes l.nodes.items (option_map (λ n. n.0) l.next);
  few : length l.nodes.items ≤ 1048576;
}

abbrev pub decreases-loop-next : goal.decreases-loop-next
decreases-loop-next g l = length (ahead (g.G.Shown.graph l.g).nodes (option_map (λ n. n.0) l.next))
