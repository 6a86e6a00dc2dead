use Rattle.std.proofs.Common.{◌≡◌, ◌<◌, ◌≤◌, length, option_map, map, take, get_or}
use Rattle.std.specs.List.{flat_map}
use Rattle.plain_digraph.specs.Lists.{ahead}
use Rattle.plain_views.specs.Shown.{arcs_from, out_ids}
use Rattle.view_numbers.specs.Listed.{IsGathering, fact_shown}
use Rattle.view_numbers.proofs.listing.list_arcs.Given as goal

abbrev pub invariant-loop-next : goal.invariant-loop-next
invariant-loop-next g l = record {
  inside : l.node-index < length l.nodes;
  gathering : IsGathering (g.G.Shown.graph l.g) l.node-index (get_or l.nodes l.node-index 0)
      l.arcs.items (option_map (λ a. a.0) l.next);
  few : length l.arcs.items ≤ 4194304;
}

abbrev pub decreases-loop-next : goal.decreases-loop-next
decreases-loop-next g l =
    length (ahead (out_ids (g.G.Shown.graph l.g) (get_or l.nodes l.node-index 0))
    (option_map (λ a. a.0) l.next))

abbrev pub invariant-loop-node : goal.invariant-loop-node
invariant-loop-node g l = record {
  gathered : l.arcs.items
      ≡ map fact_shown (flat_map (arcs_from (g.G.Shown.graph l.g)) (take l.node-index l.nodes));
  few : length l.arcs.items ≤ 4194304;
}
