use Rattle.std.proofs.Common.{◌≡◌, length, map, option_map}
use Rattle.plain_digraph.specs.Lists.{ahead}
use Rattle.view_numbers.specs.Listed.{IsWalking, fact_at}
use Rattle.desk_world.specs.Shown.{ids_at}
use Rattle.desk_world.proofs.view_lists.list_at.Given as goal

abbrev pub invariant-arcs : goal.invariant-arcs
invariant-arcs g l = record {
  walking : IsWalking (ids_at l.way (g.G.Shown.graph l.g) l.node) (map (λ f. f.id) l.arcs.items)
      (option_map (λ a. a.0) l.next);
  facts : l.arcs.items ≡ map (fact_at (g.G.Shown.graph l.g)) (map (λ f. f.id) l.arcs.items);
}

abbrev pub decreases-arcs : goal.decreases-arcs
decreases-arcs g l =
    length (ahead (ids_at l.way (g.G.Shown.graph l.g) l.node) (option_map (λ a. a.0) l.next))
