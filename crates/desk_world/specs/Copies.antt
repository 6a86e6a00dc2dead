-- What a snapshot keeps, from its two halves and the facts of the live items.
use Rattle.std.specs.Prelude.{List, map, Option, None, Some, cond, ◌&&◌}
use Rattle.std.specs.FinMap as fin
use Rattle.base_items.specs.declared.items.Fact.{Fact}
use Rattle.base_items.specs.declared.items.ItemSort.TheVariants.{Node, Arc}
use Rattle.plain_digraph.specs.Digraph.{Digraph}
use Rattle.plain_digraph.specs.Items.{facts}
use Rattle.plain_digraph.specs.Copies.{Copy}
use Rattle.plain_digraph.specs.Falling.{by_falling}
use Rattle.observe_core.specs.Held.{Held}
use Rattle.observe_core.specs.Saved.{saved_of, is_valid}

-- the lists of these nodes and arcs: their stamps fall
abbrev pub copy_of_facts : List Fact → List Fact → Copy
copy_of_facts nodes arcs = record {
  nodes = by_falling (map (λ f. (f.id, f.from_at)) nodes);
  ends = fin.from_entries (map (λ f. (f.id, (f.from, f.to))) arcs);
  by_source = by_falling (map (λ f. (f.id, f.from_at)) arcs);
  by_target = by_falling (map (λ f. (f.id, f.to_at)) arcs);
}

-- the copy while both halves are valid, and then none
abbrev pub copy_of_halves : Digraph → Held → Held → Option Copy
copy_of_halves g nodes arcs =
    cond (is_valid nodes && is_valid arcs)
    (Some (copy_of_facts (saved_of nodes (facts g Node)) (saved_of arcs (facts g Arc)))) None
