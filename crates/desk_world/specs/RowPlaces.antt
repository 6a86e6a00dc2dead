-- The places of the rows of nodes in a document.
use Rattle.std.specs.Prelude.{ℕ, List, map, length}
use Rattle.std.specs.List.{filter_map, range_with_len}
use Rattle.base_items.specs.declared.items.ItemSort.{ItemSort}
use Rattle.base_items.specs.declared.items.ItemSort.TheVariants.{Node}
use Rattle.plain_digraph.specs.Digraph.{Digraph}
use Rattle.plain_digraph.specs.Items.{fact_of}

-- the live items below an id, by rising id
abbrev pub rising_below : Digraph → ItemSort → ℕ → List ℕ
rising_below g sort id = map (λ fact. fact.id) (filter_map (fact_of g sort) (range_with_len 0 id))

-- for each id of a node that was ever used, how many live nodes are below it: that of a live node
-- is the place of its row
abbrev pub row_places : Digraph → List ℕ
row_places g = map (λ id. length (rising_below g Node id)) (range_with_len 0 g.used_nodes)
