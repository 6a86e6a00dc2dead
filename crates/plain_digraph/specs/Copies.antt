-- What a snapshot keeps, and when it is lost.
use Rattle.std.specs.Prelude.{ℕ, ◌==◌, ◌&&◌, ◌||◌, Bool, true, false, not, List, [], ◌∷◌, filter}
use Rattle.std.specs.Option.{option_map_or}
use Rattle.base_items.specs.declared.items.Fact.{Fact}
use Rattle.base_items.specs.declared.items.ItemSort.{ItemSort}
use Rattle.base_items.specs.declared.items.ItemSort.TheVariants as sorts
use Rattle.plain_digraph.specs.Lists.{has}
use Rattle.plain_digraph.specs.Digraph.{Digraph, Place, Ends}
use Rattle.plain_digraph.specs.Items.{ids, fact_of, facts, rising}
use Rattle.plain_digraph.specs.PlainSteps.{PlainStep, Change, Erased, Cleared, change_of}

-- the lists of a digraph, with their stamps
pub record Copy : Type 0 where
  pub nodes : List Place
  pub ends : Ends
  pub by_source : List Place
  pub by_target : List Place

-- what a snapshot keeps of the digraph when it is made
abbrev pub copy_of : Digraph → Copy
copy_of g = record {
  nodes = g.nodes;
  ends = g.ends;
  by_source = g.by_source;
  by_target = g.by_target;
}

-- the ids of a sort that are in the copy
abbrev pub ids_in : Copy → ItemSort → List ℕ
ids_in copy sorts.Node = ids copy.nodes
ids_in copy sorts.Arc = ids copy.by_source

-- the live items outside the copy, by rising id
abbrev pub added : Copy → Digraph → ItemSort → List ℕ
added copy g sort = filter (λ id. not (has (ids_in copy sort) id)) (rising g sort)

-- the digraph with the lists of the copy
abbrev pub as_copied : Copy → Digraph → Digraph
as_copied copy g = record g {
  nodes = copy.nodes;
  ends = copy.ends;
  by_source = copy.by_source;
  by_target = copy.by_target;
}

-- the same ends and the same places
abbrev pub is_placed_as : Fact → Fact → Bool
is_placed_as fact other =
    fact.from == other.from && fact.to == other.to
    && fact.from_at == other.from_at && fact.to_at == other.to_at

-- whether the arc of the fact has other ends or other places now
abbrev pub is_moved : Digraph → Fact → Bool
is_moved g fact =
    option_map_or (λ now. not (is_placed_as now fact)) (fact_of g sorts.Arc fact.id) false

-- the facts in the copy of the arcs that have moved since, by rising id
abbrev pub moved : Copy → Digraph → List Fact
moved copy g = filter (is_moved g) (facts (as_copied copy g) sorts.Arc)

-- ---- staleness

-- whether no id is listed
abbrev pub is_empty : List ℕ → Bool
is_empty [] = true
is_empty (id ∷ ids) = false

-- whether the change takes one of these items away
abbrev pub takes_from : List ℕ → Change → Bool
takes_from ids (Erased id) = has ids id
takes_from ids (Cleared count) = not (is_empty ids)
takes_from ids _ = false

-- whether the step takes an item of the copy away
abbrev pub loses : Copy → Digraph → PlainStep → Bool
loses copy g step =
    takes_from (ids_in copy sorts.Node) (change_of g step sorts.Node)
    || takes_from (ids_in copy sorts.Arc) (change_of g step sorts.Arc)
