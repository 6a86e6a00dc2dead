-- The facts determine all lists.
use Rattle.std.specs.Prelude.{◌≡◌, ℕ}
use Rattle.base_items.specs.declared.items.ItemSort.{ItemSort}
use Rattle.base_items.specs.declared.items.ItemSort.TheVariants as sorts
use Rattle.plain_digraph.specs.Digraph.{Digraph}
use Rattle.plain_digraph.specs.Items.{facts, fact_of}
use Rattle.plain_digraph.specs.Falling.{by_falling, source_places, target_places}
use Rattle.plain_digraph.specs.Copies.{copy_of}
use Rattle.plain_digraph.specs.Valid.{IsValid}

-- each list has the places that the facts tell of, by falling stamp
pub record ListsFall (g : Digraph) : Type 0 where
  pub nodes : g.nodes ≡ by_falling (source_places (facts g sorts.Node))
  pub by_source : g.by_source ≡ by_falling (source_places (facts g sorts.Arc))
  pub by_target : g.by_target ≡ by_falling (target_places (facts g sorts.Arc))

-- in a valid digraph the facts tell all lists
abbrev pub ListsAreFalling : Type 0
ListsAreFalling = (g : Digraph) → IsValid g → ListsFall g

-- all items of both are told of alike
abbrev pub HaveSameFacts : Digraph → Digraph → Type 0
HaveSameFacts g h = (sort : ItemSort) → facts g sort ≡ facts h sort

-- a digraph whose facts are again those of a copied one has the lists of the copy
abbrev pub SameFactsSameLists : Type 0
SameFactsSameLists = (copied now : Digraph) → IsValid copied → IsValid now
    → HaveSameFacts now copied → copy_of now ≡ copy_of copied

-- the same, where of each id alike is told
abbrev pub TellAlike : Digraph → Digraph → Type 0
TellAlike g h = (sort : ItemSort) (id : ℕ) → fact_of g sort id ≡ fact_of h sort id

-- so has a valid digraph that tells alike of each id
abbrev pub SameToldSameLists : Type 0
SameToldSameLists = (copied now : Digraph) → IsValid copied → IsValid now → TellAlike now copied
    → copy_of now ≡ copy_of copied
