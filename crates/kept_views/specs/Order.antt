-- Items in lists by falling stamp, many lists through one table of links.
use Rattle.std.specs.Prelude.{ℕ, ◌+◌, ◌*◌, ◌<◌, ◌≤◌, nat_lt, nat_le, ◌==◌}
use Rattle.std.specs.Prelude.{if◌then◌else◌, List, [], ◌∷◌, map, length, Option}
use Rattle.base_items.specs.declared.items.Fact.{Fact}
use Rattle.linked_lists.specs.declared.lists.Link.{Link}
use Rattle.plain_digraph.specs.Facts.{fact_id}
use Rattle.plain_digraph.specs.Lists.{AllOf}
use Rattle.list_digraph.specs.Tables.{AreLinked}
use Rattle.kept_views.specs.declared.listing.Listing.{Listing}
use Rattle.kept_views.specs.declared.listing.Listing.TheVariants.{Whole, BySource, ByTarget}

-- the number of the list that an item stands in
abbrev pub owner_of : Listing → Fact → ℕ
owner_of Whole f = 0
owner_of BySource f = f.from
owner_of ByTarget f = f.to

-- the greatest number of a list that it stands in, or stands in once it is turned
abbrev pub top_of : Listing → Fact → ℕ
top_of Whole f = 0
top_of BySource f = if nat_lt f.from f.to then f.to else f.from
top_of ByTarget f = if nat_lt f.from f.to then f.to else f.from

abbrev pub stamp_of : Listing → Fact → ℕ
stamp_of Whole f = f.from_at
stamp_of BySource f = f.from_at
stamp_of ByTarget f = f.to_at

-- what falls in a list: the stamp, and the id of items with one stamp
abbrev pub rank : Listing → Fact → ℕ
rank l f = stamp_of l f * 4194304 + f.id

-- at its place in a list that falls
abbrev pub put_falling : Listing → Fact → List Fact → List Fact
put_falling l f [] = f ∷ []
put_falling l f (g ∷ gs) =
    if nat_le (rank l g) (rank l f) then f ∷ g ∷ gs else g ∷ put_falling l f gs

-- the items of one list, as they fall
abbrev pub items_at : Listing → ℕ → List Fact → List Fact
items_at l v [] = []
items_at l v (f ∷ fs) =
    if owner_of l f == v then put_falling l f (items_at l v fs) else items_at l v fs

abbrev pub ids_at : Listing → List Fact → ℕ → List ℕ
ids_at l fs v = map fact_id (items_at l v fs)

-- the item has a list, also once it is turned, and a row in the table of links
abbrev pub HasRow : Listing → ℕ → ℕ → Fact → Type 0
HasRow l lists rows f = (owner_of l f < lists) × (f.id < rows) × (top_of l f < lists)

-- the lists are those of these items
pub record AreListed (l : Listing) (heads : List (Option ℕ)) (links : List Link)
    (fs : List Fact) : Type 0 where
  pub linked : AreLinked heads links (ids_at l fs)
  pub rows : AllOf (HasRow l (length heads) (length links)) fs
  pub few : length links ≤ 4194304
