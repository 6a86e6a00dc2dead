-- What contracts say of an order, and of a place in one of its lists.
use Rattle.std.specs.Prelude.{◌≡◌, ℕ, ◌<◌, List, ◌∷◌, ◌++◌, map, length, Option, None}
use Rattle.std.specs.Vec.{vec_capacity}
use Rattle.base_items.specs.declared.items.Fact.{Fact}
use Rattle.linked_lists.specs.Links.{last_or}
use Rattle.plain_digraph.specs.Facts.{fact_id}
use Rattle.plain_digraph.specs.Lists.{AllOf}
use Rattle.kept_views.specs.declared.listing.Listing.{Listing}
use Rattle.kept_views.specs.declared.order.Order.{Order}
use Rattle.kept_views.specs.Order.{HasRow, AreListed, put_falling, top_of}

-- the lists are those of these items
abbrev pub IsListed : Order → List Fact → Type 0
IsListed o fs = AreListed o.listing o.heads.items o.links.items fs

-- there is room for the item
abbrev pub HasRoom : Order → Fact → Type 0
HasRoom o f = HasRow o.listing (length o.heads.items) (length o.links.items) f

-- there is room for each of these items
abbrev pub HasRows : Order → List Fact → Type 0
HasRows o fs = AllOf (HasRow o.listing (length o.heads.items) (length o.links.items)) fs

-- the item's list can be made without memory
abbrev pub HasReach : Order → Fact → Type 0
HasReach o f = top_of o.listing f < vec_capacity o.heads

-- the item's place in a list is behind this id
pub record Stands (l : Listing) (f : Fact) (whole : List Fact) (behind : Option ℕ) : Type 0 where
  pub front : List Fact
  pub back : List Fact
  pub parts : whole ≡ front ++ back
  pub last : behind ≡ last_or None (map fact_id front)
  pub put : put_falling l f whole ≡ front ++ f ∷ back
