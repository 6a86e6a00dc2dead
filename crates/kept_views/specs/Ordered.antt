-- One order of items, or two.
use Rattle.std.specs.Prelude.{ℕ, ◌<◌, length, Bool, true, false, nat_lt, if◌then◌else◌, List}
use Rattle.std.specs.Prelude.{Option, None, Some, IfSome}
use Rattle.std.specs.Option.{option_map}
use Rattle.std.specs.Vec.{vec_capacity}
use Rattle.base_items.specs.declared.items.Fact.{Fact}
use Rattle.kept_views.specs.declared.listing.Listing.{Listing}
use Rattle.kept_views.specs.declared.listing.Listing.TheVariants.{Whole, BySource, ByTarget}
use Rattle.kept_views.specs.declared.order.Order.{Order}
use Rattle.kept_views.specs.declared.orders.Orders.{Orders}
use Rattle.kept_views.specs.Listed.{IsListed, HasRows, HasRoom, HasReach}

-- the lists of each are those of these items
pub record IsOrdered (os : Orders) (fs : List Fact) : Type 0 where
  pub first : IsListed os.first fs
  pub second : IfSome os.second (λ o. IsListed o fs)

-- each has room for each of these items
pub record HaveRows (os : Orders) (fs : List Fact) : Type 0 where
  pub first : HasRows os.first fs
  pub second : IfSome os.second (λ o. HasRows o fs)

-- each has room for the item
pub record HaveRoom (os : Orders) (f : Fact) : Type 0 where
  pub first : HasRoom os.first f
  pub second : IfSome os.second (λ o. HasRoom o f)

-- each has a row for the id
abbrev pub KnowsId : ℕ → Order → Type 0
KnowsId id o = id < length o.links.items

pub record HaveId (os : Orders) (id : ℕ) : Type 0 where
  pub first : KnowsId id os.first
  pub second : IfSome os.second (λ o. KnowsId id o)

-- its lists can be made without memory
pub record HaveReach (os : Orders) (f : Fact) : Type 0 where
  pub first : HasReach os.first f
  pub second : IfSome os.second (λ o. HasReach o f)

-- which lists there are
pub record Listings : Type 0 where
  pub first : Listing
  pub second : Option Listing

abbrev pub listing_of : Order → Listing
listing_of o = o.listing

abbrev pub listings : Orders → Listings
listings os = record { first = os.first.listing; second = option_map listing_of os.second }

-- whether it is one list, or one for each source and for each target
abbrev pub is_target : Option Listing → Bool
is_target None = false
is_target (Some Whole) = false
is_target (Some BySource) = false
is_target (Some ByTarget) = true

abbrev pub is_none : Option Listing → Bool
is_none None = true
is_none (Some l) = false

abbrev pub by_listing : Listing → Bool → Bool → Bool
by_listing Whole whole ends = whole
by_listing BySource whole ends = ends
by_listing ByTarget whole ends = false

abbrev pub is_whole : Listings → Bool
is_whole ls = by_listing ls.first (is_none ls.second) false

abbrev pub are_by_ends : Listings → Bool
are_by_ends ls = by_listing ls.first false (is_target ls.second)

-- lists of numbers below it can be made without memory
abbrev pub lesser : ℕ → ℕ → ℕ
lesser m n = if nat_lt n m then n else m

abbrev pub reach_with : ℕ → Option Order → ℕ
reach_with n None = n
reach_with n (Some o) = lesser n (vec_capacity o.heads)

abbrev pub reach_of : Orders → ℕ
reach_of os = reach_with (vec_capacity os.first.heads) os.second
