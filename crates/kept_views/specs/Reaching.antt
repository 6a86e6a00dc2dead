-- How far lists by ends reach.
use Rattle.std.proofs.Common.{◌≡◌, ℕ, ◌+◌, ◌<◌, ◌≤◌, nat_lt, Bool, true, false, if◌then◌else◌}
use Rattle.std.proofs.Common.{IsTrue, List, [], ◌∷◌, length, Option, Some, None, IfSome, refl}
use Rattle.std.proofs.Common.{arith}
use Rattle.std.specs.Option.{option_map}
use Rattle.std.specs.Vec.{vec_capacity}
use Rattle.std.proofs.lemmas.Grind.{common_steps}
use Rattle.base_items.specs.declared.items.Fact.{Fact}
use Rattle.plain_digraph.specs.Lists.{AllOf}
use Rattle.observe_core.specs.Facts.{ends_of}
use Rattle.observe_core.specs.Items.{above_all}
use Rattle.kept_views.specs.declared.listing.Listing.{Listing}
use Rattle.kept_views.specs.declared.listing.Listing.TheVariants.{Whole, BySource, ByTarget}
use Rattle.kept_views.specs.declared.order.Order.{Order}
use Rattle.kept_views.specs.declared.orders.Orders.{Orders}
use Rattle.kept_views.specs.Order.{top_of, HasRow}
use Rattle.kept_views.specs.Listed.{IsListed}
use Rattle.kept_views.specs.Ordered.{IsOrdered, listing_of, listings, is_target, by_listing}
use Rattle.kept_views.specs.Ordered.{are_by_ends, lesser, reach_with, reach_of}

abbrev pub has_ends : Listing → Bool
has_ends Whole = false
has_ends BySource = true
has_ends ByTarget = true

-- the greater end is the top
pub top_is : (l : Listing) → IsTrue (has_ends l) → (f : Fact)
    → top_of l f ≡ (if nat_lt f.from f.to then f.to else f.from)
top_is Whole h f = cc
top_is BySource h f = refl
top_is ByTarget h f = refl

two_ends : (a b m n : ℕ) → m ≤ n → (if nat_lt a b then b else a) < n
    → (if nat_lt a (if nat_lt b m then m else b + 1) then (if nat_lt b m then m else b + 1)
    else a + 1) ≤ n
two_ends a b m n h t = grind (arith, common_steps, h, t)

ends_within : (l : Listing) → IsTrue (has_ends l) → (m n : ℕ) (fs : List Fact)
    → AllOf (HasRow l n m) fs → above_all (ends_of fs) ≤ n
ends_within l h m n [] rows = omega arith
ends_within l h m n (f ∷ fs) rows =
    let r = ends_within l h m n fs rows.1 in
    let t = top_is l h f in
    let top = rows.0.2 in
    let k : (if nat_lt f.from f.to then f.to else f.from) < n = omega (arith, t, top) in
    two_ends f.from f.to (above_all (ends_of fs)) n r k

pub target_ends : (l : Listing) → IsTrue (is_target (Some l)) → IsTrue (has_ends l)
target_ends Whole h = h
target_ends BySource h = refl
target_ends ByTarget h = refl

pub source_ends : (l : Listing) (b : Bool) → IsTrue (by_listing l false b) → IsTrue (has_ends l)
source_ends Whole b h = h
source_ends BySource b h = refl
source_ends ByTarget b h = refl

pub second_is : (l : Listing) (b : Bool) → IsTrue (by_listing l false b) → IsTrue b
second_is Whole b h = cc
second_is BySource b h = h
second_is ByTarget b h = cc

not_above : (x m n : ℕ) → x ≤ m → x ≤ n → x ≤ lesser m n
not_above x m n a b = grind (arith, common_steps, a, b)

both_reach : (x m : ℕ) (s : Option Order) (fs : List Fact) → x ≡ above_all (ends_of fs) → x ≤ m
    → IsTrue (is_target (option_map listing_of s)) → IfSome s (λ o. IsListed o fs)
    → x ≤ reach_with m s
both_reach x m None fs is a h listed = a
both_reach x m (Some o) fs is a h listed =
    let r = ends_within o.listing (target_ends o.listing h) (length o.links.items)
    (length o.heads.items) fs listed.rows in
    not_above x m (vec_capacity o.heads) a (omega (arith, r, is))

pub reaches : (os : Orders) (fs : List Fact) → IsTrue (are_by_ends (listings os))
    → IsOrdered os fs → above_all (ends_of fs) ≤ reach_of os
reaches os fs h ordered =
    let l = os.first.listing in
    let b = is_target (option_map listing_of os.second) in
    let r = ends_within l (source_ends l b h) (length os.first.links.items)
    (length os.first.heads.items) fs ordered.first.rows in
    both_reach (above_all (ends_of fs)) (vec_capacity os.first.heads) os.second fs refl
    (omega (arith, r)) (second_is l b h) ordered.second
