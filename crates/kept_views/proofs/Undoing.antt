-- A move that is undone takes no memory.
use Rattle.std.proofs.Common.{◌≡◌, ℕ, ◌+◌, ◌<◌, ◌≤◌, nat_lt, ◌==◌, Bool, true, false}
use Rattle.std.proofs.Common.{if◌then◌else◌, IsTrue, List, [], ◌∷◌, length, Option, Some, None}
use Rattle.std.proofs.Common.{IfSome, refl, sym, ap, subst, ◌∙◌, arith}
use Rattle.std.specs.Prelude.{Contains}
use Rattle.std.specs.Option.{option_map}
use Rattle.std.specs.Vec.{vec_capacity}
use Rattle.std.proofs.lemmas.Grind.{common_steps}
use Rattle.base_items.specs.declared.items.Fact.{Fact}
use Rattle.plain_digraph.specs.Facts.{fact_id}
use Rattle.plain_digraph.specs.Lists.{AllOf}
use Rattle.observe_core.specs.Facts.{ends_of}
use Rattle.observe_core.specs.Held.{Marked, marked_id}
use Rattle.observe_core.specs.Items.{has_id, above_all}
use Rattle.observe_core.specs.Seen.{facts_of_marked}
use Rattle.observe_core.specs.Told.{marked_moved}
use Rattle.observe_core.proofs.ItemLemmas.{all_at, contains-has}
use Rattle.kept_views.specs.declared.listing.Listing.{Listing}
use Rattle.kept_views.specs.declared.listing.Listing.TheVariants.{Whole, BySource, ByTarget}
use Rattle.kept_views.specs.declared.order.Order.{Order}
use Rattle.kept_views.specs.declared.orders.Orders.{Orders}
use Rattle.kept_views.specs.Order.{top_of, HasRow}
use Rattle.kept_views.specs.Listed.{IsListed, HasReach}
use Rattle.kept_views.specs.Ordered.{IsOrdered, HaveReach, HaveId, KnowsId}
use Rattle.kept_views.specs.Ordered.{listing_of, listings, is_target, is_none}
use Rattle.kept_views.specs.Ordered.{by_listing, is_whole, are_by_ends, lesser, reach_with}
use Rattle.kept_views.specs.Ordered.{reach_of}
use Rattle.kept_views.specs.Reaching.{top_is, target_ends, source_ends, second_is}

-- ---- the item is there before it is moved back

has_moved : (f : Fact) (i : ℕ) (xs : List Marked)
    → has_id fact_id i (facts_of_marked (marked_moved f xs)) ≡ has_id marked_id i xs
has_moved f i [] = refl
has_moved f i (x ∷ xs) =
    let r = has_moved f i xs in
    elim (x.fact.id == f.id) as (λ b. (x.fact.id == f.id) ≡ b
    → has_id fact_id i
    (facts_of_marked ((if b then record x { fact = f } else x) ∷ marked_moved f xs))
    ≡ (if x.fact.id == i then true else has_id marked_id i xs)) [
      | true ↦ λ e.
          let same : f.id ≡ x.fact.id = grind (arith, common_steps, e) in
          λ j. if same j == i then true else r j
      | false ↦ λ e. λ j. if x.fact.id == i then true else r j
    ] refl

pub moved_is_there : (f : Fact) (xs : List Marked) (live : List Fact)
    → facts_of_marked (marked_moved f xs) ≡ live → Contains live f
    → IsTrue (has_id marked_id f.id xs)
moved_is_there f xs live fits there =
    subst IsTrue (ap (has_id fact_id f.id) (sym fits) ∙ has_moved f f.id xs)
    (contains-has fact_id f live there)

-- ---- lists by ends

abbrev greater : Fact → ℕ
greater f = if nat_lt f.from f.to then f.to else f.from

first_ends : (a b m n : ℕ)
    → (if nat_lt a (if nat_lt b m then m else b + 1) then (if nat_lt b m then m else b + 1)
    else a + 1) ≤ n
    → (if nat_lt a b then b else a) < n
first_ends a b m n h = grind (arith, common_steps, h)

rest_ends : (a b m n : ℕ)
    → (if nat_lt a (if nat_lt b m then m else b + 1) then (if nat_lt b m then m else b + 1)
    else a + 1) ≤ n
    → m ≤ n
rest_ends a b m n h = grind (arith, common_steps, h)

tops_below : (n : ℕ) (fs : List Fact) → above_all (ends_of fs) ≤ n
    → AllOf (λ f. greater f < n) fs
tops_below n [] h = tt
tops_below n (f ∷ fs) h = (
  first_ends f.from f.to (above_all (ends_of fs)) n h,
  tops_below n fs (rest_ends f.from f.to (above_all (ends_of fs)) n h),
)

lesser_first : (x m n : ℕ) → x < lesser m n → x < m
lesser_first x m n h = grind (arith, common_steps, h)

lesser_second : (x m n : ℕ) → x < lesser m n → x < n
lesser_second x m n h = grind (arith, common_steps, h)

first_reach : (x m : ℕ) (s : Option Order) → x < reach_with m s → x < m
first_reach x m None h = h
first_reach x m (Some o) h = lesser_first x m (vec_capacity o.heads) h

second_reach : (f : Fact) (m : ℕ) (s : Option Order) → greater f < reach_with m s
    → IsTrue (is_target (option_map listing_of s)) → IfSome s (λ o. HasReach o f)
second_reach f m None h t = tt
second_reach f m (Some o) h t =
    let low = lesser_second (greater f) m (vec_capacity o.heads) h in
    subst (λ n. n < vec_capacity o.heads) (sym (top_is o.listing (target_ends o.listing t) f)) low

pub ends_reach : (os : Orders) (f : Fact) (live : List Fact) → IsTrue (are_by_ends (listings os))
    → Contains live f → above_all (ends_of live) ≤ reach_of os → HaveReach os f
ends_reach os f live h there reached =
    let l = os.first.listing in
    let b = is_target (option_map listing_of os.second) in
    let low = all_at (λ g. greater g < reach_of os) f live
    (tops_below (reach_of os) live reached) there in
    let cap = vec_capacity os.first.heads in
    record {
      first = subst (λ n. n < cap) (sym (top_is l (source_ends l b h) f))
          (first_reach (greater f) cap os.second low);
      second = second_reach f cap os.second low (second_is l b h);
    }

-- ---- one list

some_list : (l : Listing) (m n i : ℕ) (fs : List Fact) → IsTrue (has_id fact_id i fs)
    → AllOf (HasRow l n m) fs → 0 < n
some_list l m n i [] h rows = cc
some_list l m n i (f ∷ fs) h rows = let r = rows.0.2 in omega (arith, r)

whole_top : (l : Listing) (b : Bool) → IsTrue (by_listing l b false) → (f : Fact) → top_of l f ≡ 0
whole_top Whole b h f = refl
whole_top BySource b h f = cc
whole_top ByTarget b h f = cc

whole_alone : (l : Listing) (b : Bool) → IsTrue (by_listing l b false) → IsTrue b
whole_alone Whole b h = h
whole_alone BySource b h = cc
whole_alone ByTarget b h = cc

none_reach : (f : Fact) (s : Option Order) → IsTrue (is_none (option_map listing_of s))
    → IfSome s (λ o. HasReach o f)
none_reach f None h = tt
none_reach f (Some o) h = cc

pub whole_reach : (os : Orders) (f : Fact) (fs : List Fact) → IsTrue (is_whole (listings os))
    → IsOrdered os fs → IsTrue (has_id fact_id f.id fs) → HaveReach os f
whole_reach os f fs h ordered there =
    let l = os.first.listing in
    let b = is_none (option_map listing_of os.second) in
    let some = some_list l (length os.first.links.items) (length os.first.heads.items) f.id fs
    there ordered.first.rows in
    let top = whole_top l b h f in
    record {
      first = omega (arith, some, top);
      second = none_reach f os.second (whole_alone l b h);
    }

-- ---- an item that is there

rows_at : (l : Listing) (m n i : ℕ) (fs : List Fact) → IsTrue (has_id fact_id i fs)
    → AllOf (HasRow l n m) fs → i < m
rows_at l m n i [] h rows = cc
rows_at l m n i (f ∷ fs) h rows =
    elim (f.id == i) as (λ b. (f.id == i) ≡ b → IsTrue (if b then true else has_id fact_id i fs)
    → i < m) [
      | true ↦ λ e g.
          let same : f.id ≡ i = grind (arith, common_steps, e) in
          let r = rows.0.1 in
          omega (arith, same, r)
      | false ↦ λ e g. rows_at l m n i fs g rows.1
    ] refl h

second_id : (s : Option Order) (fs : List Fact) (i : ℕ) → IsTrue (has_id fact_id i fs)
    → IfSome s (λ o. IsListed o fs) → IfSome s (λ o. KnowsId i o)
second_id None fs i there listed = tt
second_id (Some o) fs i there listed =
    rows_at o.listing (length o.links.items) (length o.heads.items) i fs there listed.rows

pub id_there : (os : Orders) (fs : List Fact) (i : ℕ) → IsOrdered os fs
    → IsTrue (has_id fact_id i fs) → HaveId os i
id_there os fs i ordered there = record {
  first = rows_at os.first.listing (length os.first.links.items) (length os.first.heads.items) i fs
      there ordered.first.rows;
  second = second_id os.second fs i there ordered.second;
}
