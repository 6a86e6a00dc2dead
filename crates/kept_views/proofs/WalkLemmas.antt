-- Walks over all that is held.
use Rattle.std.proofs.Common.{◌≡◌, ℕ, ◌==◌, Bool, true, false, if◌then◌else◌, IsTrue, List, []}
use Rattle.std.proofs.Common.{◌∷◌, map, Option, Some, None, IfSome, get_or, refl, sym, ap}
use Rattle.std.proofs.Common.{subst, ◌∙◌, IfNone, is_some, arith}
use Rattle.observe_core.proofs.ItemLemmas.{lacks-not_has, contains-has}
use Rattle.std.specs.Option.{option_map}
use Rattle.std.specs.Prelude.{◌||◌, Contains}
use Rattle.std.proofs.lemmas.Grind.{common_steps}
use Rattle.base_items.specs.declared.items.Fact.{Fact}
use Rattle.plain_digraph.specs.Facts.{fact_id}
use Rattle.plain_digraph.specs.Lists.{has}
use Rattle.observe_core.specs.Items.{has_id, Lacks}
use Rattle.observe_core.specs.Seen.{facts_of_marked}
use Rattle.fact_table.specs.Table.{facts_of}
use Rattle.kept_views.specs.declared.items.Marks.{Marks}
use Rattle.kept_views.specs.declared.listing.Listing.{Listing}
use Rattle.kept_views.specs.declared.listing.Listing.TheVariants.{Whole, BySource, ByTarget}
use Rattle.kept_views.specs.declared.order.Order.{Order}
use Rattle.kept_views.specs.declared.nodes.KeptNodes.{KeptNodes}
use Rattle.kept_views.specs.declared.arcs.KeptArcs.{KeptArcs}
use Rattle.kept_views.specs.Order.{items_at, ids_at}
use Rattle.kept_views.specs.Ordered.{by_listing, listing_of, is_none, is_target, KnowsId}
use Rattle.kept_views.specs.Listed.{IsListed}
use Rattle.kept_views.specs.ItemViews.{no_marks, marked, marks_in}
use Rattle.kept_views.specs.Sound.{marked-facts}
use Rattle.kept_views.specs.Views.{nodes_of, arcs_of}
use Rattle.kept_views.proofs.OrderLemmas.{has_put}
use Rattle.kept_views.proofs.Undoing.{id_there}

whole_is : (l : Listing) (b : Bool) → IsTrue (by_listing l b false) → l ≡ Whole
whole_is Whole b h = refl
whole_is BySource b h = cc
whole_is ByTarget b h = cc

source_is : (l : Listing) (b : Bool) → IsTrue (by_listing l false b) → l ≡ BySource
source_is Whole b h = cc
source_is BySource b h = refl
source_is ByTarget b h = cc

target_is : (l : Listing) → IsTrue (is_target (Some l)) → l ≡ ByTarget
target_is Whole h = cc
target_is BySource h = cc
target_is ByTarget h = refl

ends_second : (l : Listing) (b : Bool) → IsTrue (by_listing l false b) → IsTrue b
ends_second Whole b h = cc
ends_second BySource b h = h
ends_second ByTarget b h = cc

-- ---- the lists of the code are those of what is held

pub node_lists : (k : KeptNodes) (v : ℕ)
    → ids_at k.items.orders.first.listing (facts_of k.items.table) v
    ≡ ids_at Whole (facts_of_marked (nodes_of k)) v
node_lists k v =
    let l = whole_is k.items.orders.first.listing
    (is_none (option_map listing_of k.items.orders.second)) k.whole in
    let f = marked-facts k.items.marks.items (facts_of k.items.table) in
    λ i. ids_at (l i) (sym f i) v

pub out_lists : (k : KeptArcs) (v : ℕ)
    → ids_at k.items.orders.first.listing (facts_of k.items.table) v
    ≡ ids_at BySource (facts_of_marked (arcs_of k)) v
out_lists k v =
    let l = source_is k.items.orders.first.listing
    (is_target (option_map listing_of k.items.orders.second)) k.by_ends in
    let f = marked-facts k.items.marks.items (facts_of k.items.table) in
    λ i. ids_at (l i) (sym f i) v

pub second_target : (k : KeptArcs)
    → IsTrue (is_target (option_map listing_of k.items.orders.second))
second_target k =
    ends_second k.items.orders.first.listing
    (is_target (option_map listing_of k.items.orders.second)) k.by_ends

pub in_lists : (k : KeptArcs) (o : Order) → k.items.orders.second ≡ Some o → (v : ℕ)
    → ids_at o.listing (facts_of k.items.table) v ≡ ids_at ByTarget (facts_of_marked (arcs_of k)) v
in_lists k o is v =
    let l = target_is o.listing
    (subst (λ s. IsTrue (is_target (option_map listing_of s))) is (second_target k)) in
    let f = marked-facts k.items.marks.items (facts_of k.items.table) in
    λ i. ids_at (l i) (sym f i) v

-- ---- all nodes are in the one list

pub in_whole : (fs : List Fact) (i : ℕ) → IsTrue (has_id fact_id i fs)
    → has (ids_at Whole fs 0) i ≡ true
in_whole [] i h = cc
in_whole (f ∷ fs) i h =
    has_put Whole f (items_at Whole 0 fs) i
    ∙ elim (f.id == i) as (λ b. IsTrue (if b then true else has_id fact_id i fs)
    → b || has (ids_at Whole fs 0) i ≡ true)
    [ true ↦ λ g. refl | false ↦ λ g. in_whole fs i g ] h

-- ---- marks

pub marks_read : (ms : List Marks) (i : ℕ) (fs : List Fact) → IsTrue (has_id fact_id i fs)
    → get_or ms i no_marks ≡ marks_in i (map (marked ms) fs)
marks_read ms i [] h = cc
marks_read ms i (f ∷ fs) h =
    elim (f.id == i) as (λ b. (f.id == i) ≡ b → IsTrue (if b then true else has_id fact_id i fs)
    → get_or ms i no_marks
    ≡ (if b then get_or ms f.id no_marks else marks_in i (map (marked ms) fs))) [
      | true ↦ λ e g.
          let same : i ≡ f.id = grind (arith, common_steps, e) in
          ap (λ n. get_or ms n no_marks) same
      | false ↦ λ e g. marks_read ms i fs g
    ] refl h

-- ---- the code's look-ups

pub found_or_not : (r : Option Fact) (i : ℕ) (fs : List Fact)
    → IfSome r (λ f. Contains fs f × (f.id ≡ i)) → IfNone r (Lacks fact_id i fs)
    → is_some r ≡ has_id fact_id i fs
found_or_not None i fs there absent = sym (lacks-not_has fact_id i fs absent)
found_or_not (Some f) i fs there absent =
    sym (true_is (subst (λ n. IsTrue (has_id fact_id n fs)) there.1
    (contains-has fact_id f fs there.0)))
  where
    true_is : {b : Bool} → IsTrue b → b ≡ true
    true_is {b = true} h = refl
    true_is {b = false} h = cc

pub in_all_nodes : (k : KeptNodes) (i : ℕ) → IsTrue (has_id fact_id i (facts_of k.items.table))
    → has (ids_at k.items.orders.first.listing (facts_of k.items.table) 0) i ≡ true
in_all_nodes k i there =
    let l = whole_is k.items.orders.first.listing
    (is_none (option_map listing_of k.items.orders.second)) k.whole in
    subst (λ x. has (ids_at x (facts_of k.items.table) 0) i ≡ true) (sym l)
    (in_whole (facts_of k.items.table) i there)

pub second_there : (k : KeptArcs) → k.items.orders.second ≡ None → ⊥
second_there k is =
    let h : false ≡ true =
    subst (λ s. IsTrue (is_target (option_map listing_of s))) is (second_target k) in
    cc

pub second_listed : (k : KeptArcs) (o : Order) → k.items.orders.second ≡ Some o
    → IsListed o (facts_of k.items.table)
second_listed k o is =
    subst (λ s. IfSome s (λ o. IsListed o (facts_of k.items.table))) is k.items.ordered.second

pub second_knows : (k : KeptArcs) (o : Order) → k.items.orders.second ≡ Some o → (id : ℕ)
    → IsTrue (has_id fact_id id (facts_of k.items.table)) → KnowsId id o
second_knows k o is id there =
    subst (λ s. IfSome s (λ o. KnowsId id o)) is
    (id_there k.items.orders (facts_of k.items.table) id k.items.ordered there).second
