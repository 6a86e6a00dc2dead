-- All that two observers hold is a shown digraph.
use Rattle.std.proofs.Common.{◌≡◌, ℕ, ◌<◌, ◌==◌, Bool, true, false, cond}
use Rattle.std.proofs.Common.{if◌then◌else◌, IsTrue, List, [], ◌∷◌, map, filter, refl, sym, ap}
use Rattle.std.proofs.Common.{subst}
use Rattle.std.proofs.Common.{◌∙◌, arith}
use Rattle.std.specs.Prelude.{◌||◌, ◌&&◌, not, Contains}
use Rattle.std.specs.List.{list_any}
use Rattle.std.proofs.lemmas.Grind.{common_steps}
use Rattle.base_items.specs.declared.items.Fact.{Fact}
use Rattle.base_items.specs.declared.limits.TheConstants.{MAX_ARCS}
use Rattle.linked_lists.specs.Links.{AreApart}
use Rattle.plain_digraph.specs.Facts.{fact_id}
use Rattle.plain_digraph.specs.Lists.{AllOf, has}
use Rattle.observe_core.specs.Facts.{AllInBounds, HasDistinctIds}
use Rattle.observe_core.specs.Items.{has_id, rises_from}
use Rattle.observe_core.proofs.ItemLemmas.{holds_only, contains-has, lacks-not_has}
use Rattle.plain_views.specs.Shown.{ShownArc, End, IsShown, AreBelow, once, arc_ids, ids_at}
use Rattle.plain_views.specs.Shown.{end_in, source, target, has_ends, has_arc}
use Rattle.kept_views.specs.declared.listing.Listing.{Listing}
use Rattle.kept_views.specs.declared.listing.Listing.TheVariants.{Whole, BySource, ByTarget}
use Rattle.kept_views.specs.Order as order
use Rattle.kept_views.specs.Order.{owner_of, put_falling, items_at}
use Rattle.kept_views.proofs.OrderLemmas.{has_put, distinct, apart_put}
use Rattle.kept_views.proofs.Walk.{all_only}
use Rattle.observe_core.specs.Held.{Marked}
use Rattle.observe_core.specs.Seen.{facts_of_marked}
use Rattle.fact_table.specs.Table.{facts_of}
use Rattle.fact_table.specs.TableFacts.{table-rises, table-bounded}
use Rattle.kept_views.specs.declared.nodes.KeptNodes.{KeptNodes}
use Rattle.kept_views.specs.declared.arcs.KeptArcs.{KeptArcs}
use Rattle.kept_views.specs.Sound.{marked-facts}
use Rattle.kept_views.specs.Views.{nodes_of, arcs_of}
use Rattle.kept_walks.specs.Stored.{in_falling, arc_shown, stored, shows_all, HasEnds}
use Rattle.kept_walks.specs.Falling.{kept_at, any_falling, all_falling}

-- ---- ids

arc_ids_are : (xs : List Fact) → arc_ids (map arc_shown xs) ≡ map fact_id xs
arc_ids_are [] = refl
arc_ids_are (x ∷ xs) = ap (λ l. x.id ∷ l) (arc_ids_are xs)

if_or : (a b : Bool) → a || b ≡ (if a then true else b)
if_or true b = refl
if_or false b = refl

pub has_falling : (l : Listing) (fs : List Fact) (i : ℕ)
    → has (map fact_id (in_falling l fs)) i ≡ has_id fact_id i fs
has_falling l [] i = refl
has_falling l (f ∷ fs) i =
    has_put l f (in_falling l fs) i ∙ ap (λ b. (f.id == i) || b) (has_falling l fs i)
    ∙ if_or (f.id == i) (has_id fact_id i fs)

apart_falling : (l : Listing) (fs : List Fact) → HasDistinctIds fs
    → AreApart (map fact_id (in_falling l fs))
apart_falling l [] differ = tt
apart_falling l (f ∷ fs) differ =
    apart_put l f (in_falling l fs) (apart_falling l fs differ.1)
    (has_falling l fs f.id ∙ lacks-not_has fact_id f.id fs differ.0)

apart_once : (ids : List ℕ) → AreApart ids → once ids ≡ true
apart_once [] apart = refl
apart_once (id ∷ ids) apart =
    (λ i. not (apart.0 i) && once ids) ∙ apart_once ids apart.1

pub once_falling : (l : Listing) (fs : List Fact) → IsTrue (rises_from fact_id 0 fs)
    → once (map fact_id (in_falling l fs)) ≡ true
once_falling l fs rises =
    apart_once (map fact_id (in_falling l fs)) (apart_falling l fs (distinct 0 fs rises))

-- ---- the arcs at a node

filter_arcs : (k : ShownArc → Bool) (xs : List Fact)
    → arc_ids (filter k (map arc_shown xs)) ≡ map fact_id (filter (λ f. k (arc_shown f)) xs)
filter_arcs k [] = refl
filter_arcs k (x ∷ xs) =
    let r = filter_arcs k xs in
    elim (k (arc_shown x)) as (λ b.
    arc_ids (cond b (arc_shown x ∷ filter k (map arc_shown xs)) (filter k (map arc_shown xs)))
    ≡ map fact_id
    (cond b (x ∷ filter (λ f. k (arc_shown f)) xs) (filter (λ f. k (arc_shown f)) xs)))
    [ true ↦ ap (λ l. x.id ∷ l) r | false ↦ r ]

pub out_is : (fs : List Fact) (v : ℕ)
    → ids_at source (map arc_shown (in_falling BySource fs)) v ≡ order.ids_at BySource fs v
out_is fs v =
    filter_arcs (λ arc. arc.from == v) (in_falling BySource fs)
    ∙ ap (map fact_id) (kept_at BySource v fs)

pub in_is : (fs : List Fact) (v : ℕ)
    → ids_at target (map arc_shown (in_falling ByTarget fs)) v ≡ order.ids_at ByTarget fs v
in_is fs v =
    filter_arcs (λ arc. arc.to == v) (in_falling ByTarget fs)
    ∙ ap (map fact_id) (kept_at ByTarget v fs)

-- ---- the ends of an arc

end_met : (end : End) (f : Fact) (xs : List Fact) → AllOf (λ x. x.id ≡ f.id → x ≡ f) xs
    → has (map fact_id xs) f.id ≡ true → end_in end (map arc_shown xs) f.id ≡ end (arc_shown f)
end_met end f [] only there = cc
end_met end f (x ∷ xs) only there =
    elim (x.id == f.id) as (λ b. (x.id == f.id) ≡ b → b || has (map fact_id xs) f.id ≡ true
    → cond b (end (arc_shown x)) (end_in end (map arc_shown xs) f.id) ≡ end (arc_shown f)) [
      | true ↦ λ e h.
          let same : x.id ≡ f.id = grind (arith, common_steps, e) in
          ap (λ y. end (arc_shown y)) (only.0 same)
      | false ↦ λ e h. end_met end f xs only.1 h
    ] refl there

true_is : (b : Bool) → IsTrue b → b ≡ true
true_is b h = h

pub end_is : (end : End) (l : Listing) (f : Fact) (fs : List Fact)
    → IsTrue (rises_from fact_id 0 fs) → Contains fs f
    → end_in end (map arc_shown (in_falling l fs)) f.id ≡ end (arc_shown f)
end_is end l f fs rises there =
    end_met end f (in_falling l fs)
    (all_falling l (λ x. x.id ≡ f.id → x ≡ f) fs
    (all_only f fs (holds_only fact_id 0 f fs rises there)))
    (has_falling l fs f.id ∙ true_is (has_id fact_id f.id fs) (contains-has fact_id f fs there))

-- ---- the whole

pub ends_there : (nodes arcs : List Fact)
    → AllOf (λ f. IsTrue (has_id fact_id f.from nodes) × IsTrue (has_id fact_id f.to nodes)) arcs
    → list_any (λ arc. not (has_ends (map fact_id (in_falling Whole nodes)) arc))
    (map arc_shown arcs) ≡ false
ends_there nodes [] all = refl
ends_there nodes (f ∷ fs) all =
    let from : has (map fact_id (in_falling Whole nodes)) f.from ≡ true =
    has_falling Whole nodes f.from ∙ true_is (has_id fact_id f.from nodes) all.0.0 in
    let to : has (map fact_id (in_falling Whole nodes)) f.to ≡ true =
    has_falling Whole nodes f.to ∙ true_is (has_id fact_id f.to nodes) all.0.1 in
    (λ i. not (from i && to i) || list_any (λ arc. not (has_ends
    (map fact_id (in_falling Whole nodes)) arc)) (map arc_shown fs))
    ∙ ends_there nodes fs all.1

pub stored_is_shown : (nodes arcs : List Fact) → IsTrue (rises_from fact_id 0 nodes)
    → IsTrue (rises_from fact_id 0 arcs)
    → AllOf (λ f. IsTrue (has_id fact_id f.from nodes) × IsTrue (has_id fact_id f.to nodes)) arcs
    → IsShown (stored nodes arcs)
stored_is_shown nodes arcs one two ends = record {
  nodes_differ = once_falling Whole nodes one;
  sources_differ = ap once (arc_ids_are (in_falling BySource arcs))
      ∙ once_falling BySource arcs two;
  targets_differ = ap once (arc_ids_are (in_falling ByTarget arcs))
      ∙ once_falling ByTarget arcs two;
  same_arcs = λ test. any_falling BySource test arcs ∙ sym (any_falling ByTarget test arcs);
  ends_shown = any_falling BySource
      (λ arc. not (has_ends (map fact_id (in_falling Whole nodes)) arc)) arcs
      ∙ ends_there nodes arcs ends;
}

below_all : (fs : List Fact) (i : ℕ) → AllInBounds fs → IsTrue (has_id fact_id i fs) → i < MAX_ARCS
below_all [] i all h = cc
below_all (f ∷ fs) i all h =
    elim (f.id == i) as (λ b. (f.id == i) ≡ b → IsTrue (if b then true else has_id fact_id i fs)
    → i < MAX_ARCS) [
      | true ↦ λ e g.
          let same : f.id ≡ i = grind (arith, common_steps, e) in
          let r = all.0.0 in
          omega (arith, same, r)
      | false ↦ λ e g. below_all fs i all.1 g
    ] refl h

pub has_stored : (nodes arcs : List Fact) (i : ℕ)
    → has_arc (stored nodes arcs) i ≡ has_id fact_id i arcs
has_stored nodes arcs i =
    ap (λ l. has l i) (arc_ids_are (in_falling BySource arcs)) ∙ has_falling BySource arcs i

-- in either list
pub has_source : (nodes arcs : List Fact) (i : ℕ) → has_arc (stored nodes arcs) i ≡ true
    → has (arc_ids (stored nodes arcs).by_source) i ≡ true
has_source nodes arcs i h = h

pub has_target : (nodes arcs : List Fact) (i : ℕ) → has_arc (stored nodes arcs) i ≡ true
    → has (arc_ids (stored nodes arcs).by_target) i ≡ true
has_target nodes arcs i h =
    ap (λ l. has l i) (arc_ids_are (in_falling ByTarget arcs)) ∙ has_falling ByTarget arcs i
    ∙ sym (has_stored nodes arcs i) ∙ h

pub stored_below : (nodes arcs : List Fact) → AllInBounds nodes → AllInBounds arcs
    → AreBelow (stored nodes arcs) MAX_ARCS
stored_below nodes arcs one two = record {
  nodes_below = λ i h. below_all nodes i one (sym (has_falling Whole nodes i) ∙ h);
  arcs_below = λ i h. below_all arcs i two (sym (has_stored nodes arcs i) ∙ h);
}

-- ---- of two observers

rises_as : (fs gs : List Fact) → fs ≡ gs → IsTrue (rises_from fact_id 0 fs)
    → IsTrue (rises_from fact_id 0 gs)
rises_as fs gs e h = subst (λ l. IsTrue (rises_from fact_id 0 l)) e h

facts_ends : (nodes : List Fact) (arcs : List Marked)
    → AllOf (λ (a : Marked). IsTrue (has_id fact_id a.fact.from nodes)
    × IsTrue (has_id fact_id a.fact.to nodes)) arcs
    → AllOf (λ f. IsTrue (has_id fact_id f.from nodes) × IsTrue (has_id fact_id f.to nodes))
    (facts_of_marked arcs)
facts_ends nodes [] all = tt
facts_ends nodes (a ∷ arcs) all = (all.0, facts_ends nodes arcs all.1)

pub node_facts : (n : KeptNodes) → facts_of n.items.table ≡ facts_of_marked (nodes_of n)
node_facts n = sym (marked-facts n.items.marks.items (facts_of n.items.table))

pub arc_facts : (a : KeptArcs) → facts_of a.items.table ≡ facts_of_marked (arcs_of a)
arc_facts a = sym (marked-facts a.items.marks.items (facts_of a.items.table))

pub nodes_rise : (n : KeptNodes) → IsTrue (rises_from fact_id 0 (facts_of_marked (nodes_of n)))
nodes_rise n = rises_as (facts_of n.items.table) (facts_of_marked (nodes_of n)) (node_facts n)
    (table-rises n.items.table)

pub arcs_rise : (a : KeptArcs) → IsTrue (rises_from fact_id 0 (facts_of_marked (arcs_of a)))
arcs_rise a = rises_as (facts_of a.items.table) (facts_of_marked (arcs_of a)) (arc_facts a)
    (table-rises a.items.table)

pub shows_valid : (n : KeptNodes) (a : KeptArcs) → HasEnds (nodes_of n) (arcs_of a)
    → IsShown (shows_all n a)
shows_valid n a ends =
    stored_is_shown (facts_of_marked (nodes_of n)) (facts_of_marked (arcs_of a)) (nodes_rise n)
    (arcs_rise a) (facts_ends (facts_of_marked (nodes_of n)) (arcs_of a) ends)

pub shows_below : (n : KeptNodes) (a : KeptArcs) → AreBelow (shows_all n a) MAX_ARCS
shows_below n a =
    stored_below (facts_of_marked (nodes_of n)) (facts_of_marked (arcs_of a))
    (subst AllInBounds (node_facts n) (table-bounded n.items.table))
    (subst AllInBounds (arc_facts a) (table-bounded a.items.table))
