-- The facts by rising id after each plain step.
use Rattle.std.proofs.Common.{◌≡◌, ℕ, ◌<◌, true, cond, List, [], ◌∷◌, Some, None, Option}
use Rattle.std.proofs.Common.{option_map, is_some, refl, sym, ap, ◌∙◌, add-one, zero-add, arith}
use Rattle.std.specs.Prelude.{◌==◌, ◌||◌}
use Rattle.std.specs.List.{filter_map, range_with_len}
use Rattle.std.specs.FinMap as fin
use Rattle.std.proofs.lemmas.Bool.{eq-eqb, ne_eqb, true≢false}
use Rattle.base_items.specs.declared.items.Fact.{Fact}
use Rattle.base_items.specs.declared.items.ItemSort.{ItemSort}
use Rattle.base_items.specs.declared.items.ItemSort.TheVariants as sorts
use Rattle.plain_digraph.specs.Lists.{has}
use Rattle.plain_digraph.specs.Rising.{with_item, swapped, without_item}
use Rattle.plain_digraph.specs.Facts.{fact_id, with_source, with_target, turned}
use Rattle.plain_digraph.specs.Digraph.{Digraph}
use Rattle.plain_digraph.specs.Items.{ids, stamp_of, fact_of, facts, used_of, node_fact, arc_fact}
use Rattle.plain_digraph.specs.Steps.{next_id, used_after, new_node, new_arc, move_from, move_to}
use Rattle.plain_digraph.specs.Steps.{turn, place, add_node, add_arc, erase_arc, erase_node}
use Rattle.plain_digraph.specs.Valid.{AreShared}
use Rattle.plain_digraph.specs.ToldLaws.{Tells}
use Rattle.plain_digraph.specs.FactLaws.{AddedNodeFacts, AddedArcFacts, MovedSourceFacts}
use Rattle.plain_digraph.specs.FactLaws.{MovedTargetFacts, TurnedFacts, PlacedFacts, ErasedArcFacts}
use Rattle.plain_digraph.specs.FactLaws.{ErasedNodeFacts}
use Rattle.plain_digraph.proofs.Shares.{free_below}
use Rattle.plain_digraph.proofs.Keys.{get_new, get_other}
use Rattle.plain_digraph.proofs.Rows.{none_from, stamp_new, stamp_other, stamp_of-has, arc_told}
use Rattle.plain_digraph.proofs.Rows.{fact_of-id}
use Rattle.plain_digraph.proofs.Facts.{IsNamed}
use Rattle.plain_digraph.proofs.Live.{fact_of-has, live_listed}
use Rattle.plain_digraph.proofs.Additions.{new_node_apart, new_arc_endless}
use Rattle.plain_digraph.proofs.StepTold.{moved_source_tells, moved_target_tells, turned_tells}
use Rattle.plain_digraph.proofs.StepTold.{placed_tells, erased_arc_tells, erased_node_tells}
use Rattle.plain_digraph.proofs.Tellings.{TellsOthers, told_swapped, told_without, told_with}
use Rattle.plain_digraph.proofs.Tellings.{told_longer}

-- ---- additions

-- the next id is among the used ones afterwards
next_below : (live free : List ℕ) (used : ℕ) → AreShared live free used
    → next_id free used < used_after free used
next_below live [] used shared = omega arith
next_below live (id ∷ free) used shared =
    free_below live (id ∷ free) used id shared (ap (λ b. b || has free id) (eq-eqb id id refl))

-- nothing was told of the next id
told_before : (told : ℕ → Option Fact) (free : List ℕ) (used : ℕ) → told (next_id free used) ≡ None
    → filter_map told (range_with_len 0 (used_after free used))
    ≡ filter_map told (range_with_len 0 used)
told_before told [] used none =
    ap (λ n. filter_map told (range_with_len 0 n)) (add-one used)
    ∙ told_longer told 0 used (ap told (zero-add used) ∙ none)
told_before told (id ∷ free) used none = refl

told_added : (old new : ℕ → Option Fact) → IsNamed old → (live free : List ℕ) (used : ℕ)
    → AreShared live free used
    → TellsOthers old (next_id free used) new → (now : Fact) → old (next_id free used) ≡ None
    → new (next_id free used) ≡ Some now → now.id ≡ next_id free used
    → filter_map new (range_with_len 0 (used_after free used))
    ≡ with_item fact_id now (filter_map old (range_with_len 0 used))
told_added old new named live free used shared others now before after own =
    let below = next_below live free used shared in
    told_with old new named (next_id free used) others now before after own 0 (used_after free used)
    (omega arith) (omega (arith, below))
    ∙ ap (with_item fact_id now) (told_before old free used before)

pub added_node_facts : AddedNodeFacts
added_node_facts g valid =
    let new = new_node g in
    let none = none_from _ (stamp_of-has g.nodes new ∙ new_node_apart g valid) in (
      told_added (fact_of g sorts.Node) (fact_of (add_node g) sorts.Node) (fact_of-id g sorts.Node)
          (ids g.nodes) g.free_nodes g.used_nodes valid.node_ids
          (λ x other. ap (option_map (node_fact x)) (stamp_other g.nodes new x g.stamps other))
          (node_fact new g.stamps)
          (ap (option_map (node_fact new)) none)
          (ap (option_map (node_fact new)) (stamp_new g.nodes new g.stamps)) refl,
      refl,
    )

pub added_arc_facts : AddedArcFacts
added_arc_facts g from to valid =
    let new = new_arc g in
    let none = new_arc_endless g valid in
    let ends = get_new g.ends new (from, to) in
    let from_at = stamp_new g.by_source new g.stamps in
    let to_at = stamp_new g.by_target new g.stamps in (
      told_added (fact_of g sorts.Arc) (fact_of (add_arc g from to) sorts.Arc)
          (fact_of-id g sorts.Arc)
          (fin.keys g.ends) g.free_arcs g.used_arcs valid.arc_ids
          (λ x other.
          let e = get_other g.ends new (from, to) x other in
          let f = stamp_other g.by_source new x g.stamps other in
          let t = stamp_other g.by_target new x g.stamps other in
          λ i. arc_told x (e i) (f i) (t i))
          (arc_fact new (from, to) g.stamps g.stamps)
          (ap (λ o. arc_told new o (stamp_of g.by_source new) (stamp_of g.by_target new)) none)
          (λ i. arc_told new (ends i) (from_at i) (to_at i)) refl,
      refl,
    )

-- ---- moves

-- where something is told of one id by this equation, it is told, and the same of the others
now_told : (told new : ℕ → Option Fact) (own : ℕ) (now : Option Fact)
    → ((id : ℕ) → new id ≡ cond (id == own) now (told id)) → new own ≡ now
now_told told new own now by_id = by_id own ∙ ap (λ b. cond b now (told own)) (eq-eqb own own refl)

others_told : (told new : ℕ → Option Fact) (own : ℕ) (now : Option Fact)
    → ((id : ℕ) → new id ≡ cond (id == own) now (told id)) → TellsOthers told own new
others_told told new own now by_id x other = by_id x
    ∙ ap (λ b. cond b now (told x)) (ne_eqb x own other)

-- the facts of as many ids
facts_swapped : (g new : Digraph) (was now : Fact) → Tells g now new
    → fact_of g sorts.Arc now.id ≡ Some was
    → filter_map (fact_of new sorts.Arc) (range_with_len 0 g.used_arcs)
    ≡ swapped fact_id now (facts g sorts.Arc)
facts_swapped g new was now tells told =
    let old : ℕ → Option Fact = fact_of g sorts.Arc in
    let after : ℕ → Option Fact = fact_of new sorts.Arc in
    told_swapped old after (fact_of-id g sorts.Arc) now.id
    (others_told old after now.id (Some now) tells.arcs) was now told
    (now_told old after now.id (Some now) tells.arcs) refl (range_with_len 0 g.used_arcs)

pub moved_source_facts : MovedSourceFacts
moved_source_facts g fact node told = (
  facts_swapped g (move_from g fact.id node) fact (with_source fact node g.stamps)
      (moved_source_tells g fact node told) told,
  refl,
)

pub moved_target_facts : MovedTargetFacts
moved_target_facts g fact node told = (
  facts_swapped g (move_to g fact.id node) fact (with_target fact node g.stamps)
      (moved_target_tells g fact node told) told,
  refl,
)

pub turned_facts : TurnedFacts
turned_facts g fact told = (
  facts_swapped g (turn g fact.id) fact (turned fact g.stamps) (turned_tells g fact told) told,
  refl,
)

-- what is told, where something is
pub told_of : (o : Option Fact) → is_some o ≡ true → (was : Fact) × (o ≡ Some was)
told_of None live = absurd (true≢false (sym live))
told_of (Some was) live = (was, refl)

pub placed_facts : PlacedFacts
placed_facts g fact valid live =
    let was = told_of (fact_of g sorts.Arc fact.id)
    (fact_of-has g sorts.Arc fact.id valid ∙ live_listed g sorts.Arc fact.id live) in
    (facts_swapped g (place g fact) was.0 fact (placed_tells g fact) was.1, refl)

-- ---- erasures

facts_without : (g new : Digraph) (sort : ItemSort) (gone : ℕ)
    → ((id : ℕ) → fact_of new sort id ≡ cond (id == gone) None (fact_of g sort id))
    → filter_map (fact_of new sort) (range_with_len 0 (used_of g sort))
    ≡ without_item fact_id gone (facts g sort)
facts_without g new sort gone by_id =
    let old : ℕ → Option Fact = fact_of g sort in
    let after : ℕ → Option Fact = fact_of new sort in
    told_without old after (fact_of-id g sort) gone (others_told old after gone None by_id)
    (now_told old after gone None by_id) (range_with_len 0 (used_of g sort))

pub erased_arc_facts : ErasedArcFacts
erased_arc_facts g arc =
    (facts_without g (erase_arc g arc) sorts.Arc arc (λ id. (erased_arc_tells g arc id).0), refl)

pub erased_node_facts : ErasedNodeFacts
erased_node_facts g node = (
  facts_without g (erase_node g node) sorts.Node node (λ id. (erased_node_tells g node id).0),
  refl,
)
