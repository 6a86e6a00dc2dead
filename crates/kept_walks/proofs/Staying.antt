-- Marks stay at each notice, and an item that is placed has its new mark.
use Rattle.std.proofs.Common.{◌≡◌, ◌≢◌, ℕ, ◌-◌, ◌==◌, Bool, true, false, if◌then◌else◌, List, []}
use Rattle.std.proofs.Common.{◌∷◌}
use Rattle.std.proofs.Common.{map, refl, sym, ap, ◌∙◌, arith}
use Rattle.std.proofs.lemmas.Grind.{common_steps}
use Rattle.base_items.specs.declared.items.Fact.{Fact}
use Rattle.plain_digraph.specs.Lists.{AllOf}
use Rattle.plain_digraph.specs.Facts.{fact_id}
use Rattle.plain_digraph.specs.Rising.{with_item, without_item}
use Rattle.observe_core.specs.declared.changes.Change.{Change}
use Rattle.observe_core.specs.declared.changes.Change.TheVariants.{Add, Shift, Build}
use Rattle.observe_core.specs.declared.losses.Loss.{Loss}
use Rattle.observe_core.specs.declared.losses.Loss.TheVariants.{Erase, Clear}
use Rattle.observe_core.specs.Items.{place_all, has_id, number_id}
use Rattle.observe_core.specs.Held.{Held, Nothing, Values, Degree, Half, Kept, Ties, Marked}
use Rattle.observe_core.specs.Held.{marked_id}
use Rattle.observe_core.specs.Seen.{Seen, facts_of_marked}
use Rattle.observe_core.specs.Told.{new_marked, marked_moved, held_added, held_shifted, held_built}
use Rattle.observe_core.specs.Told.{held_erased, held_cleared}
use Rattle.observe_core.specs.Changes.{told}
use Rattle.observe_core.specs.Losses.{lost}
use Rattle.observe_core.proofs.ItemLemmas.{all_more, all-place, all-without}
use Rattle.kept_views.specs.declared.items.Marks.{Marks}
use Rattle.kept_views.specs.ItemViews.{marks, with_marks, marked_set}
use Rattle.kept_walks.specs.Present.{AreMarked, marks_at, items_in, items_seen, new_marks_in}
use Rattle.kept_walks.specs.Present.{new_marks}
use Rattle.kept_walks.specs.Laws.{new_in, MarksStay, PlacingMarks}

module _ (mark : Marks → Bool) (says : ℕ → Bool) where
  abbrev IsMarked : Marked → Type 0
  IsMarked x = mark (marks_at x) ≡ says x.fact.id

  moved : (now : Fact) (xs : List Marked) → AreMarked mark says xs
      → AreMarked mark says (marked_moved now xs)
  moved now [] all = tt
  moved now (x ∷ xs) all =
      let r = moved now xs all.1 in
      elim (x.fact.id == now.id) as (λ b. (x.fact.id == now.id) ≡ b
      → AreMarked mark says ((if b then record x { fact = now } else x) ∷ marked_moved now xs)) [
        | true ↦ λ e.
            let same : x.fact.id ≡ now.id = grind (arith, common_steps, e) in
            (all.0 ∙ ap says same, r)
        | false ↦ λ e. (all.0, r)
      ] refl

  placed : (xs ys : List Marked) → AreMarked mark says xs → AreMarked mark says ys
      → AreMarked mark says (place_all marked_id xs ys)
  placed [] ys one two = two
  placed (x ∷ xs) ys one two =
      placed xs (with_item marked_id x ys) one.1 (all-place IsMarked marked_id x ys one.0 two)

  new_all : (all : Bool) (fs : List Fact)
      → AllOf (λ (f : Fact). mark (marks all false false) ≡ says f.id) fs
      → AreMarked mark says (map (new_marked all) fs)
  new_all all [] each = tt
  new_all all (f ∷ fs) each = (each.0, new_all all fs each.1)

  added_stay : (f : Fact) (h : Held) → mark (new_marks_in h) ≡ says f.id
      → AreMarked mark says (items_in h) → AreMarked mark says (items_in (held_added f h))
  added_stay f Nothing new all = tt
  added_stay f (Values t es) new all = tt
  added_stay f (Degree out ends) new all = tt
  added_stay f (Half added others kept valid) new all = tt
  added_stay f (Kept role shows items) new all =
      all-place IsMarked marked_id (new_marked shows f) items new all
  added_stay f (Ties ties) new all = tt

  shifted_stay : (old now : Fact) (h : Held) → AreMarked mark says (items_in h)
      → AreMarked mark says (items_in (held_shifted old now h))
  shifted_stay old now Nothing all = tt
  shifted_stay old now (Values t es) all = tt
  shifted_stay old now (Degree out ends) all = tt
  shifted_stay old now (Half added others kept valid) all = tt
  shifted_stay old now (Kept role shows items) all = moved now items all
  shifted_stay old now (Ties ties) all = tt

  built_stay : (fs : List Fact) (h : Held)
      → AllOf (λ (f : Fact). mark (new_marks_in h) ≡ says f.id) fs
      → AreMarked mark says (items_in (held_built fs h))
  built_stay fs Nothing new = tt
  built_stay fs (Values t es) new = tt
  built_stay fs (Degree out ends) new = tt
  built_stay fs (Half added others kept valid) new = tt
  built_stay fs (Kept role shows items) new =
      placed (map (new_marked shows) fs) [] (new_all shows fs new) tt
  built_stay fs (Ties ties) new = tt

  erased_stay : (f : Fact) (h : Held) → AreMarked mark says (items_in h)
      → AreMarked mark says (items_in (held_erased f h))
  erased_stay f Nothing all = tt
  erased_stay f (Values t es) all = tt
  erased_stay f (Degree out ends) all = tt
  erased_stay f (Half added others kept valid) all =
      elim (has_id number_id f.id added) as (λ b. AreMarked mark says (items_in
      (if b then Half (without_item number_id f.id added) others (without_item fact_id f.id kept)
      valid else Half added (others - 1) (without_item fact_id f.id kept) false)))
      [ true ↦ tt | false ↦ tt ]
  erased_stay f (Kept role shows items) all =
      all_more (λ x p. p.1) (without_item marked_id f.id items)
      (all-without IsMarked marked_id f.id items all)
  erased_stay f (Ties ties) all = tt

  cleared_stay : (h : Held) → AreMarked mark says (items_in (held_cleared h))
  cleared_stay Nothing = tt
  cleared_stay (Values t es) = tt
  cleared_stay (Degree out ends) = tt
  cleared_stay (Half added others kept valid) = tt
  cleared_stay (Kept role shows items) = tt
  cleared_stay (Ties ties) = tt

  told_stay : (s : Seen) → AreMarked mark says (items_seen s) → (c : Change)
      → AllOf (λ (f : Fact). mark (new_marks s) ≡ says f.id) (new_in c)
      → AreMarked mark says (items_seen (told c s))
  told_stay s all (Add f) new = added_stay f s.held new.0 all
  told_stay s all (Shift old now) new = shifted_stay old now s.held all
  told_stay s all (Build fs) new = built_stay fs.now s.held new

  lost_stay : (s : Seen) → AreMarked mark says (items_seen s) → (l : Loss)
      → AreMarked mark says (items_seen (lost l s))
  lost_stay s all (Erase f) = erased_stay f s.held all
  lost_stay s all Clear = cleared_stay s.held

pub marks_stay : MarksStay
marks_stay mark says s all = (told_stay mark says s all, lost_stay mark says s all)

-- ---- a placing

module _ (mark : Marks → Bool) (says now : ℕ → Bool) (id : ℕ) (m : Marks)
    (others : (other : ℕ) → other ≢ id → now other ≡ says other) (new : mark m ≡ now id) where
  placed_marks : (items : List Marked) → AreMarked mark says items
      → AreMarked mark now (marked_set id m items)
  placed_marks [] all = tt
  placed_marks (x ∷ xs) all =
      let r = placed_marks xs all.1 in
      elim (x.fact.id == id) as (λ b. (x.fact.id == id) ≡ b
      → AreMarked mark now ((if b then with_marks m x.fact else x) ∷ marked_set id m xs)) [
        | true ↦ λ e.
            let same : x.fact.id ≡ id = grind (arith, common_steps, e) in
            (new ∙ ap now (sym same), r)
        | false ↦ λ e.
            (all.0 ∙ sym (others x.fact.id (λ same. grind (arith, common_steps, e, same))), r)
      ] refl

pub facts_set : (id : ℕ) (m : Marks) (items : List Marked)
    → facts_of_marked (marked_set id m items) ≡ facts_of_marked items
facts_set id m [] = refl
facts_set id m (x ∷ xs) =
    let r = facts_set id m xs in
    elim (x.fact.id == id) as (λ b.
    facts_of_marked ((if b then with_marks m x.fact else x) ∷ marked_set id m xs)
    ≡ x.fact ∷ facts_of_marked xs)
    [ true ↦ ap (λ l. x.fact ∷ l) r | false ↦ ap (λ l. x.fact ∷ l) r ]

pub placing_marks : PlacingMarks
placing_marks mark says now id m items others new all = record {
  marked = placed_marks mark says now id m others new items all;
  facts = facts_set id m items;
}
