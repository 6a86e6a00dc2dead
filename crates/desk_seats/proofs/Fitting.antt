-- A seat that was written stands for the items that it stood for.
use Rattle.std.proofs.Common.{◌≡◌, ℕ, ◌==◌, Bool, true, false, if◌then◌else◌, IsTrue, List, [], ◌∷◌}
use Rattle.std.proofs.Common.{map, nat_le, refl, ap, subst, sym, ◌∙◌, arith, Result, Ok, Err}
use Rattle.std.specs.Prelude.{OnOk, OnErr}
use Rattle.std.proofs.lemmas.Grind.{common_steps}
use Rattle.base_items.specs.declared.items.Fact.{Fact}
use Rattle.plain_digraph.specs.Facts.{fact_id}
use Rattle.plain_digraph.specs.Lists.{AllOf}
use Rattle.plain_digraph.specs.Rising.{swapped, with_item, without_item}
use Rattle.observe_core.specs.Held.{Held, Values, Kept, Ties, KeptRole, ValueOf, MapType, Entry}
use Rattle.observe_core.specs.Held.{Marked, Tie, entry_id, tie_id, tied_id}
use Rattle.observe_core.specs.Items.{has_id}
use Rattle.observe_core.specs.Seen.{Seen, map_seen, facts_of_marked}
use Rattle.observe_core.specs.Fits.{HeldFits}
use Rattle.kept_views.specs.declared.items.Marks.{Marks}
use Rattle.kept_views.specs.ItemViews.{marked_set, with_marks}
use Rattle.desk_seats.specs.Contents.{StillFits}

-- a map in a seat
abbrev pub seated : ℕ → Seen → Seen
seated n s = record s { form = n }

pub held_fits : (n : ℕ) (h k : Held) (new : Seen) → new ≡ map_seen k
    → ((live : List Fact) → HeldFits h live → HeldFits k live)
    → StillFits (seated n (map_seen h)) (seated n new)
held_fits n h k new e keeps live fits = subst (λ s. HeldFits s.held live) (sym e) (keeps live fits)

-- a write keeps the ids
ids_swapped : {V : Type 0} (x : Entry V) (es : List (Entry V))
    → map entry_id (swapped entry_id x es) ≡ map entry_id es
ids_swapped x [] = refl
ids_swapped x (e ∷ es) =
    let r = ids_swapped x es in
    elim (e.id == x.id) as (λ b. (e.id == x.id) ≡ b
    → map entry_id ((if b then x else e) ∷ swapped entry_id x es) ≡ map entry_id (e ∷ es)) [
      | true ↦ λ q.
          let same : x.id ≡ e.id = grind (arith, common_steps, q) in
          ap (λ n. n ∷ map entry_id (swapped entry_id x es)) same ∙ ap (λ l. e.id ∷ l) r
      | false ↦ λ q. ap (λ l. e.id ∷ l) r
    ] refl

pub values_fit : (n : ℕ) (t : MapType) (x : Entry (ValueOf t)) (es : List (Entry (ValueOf t)))
    (new : Seen) → new ≡ map_seen (Values t (swapped entry_id x es))
    → StillFits (seated n (map_seen (Values t es))) (seated n new)
values_fit n t x es new e =
    held_fits n (Values t es) (Values t (swapped entry_id x es)) new e
    (λ live fits. ids_swapped x es ∙ fits)

-- and so it does of the facts of a kept view
marked_facts : (id : ℕ) (m : Marks) (xs : List Marked)
    → facts_of_marked (marked_set id m xs) ≡ facts_of_marked xs
marked_facts id m [] = refl
marked_facts id m (x ∷ xs) =
    let r = marked_facts id m xs in
    elim (x.fact.id == id) as (λ b. facts_of_marked
    ((if b then with_marks m x.fact else x) ∷ marked_set id m xs) ≡ x.fact ∷ facts_of_marked xs)
    [ true ↦ ap (λ l. x.fact ∷ l) r | false ↦ ap (λ l. x.fact ∷ l) r ]

pub marked_fit : (n : ℕ) (role : KeptRole) (all : Bool) (id : ℕ) (m : Marks) (xs : List Marked)
    (new : Seen) → new ≡ map_seen (Kept role all (marked_set id m xs))
    → StillFits (seated n (map_seen (Kept role all xs))) (seated n new)
marked_fit n role all id m xs new e =
    held_fits n (Kept role all xs) (Kept role all (marked_set id m xs)) new e
    (λ live fits. marked_facts id m xs ∙ fits)

-- ---- ties

fewer_ties : (P : Tie → Type 0) (tie : ℕ) (ts : List Tie) → AllOf P ts
    → AllOf P (without_item tie_id tie ts)
fewer_ties P tie [] all = tt
fewer_ties P tie (t ∷ ts) all =
    let r = fewer_ties P tie ts all.1 in
    elim (t.tie == tie) as (λ b. AllOf P (if b then without_item tie_id tie ts
    else t ∷ without_item tie_id tie ts))
    [ true ↦ r | false ↦ (all.0, r) ]

pub fewer_fit : (n tie : ℕ) (ts : List Tie) (new : Seen)
    → new ≡ map_seen (Ties (without_item tie_id tie ts))
    → StillFits (seated n (map_seen (Ties ts))) (seated n new)
fewer_fit n tie ts new e =
    held_fits n (Ties ts) (Ties (without_item tie_id tie ts)) new e
    (λ live fits. fewer_ties (λ t. IsTrue (has_id fact_id (tied_id t) live)) tie ts fits)

more_ties : (P : Tie → Type 0) (t : Tie) → P t → (ts : List Tie) → AllOf P ts
    → AllOf P (with_item tie_id t ts)
more_ties P t h [] all = (h, tt)
more_ties P t h (s ∷ ts) all =
    let r = more_ties P t h ts all.1 in
    elim (nat_le t.tie s.tie) as (λ b.
    AllOf P (if b then t ∷ s ∷ ts else s ∷ with_item tie_id t ts)) [ true ↦ (h, all) | false ↦ (all.0, r) ]

-- where the item is live
pub more_fits : (n : ℕ) (t : Tie) (ts : List Tie) (new : Seen)
    → new ≡ map_seen (Ties (with_item tie_id t ts)) → (live : List Fact)
    → IsTrue (has_id fact_id t.item live) → HeldFits (Ties ts) live
    → HeldFits (seated n new).held live
more_fits n t ts new e live there fits =
    subst (λ s. HeldFits s.held live) (sym e)
    (more_ties (λ s. IsTrue (has_id fact_id (tied_id s) live)) t there ts fits)

-- where memory may be wanting
pub either_fits : {T E : Type 0} (n : ℕ) (t : Tie) (ts : List Tie) (r : Result T E) (new : Seen)
    → OnOk r (new ≡ map_seen (Ties (with_item tie_id t ts))) → OnErr r (new ≡ map_seen (Ties ts))
    → (live : List Fact) → IsTrue (has_id fact_id t.item live)
    → HeldFits (Ties ts) live → HeldFits (seated n new).held live
either_fits n t ts (Ok x) new ok err live there fits = more_fits n t ts new ok live there fits
either_fits n t ts (Err x) new ok err live there fits =
    subst (λ s. HeldFits s.held live) (sym err) fits
