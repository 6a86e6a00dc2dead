-- A column through a build.
use Rattle.std.proofs.Common.{◌≡◌, ℕ, zero, suc, ◌+◌, ◌<◌, List, [], ◌∷◌, length, drop, drop-cons}
use Rattle.std.proofs.Common.{get_or, sym, ap, subst, ◌∙◌, arith}
use Rattle.base_items.specs.declared.items.Fact.{Fact}
use Rattle.plain_digraph.specs.Facts.{fact_id}
use Rattle.observe_core.specs.Facts.{HasDistinctIds}
use Rattle.plain_digraph.specs.Lists.{AllOf}
use Rattle.observe_core.specs.Held.{Entry, entry_id}
use Rattle.plain_digraph.specs.Rising.{with_item}
use Rattle.observe_core.specs.Items.{Lacks}
use Rattle.observe_core.proofs.SlotLemmas.{lacks-place}
use Rattle.columns.specs.Filling.{FreshEntries}
use Rattle.columns.specs.Views.{entry, entries_told}

module _ {V : Type 0} (v : V) where
  -- the first of the facts that are left
  pub told-front : (fs : List Fact) (i : ℕ) (d : Fact) → i < length fs
      → entries_told v (drop i fs) ≡ entry (get_or fs i d).id v ∷ entries_told v (drop (i + 1) fs)
  told-front fs i d l = let e : suc i ≡ i + 1 =
      omega arith in ap (entries_told v)
      (drop-cons fs i d l ∙ ap (λ n. get_or fs i d ∷ drop n fs) e)

  pub fresh-start : (all : List Fact) → HasDistinctIds all → FreshEntries {V = V} all []
  fresh-start [] d = tt
  fresh-start (f ∷ fs) d = (tt, (d.0, fresh-start fs d.1))

  fresh-place : (x : Entry V) (fs : List Fact) (there : List (Entry V)) → Lacks fact_id x.id fs
      → FreshEntries fs there → FreshEntries fs (with_item entry_id x there)
  fresh-place x [] there l h = tt
  fresh-place x (g ∷ gs) there l h = (
    lacks-place entry_id g.id x there (λ e. l.0 (sym e)) h.0,
    (h.1.0, fresh-place x gs there l.1 h.1.1),
  )

  pub fresh-next : (all : List Fact) (i : ℕ) (d : Fact) (there now : List (Entry V))
      → i < length all → now ≡ with_item entry_id (entry (get_or all i d).id v) there
      → FreshEntries (drop i all) there → FreshEntries (drop (i + 1) all) now
  fresh-next all i d there now l e h =
      let s : suc i ≡ i + 1 = omega arith in
      let q = drop-cons all i d l ∙ ap (λ n. get_or all i d ∷ drop n all) s in
      let w : FreshEntries (get_or all i d ∷ drop (i + 1) all) there =
      subst (λ xs. FreshEntries xs there) q h in
      subst (FreshEntries (drop (i + 1) all)) (sym e)
      (fresh-place (entry (get_or all i d).id v) (drop (i + 1) all) there w.1.0 w.1.1)

-- what holds of all holds of each
pub all_nth : {X : Type 0} (P : X → Type 0) (xs : List X) (i : ℕ) (d : X) → i < length xs
    → AllOf P xs → P (get_or xs i d)
all_nth P [] i d l h = absurd (omega (arith, l))
all_nth P (x ∷ xs) zero d l h = h.0
all_nth P (x ∷ xs) (suc i) d l h = all_nth P xs i d (omega (arith, l)) h.1
