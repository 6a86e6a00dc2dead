-- What an observer may be told that stands for the facts of a table, and how it stands afterwards.
use Rattle.std.proofs.Common.{◌≡◌, ◌≢◌, ℕ, ◌≤◌, ◌==◌, true, false, if◌then◌else◌, IsTrue, List, []}
use Rattle.std.proofs.Common.{◌∷◌, map}
use Rattle.std.proofs.Common.{Contains, refl, sym, subst, ap, ◌∙◌, arith}
use Rattle.std.proofs.lemmas.Grind.{common_steps}
use Rattle.base_items.specs.declared.items.Fact.{Fact}
use Rattle.plain_digraph.specs.Facts.{fact_id}
use Rattle.observe_core.specs.declared.changes.Change.{Change}
use Rattle.plain_digraph.specs.Rising.{swapped}
use Rattle.observe_core.specs.Held.{Held, Values, MapType, ValueOf, Entry, entry_id}
use Rattle.observe_core.specs.Items.{Lacks, has_id}
use Rattle.observe_core.specs.Facts.{IsInBounds}
use Rattle.observe_core.specs.Fits.{Fits, HeldFits}
use Rattle.observe_core.specs.Seen.{Seen, Watched, map_seen}
use Rattle.observe_core.specs.Changes.{told, untold, CanTell, CanUntell}
use Rattle.observe_core.specs.Conditions.{HasSmallCounts, CanAdd, CanShift, CanErase}
use Rattle.observe_core.proofs.ItemLemmas.{all_at, contains-has}
use Rattle.observe_core.proofs.ChangeLaws.{untold-told, can_untell}
use Rattle.fact_table.specs.declared.table.FactTable.{FactTable}
use Rattle.fact_table.specs.Table.{facts_of}
use Rattle.fact_table.specs.TableFacts.{table-bounded}
use Rattle.graph_tests.proofs.Guarding.{live_table}

module _ (s : Seen) (t : FactTable) (fits : Fits s (facts_of t)) (counts : HasSmallCounts s) where
  pub may_add : (f : Fact) → Lacks fact_id f.id (facts_of t) → IsInBounds f → CanAdd f s
  may_add f lacks bounded = record {
    live = facts_of t;
    is_live = live_table t;
    fits = fits;
    untracked = lacks;
    bounded = bounded;
    counts = counts;
  }

  pub may_shift : (old now : Fact) → Contains (facts_of t) old → old.id ≡ now.id → now ≢ old
      → IsInBounds now → CanShift old now s
  may_shift old now there same differs bounded = record {
    live = facts_of t;
    is_live = live_table t;
    fits = fits;
    tracked = there;
    same_id = sym same;
    differs = differs;
    old_bounded = all_at IsInBounds old (facts_of t) (table-bounded t) there;
    bounded = bounded;
    counts = counts;
  }

  pub may_erase : (f : Fact) → Contains (facts_of t) f → CanErase f s
  may_erase f there = record {
    live = facts_of t;
    is_live = live_table t;
    fits = fits;
    tracked = there;
    bounded = all_at IsInBounds f (facts_of t) (table-bounded t) there;
    counts = counts;
  }

-- what an observer accepted it may be told to undo, and then it is as before
module _ (was now : Watched) (c : Change) (can : CanTell c was.seen)
    (e : now.seen ≡ told c was.seen)
    (far : was.reach ≤ now.reach) where
  pub may_go_back : CanUntell c now.seen now.reach
  may_go_back =
      let r = was.reaches in
      subst (λ s. CanUntell c s now.reach) (sym e)
      (can_untell c was.seen now.reach can was.sound (omega (arith, r, far)))

  pub gone_back : (back : Seen) → back ≡ untold c now.seen → back ≡ was.seen
  gone_back back b = b ∙ ap (untold c) e ∙ untold-told c was.seen can was.sound

-- the ids of a map's entries are those of the facts
has-mapped : {X : Type 0} (p : X → ℕ) (i : ℕ) (xs : List X)
    → has_id p i xs ≡ has_id (λ n. n) i (map p xs)
has-mapped p i [] = refl
has-mapped p i (x ∷ xs) = ap (λ b. if p x == i then true else b) (has-mapped p i xs)

pub has_entry : {V : Type 0} (i : ℕ) (es : List (Entry V)) (live : List Fact) (f : Fact)
    → map entry_id es ≡ map fact_id live → Contains live f × (f.id ≡ i)
    → IsTrue (has_id entry_id i es)
has_entry i es live f e there =
    let h : IsTrue (has_id fact_id f.id live) = contains-has fact_id f live there.0 in
    let k : IsTrue (has_id fact_id i live) =
    subst (λ n. IsTrue (has_id fact_id n live)) there.1 h in
    has-mapped entry_id i es ∙ ap (has_id (λ n. n) i) e ∙ sym (has-mapped fact_id i live) ∙ k

-- a write keeps the ids
ids-swapped : {V : Type 0} (x : Entry V) (es : List (Entry V))
    → map entry_id (swapped entry_id x es) ≡ map entry_id es
ids-swapped x [] = refl
ids-swapped x (e ∷ es) =
    let r = ids-swapped x es in
    elim (e.id == x.id) as (λ b. (e.id == x.id) ≡ b
    → map entry_id ((if b then x else e) ∷ swapped entry_id x es) ≡ map entry_id (e ∷ es)) [
      | true ↦ λ q.
          let same : x.id ≡ e.id = grind (arith, common_steps, q) in
          ap (λ n. n ∷ map entry_id (swapped entry_id x es)) same ∙ ap (λ l. e.id ∷ l) r
      | false ↦ λ q. ap (λ l. e.id ∷ l) r
    ] refl

pub fits_written : (t : MapType) (x : Entry (ValueOf t)) (es : List (Entry (ValueOf t)))
    (live : List Fact) (new : Seen) → new ≡ map_seen (Values t (swapped entry_id x es))
    → Fits (map_seen (Values t es)) live → Fits new live
fits_written t x es live new e fits =
    subst (λ s. Fits s live) (sym e)
    (record { guard = fits.guard; held = ids-swapped x es ∙ fits.held })

-- a new map stands for no facts
pub fits_new : (held : Held) → HeldFits held [] → (s : Seen) (facts : List Fact)
    → s ≡ map_seen held → facts ≡ [] → Fits s facts
fits_new held h s facts e none =
    subst (Fits s) (sym none) (subst (λ s. Fits s []) (sym e) (record { guard = refl; held = h }))
