-- The facts that a half keeps, as it finds them.
use Rattle.std.proofs.Common.{◌≡◌, ◌≢◌, ℕ, zero, suc, true, false, ◌==◌, if◌then◌else◌, IsTrue}
use Rattle.std.proofs.Common.{List, [], ◌∷◌, map, Contains, refl, sym, ap, subst, ◌∙◌, arith}
use Rattle.std.proofs.Common.{Result, Ok, Err, OnOk, Option, Some, None, option_map, nat_le, ◌+◌}
use Rattle.base_items.specs.declared.items.Fact.{Fact}
use Rattle.plain_digraph.specs.Facts.{fact_id}
use Rattle.observe_core.specs.Facts.{has_fact}
use Rattle.plain_digraph.specs.Rising.{with_item, without_item}
use Rattle.observe_core.specs.Items.{Lacks, HoldsOnly, has_id, number_id, rises_from}
use Rattle.observe_core.specs.Told.{kept_moved}
use Rattle.fact_table.specs.Table.{from_id, next_after}
use Rattle.snap_shots.specs.HalfViews.{from_number, next_number}
use Rattle.observe_core.proofs.ItemLemmas.{contains-has, lacks-not_has, holds_only}
use Rattle.observe_core.proofs.KeptLemmas.{contains-has_fact, has_fact-contains}

pub has-map : (i : ℕ) (fs : List Fact) → has_id number_id i (map fact_id fs) ≡ has_id fact_id i fs
has-map i [] = refl
has-map i (f ∷ fs) = ap (λ b. if f.id == i then true else b) (has-map i fs)

only-at : (x y : Fact) (ys : List Fact) → HoldsOnly fact_id x ys → Contains ys y → y.id ≡ x.id
    → y ≡ x
only-at x y [] h c e = absurd (omega (arith, c.1))
only-at x y (z ∷ zs) h (zero, l, c) e = let m : z ≡ y = c in sym m ∙ h.0 (ap fact_id m ∙ e)
only-at x y (z ∷ zs) h (suc k, l, c) e = only-at x y zs h.1 (k, omega (arith, l), c) e

module _ (old now : Fact) (kept : List Fact) where
  pub keeps-new : Lacks fact_id old.id kept → with_item fact_id old kept ≡ kept_moved old now kept
  keeps-new l =
      sym (ap (λ b.
      if b then (if has_fact now kept then without_item fact_id old.id kept else kept) else
      with_item fact_id old kept) (lacks-not_has fact_id old.id kept l))

  module _ (k : Fact) (rising : IsTrue (rises_from fact_id 0 kept)) (there : Contains kept k)
      (is : k.id ≡ old.id) where
    has : has_id fact_id old.id kept ≡ true
    has = subst (λ i. IsTrue (has_id fact_id i kept)) is (contains-has fact_id k kept there)

    pub gives-up : k ≡ now → without_item fact_id old.id kept ≡ kept_moved old now kept
    gives-up e =
        let f : has_fact now kept ≡ true =
        subst (λ g. IsTrue (has_fact g kept)) e (contains-has_fact k kept there) in
        sym (ap (λ b.
        if b then (if has_fact now kept then without_item fact_id old.id kept else kept) else
        with_item fact_id old kept) has
        ∙ ap (λ b. if b then without_item fact_id old.id kept else kept) f)

    pub keeps-on : now.id ≡ old.id → k ≢ now → kept ≡ kept_moved old now kept
    keeps-on s n =
        sym (ap (λ b.
        if b then (if has_fact now kept then without_item fact_id old.id kept else kept) else
        with_item fact_id old kept) has
        ∙ ap (λ b. if b then without_item fact_id old.id kept else kept) none)
      where
        none : has_fact now kept ≡ false
        none = elim (has_fact now kept) as (λ b. has_fact now kept ≡ b → b ≡ false) [
          | true ↦ λ t.
              absurd (n (sym
              (only-at k now kept (holds_only fact_id 0 k kept rising there)
              (has_fact-contains now kept t) (s ∙ sym is))))
          | false ↦ λ t. refl
        ] refl

-- a walk over the ids of facts is one over the facts
pub from-ids : (low : ℕ) (fs : List Fact)
    → option_map fact_id (from_id low fs) ≡ from_number low (map fact_id fs)
from-ids low [] = refl
from-ids low (f ∷ fs) =
    elim (nat_le low f.id) as (λ b. option_map fact_id (if b then Some f else from_id low fs)
    ≡ (if b then Some f.id else from_number low (map fact_id fs))) [
      | true ↦ refl
      | false ↦ from-ids low fs
    ]

pub next-ids : (after : Option ℕ) (fs : List Fact)
    → option_map fact_id (next_after after fs) ≡ next_number after (map fact_id fs)
next-ids None fs = from-ids 0 fs
next-ids (Some i) fs = from-ids (i + 1) fs

pub on_ok : {A E : Type 0} {P Q : Type 0} → (r : Result A E) → (P → Q) → OnOk r P → OnOk r Q
on_ok (Ok x) to h = to h
on_ok (Err x) to h = tt
