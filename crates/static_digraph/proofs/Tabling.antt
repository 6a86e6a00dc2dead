-- A table of places is filled from the last id to the first.
use Rattle.std.proofs.Common.{◌≡◌, ◌⊎◌, ℕ, suc, ◌+◌, ◌<◌, ◌≤◌, Bool, true, false, ◌||◌}
use Rattle.std.proofs.Common.{eqb, List, [], ◌∷◌, length, get_or, take, drop, refl, sym, ap}
use Rattle.std.proofs.Common.{◌∙◌, inl, inr, arith}
use Rattle.std.proofs.Math.ListN.{set}
use Rattle.std.proofs.Math.Seq.{drop-cons}
use Rattle.std.proofs.lemmas.Bool.Decides.{nat_tests, eqb_tells}
use Rattle.std.proofs.lemmas.Grind.{take_at_read}
use Rattle.std.proofs.lemmas.List.{get_or-set_same, get_or-set_other}
use Rattle.std.proofs.lemmas.List.Folds.{list_any_at, list_any-append}
use Rattle.plain_digraph.specs.Lists.{has}
use Rattle.plain_certificates.specs.Tables.{at, place_of}
use Rattle.plain_certificates.proofs.Tables.{self_eqb}
use Rattle.static_digraph.specs.Places.{IsTableFrom, IsWideTo}

pub read_has : (ids : List ℕ) (i : ℕ) → i < length ids → has ids (get_or ids i 0) ≡ true
read_has ids i l =
    list_any_at (λ x. eqb x (get_or ids i 0)) ids i 0 l (self_eqb (get_or ids i 0))

or_cases : (a b : Bool) → (a || b) ≡ true → (a ≡ true) ⊎ (b ≡ true)
or_cases true b h = inl refl
or_cases false b h = inr h

-- one id more
pub wide_more : (ids : List ℕ) (i size more : ℕ) → i < length ids → IsWideTo ids i size
    → size ≤ more → get_or ids i 0 < more → IsWideTo ids (i + 1) more
wide_more ids i size more l wide le here x h =
    let cut = (take_at_read ids i 0 l).1 in
    let parts = ap (λ ys. has ys x) cut
    ∙ list_any-append (λ y. eqb y x) (take i ids) (get_or ids i 0 ∷ []) in
    elim (or_cases (has (take i ids) x) (eqb (get_or ids i 0) x || false) (sym parts ∙ h)) [
      | inl e ↦ (let below = wide x e in omega (arith, below, le))
      | inr e ↦ grind (arith, nat_tests, e, here)
    ]

table_one : (x y i : ℕ) (rest table : List ℕ) → y < length table
    → (has rest x ≡ true → at 0 table x ≡ (i + 1) + place_of rest x)
    → has (y ∷ rest) x ≡ true → at 0 (set table y i) x ≡ i + place_of (y ∷ rest) x
table_one x y i rest table l old h =
    elim (eqb_tells y x) [
      | inl e ↦ rw (← e.1, self_eqb y) (get_or-set_same table y i 0 l ∙ omega arith)
      | inr e ↦
          (let other : at 0 (set table y i) x ≡ at 0 table x =
          get_or-set_other table y x i 0 (λ q. e.1 (sym q)) in
          let found : has rest x ≡ true = rw e.0 at h in
          let was = old found in
          rw e.0 (other ∙ (was ∙ omega arith)))
    ]

-- one id more is written, in front of the others
pub table_more : (ids table : List ℕ) (i : ℕ) → i < length ids
    → get_or ids i 0 < length table → IsTableFrom ids table (i + 1)
    → IsTableFrom ids (set table (get_or ids i 0) i) i
table_more ids table i l wide old x h =
    let same : suc i ≡ i + 1 = omega arith in
    let cut : drop i ids ≡ get_or ids i 0 ∷ drop (i + 1) ids =
    drop-cons ids i 0 l ∙ ap (λ j. get_or ids i 0 ∷ drop j ids) same in
    let found : has (get_or ids i 0 ∷ drop (i + 1) ids) x ≡ true = rw cut at h in
    rw cut (table_one x (get_or ids i 0) i (drop (i + 1) ids) table wide (old x) found)
