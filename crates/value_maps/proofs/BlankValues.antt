-- The values of a column whose dead slots are blank, and those of its entries.
use Rattle.std.proofs.Common.{◌≡◌, ℕ, suc, ◌+◌, ◌<◌, ◌≤◌, ℤ, pos, ◌+ℤ◌, Bool, true, false}
use Rattle.std.proofs.Common.{if◌then◌else◌, List, [], ◌∷◌, length, refl, ap, arith}
use Rattle.std.proofs.lemmas.Int.{ints}
use Rattle.base_items.specs.declared.items.Fact.{Fact}
use Rattle.plain_digraph.specs.Lists.{AllOf}
use Rattle.observe_core.specs.Facts.{AllInBounds}
use Rattle.observe_core.specs.Slots.{present}
use Rattle.columns.specs.Slots.{slots_of}
use Rattle.columns.specs.Views.{AreBlank}
use Rattle.lane_kernels.specs.Counts.{truths}
use Rattle.lane_kernels.specs.Sums.{total_of}
use Rattle.value_maps.specs.Entries.{values_in}

-- a dead slot adds nothing to the sum
pub total_live : (i : ℕ) (ls : List Bool) (vs : List ℤ) → length ls ≤ length vs
    → AreBlank (pos 0) ls vs
    → total_of vs ≡ total_of (values_in (present (slots_of i ls vs)))
total_live i [] [] m blank = refl
total_live i [] (v ∷ vs) m blank =
    let z : v ≡ pos 0 = blank 0 refl in
    let r = total_live i [] vs (omega arith) (λ k e. blank (suc k) e) in
    omega (arith, ints, z, r)
total_live i (b ∷ ls) [] m blank = absurd (omega (arith, m))
total_live i (true ∷ ls) (v ∷ vs) m blank =
    ap (λ n. v +ℤ n) (total_live (i + 1) ls vs (omega (arith, m)) (λ k e. blank (suc k) e))
total_live i (false ∷ ls) (v ∷ vs) m blank =
    let z : v ≡ pos 0 = blank 0 refl in
    let r = total_live (i + 1) ls vs (omega (arith, m)) (λ k e. blank (suc k) e) in
    omega (arith, ints, z, r)

-- nor to the number of trues
pub count_live : (i : ℕ) (ls vs : List Bool) → length ls ≤ length vs → AreBlank false ls vs
    → truths vs ≡ truths (values_in (present (slots_of i ls vs)))
count_live i [] [] m blank = refl
count_live i [] (v ∷ vs) m blank =
    let z : v ≡ false = blank 0 refl in
    let r = count_live i [] vs (omega arith) (λ k e. blank (suc k) e) in
    rw z (omega (arith, r))
count_live i (b ∷ ls) [] m blank = absurd (omega (arith, m))
count_live i (true ∷ ls) (v ∷ vs) m blank =
    ap (λ n. (if v then 1 else 0) + n)
    (count_live (i + 1) ls vs (omega (arith, m)) (λ k e. blank (suc k) e))
count_live i (false ∷ ls) (v ∷ vs) m blank =
    let z : v ≡ false = blank 0 refl in
    let r = count_live (i + 1) ls vs (omega (arith, m)) (λ k e. blank (suc k) e) in
    rw z (omega (arith, r))

-- the ids of facts in bounds
pub ids_below : (fs : List Fact) → AllInBounds fs → AllOf (λ f. f.id < 4194304) fs
ids_below [] h = tt
ids_below (f ∷ fs) h = let l = h.0 in (omega (arith, l), ids_below fs h.1)
