-- From the slots of a column to its entries.
use Rattle.std.proofs.Common.{◌≡◌, ℕ, suc, ◌+◌, ◌<◌, ◌≤◌, ℤ, pos, ◌≤ℤ◌, Bool, true, false, List, []}
use Rattle.std.proofs.Common.{◌∷◌, length, take, get_or, Option, None, Some, Contains, refl, sym}
use Rattle.std.proofs.Common.{subst, ◌∙◌, ⊎_elim, arith}
use Rattle.std.proofs.lemmas.Bool.{cases_lt}
use Rattle.std.proofs.lemmas.Grind.{common_steps}
use Rattle.lane_kernels.specs.Least.{IsLeastLive}
use Rattle.columns.proofs.ColumnLemmas.{read-entry}
use Rattle.value_maps.specs.LeastEntry.{IsLeastEntry}
use Rattle.observe_core.specs.Held.{Entry}
use Rattle.plain_digraph.specs.Lists.{AllOf}
use Rattle.observe_core.specs.Slots.{present}
use Rattle.columns.specs.Slots.{slots_of}
use Rattle.columns.specs.Views.{entry}

module _ {V : Type 0} (d : V) where
  pub all_slots : (p : Entry V → Type 0) (i : ℕ) (ls : List Bool) (vs : List V)
      → ((k : ℕ) → k < length ls → get_or ls k false ≡ true → p (entry (i + k) (get_or vs k d)))
      → AllOf p (present (slots_of i ls vs))
  all_slots p i [] vs h = tt
  all_slots p i (b ∷ ls) [] h = tt
  all_slots p i (true ∷ ls) (v ∷ vs) h =
      let z : i + 0 ≡ i = omega arith in (
        subst (λ n. p (entry n v)) z (h 0 (omega arith) refl),
        all_slots p (i + 1) ls vs
            (λ k l t. let e : i + suc k ≡ i + 1 + k =
            omega arith in subst (λ n. p (entry n (get_or vs k d))) e
            (h (suc k) (omega (arith, l)) t)),
      )
  all_slots p i (false ∷ ls) (v ∷ vs) h =
      all_slots p (i + 1) ls vs
      (λ k l t. let e : i + suc k ≡ i + 1 + k =
      omega arith in subst (λ n. p (entry n (get_or vs k d))) e (h (suc k) (omega (arith, l)) t))

  pub no_slots : (i : ℕ) (ls : List Bool) (vs : List V)
      → ((k : ℕ) → k < length ls → get_or ls k false ≡ false) → present (slots_of i ls vs) ≡ []
  no_slots i [] vs h = refl
  no_slots i (b ∷ ls) [] h = refl
  no_slots i (true ∷ ls) (v ∷ vs) h = let e : true ≡ false = h 0 (omega arith) in cc
  no_slots i (false ∷ ls) (v ∷ vs) h = no_slots (i + 1) ls vs (λ k l. h (suc k) (omega (arith, l)))

-- what the kernel says of a column's slices
abbrev pub Found : List Bool → List ℤ → Option (ℕ × ℤ) → Type 0
Found ls vs found = IsLeastLive (take (length ls) vs) ls (length (take (length ls) vs)) found

-- and of slices that are a column's
pub found_same : (ls now : List Bool) (vs read : List ℤ) (found : Option (ℕ × ℤ)) → now ≡ ls
    → read ≡ vs → Found now read found → Found ls vs found
found_same ls now vs read found e q h =
    subst (λ xs. Found ls xs found) q (subst (λ bs. Found bs read found) e h)

module _ (ls : List Bool) (vs : List ℤ) (m : length ls ≤ length vs) where
  long : length (take (length ls) vs) ≡ length ls
  long = grind (arith, common_steps, m)

  same_value : (k : ℕ) → k < length ls
      → get_or (take (length ls) vs) k (pos 0) ≡ get_or vs k (pos 0)
  same_value k l = grind (arith, common_steps, l)

  pub none_live : Found ls vs None → present (slots_of 0 ls vs) ≡ []
  none_live h = no_slots (pos 0) 0 ls vs (λ k l. h k (let n = long in omega (arith, n, l)))

  pub least_entry : (place : ℕ) (least : ℤ) → Found ls vs (Some (place, least))
      → IsLeastEntry (present (slots_of 0 ls vs)) place least
  least_entry place least h =
      let n = long in
      let w = h.within in
      let inside : place < length ls = omega (arith, n, w) in
      let v : get_or vs place (pos 0) ≡ least = sym (same_value place inside) ∙ h.has in
      record {
        has = subst (λ x. Contains (present (slots_of 0 ls vs)) (entry place x)) v
            (read-entry ls vs m place (pos 0) inside h.counted);
        least = all_slots (pos 0) (λ (e : Entry ℤ). least ≤ℤ e.value) 0 ls vs
            (λ k l t. subst (λ x. least ≤ℤ x) (same_value k l)
            (h.is_least k (omega (arith, n, l)) t));
        first = all_slots (pos 0) (λ (e : Entry ℤ). e.value ≡ least → place ≤ e.id) 0 ls vs
            (λ k l t q. ⊎_elim
            (λ (b : k < place). absurd (h.first k b t (same_value k l ∙ q)))
            (λ (b : place ≤ k). omega (arith, b))
            (cases_lt k place));
      }
