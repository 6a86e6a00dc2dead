-- The value of an id through changes of the entries.
use Rattle.std.proofs.Common.{◌≡◌, ◌≢◌, ℕ, IsTrue, List, [], ◌∷◌, refl, ap, ◌∙◌, arith, ⊎_elim}
use Rattle.std.proofs.lemmas.Bool.{cases_eq}
use Rattle.std.proofs.lemmas.Grind.{common_steps}
use Rattle.observe_core.specs.Held.{Entry, entry_id}
use Rattle.plain_digraph.specs.Rising.{with_item, without_item, swapped}
use Rattle.observe_core.specs.Items.{Lacks, has_id}
use Rattle.columns.specs.Views.{entry}
use Rattle.index_maps.specs.Lookup.{value_of}

module _ {V : Type 0} (d : V) where
  pub value_of-lacks : (i : ℕ) (es : List (Entry V)) → Lacks entry_id i es → value_of d es i ≡ d
  value_of-lacks i [] h = refl
  value_of-lacks i (e ∷ es) h =
      let r = value_of-lacks i es h.1 in
      let p = h.0 in
      grind (arith, common_steps, r, p)

  -- an item more, with the value that absent ones have
  pub value_of-more : (i j : ℕ) (es : List (Entry V)) → Lacks entry_id i es
      → value_of d (with_item entry_id (entry i d) es) j ≡ value_of d es j
  value_of-more i j [] h = grind (arith, common_steps)
  value_of-more i j (e ∷ es) h =
      let r = value_of-more i j es h.1 in
      let p = h.0 in
      let l = value_of-lacks i es h.1 in
      ⊎_elim
      (λ (q : j ≡ i).
      let m : value_of d es j ≡ d = ap (value_of d es) q ∙ l in
      grind (arith, common_steps, r, p, m, q))
      (λ (n : j ≢ i). grind (arith, common_steps, r, p, n))
      (cases_eq j i)

  -- an item less
  pub value_of-gone : (i : ℕ) (es : List (Entry V))
      → value_of d (without_item entry_id i es) i ≡ d
  value_of-gone i [] = refl
  value_of-gone i (e ∷ es) = let r = value_of-gone i es in grind (arith, common_steps, r)

  pub value_of-without : (i j : ℕ) (es : List (Entry V)) → j ≢ i
      → value_of d (without_item entry_id i es) j ≡ value_of d es j
  value_of-without i j [] n = refl
  value_of-without i j (e ∷ es) n =
      let r = value_of-without i j es n in
      grind (arith, common_steps, r, n)

  -- another value
  pub value_of-set : (i : ℕ) (v : V) (es : List (Entry V)) → IsTrue (has_id entry_id i es)
      → value_of d (swapped entry_id (entry i v) es) i ≡ v
  value_of-set i v [] h = cc
  value_of-set i v (e ∷ es) h = ⊎_elim
      (λ (q : e.id ≡ i). grind (arith, common_steps, q))
      (λ (n : e.id ≢ i).
      let t : IsTrue (has_id entry_id i es) = grind (arith, common_steps, h, n) in
      let r = value_of-set i v es t in
      grind (arith, common_steps, r, n))
      (cases_eq e.id i)

  pub value_of-other : (i : ℕ) (v : V) (j : ℕ) (es : List (Entry V)) → j ≢ i
      → value_of d (swapped entry_id (entry i v) es) j ≡ value_of d es j
  value_of-other i v j [] n = refl
  value_of-other i v j (e ∷ es) n =
      let r = value_of-other i v j es n in
      grind (arith, common_steps, r, n)

  -- an item that has another value than absent ones is there
  pub value_of-has : (i : ℕ) (es : List (Entry V)) → value_of d es i ≢ d
      → IsTrue (has_id entry_id i es)
  value_of-has i [] h = absurd (h refl)
  value_of-has i (e ∷ es) h = ⊎_elim
      (λ (q : e.id ≡ i). grind (arith, common_steps, q))
      (λ (n : e.id ≢ i).
      let t : value_of d es i ≢ d = λ z.
      h (let y : value_of d (e ∷ es) i ≡ d = grind (arith, common_steps, z, n) in y) in
      let r = value_of-has i es t in
      grind (arith, common_steps, r, n))
      (cases_eq e.id i)
