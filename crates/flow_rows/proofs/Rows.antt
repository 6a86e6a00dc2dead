-- The arcs with an end at a node: each is found in its row, and all rows have each arc once.
use Rattle.std.proofs.Common.{◌≡◌, ◌≢◌, sym, ◌∙◌, ℕ, zero, suc, ◌+◌, ◌-◌, ◌<◌, ◌≤◌, Bool, true}
use Rattle.std.proofs.Common.{false, cond, eqb}
use Rattle.std.proofs.Common.{List, ◌∷◌, filter, length, get_or, inl, inr, refl, ap, arith}
use Rattle.std.specs.List.{list_any, range_with_len}
use Rattle.std.proofs.lemmas.Bool.Decides.{nat_tests, eqb_tells}
use Rattle.std.proofs.lemmas.List.Elements.{All-filter, filter_passes}
use Rattle.std.proofs.lemmas.List.FromFn.{get_or-range_with_len, length-range_with_len}
use Rattle.plain_digraph.specs.Lists.{has}
use Rattle.plain_certificates.proofs.Tables.{self_eqb, apart_eqb}
use Rattle.plain_certificates.proofs.Totals.{total-same, total-zero, total-one}
use Rattle.plain_certificates.specs.Totals.{total_to}
use Rattle.static_digraph.specs.Fixed.{row_of}

eqb_is : (a b : ℕ) → eqb a b ≡ true → a ≡ b
eqb_is a b e = grind (arith, nat_tests)

-- what a row has
pub row_inside : (end : ℕ → ℕ) (arcs v i d : ℕ) → i < length (row_of end arcs v)
    → (get_or (row_of end arcs v) i d < arcs) × (end (get_or (row_of end arcs v) i d) ≡ v)
row_inside end arcs v i d l = (
  All-filter (λ k. eqb (end k) v) (λ k. k < arcs) (range_with_len 0 arcs)
      (λ j e q.
      (let size = length-range_with_len 0 arcs in
      let is = get_or-range_with_len 0 arcs j e (omega (arith, q, size)) in
      omega (arith, q, size, is)))
      i d l,
  eqb_is (end (get_or (row_of end arcs v) i d)) v
      (filter_passes (λ k. eqb (end k) v) (range_with_len 0 arcs) i d l),
)

module _ (end : ℕ → ℕ) (v : ℕ) where
  part : ℕ → ℕ → List ℕ
  part low count = filter (λ arc. eqb (end arc) v) (range_with_len low count)

  whole_part : (low count k : ℕ) → low ≤ k → k < low + count → end k ≡ v
      → has (part low count) k ≡ true
  unfolding part
  whole_part low zero k a b is = absurd (omega (arith, a, b))
  whole_part low (suc count) k a b is =
      elim (eqb_tells low k) [
        | inl e ↦ rw (e.1, is, self_eqb v, self_eqb k)
        | inr e ↦
            (let off = e.1 in
            added (eqb (end low) v) (part (low + 1) count)
            (whole_part (low + 1) count k (omega (arith, a, off)) (omega (arith, b)) is))
      ]
    where
      added : (b : Bool) (rest : List ℕ) → list_any (λ x. eqb x k) rest ≡ true
          → list_any (λ x. eqb x k) (cond b (low ∷ rest) rest) ≡ true
      added true rest h = grind (arith, h)
      added false rest h = h

  -- each arc with its end at the node is in the row
  pub row_has : (arcs k : ℕ) → k < arcs → end k ≡ v → has (row_of end arcs v) k ≡ true
  unfolding part
  row_has arcs k l is = whole_part 0 arcs k (omega arith) (omega (arith, l)) is

  part_more : (low count : ℕ) → length (part low (suc count))
      ≡ cond (eqb (end low) v) 1 0 + length (part (low + 1) count)
  unfolding part
  part_more low count = longer (eqb (end low) v) (part (low + 1) count)
    where
      longer : (b : Bool) (rest : List ℕ)
          → length (cond b (low ∷ rest) rest) ≡ cond b 1 0 + length rest
      longer true rest = omega arith
      longer false rest = omega arith

  part_none : (low : ℕ) → length (part low 0) ≡ 0
  unfolding part
  part_none low = refl

part_sum : (end : ℕ → ℕ) (nodes low count : ℕ)
    → total_to nodes (λ v. length (part end v low count)) ≤ count
part_sum end nodes low zero =
    let none = total-zero nodes (λ v. length (part end v low 0)) (λ v l. part_none end v low) in
    omega (arith, none)
part_sum end nodes low (suc count) =
    let after = part_sum end nodes (low + 1) count in
    let now = λ (v : ℕ). length (part end v low (suc count)) in
    let then = λ (v : ℕ). length (part end v (low + 1) count) in
    let same : (v : ℕ) → v ≢ end low → now v ≡ then v =
    (λ v off. part_more end v low count
    ∙ ap (λ (b : Bool). cond b 1 0 + then v) (apart_eqb (end low) v (λ q. off (sym q)))
    ∙ (omega arith)) in
    elim (eqb_tells (nodes - end low) 0) [
      | inl e ↦
          (let out = e.1 in
          let all = total-same nodes now then
          (λ v l. same v (λ q. absurd (omega (arith, q, out, l)))) in
          omega (arith, all, after))
      | inr e ↦
          (let in_them = e.1 in
          let one = total-one nodes (end low) now then (omega (arith, in_them))
          (λ v l off. same v off) in
          let more : now (end low) ≡ 1 + then (end low) = part_more end (end low) low count
          ∙ ap (λ (b : Bool). cond b 1 0 + then (end low)) (self_eqb (end low)) in
          omega (arith, one, more, after))
    ]

-- all rows together have no more than all arcs
pub rows_sum : (end : ℕ → ℕ) (nodes arcs : ℕ)
    → total_to nodes (λ v. length (row_of end arcs v)) ≤ arcs
unfolding part
rows_sum end nodes arcs = part_sum end nodes 0 arcs
