-- The row of a node has the arcs from it, and no others.
use Rattle.std.proofs.Common.{◌≡◌, ℕ, zero, suc, ◌+◌, ◌<◌, ◌≤◌, Bool, true, false, cond, eqb}
use Rattle.std.proofs.Common.{List, ◌∷◌, filter, All, inl, inr, arith}
use Rattle.std.specs.List.{list_any, range_with_len}
use Rattle.std.proofs.lemmas.Bool.Decides.{eqb_tells}
use Rattle.std.proofs.lemmas.List.Elements.{All-nil, All-cons}
use Rattle.plain_certificates.specs.Numbered.{Numbered}
use Rattle.plain_certificates.proofs.Tables.{self_eqb}
use Rattle.static_digraph.specs.Fixed.{row_of}
use Rattle.path_search.specs.Search.{IsRow}

module _ (g : Numbered) (v : ℕ) where
  part : ℕ → ℕ → List ℕ
  part low count = filter (λ arc. eqb (g.from arc) v) (range_with_len low count)

  from_part : (low count : ℕ) → All (λ k. (k < low + count) × (g.from k ≡ v)) (part low count)
  unfolding part
  from_part low zero = All-nil (λ k. (k < low + 0) × (g.from k ≡ v))
  from_part low (suc count) =
      elim (eqb_tells (g.from low) v) [
        | inl e ↦
            rw e.0 (All-cons (λ k. (k < low + suc count) × (g.from k ≡ v)) low
            (part (low + 1) count)
            (omega arith, e.1) (moved (from_part (low + 1) count)))
        | inr e ↦ rw e.0 (moved (from_part (low + 1) count))
      ]
    where
      moved : All (λ k. (k < (low + 1) + count) × (g.from k ≡ v)) (part (low + 1) count)
          → All (λ k. (k < low + suc count) × (g.from k ≡ v)) (part (low + 1) count)
      moved all k d l =
          (let here = all k d l in let below = here.0 in (omega (arith, below), here.1))

  whole_part : (low count k : ℕ) → low ≤ k → k < low + count → g.from k ≡ v
      → list_any (λ x. eqb x k) (part low count) ≡ true
  unfolding part
  whole_part low zero k a b is = absurd (omega (arith, a, b))
  whole_part low (suc count) k a b is =
      elim (eqb_tells low k) [
        | inl e ↦ rw (e.1, is, self_eqb v, self_eqb k)
        | inr e ↦
            (let off = e.1 in
            added (eqb (g.from low) v) (part (low + 1) count)
            (whole_part (low + 1) count k (omega (arith, a, off)) (omega (arith, b)) is))
      ]
    where
      added : (b : Bool) (rest : List ℕ) → list_any (λ x. eqb x k) rest ≡ true
          → list_any (λ x. eqb x k) (cond b (low ∷ rest) rest) ≡ true
      added true rest h = grind (arith, h)
      added false rest h = h

  pub row_is : IsRow g v (row_of g.from g.arcs v)
  unfolding part
  row_is = record {
    from_it = λ k d l.
        (let here = from_part 0 g.arcs k d l in let below =
        here.0 in (omega (arith, below), here.1));
    whole = λ k l is. whole_part 0 g.arcs k (omega arith) (omega (arith, l)) is;
  }
