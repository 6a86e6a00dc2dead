-- One arc of a row after another is relaxed.
use Rattle.std.proofs.Common.{◌≡◌, ◌⊎◌, inl, inr, ℕ, ◌+◌, ◌<◌, ◌≤◌, Bool, true}
use Rattle.std.proofs.Common.{false, eqb, ◌||◌, List, [], ◌∷◌, length, get_or}
use Rattle.std.proofs.Common.{take, refl, arith}
use Rattle.std.proofs.Math.ListN.{set}
use Rattle.std.specs.List.{list_any}
use Rattle.std.proofs.lemmas.Bool.Decides.{nat_tests}
use Rattle.std.proofs.lemmas.Grind.{take_at_read}
use Rattle.std.proofs.lemmas.List.Folds.{list_any-append}
use Rattle.std.specs.Prelude.{IsPermutation}
use Rattle.plain_certificates.specs.Numbered.{Numbered}
use Rattle.plain_certificates.specs.Tables.{at, set_at}
use Rattle.plain_certificates.proofs.Tables.{at-set}
use Rattle.path_search.specs.Search.{IsSearch, Done}
use Rattle.path_search.proofs.Changes.{fewer, kept, nearer}

or_cases : (a b : Bool) → (a || b) ≡ true → (a ≡ true) ⊎ (b ≡ true)
or_cases true b h = inl refl
or_cases false b h = inr h

any_more : (xs : List ℕ) (i j : ℕ) → i < length xs
    → list_any (λ x. eqb x j) (take (i + 1) xs) ≡ true
    → (list_any (λ x. eqb x j) (take i xs) ≡ true) ⊎ (j ≡ get_or xs i 0)
any_more xs i j l h =
    let f = rw (
      (take_at_read xs i 0 l).1,
      list_any-append (λ x. eqb x j) (take i xs) (get_or xs i 0 ∷ []),
    ) at h in
    elim (or_cases (list_any (λ x. eqb x j) (take i xs)) (eqb (get_or xs i 0) j || false) f) [
      | inl a ↦ inl a
      | inr b ↦ inr (grind (arith, nat_tests, b))
    ]

done_more : (g : Numbered) (T : ℕ → ℕ) (u : ℕ) (row : List ℕ) (i j : ℕ) → i < length row
    → Done g T u (take (i + 1) row) j → Done g T u (take i row) j ⊎ (j ≡ get_or row i 0)
done_more g T u row i j l d =
    elim (d.1) [
      | inl ne ↦ inl (d.0, inl ne)
      | inr a ↦ elim (any_more row i j l a) [ inl b ↦ inl (d.0, inr b) | inr e ↦ inr e ]
    ]

-- one more arc of u's row, which leads no nearer
pub row_kept : (g : Numbered) (len : ℕ → ℕ) (s u : ℕ) (D V T : ℕ
    → ℕ) (count floor reach : ℕ) (q : List (ℕ × ℕ)) (row : List ℕ) (i k : ℕ) → i < length row
    → k ≡ get_or row i 0 → 0 < T (g.from k) → D (g.to k) ≤ D (g.from k) + len k →
    IsSearch g len s (Done g T u (take i row)) D V T count floor reach q
    → IsSearch g len s (Done g T u (take (i + 1) row)) D V T count floor reach q
row_kept g len s u D V T count floor reach q row i k l is t le h =
    fewer g len s (λ j. Done g T u (take i row) j ⊎ (j ≡ k)) (Done g T u (take (i + 1) row)) D V T
    count floor reach q
    (λ j _ d. rw is (done_more g T u row i j l d)) (λ j d. d.0)
    (kept g len s (Done g T u (take i row)) D V T count floor reach q k t le h)

-- one more arc of u's row, which leads nearer
pub row_nearer : (g : Numbered) (len : ℕ → ℕ) (s u : ℕ) (ds vs : List ℕ) (T : ℕ
    → ℕ) (count floor reach : ℕ) (q r : List (ℕ × ℕ)) (row : List ℕ) (i k d : ℕ) → i < length row
    → k ≡ get_or row i 0 →
    k < g.arcs → 0 < T (g.from k) → at 0 ds (g.from k) ≡ floor → d ≡ at 0 ds (g.from k) + len k
    → d < at 0 ds (g.to k) → d ≤ reach → g.to k < g.nodes → IsPermutation ((d, g.to k) ∷ q) r →
    g.to k < length ds → g.to k < length vs →
    IsSearch g len s (Done g T u (take i row)) (at 0 ds) (at 0 vs) T count floor reach q →
    IsSearch g len s (Done g T u (take (i + 1) row)) (at 0 (set ds (g.to k) d))
    (at 0 (set vs (g.to k) k)) T count floor reach r
row_nearer g len s u ds vs T count floor reach q r row i k d l is within t near sum less short node
    p ld lv h =
    rw (at-set 0 ds (g.to k) d ld, at-set 0 vs (g.to k) k lv)
    (fewer g len s (λ j. Done g T u (take i row) j ⊎ (j ≡ k)) (Done g T u (take (i + 1) row))
    (set_at (at 0 ds) (g.to k) d) (set_at (at 0 vs) (g.to k) k) T count floor reach r
    (λ j _ x. rw is (done_more g T u row i j l x)) (λ j x. x.0)
    (nearer g len s (Done g T u (take i row)) (at 0 ds) (at 0 vs) T count floor reach q r k d within
    t near sum less short node p h))
