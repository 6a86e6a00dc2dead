-- The arcs from the node settled last are relaxed one by one, whatever the search.
use Rattle.std.proofs.Common.{◌≡◌, ◌≢◌, ℕ, suc, zero, ◌+◌, ◌<◌, ◌≤◌, ◌^◌, Bool, true, false, eqb}
use Rattle.std.proofs.Common.{cond, List, [], ◌∷◌, length, get_or, take, filter, refl, ◌∙◌, ap}
use Rattle.std.proofs.Common.{arith}
use Rattle.std.specs.Prelude.{IsPermutation}
use Rattle.std.specs.List.{range_with_len}
use Rattle.std.proofs.Math.ListN.{set}
use Rattle.std.proofs.lemmas.List.{get_or-set_other}
use Rattle.plain_certificates.specs.Numbered.{Numbered}
use Rattle.plain_certificates.specs.Tables.{at}
use Rattle.path_search.specs.Search.{IsRow}
use Rattle.path_search.specs.Steps.{Relaxes, Expands}
use Rattle.path_search.proofs.Relaxed.{row_kept, row_nearer}
use Rattle.path_search.proofs.Settling.{row_done}

module _ (g : Numbered) (len : ℕ → ℕ) (u near : ℕ) where
  pub relax_none : (D V : ℕ → ℕ) (q : List (ℕ × ℕ)) → Relaxes g len u near [] D V q D V q
  relax_none D V q s T count reach last = record { here = last.here; search = last.search }

  module _ (D₀ V₀ : ℕ → ℕ) (q₀ : List (ℕ × ℕ)) (row : List ℕ) (i : ℕ) (l : i < length row)
      (from_u : g.from (get_or row i 0) ≡ u) where
    -- an arc that leads no nearer
    pub relax_kept : (D V : ℕ → ℕ) (q : List (ℕ × ℕ))
        → D (g.to (get_or row i 0)) ≤ near + len (get_or row i 0)
        → Relaxes g len u near (take i row) D₀ V₀ q₀ D V q
        → Relaxes g len u near (take (i + 1) row) D₀ V₀ q₀ D V q
    relax_kept D V q le h s T count reach last =
        let was = h s T count reach last in
        record {
          here = was.here;
          search = row_kept g len s u D V T count near reach q row i (get_or row i 0) l refl
              (rw from_u last.settled) (rw (from_u, was.here) le) was.search;
        }

    -- an arc that leads nearer
    pub relax_nearer : (ds vs : List ℕ) (q r : List (ℕ × ℕ)) → get_or row i 0 < g.arcs
        → near + len (get_or row i 0) < at 0 ds (g.to (get_or row i 0))
        → len (get_or row i 0) ≤ 2 ^ 36 → g.to (get_or row i 0) < g.nodes
        → g.to (get_or row i 0) < length ds → g.to (get_or row i 0) < length vs
        → IsPermutation ((near + len (get_or row i 0), g.to (get_or row i 0)) ∷ q) r
        → Relaxes g len u near (take i row) D₀ V₀ q₀ (at 0 ds) (at 0 vs) q
        → Relaxes g len u near (take (i + 1) row) D₀ V₀ q₀
        (at 0 (set ds (g.to (get_or row i 0)) (near + len (get_or row i 0))))
        (at 0 (set vs (g.to (get_or row i 0)) (get_or row i 0))) r
    relax_nearer ds vs q r within less short node ld lv perm h s T count reach last =
        let k = get_or row i 0 in
        let was = h s T count reach last in
        let here = was.here in
        let off : u ≢ g.to k = λ e.
        (let a = ap (at 0 ds) e in absurd (omega (arith, a, here, less))) in
        let from_near : at 0 ds (g.from k) ≡ near = rw from_u here in
        record {
          here = get_or-set_other ds (g.to k) u (near + len k) 0 off ∙ here;
          search = row_nearer g len s u ds vs T count near reach q r row i k (near + len k) l refl
              within
              (rw from_u last.settled) from_near (rw from_near) less
              (let room = last.room in omega (arith, room, short)) node perm ld lv was.search;
        }

  -- all arcs of the row
  pub relax_all : (D₀ V₀ D V : ℕ → ℕ) (q₀ q : List (ℕ × ℕ)) (row : List ℕ) → IsRow g u row
      → Relaxes g len u near row D₀ V₀ q₀ D V q → Expands g len u near D₀ V₀ q₀ D V q
  relax_all D₀ V₀ D V q₀ q row is h s T count reach last =
      row_done g len s u D V T count near reach q row is (h s T count reach last).search

-- a row has at most all arcs
pub row_small : (end : ℕ → ℕ) (v low count : ℕ)
    → length (filter (λ arc. eqb (end arc) v) (range_with_len low count)) ≤ count
row_small end v low zero = omega arith
row_small end v low (suc count) =
    added (eqb (end low) v) (filter (λ arc. eqb (end arc) v) (range_with_len (low + 1) count))
    (row_small end v (low + 1) count)
  where
    added : (b : Bool) (rest : List ℕ) → length rest ≤ count
        → length (cond b (low ∷ rest) rest) ≤ suc count
    added true rest h = omega (arith, h)
    added false rest h = omega (arith, h)
