-- Nets and cuts over the ends in the slices are those of the digraph.
use Rattle.std.proofs.Common.{◌≡◌, ℕ, ◌<◌, Bool, ◌&&◌, not, cond, eqb, ℤ, pos, ◌-ℤ◌, refl, sym, ◌∙◌}
use Rattle.std.proofs.Common.{ap}
use Rattle.plain_certificates.specs.Numbered.{Numbered, sum_to, sum_where, net}
use Rattle.plain_certificates.specs.Cuts.{leaves, enters, IsCut}
use Rattle.plain_certificates.proofs.Sums.{sum_to-same}

module _ (g h : Numbered) (arcs : h.arcs ≡ g.arcs)
    (ends : (k : ℕ) → k < g.arcs → (h.from k ≡ g.from k) × (h.to k ≡ g.to k)) where
  -- a sum over the arcs that pass a test of their ends
  chosen : (test : ℕ → ℕ → Bool) (f : ℕ → ℤ)
      → sum_where h.arcs (λ k. test (h.from k) (h.to k)) f
      ≡ sum_where g.arcs (λ k. test (g.from k) (g.to k)) f
  chosen test f =
      ap (λ n. sum_to n (λ k. cond (test (h.from k) (h.to k)) (f k) (pos 0))) arcs
      ∙ sum_to-same g.arcs (λ k. cond (test (h.from k) (h.to k)) (f k) (pos 0))
      (λ k. cond (test (g.from k) (g.to k)) (f k) (pos 0))
      (λ k l. ap (λ v. cond (test v (h.to k)) (f k) (pos 0)) (ends k l).0
      ∙ ap (λ v. cond (test (g.from k) v) (f k) (pos 0)) (ends k l).1)

  pub net_carried : (f : ℕ → ℤ) (v : ℕ) → net h f v ≡ net g f v
  net_carried f v =
      ap (λ x. x -ℤ sum_where h.arcs (λ k. eqb (h.to k) v) f) (chosen (λ a b. eqb a v) f)
      ∙ ap (λ x. sum_where g.arcs (λ k. eqb (g.from k) v) f -ℤ x) (chosen (λ a b. eqb b v) f)

  pub leaving_carried : (set : ℕ → Bool) (f : ℕ → ℤ)
      → sum_where h.arcs (leaves h set) f ≡ sum_where g.arcs (leaves g set) f
  leaving_carried set f = chosen (λ a b. set a && not (set b)) f

  pub entering_carried : (set : ℕ → Bool) (f : ℕ → ℤ)
      → sum_where h.arcs (enters h set) f ≡ sum_where g.arcs (enters g set) f
  entering_carried set f = chosen (λ a b. not (set a) && set b) f

  pub cut_carried : h.nodes ≡ g.nodes → (cap : ℕ → ℤ) (s t : ℕ) (flow : ℕ → ℤ) (side : ℕ → Bool)
      → IsCut h cap s t flow side (net h flow s) → IsCut g cap s t flow side (net g flow s)
  cut_carried nodes cap s t flow side cut = record {
    is_flow = record {
      at_least_0 = λ k l. cut.is_flow.at_least_0 k (rw arcs l);
      within_cap = λ k l. cut.is_flow.within_cap k (rw arcs l);
      kept = λ v l a b. sym (net_carried flow v) ∙ cut.is_flow.kept v (rw nodes l) a b;
    };
    value_is = refl;
    has_s = cut.has_s;
    lacks_t = cut.lacks_t;
    tight = sym (net_carried flow s) ∙ (cut.tight ∙ leaving_carried side cap);
  }
