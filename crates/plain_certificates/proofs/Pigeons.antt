-- Different numbers below n are at most n.
use Rattle.std.proofs.Common.{◌≡◌, ◌≢◌, inl, inr, ℕ, zero, suc, ◌-◌, ◌<◌, ◌≤◌, eqb, cond, sym, ◌∙◌}
use Rattle.std.proofs.Common.{ap, arith}
use Rattle.std.proofs.lemmas.Bool.Decides.{eqb_tells}
use Rattle.plain_certificates.proofs.Tables.{self_eqb, apart_eqb}

-- what a queue lists is below n, and place tells where each stands
pub pigeons : (n m : ℕ) (queue place : ℕ → ℕ)
    → ((k : ℕ) → k < m → (queue k < n) × (place (queue k) ≡ k)) → m ≤ n
pigeons zero zero q place h = omega arith
pigeons zero (suc m) q place h = let a = (h m (omega arith)).0 in absurd (omega (arith, a))
pigeons (suc n) zero q place h = omega arith
pigeons (suc n) (suc m) q place h =
    elim (eqb_tells (q (place n)) n) [
      | inr e ↦
          (let fewer = pigeons n (suc m) q place
          (λ k l.
          (let here = h k l in
          let off : q k ≢ n = λ y. e.1 (ap q (ap place (sym y) ∙ here.1) ∙ y) in
          let below = here.0 in
          (omega (arith, below, off), here.1))) in
          omega (arith, fewer))
      | inl e ↦
          elim (eqb_tells (place n - m) 0) [
            | inr d ↦
                (let z = d.1 in
                let fewer = pigeons n (suc m) q place
                (λ k l.
                (let here = h k l in
                let off : q k ≢ n = λ y.
                (let b : place n ≡ k = ap place (sym y)
                ∙ here.1 in absurd (omega (arith, z, b, l))) in
                let below = here.0 in
                (omega (arith, below, off), here.1))) in
                omega (arith, fewer))
            | inl d ↦
                (let at : place n ≤ m = (let z = d.1 in omega (arith, z)) in
                let last = h m (omega arith) in
                let q' = λ (k : ℕ). cond (eqb k (place n)) (q m) (q k) in
                let place' = λ (v : ℕ). cond (eqb v (q m)) (place n) (place v) in
                let fewer = pigeons n m q' place'
                (λ k l. elim (eqb_tells k (place n)) [
                  | inl x ↦
                      (let off : q m ≢ n = λ z.
                      (let b : place n ≡ m = ap place (sym z) ∙ last.1 in
                      let c = x.1 in
                      absurd (omega (arith, b, c, l))) in
                      let below = last.0 in
                      rw (x.0, self_eqb (q m)) (omega (arith, below, off), sym x.1))
                  | inr x ↦
                      (let here = h k (omega (arith, l)) in
                      let off : q k ≢ n = λ z. x.1 (sym here.1 ∙ ap place z) in
                      let apart : q k ≢ q m = λ z.
                      (let a = last.1 in
                      let b = here.1 in
                      let c = ap place z in
                      absurd (omega (arith, a, b, c, l))) in
                      let below = here.0 in
                      rw (x.0, apart_eqb (q k) (q m) apart) (omega (arith, below, off), here.1))
                ]) in
                omega (arith, fewer))
          ]
    ]
