-- Reduced costs are right where no arc may enter.
use Rattle.std.proofs.Common.{ℕ, ◌<◌, true, false, ℤ, pos, ◌≤ℤ◌, arith}
use Rattle.std.proofs.lemmas.Int.{ints, by_lt_z}
use Rattle.plain_certificates.specs.Cheapest.{reduced_cost}
use Rattle.pivot_flow.specs.Enter.{NoneEnters}
use Rattle.pivot_flow.specs.Tree.{Task}

-- ---- reduced costs are right where no arc may enter
pub record HasNoGain (t : Task) (cost : ℕ → ℤ) (f : ℕ → ℕ) (y : ℕ → ℤ) : Type 0 where
  pub up : (k : ℕ) → k < t.net.arcs → f k < t.cap k → pos 0 ≤ℤ reduced_cost t.net cost y k
  pub down : (k : ℕ) → k < t.net.arcs → 0 < f k → reduced_cost t.net cost y k ≤ℤ pos 0

pub best_where : (t : Task) (cost : ℕ → ℤ) (f : ℕ → ℕ) (y : ℕ → ℤ) → NoneEnters t cost f y
    → HasNoGain t cost f y
best_where t cost f y none = record {
  up = λ k l more.
      by_lt_z (reduced_cost t.net cost y k) (pos 0)
      (λ lt. absurd
      (none k true (record {
        arc = l;
        room = omega (arith, more);
        saves =
            omega (arith, ints, lt);
      })))
      (λ le. le);
  down = λ k l some.
      by_lt_z (pos 0) (reduced_cost t.net cost y k)
      (λ lt. absurd (none k false (record { arc = l; room = some; saves = lt })))
      (λ le. le);
}
