-- Lists as functions, and one place changed.
use Rattle.std.proofs.Common.{◌≡◌, ◌≢◌, inl, inr, ℕ, ◌<◌, false, eqb}
use Rattle.std.proofs.Common.{arith, List, length}
use Rattle.std.proofs.Math.ListN.{set}
use Rattle.std.proofs.lemmas.List.{get_or-set_same, get_or-set_other}
use Rattle.std.proofs.lemmas.Bool.Decides.{nat_tests, eqb_tells}
use Rattle.plain_certificates.specs.Tables.{set_at}
use Rattle.push_flow.specs.Slices.{at}

at-set_each : (xs : List ℕ) (i x v : ℕ) → i < length xs → at (set xs i x) v ≡ set_at (at xs) i x v
at-set_each xs i x v l = elim (eqb_tells v i) [
  | inl e ↦ rw (e.0, e.1) (get_or-set_same xs i x 0 l)
  | inr e ↦ rw e.0 (get_or-set_other xs i v x 0 e.1)
]

pub at-set : (xs : List ℕ) (i x : ℕ) → i < length xs → at (set xs i x) ≡ set_at (at xs) i x
at-set xs i x l = λ j v. at-set_each xs i x v l j

pub differ : (p a : ℕ) → a ≢ p → eqb p a ≡ false
differ p a ne = grind (arith, nat_tests)
