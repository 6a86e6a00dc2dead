-- How many nodes have no mark.
use Rattle.std.proofs.Common.{◌≡◌, ◌⊎◌, inl, inr, ℕ, zero, suc, ◌+◌, ◌<◌, ◌≤◌, List, length, get_or}
use Rattle.std.proofs.Common.{refl, arith}
use Rattle.std.proofs.Math.ListN.{set, replicate}
use Rattle.std.proofs.lemmas.Bool.Decides.{nat_tests}
use Rattle.std.proofs.lemmas.List.Sums.{sum_by-set}
use Rattle.std.proofs.lemmas.List.Folds.{sum_by-replicate}
use Rattle.plain_certificates.specs.Tables.{at}
use Rattle.pace_search.specs.Climbs.{one_if_open, open_count}

pub fewer_open : (marks : List ℕ) (u t : ℕ) → u < length marks → at 0 marks u ≡ 0 → 0 < t
    → open_count (set marks u t) + 1 ≡ open_count marks
fewer_open marks u t l o p =
    let a = sum_by-set one_if_open marks u t 0 l in
    let b : one_if_open t ≡ 0 = grind (arith, nat_tests) in
    let c : one_if_open (get_or marks u 0) ≡ 1 = rw o refl in
    omega (arith, a, b, c)

pub all_open : (n : ℕ) → open_count (replicate n 0) ≡ n
all_open n = let a = sum_by-replicate one_if_open n 0 in omega (arith, a)

pub leq_or : (a b : ℕ) → (a ≤ b) ⊎ (b < a)
leq_or zero b = inl (omega arith)
leq_or (suc a) zero = inr (omega arith)
leq_or (suc a) (suc b) = elim (leq_or a b) [
  | inl le ↦ inl (omega (arith, le))
  | inr lt ↦ inr (omega (arith, lt))
]
