-- The work left when a node rises.
use Rattle.std.proofs.Common.{◌≡◌, inl, inr, ℕ, suc, ◌+◌, ◌-◌, ◌*◌, ◌<◌, ◌≤◌}
use Rattle.std.proofs.Common.{subst, arith}
use Rattle.std.proofs.lemmas.Bool.Decides.{eqb_tells}
use Rattle.std.proofs.Math.Nat.{mul-le-mul_left}
use Rattle.push_flow.specs.Held.{weight, most}

-- a node that rises has less to do
pub less_by : (n h r : ℕ) → h + r ≤ n → (n - h) ≡ (n - (h + r)) + r
less_by n h r l = omega arith

falls : (a m e h r : ℕ) → e < m → 0 < r → a * m + e * (h + r) < (a + r) * m + e * h
falls a m e h r s z =
    let t : r * suc e ≤ r * m = mul-le-mul_left r s in
    let u : e * (h + r) ≡ e * h + r * e = grind (arith) in
    let w : (a + r) * m ≡ a * m + r * m = grind (arith) in
    let x : r * suc e ≡ r * e + r = grind (arith) in
    omega (arith, t, u, w, x, z)

pub weight_falls : (n e h r : ℕ) → h + r ≤ n → e ≤ most → 0 < r → weight n e (h + r) < weight n e h
weight_falls n e h r l s z =
    let x = less_by n h r l in
    rw x (falls (n - (h + r)) (suc most) e h r (omega (arith, s)) z)

-- a node that stays or rises
pub weight_rises : (n e h h' : ℕ) → h ≤ h' → h' ≤ n → e ≤ most → weight n e h' ≤ weight n e h
weight_rises n e h h' a l s =
    elim (eqb_tells h' h) [
      | inl q ↦ rw q.1 (omega arith)
      | inr q ↦
          (let is : h + (h' - h) ≡ h' = omega (arith, a) in
          let w = weight_falls n e h (h' - h) (omega (arith, is, l)) s
          (let d = q.1 in omega (arith, a, d)) in
          let x : weight n e h' < weight n e h = subst (λ z. weight n e z < weight n e h) is w in
          omega (arith, x))
    ]
