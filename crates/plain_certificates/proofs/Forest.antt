-- What stands over a node in a forest whose depths are exact.
use Rattle.std.proofs.Common.{◌≡◌, ℕ, zero, suc, ◌+◌, ◌-◌, ◌≤◌, sym, ◌∙◌, ap, arith}
use Rattle.plain_certificates.specs.Forest.{Forest, lift, IsOver}

pub lift-add : (p : ℕ → ℕ) (m n v : ℕ) → lift p (m + n) v ≡ lift p m (lift p n v)
lift-add p zero n v = let e : zero + n ≡ n = omega arith in rw e
lift-add p (suc m) n v =
    let e : suc m + n ≡ suc (m + n) = omega arith in rw e (ap p (lift-add p m n v))

pub over_self : (h : Forest) (u : ℕ) → IsOver h u u
over_self h u = record {
  high = omega arith;
  is = (let e : h.depth u - h.depth u ≡ 0 = omega arith in rw e);
}

-- one node at each depth
pub over_same : (h : Forest) (u v w : ℕ) → IsOver h u v → IsOver h u w → h.depth v ≡ h.depth w
    → v ≡ w
over_same h u v w a b e =
    sym a.is ∙ (ap (λ d. lift h.parent (h.depth u - d) u) e ∙ b.is)

-- one step up, where the parent is one less deep
pub over_up : (h : Forest) (u v : ℕ) → h.depth v ≡ h.depth (h.parent v) + 1 → IsOver h u v
    → IsOver h u (h.parent v)
over_up h u v d o =
    let high : h.depth v ≤ h.depth u = o.high in
    record {
      high = omega (arith, d, high);
      is =
          (let e : h.depth u - h.depth (h.parent v) ≡ suc (h.depth u - h.depth v) =
          omega (arith, d, high) in
          rw e (ap h.parent o.is));
    }

pub over_trans : (h : Forest) (u v w : ℕ) → IsOver h u v → IsOver h v w → IsOver h u w
over_trans h u v w a b =
    let x : h.depth v ≤ h.depth u = a.high in
    let y : h.depth w ≤ h.depth v = b.high in
    record {
      high = omega (arith, x, y);
      is =
          (let e : h.depth u - h.depth w ≡ (h.depth v - h.depth w) + (h.depth u - h.depth v) =
          omega (arith, x, y) in
          rw (e, lift-add h.parent (h.depth v - h.depth w) (h.depth u - h.depth v) u, a.is) b.is);
    }

-- of two nodes over u the higher one is over the other
pub over_between : (h : Forest) (u v w : ℕ) → IsOver h u v → IsOver h u w
    → h.depth w ≤ h.depth v → IsOver h v w
over_between h u v w a b le =
    let x : h.depth v ≤ h.depth u = a.high in
    record {
      high = le;
      is =
          (let e : h.depth u - h.depth w ≡ (h.depth v - h.depth w) + (h.depth u - h.depth v) =
          omega (arith, x, le) in
          let there = rw
          (e, lift-add h.parent (h.depth v - h.depth w) (h.depth u - h.depth v) u, a.is)
          at b.is in
          there);
    }
