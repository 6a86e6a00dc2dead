-- Potentials are small, and the cost has a lower bound.
use Rattle.std.proofs.Common.{◌≡◌, ◌≢◌, ◌⊎◌, inl, inr, ℕ, zero, suc, ◌+◌, ◌*◌, ◌<◌, ◌≤◌, ◌^◌, ℤ}
use Rattle.std.proofs.Common.{pos, negsuc, neg_ℤ, ◌+ℤ◌, ◌-ℤ◌, ◌*ℤ◌, ◌≤ℤ◌, sym, ◌∙◌, ap, arith}
use Rattle.std.proofs.lemmas.Int.{ints}
use Rattle.std.proofs.lemmas.Bool.Decides.{eqb_tells}
use Rattle.plain_certificates.proofs.Sums.{sum_to-le, sum_to-neg}
use Rattle.plain_certificates.specs.Cheapest.{reduced_cost}
use Rattle.plain_certificates.specs.Numbered.{Numbered, sum_to}
use Rattle.plain_certificates.specs.Rooms.{Joins}
use Rattle.pivot_flow.proofs.Above.{low_deep}
use Rattle.pivot_flow.proofs.Parting.{depth_small}
use Rattle.pivot_flow.specs.State.{IsCosted, floor_of, least_of, reach_of, total_of}
use Rattle.pivot_flow.specs.Tree.{IsHung, IsLow, IsPriced, Task, Tree}

-- ---- potentials are small
-- the potential of a node by that of its parent
pub by_parent : (g : Numbered) (cost y : ℕ → ℤ) (k v q : ℕ) → Joins g k v q
    → reduced_cost g cost y k ≡ pos 0 → (y v ≡ y q -ℤ cost k) ⊎ (y v ≡ y q +ℤ cost k)
by_parent g cost y k v q (inl j) z = let e = rw (j.0, j.1) at z in inl (omega (arith, ints, e))
by_parent g cost y k v q (inr j) z = let e = rw (j.0, j.1) at z in inr (omega (arith, ints, e))

pub not_root : (g : Numbered) (k v q root : ℕ) → Joins g k v q → v ≢ root → q ≢ root
    → (g.from k ≢ root) × (g.to k ≢ root)
not_root g k v q root (inl j) a b = ((λ e. a (sym j.0 ∙ e)), (λ e. b (sym j.1 ∙ e)))
not_root g k v q root (inr j) a b = ((λ e. b (sym j.0 ∙ e)), (λ e. a (sym j.1 ∙ e)))

abbrev Small : ℕ → ℤ → Type 0
Small d z = (neg_ℤ (pos (2 ^ 57 + 2 ^ 36 * d)) ≤ℤ z) × (z ≤ℤ pos (2 ^ 57 + 2 ^ 36 * d))

from_top : (d : ℕ) (z q c : ℤ) → q ≡ pos 0 → neg_ℤ (pos (2 ^ 57)) ≤ℤ c → c ≤ℤ pos (2 ^ 57)
    → (z ≡ q -ℤ c) ⊎ (z ≡ q +ℤ c) → Small d z
from_top d z q c e a b (inl x) = (omega (arith, ints, e, a, b, x), omega (arith, ints, e, a, b, x))
from_top d z q c e a b (inr x) = (omega (arith, ints, e, a, b, x), omega (arith, ints, e, a, b, x))

from_inside : (d dq : ℕ) (z q c : ℤ) → d ≡ dq + 1 → Small dq q → neg_ℤ (pos (2 ^ 36)) ≤ℤ c
    → c ≤ℤ pos (2 ^ 36) → (z ≡ q -ℤ c) ⊎ (z ≡ q +ℤ c) → Small d z
from_inside d dq z q c e s a b (inl x) =
    (omega (arith, ints, e, a, b, x, s), omega (arith, ints, e, a, b, x, s))
from_inside d dq z q c e s a b (inr x) =
    (omega (arith, ints, e, a, b, x, s), omega (arith, ints, e, a, b, x, s))

small_low : (t : Task) (cost : ℕ → ℤ) (h : Tree) (y : ℕ → ℤ) → IsHung t h → IsPriced t cost h y
    → IsCosted t cost → (m v : ℕ) → IsLow t v → h.depth v ≤ m → Small (h.depth v) (y v)
small_low t cost h y s pr c zero v lv le =
    (let d = low_deep t h v s lv in absurd (omega (arith, d, le)))
small_low t cost h y s pr c (suc m) v lv le =
    let k = h.arc v in
    let q = h.parent v in
    let fall = s.falls v lv in
    let at = by_parent t.net cost y k v q (s.joins v lv) (pr.zero v lv) in
    elim (eqb_tells q t.root) [
      | inl e ↦ from_top (h.depth v) (y v) (y q) (cost k) (ap y e.1
          ∙ pr.top) (c.least k (s.arc v lv)) (c.most k (s.arc v lv)) at
      | inr e ↦
          (let off = not_root t.net k v q t.root (s.joins v lv) lv.1 e.1 in
          let up = small_low t cost h y s pr c m q (s.parent v lv, e.1) (omega (arith, fall, le)) in
          from_inside (h.depth v) (h.depth q) (y v) (y q) (cost k) fall up
          (c.least_inside k (s.arc v lv) off.0 off.1) (c.most_inside k (s.arc v lv) off.0 off.1)
          at)
    ]

pub price_small : (t : Task) (cost : ℕ → ℤ) (h : Tree) (y : ℕ → ℤ) → IsHung t h
    → IsPriced t cost h y → IsCosted t cost → (v : ℕ) → v < t.net.nodes
    → (neg_ℤ (pos (2 ^ 58)) ≤ℤ y v) × (y v ≤ℤ pos (2 ^ 58))
price_small t cost h y s pr c v l =
    let n = c.nodes in
    let d = depth_small t h v s l in
    elim (eqb_tells v t.root) [
      | inl e ↦ (let z = ap y e.1 ∙ pr.top in (omega (arith, ints, z), omega (arith, ints, z)))
      | inr e ↦ (let b = small_low t cost h y s pr c (h.depth v) v (l, e.1) (omega arith) in
          (omega (arith, ints, b, n, d), omega (arith, ints, b, n, d)))
    ]

-- ---- the sum of the potentials has bounds
pub neg-sum_to : (n : ℕ) (f : ℕ → ℤ) → neg_ℤ (sum_to n f) ≡ sum_to n (λ k. neg_ℤ (f k))
neg-sum_to n f = sym (sum_to-neg n f)

pub sum_bounds : (t : Task) (y : ℕ → ℤ)
    → ((v : ℕ) → v < t.net.nodes → (neg_ℤ (pos (2 ^ 58)) ≤ℤ y v) × (y v ≤ℤ pos (2 ^ 58)))
    → (neg_ℤ (reach_of t) ≤ℤ sum_to t.net.nodes y) × (sum_to t.net.nodes y ≤ℤ reach_of t)
sum_bounds t y h = (
  rw (neg-sum_to t.net.nodes (λ v. pos (2 ^ 58)))
      (sum_to-le t.net.nodes (λ v. neg_ℤ (pos (2 ^ 58))) y (λ v l. (h v l).0)),
  sum_to-le t.net.nodes y (λ v. pos (2 ^ 58)) (λ v l. (h v l).1),
)

reach_low : (n : ℕ) → pos 0 ≤ℤ sum_to n (λ v. pos (2 ^ 58))
reach_low zero = omega (arith, ints)
reach_low (suc n) = let e = reach_low n in omega (arith, ints, e)

-- ---- the cost has a lower bound
neg_times : (n x u : ℕ) → x ≤ u → (negsuc n *ℤ pos u) ≤ℤ (negsuc n *ℤ pos x)
neg_times n x u l = grind (arith, ints)

pos_times : (n x : ℕ) → pos 0 ≤ℤ (pos n *ℤ pos x)
pos_times n x = grind (arith, ints)

least_is : (c : ℤ) (x u : ℕ) → x ≤ u → least_of c u ≤ℤ (c *ℤ pos x)
least_is (pos n) x u l = pos_times n x
least_is (negsuc n) x u l = neg_times n x u l

pub floor_is : (t : Task) (cost : ℕ → ℤ) (f : ℕ → ℕ) → ((k : ℕ) → k < t.net.arcs → f k ≤ t.cap k)
    → floor_of t cost ≤ℤ total_of t cost f
floor_is t cost f w = sum_to-le t.net.arcs (λ k. least_of (cost k) (t.cap k))
    (λ k. cost k *ℤ pos (f k)) (λ k l. least_is (cost k) (f k) (t.cap k) (w k l))
