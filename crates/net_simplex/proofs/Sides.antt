-- Each node is far below 0 or far above, and nothing can be sent from the one side to the other.
use Rattle.std.proofs.Common.{◌≡◌, ◌≢◌, ◌⊎◌, inl, inr, ℕ, zero, suc, ◌+◌, ◌-◌, ◌*◌, ◌<◌, ◌≤◌, ◌^◌}
use Rattle.std.proofs.Common.{true, false, ℤ, pos, neg_ℤ, ◌+ℤ◌, ◌-ℤ◌, ◌<ℤ◌, ◌≤ℤ◌, ◌∙◌, ap, arith}
use Rattle.std.proofs.lemmas.Int.{ints}
use Rattle.std.proofs.lemmas.Bool.Decides.{eqb_tells}
use Rattle.plain_certificates.specs.Cheapest.{reduced_cost}
use Rattle.plain_certificates.specs.Numbered.{Numbered}
use Rattle.plain_certificates.specs.Rooms.{Joins}
use Rattle.pivot_flow.proofs.Above.{low_deep}
use Rattle.pivot_flow.proofs.Parting.{depth_small}
use Rattle.pivot_flow.proofs.Pricing.{by_parent, not_root}
use Rattle.pivot_flow.specs.Enter.{NoneEnters}
use Rattle.pivot_flow.specs.State.{IsCosted, IsState}
use Rattle.pivot_flow.specs.Tree.{IsHung, IsLow, IsPriced, Task, Tree}

-- each arc at the root costs 2^57
abbrev pub IsRim : Task → (ℕ → ℤ) → Type 0
IsRim t cost = (k : ℕ) → k < t.net.arcs → (t.net.from k ≡ t.root) ⊎ (t.net.to k ≡ t.root)
    → cost k ≡ pos (2 ^ 57)

abbrev Far : ℕ → ℤ → Type 0
Far d z = ((z +ℤ pos (2 ^ 57)) ≤ℤ pos (2 ^ 36 * d)) ⊎ (pos (2 ^ 57) ≤ℤ (z +ℤ pos (2 ^ 36 * d)))

far_top : (d : ℕ) (z q c : ℤ) → q ≡ pos 0 → c ≡ pos (2 ^ 57) → (z ≡ q -ℤ c) ⊎ (z ≡ q +ℤ c) → Far d z
far_top d z q c e a (inl x) = inl (omega (arith, ints, e, a, x))
far_top d z q c e a (inr x) = inr (omega (arith, ints, e, a, x))

far_inside : (d dq : ℕ) (z q c : ℤ) → d ≡ dq + 1 → Far dq q → neg_ℤ (pos (2 ^ 36)) ≤ℤ c
    → c ≤ℤ pos (2 ^ 36) → (z ≡ q -ℤ c) ⊎ (z ≡ q +ℤ c) → Far d z
far_inside d dq z q c e (inl s) a b (inl x) = inl (omega (arith, ints, e, a, b, x, s))
far_inside d dq z q c e (inl s) a b (inr x) = inl (omega (arith, ints, e, a, b, x, s))
far_inside d dq z q c e (inr s) a b (inl x) = inr (omega (arith, ints, e, a, b, x, s))
far_inside d dq z q c e (inr s) a b (inr x) = inr (omega (arith, ints, e, a, b, x, s))

at_rim : (g : Numbered) (k v q root : ℕ) → Joins g k v q → q ≡ root → (g.from k ≡ root)
    ⊎ (g.to k ≡ root)
at_rim g k v q root (inl j) e = inr (j.1 ∙ e)
at_rim g k v q root (inr j) e = inl (j.0 ∙ e)

far_low : (t : Task) (cost : ℕ → ℤ) (h : Tree) (y : ℕ → ℤ) → IsHung t h → IsPriced t cost h y
    → IsCosted t cost → IsRim t cost → (m v : ℕ) → IsLow t v → h.depth v ≤ m → Far (h.depth v) (y v)
far_low t cost h y s pr c rim zero v lv le =
    (let d = low_deep t h v s lv in absurd (omega (arith, d, le)))
far_low t cost h y s pr c rim (suc m) v lv le =
    let k = h.arc v in
    let q = h.parent v in
    let fall = s.falls v lv in
    let at = by_parent t.net cost y k v q (s.joins v lv) (pr.zero v lv) in
    elim (eqb_tells q t.root) [
      | inl e ↦ far_top (h.depth v) (y v) (y q) (cost k) (ap y e.1
          ∙ pr.top) (rim k (s.arc v lv) (at_rim t.net k v q t.root (s.joins v lv) e.1)) at
      | inr e ↦
          (let off = not_root t.net k v q t.root (s.joins v lv) lv.1 e.1 in
          let up = far_low t cost h y s pr c rim m q (s.parent v lv, e.1)
          (omega (arith, fall, le)) in
          far_inside (h.depth v) (h.depth q) (y v) (y q) (cost k) fall up
          (c.least_inside k (s.arc v lv) off.0 off.1) (c.most_inside k (s.arc v lv) off.0 off.1)
          at)
    ]

-- ---- each node but the root has a potential far below 0 or far above
pub two_sides : (t : Task) (cost : ℕ → ℤ) (h : Tree) (y : ℕ → ℤ) → IsHung t h → IsPriced t cost h y
    → IsCosted t cost → IsRim t cost → (v : ℕ) → IsLow t v → (y v ≤ℤ neg_ℤ (pos (2 ^ 56)))
    ⊎ (pos (2 ^ 56) ≤ℤ y v)
two_sides t cost h y s pr c rim v lv =
    let n = c.nodes in
    let d = depth_small t h v s lv.0 in
    elim (far_low t cost h y s pr c rim (h.depth v) v lv (omega arith)) [
      | inl x ↦ inl (omega (arith, ints, x, n, d))
      | inr x ↦ inr (omega (arith, ints, x, n, d))
    ]

-- ---- what is full and what is empty where no arc may enter
pub full_where : (t : Task) (cost : ℕ → ℤ) (f : ℕ → ℕ) (y : ℕ → ℤ) → NoneEnters t cost f y → (k : ℕ)
    → k < t.net.arcs → f k ≤ t.cap k → reduced_cost t.net cost y k <ℤ pos 0 → f k ≡ t.cap k
full_where t cost f y none k l within r =
    elim (eqb_tells (t.cap k - f k) 0) [
      | inl e ↦ (let z = e.1 in omega (arith, z, within))
      | inr e ↦
          absurd (none k true (record {
            arc = l;
            room = (let z = e.1 in omega (arith, z));
            saves =
                omega (arith, ints, r);
          }))
    ]

pub empty_where : (t : Task) (cost : ℕ → ℤ) (f : ℕ → ℕ) (y : ℕ → ℤ) → NoneEnters t cost f y
    → (k : ℕ) → k < t.net.arcs → pos 0 <ℤ reduced_cost t.net cost y k → f k ≡ 0
empty_where t cost f y none k l r =
    elim (eqb_tells (f k) 0) [
      | inl e ↦ e.1
      | inr e ↦
          absurd (none k false (record {
            arc = l;
            room = (let z = e.1 in omega (arith, z));
            saves =
                r;
          }))
    ]

-- ---- the nodes far below 0 are a barrier: all that can leave them does, and nothing comes in
pub record IsShut (t : Task) (f : ℕ → ℕ) (y : ℕ → ℤ) : Type 0 where
  pub out : (k : ℕ) → k < t.net.arcs → t.net.from k ≢ t.root → t.net.to k ≢ t.root
      → y (t.net.from k) <ℤ pos 0 → pos 0 <ℤ y (t.net.to k) → f k ≡ t.cap k
  pub back : (k : ℕ) → k < t.net.arcs → t.net.from k ≢ t.root → t.net.to k ≢ t.root
      → pos 0 <ℤ y (t.net.from k) → y (t.net.to k) <ℤ pos 0 → f k ≡ 0
  pub from_root : (k : ℕ) → k < t.net.arcs → t.net.from k ≡ t.root → y (t.net.to k) <ℤ pos 0
      → f k ≡ 0
  pub to_root : (k : ℕ) → k < t.net.arcs → t.net.to k ≡ t.root → pos 0 <ℤ y (t.net.from k) → f k ≡ 0

pub shut : (t : Task) (supply cost : ℕ → ℤ) (h : Tree) (f : ℕ → ℕ) (y : ℕ → ℤ)
    → ((k : ℕ) → k < t.net.arcs → (t.net.from k < t.net.nodes) × (t.net.to k < t.net.nodes))
    → IsState t supply cost h f y → IsCosted t cost → IsRim t cost → NoneEnters t cost f y
    → IsShut t f y
shut t supply cost h f y shape st c rim none =
    let low : (v : ℕ) → IsLow t v → y v <ℤ pos 0
    → y v ≤ℤ neg_ℤ (pos (2 ^ 56)) =
    λ v lv lt. elim (two_sides t cost h y st.hung st.priced c rim v lv) [
      | inl q ↦ q
      | inr q ↦
          absurd (omega (arith, ints, q, lt))
    ] in
    let high : (v : ℕ) → IsLow t v → pos 0 <ℤ y v
    → pos (2 ^ 56) ≤ℤ y v = λ v lv gt. elim (two_sides t cost h y st.hung st.priced c rim v lv)
    [ inl q ↦ absurd (omega (arith, ints, q, gt)) | inr q ↦ q ] in
    record {
      out = λ k l nf nt a b.
          (let p = low (t.net.from k) ((shape k l).0, nf) a in
          let q = high (t.net.to k) ((shape k l).1, nt) b in
          let m = c.most_inside k l nf nt in
          full_where t cost f y none k l (st.held.within k l) (omega (arith, ints, p, q, m)));
      back = λ k l nf nt a b.
          (let p = high (t.net.from k) ((shape k l).0, nf) a in
          let q = low (t.net.to k) ((shape k l).1, nt) b in
          let m = c.least_inside k l nf nt in
          empty_where t cost f y none k l (omega (arith, ints, p, q, m)));
      from_root = λ k l e a.
          (let m = rim k l (inl e) in
          let z : y (t.net.from k) ≡ pos 0 = ap y e ∙ st.priced.top in
          empty_where t cost f y none k l (omega (arith, ints, m, z, a)));
      to_root = λ k l e a.
          (let m = rim k l (inr e) in
          let z : y (t.net.to k) ≡ pos 0 = ap y e ∙ st.priced.top in
          empty_where t cost f y none k l (omega (arith, ints, m, z, a)));
    }
