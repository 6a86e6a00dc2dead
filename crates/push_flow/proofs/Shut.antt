-- What follows where nothing can be moved any more.
use Rattle.std.proofs.Common.{◌≡◌, ◌≢◌, inl, inr, ℕ, zero, suc, ◌-◌, ◌<◌, ◌≤◌, ◌^◌}
use Rattle.std.proofs.Common.{Bool, true, false, ◌&&◌, not, cond, ℤ, pos, ◌+ℤ◌, ◌-ℤ◌}
use Rattle.std.proofs.Common.{◌*ℤ◌, ◌≤ℤ◌, ◌<ℤ◌, refl, ◌∙◌, ap, arith}
use Rattle.std.proofs.Math.IntN.{zero-*ℤ, *ℤ-zero}
use Rattle.std.proofs.lemmas.Int.{ints, by_lt_z}
use Rattle.std.proofs.lemmas.Bool.Decides.{nat_tests, eqb_tells}
use Rattle.plain_certificates.proofs.Products.{one_times}
use Rattle.plain_certificates.proofs.Sums.{sum_to-add, sum_to-zero, sum_to-same, mark}
use Rattle.plain_certificates.proofs.Sums.{sum_to-le}
use Rattle.plain_certificates.proofs.Tables.{self_eqb}
use Rattle.plain_certificates.proofs.Weights.{weighed}
use Rattle.plain_certificates.specs.Cuts.{leaves}
use Rattle.plain_certificates.specs.Numbered.{sum_to, EndsAreNodes, net, sum_where}
use Rattle.plain_certificates.specs.Rooms.{as_flow, room_from}
use Rattle.push_flow.proofs.Lists.{differ}
use Rattle.push_flow.specs.Held.{Supply, Task, IsHeld}
use Rattle.push_flow.specs.Search.{side_of, IsShut}

-- a node that is off the side, or keeps the flow, adds nothing
pub no_part : (b : Bool) (y : ℤ) → (b ≡ true → y ≡ pos 0) → cond b (pos 1) (pos 0) *ℤ y ≡ pos 0
no_part true y h = rw (h refl) (*ℤ-zero (pos 1))
no_part false y h = zero-*ℤ y

part : (b d : Bool) (x c : ℕ) → (b ≡ true → d ≡ false → x ≡ c) → (b ≡ false → d ≡ true → x ≡ 0) →
    (cond b (pos 1) (pos 0) -ℤ cond d (pos 1) (pos 0)) *ℤ pos x ≡ cond (b && not d) (pos c) (pos 0)
part true true x c full empty = zero-*ℤ (pos x)
part true false x c full empty = one_times (pos x) ∙ ap pos (full refl refl)
part false true x c full empty = rw (empty refl refl) (*ℤ-zero (pos 0 -ℤ pos 1))
part false false x c full empty = zero-*ℤ (pos x)

module _ (t : Task) (f h : ℕ → ℕ) (shape : EndsAreNodes t.graph)
    (within : (k : ℕ) → k < t.graph.arcs → f k ≤ t.cap k)
    (high : (v : ℕ) → v < t.graph.nodes → h v ≤ t.graph.nodes) (shut : IsShut t f h) where
  on : (v : ℕ) → side_of t.graph.nodes h v ≡ true → h v ≡ t.graph.nodes
  on v e = grind (arith, nat_tests)

  below : (v : ℕ) → v < t.graph.nodes → side_of t.graph.nodes h v ≡ false → h v < t.graph.nodes
  below v l e = let a = high v l in let b : h v ≢ t.graph.nodes =
      grind (arith, nat_tests) in omega (arith, a, b)

  full : (k : ℕ) → k < t.graph.arcs → side_of t.graph.nodes h (t.graph.from k) ≡ true
      → side_of t.graph.nodes h (t.graph.to k) ≡ false → f k ≡ t.cap k
  full k l a b =
      let x = on (t.graph.from k) a in
      let y = below (t.graph.to k) (shape k l).1 b in
      let w = within k l in
      elim (eqb_tells (t.cap k - f k) 0) [
        | inl z ↦ (let d = z.1 in omega (arith, d, w))
        | inr z ↦
            (let m = z.1 in
            let room : 0 < room_from t.graph t.cap f k (t.graph.from k) =
            rw (self_eqb (t.graph.from k)) (omega (arith, m)) in
            let got = shut k (t.graph.from k) (t.graph.to k) l (shape k l).0 (shape k l).1
            (inl (refl, refl)) room y in
            absurd (omega (arith, got, x)))
      ]

  empty : (k : ℕ) → k < t.graph.arcs → side_of t.graph.nodes h (t.graph.from k) ≡ false
      → side_of t.graph.nodes h (t.graph.to k) ≡ true → f k ≡ 0
  empty k l a b =
      let x = on (t.graph.to k) b in
      let y = below (t.graph.from k) (shape k l).0 a in
      elim (eqb_tells (f k) 0) [
        | inl z ↦ z.1
        | inr z ↦
            (let m = z.1 in
            let off : t.graph.to k ≢ t.graph.from k = λ q.
            (let d = ap h q in absurd (omega (arith, d, x, y))) in
            let room : 0 < room_from t.graph t.cap f k (t.graph.to k) =
            rw (differ (t.graph.from k) (t.graph.to k) off) (omega (arith, m)) in
            let got = shut k (t.graph.to k) (t.graph.from k) l (shape k l).1 (shape k l).0
            (inr (refl, refl)) room y in
            absurd (omega (arith, got, x)))
      ]

  -- what the shut side sends out is what its leaving arcs can carry
  pub shut_sum : sum_to t.graph.nodes (λ v.
      mark (side_of t.graph.nodes h) v *ℤ net t.graph (as_flow f) v)
      ≡ sum_where t.graph.arcs (leaves t.graph (side_of t.graph.nodes h)) (as_flow t.cap)
  shut_sum =
      weighed t.graph (mark (side_of t.graph.nodes h)) (as_flow f) shape
      ∙ sum_to-same t.graph.arcs
      (λ k. (mark (side_of t.graph.nodes h) (t.graph.from k) -ℤ mark (side_of t.graph.nodes h)
      (t.graph.to k)) *ℤ as_flow f k)
      (λ k. cond (side_of t.graph.nodes h (t.graph.from k)
      && not (side_of t.graph.nodes h (t.graph.to k))) (as_flow t.cap k) (pos 0))
      (λ k l. part (side_of t.graph.nodes h (t.graph.from k))
      (side_of t.graph.nodes h (t.graph.to k)) (f k) (t.cap k) (full k l) (empty k l))

cut_part : (b d : Bool) (c : ℕ) → pos 0 ≤ℤ cond (b && not d) (pos c) (pos 0)
cut_part true true c = omega (arith, ints)
cut_part true false c = omega (arith, ints)
cut_part false true c = omega (arith, ints)
cut_part false false c = omega (arith, ints)

-- a sum of numbers that is 0 has 0 in each place
parts_not_neg : (n : ℕ) (g : ℕ → ℕ) → pos 0 ≤ℤ sum_to n (λ v. pos (g v))
parts_not_neg zero g = omega (arith, ints)
parts_not_neg (suc n) g = let a = parts_not_neg n g in omega (arith, ints, a)

none_left : (n : ℕ) (g : ℕ → ℕ) → sum_to n (λ v. pos (g v)) ≤ℤ pos 0 → (v : ℕ) → v < n → g v ≡ 0
none_left zero g h v l = absurd (omega (arith, l))
none_left (suc n) g h v l =
    let a = parts_not_neg n g in
    elim (eqb_tells v n) [
      | inl q ↦ (let z : g n ≡ 0 = omega (arith, ints, a, h) in rw q.1 z)
      | inr q ↦ (let m = q.1 in none_left n g (omega (arith, ints, a, h)) v (omega (arith, l, m)))
    ]

split_at : (b : Bool) (y z : ℤ) (e : ℕ) → (b ≡ true → z ≡ y +ℤ pos e) → (b ≡ false → e ≡ 0)
    → cond b (pos 1) (pos 0) *ℤ z ≡ cond b (pos 1) (pos 0) *ℤ y +ℤ pos e
split_at true y z e h k = let a = h refl in let p = one_times y in let q =
    one_times z in omega (arith, ints, a, p, q)
split_at false y z e h k = let a = k refl in let p = zero-*ℤ y in let q =
    zero-*ℤ z in omega (arith, ints, a, p, q)

module _ (t : Task) (supply : ℕ → Supply) (f e w h : ℕ → ℕ) (shape : EndsAreNodes t.graph)
    (s : IsHeld t supply f e w h) (shut : IsShut t f h)
    (quiet : (v : ℕ) → v < t.graph.nodes → h v < t.graph.nodes → e v ≡ 0) where
  at_v : (v : ℕ) → v < t.graph.nodes
      → mark (side_of t.graph.nodes h) v *ℤ (supply v).sends
      ≡ mark (side_of t.graph.nodes h) v *ℤ net t.graph (as_flow f) v +ℤ pos (e v)
  at_v v l =
      split_at (side_of t.graph.nodes h v) (net t.graph (as_flow f) v) (supply v).sends (e v)
      (λ q. (let a : h v ≡ t.graph.nodes = grind (arith, nat_tests) in
      let b = s.balance v l in
      let c : w v ≡ 0 =
      elim (eqb_tells (w v) 0) [
        | inl z ↦ z.1
        | inr z ↦
            (let m = z.1 in
            let d = s.wants v l (omega (arith, m)) in
            absurd (omega (arith, a, d, l)))
      ] in
      omega (arith, ints, b, c)))
      (λ q. (let a = s.high v l in let b : h v ≢ t.graph.nodes =
      grind (arith, nat_tests) in quiet v l (omega (arith, a, b))))

  -- the shut side supplies what its leaving arcs can carry, and the excess that is left
  pub shut_supply : sum_to t.graph.nodes (λ v. mark (side_of t.graph.nodes h) v *ℤ (supply v).sends)
      ≡ sum_where t.graph.arcs (leaves t.graph (side_of t.graph.nodes h)) (as_flow t.cap) +ℤ sum_to
      t.graph.nodes (λ v. pos (e v))
  shut_supply =
      sum_to-same t.graph.nodes (λ v. mark (side_of t.graph.nodes h) v *ℤ (supply v).sends)
      (λ v. mark (side_of t.graph.nodes h) v *ℤ net t.graph (as_flow f) v +ℤ pos (e v)) at_v
      ∙ (sum_to-add t.graph.nodes
      (λ v. mark (side_of t.graph.nodes h) v *ℤ net t.graph (as_flow f) v) (λ v. pos (e v))
      ∙ ap (λ z. z +ℤ sum_to t.graph.nodes (λ v. pos (e v)))
      (shut_sum t f h shape s.within s.high shut))

  -- a barrier: where excess is left, the side supplies more than can leave it
  pub shut_barrier : (v : ℕ) → v < t.graph.nodes → 0 < e v
      → sum_where t.graph.arcs (leaves t.graph (side_of t.graph.nodes h)) (as_flow t.cap) <ℤ sum_to
      t.graph.nodes (λ x. mark (side_of t.graph.nodes h) x *ℤ (supply x).sends)
  shut_barrier v l has =
      let a = shut_supply in
      by_lt_z (pos 0) (sum_to t.graph.nodes (λ x. pos (e x)))
      (λ lt. omega (arith, ints, a, lt))
      (λ ge. absurd (let z = none_left t.graph.nodes e ge v l in omega (arith, z, has)))

  -- where the side supplies nothing, no excess is left
  pub shut_rests : ((v : ℕ) → v < t.graph.nodes → h v ≡ t.graph.nodes → (supply v).sends ≤ℤ pos 0)
      → (v : ℕ) → v < t.graph.nodes → e v ≡ 0
  shut_rests low =
      let a = shut_supply in
      let b : sum_to t.graph.nodes (λ v. mark (side_of t.graph.nodes h) v *ℤ (supply v).sends) ≤ℤ
      sum_to t.graph.nodes (λ v. pos 0) =
      sum_to-le t.graph.nodes (λ v. mark (side_of t.graph.nodes h) v *ℤ (supply v).sends)
      (λ v. pos 0)
      (λ v l. small (side_of t.graph.nodes h v) (supply v).sends
      (λ q. low v l (grind (arith, nat_tests)))) in
      let c = sum_to-zero t.graph.nodes (λ v. pos 0) (λ v l. refl) in
      let d = sum_to-le t.graph.arcs (λ k. pos 0)
      (λ k. cond (side_of t.graph.nodes h (t.graph.from k)
      && not (side_of t.graph.nodes h (t.graph.to k))) (as_flow t.cap k) (pos 0))
      (λ k l. cut_part (side_of t.graph.nodes h (t.graph.from k))
      (side_of t.graph.nodes h (t.graph.to k)) (t.cap k)) in
      let g = sum_to-zero t.graph.arcs (λ k. pos 0) (λ k l. refl) in
      none_left t.graph.nodes e (omega (arith, ints, a, b, c, d, g))
    where
      small : (b : Bool) (z : ℤ) → (b ≡ true → z ≤ℤ pos 0) → (cond b (pos 1) (pos 0) *ℤ z) ≤ℤ pos 0
      small true z h = let p = one_times z in let q = h refl in omega (arith, ints, p, q)
      small false z h = let p = zero-*ℤ z in omega (arith, ints, p)

part_least : (n k : ℕ) (g : ℕ → ℤ) → k < n → ((j : ℕ) → j < n → pos 0 ≤ℤ g j)
    → (pos 0 ≤ℤ sum_to n g) × (g k ≤ℤ sum_to n g)
part_least zero k g l h = absurd (omega (arith, l))
part_least (suc n) k g l h =
    let below = sum_to-le n (λ j. pos 0) g (λ j q. h j (omega (arith, q))) in
    let none = sum_to-zero n (λ j. pos 0) (λ j q. refl) in
    let last = h n (omega arith) in (
      omega (arith, ints, below, none, last),
      elim (eqb_tells k n) [
        | inl q ↦ rw q.1 (omega (arith, ints, below, none))
        | inr q ↦ (let m = q.1 in let a =
            (part_least n k g (omega (arith, l, m)) (λ j r. h j (omega (arith, r)))).1 in omega
            (arith, ints, a, last))
      ],
    )

leaving : (b d : Bool) (z : ℤ) → b ≡ true → d ≡ false → cond (b && not d) z (pos 0) ≡ z
leaving true false z p q = refl
leaving true true z p q = absurd cc
leaving false d z p q = absurd cc

module _ (t : Task) (supply : ℕ → Supply) (f e w h : ℕ → ℕ) (shape : EndsAreNodes t.graph)
    (s : IsHeld t supply f e w h) (shut : IsShut t f h)
    (quiet : (v : ℕ) → v < t.graph.nodes → h v < t.graph.nodes → e v ≡ 0) where
  -- an arc with an open bound (2^62) doesn't leave the shut side, where the supplies are smaller
  -- than that
  pub open_inside : sum_to t.graph.nodes (λ v.
      mark (side_of t.graph.nodes h) v *ℤ (supply v).sends) <ℤ pos (2 ^ 62) → (k : ℕ)
      → k < t.graph.arcs → 2 ^ 62 ≤ t.cap k →
      side_of t.graph.nodes h (t.graph.from k) ≡ true
      → side_of t.graph.nodes h (t.graph.to k) ≡ false → ⊥
  open_inside small k l open_cap b d =
      let a = shut_supply t supply f e w h shape s shut quiet in
      let rest = parts_not_neg t.graph.nodes e in
      let p = (part_least t.graph.arcs k
      (λ j. cond (side_of t.graph.nodes h (t.graph.from j)
      && not (side_of t.graph.nodes h (t.graph.to j))) (as_flow t.cap j) (pos 0)) l
      (λ j q. cut_part (side_of t.graph.nodes h (t.graph.from j))
      (side_of t.graph.nodes h (t.graph.to j)) (t.cap j))).1 in
      let is = leaving (side_of t.graph.nodes h (t.graph.from k))
      (side_of t.graph.nodes h (t.graph.to k)) (as_flow t.cap k) b d in
      absurd (omega (arith, ints, a, rest, p, is, small, open_cap))
