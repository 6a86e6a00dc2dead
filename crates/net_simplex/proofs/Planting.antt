-- The first tree is a state, and its lists of children are right.
use Rattle.std.proofs.Common.{◌≡◌, ◌≢◌, ◌⊎◌, inl, inr, ℕ, ◌+◌, ◌-◌, ◌<◌, ℤ, pos, refl, sym, ◌∙◌, ap}
use Rattle.std.proofs.Common.{arith}
use Rattle.std.proofs.lemmas.Int.{ints}
use Rattle.std.proofs.lemmas.Bool.Decides.{eqb_tells}
use Rattle.plain_certificates.proofs.Tables.{self_eqb}
use Rattle.plain_certificates.specs.Cheapest.{reduced_cost}
use Rattle.plain_certificates.specs.Rooms.{Joins, room_to}
use Rattle.pivot_flow.proofs.Sending.{differ}
use Rattle.pivot_flow.specs.Kids.{AreKids, Links}
use Rattle.net_simplex.specs.Planted.{IsPlanted}
use Rattle.pivot_flow.specs.State.{IsState, sends_of}
use Rattle.pivot_flow.specs.Tree.{IsHeld, IsHung, IsLow, Task, Tree}

module _ (t : Task) (cost : ℕ → ℤ) (h : Tree) (l : Links) (f : ℕ → ℕ) (y : ℕ
    → ℤ) (n m : ℕ) (p : IsPlanted t cost h l f y n m) where
  below_n : (v : ℕ) → IsLow t v → v < n
  below_n v lv =
      let a = p.nodes in
      let b = lv.0 in
      let off : v ≢ n = λ e. lv.1 (e ∙ sym p.root) in
      omega (arith, a, b, off)

  low_n : (v : ℕ) → v < n → IsLow t v
  low_n v q = (
    (let a = p.nodes in omega (arith, a, q)),
    λ e. (let b = e
        ∙ p.root in absurd (omega (arith, b, q))),
  )

  planted_hung : IsHung t h
  planted_hung = record {
    top = (let a = p.nodes in let b = p.root in omega (arith, a, b));
    top_depth = ap h.depth p.root ∙ p.top;
    parent = λ v lv. (let a = p.parent v (below_n v lv) in let b = p.nodes in omega (arith, a, b));
    arc = λ v lv. (let q = below_n v lv in let a = p.arc v q in let b = p.arcs in
        omega (arith, a, b, q));
    joins = λ v lv. (let q = below_n v lv in rw (p.arc v q, p.parent v q) (p.joins v q));
    falls = λ v lv. (let q = below_n v lv in let a = p.depth v q in let b =
        ap h.depth (p.parent v q) ∙ p.top in omega (arith, a, b));
  }

  first_room : (v k : ℕ) → v < n → k ≡ m + v → Joins t.net k v n → 0 < room_to t.net t.cap f k v
  first_room v k q e (inl j) =
      let some = p.carries v q (ap t.net.from (sym e) ∙ j.0) in
      rw (j.0, self_eqb v, e) some
  first_room v k q e (inr j) =
      let some = p.room v q (ap t.net.from (sym e) ∙ j.0) in
      let off : v ≢ n = omega (arith, q) in
      rw (j.0, differ n v off, e) (omega (arith, some))

  planted_held : IsHeld t (sends_of t f) h f
  planted_held = record {
    within = λ k q. p.within k (let a = p.arcs in omega (arith, a, q));
    met = λ v q. refl;
    rest = λ k q.
        elim (eqb_tells (m - k) 0) [
          | inl e ↦
              (let z = e.1 in
              let a = p.arcs in
              let v = k - m in
              let lt : v < n = omega (arith, z, a, q) in
              inr (v, (low_n v lt, p.arc v lt ∙ omega (arith, z))))
          | inr e ↦ (let z = e.1 in inl (inl (p.still k (omega (arith, z)))))
        ];
    sends = λ v lv. (let q = below_n v lv in
        first_room v (h.arc v) q (p.arc v q) (rw (p.arc v q) (p.joins v q)));
  }

  first_price : (v : ℕ) → v < n → Joins t.net (m + v) v n
      → reduced_cost t.net cost y (m + v) ≡ pos 0
  first_price v q (inl j) = (let a = p.price_up v q j.0 in let b = p.top_price in
      rw (j.0, j.1) (omega (arith, ints, a, b)))
  first_price v q (inr j) = (let a = p.price_down v q j.0 in let b = p.top_price in
      rw (j.0, j.1) (omega (arith, ints, a, b)))

  -- the first tree is a state
  pub planted_state : IsState t (sends_of t f) cost h f y
  planted_state = record {
    hung = planted_hung;
    held = planted_held;
    priced = record {
      top = ap y p.root ∙ p.top_price;
      zero = λ v lv. (let q = below_n v lv in ap (reduced_cost t.net cost y) (p.arc v q)
          ∙ first_price v q (p.joins v q));
    };
  }

  node_cases : (v : ℕ) → v < t.net.nodes → (v ≡ n) ⊎ (v < n)
  node_cases v q = elim (eqb_tells v n) [
    | inl e ↦ inl e.1
    | inr e ↦
        inr (let z = e.1 in let a = p.nodes in omega (arith, z, a, q))
  ]

  prev_cases : (v : ℕ) → v < n → ((v ≡ 0) × (l.prev v ≡ n)) ⊎ ((0 < v) × (l.prev v ≡ v - 1))
  prev_cases v q =
      elim (eqb_tells v 0) [
        | inl e ↦ inl (e.1, ap l.prev e.1 ∙ p.prev_zero (omega (arith, q)))
        | inr e ↦ (let z = e.1 in let is : (v - 1) + 1 ≡ v = omega (arith, z) in
            inr (omega (arith, z), ap l.prev (sym is) ∙ p.prev_more (v - 1) (omega (arith, is, q))))
      ]

  -- and its nodes stand in one list
  pub planted_kids : AreKids t l h.parent
  planted_kids = record {
    nodes = λ v q.
        (let a = p.nodes in
        elim (node_cases v q) [
          | inl e ↦ (let x = ap l.first e
              ∙ p.first_top in let b = p.next_top in let c = p.prev_top in let bn = ap l.next e in
              let cn = ap l.prev e in
              (omega (arith, x, a), (omega (arith, b, bn, a), omega (arith, c, cn, a))))
          | inr lt ↦
              (let x = p.first_low v lt in
              let b = p.next_low v lt in (
                omega (arith, x, a),
                (
                  omega (arith, b, lt, a),
                  elim (prev_cases v lt) [
                    | inl z ↦
                        (let c = z.1 in omega (arith, c, a))
                    | inr z ↦
                        (let c = z.1 in omega (arith, c, lt, a))
                  ],
                ),
              ))
        ]);
    first = λ u q ne.
        elim (node_cases u q) [
          | inl e ↦
              (let x = ap l.first e ∙ p.first_top in
              let some : 0 < n = elim (eqb_tells n 0) [
                | inl z ↦
                    absurd (ne (x ∙ (sym z.1 ∙ sym p.root)))
                | inr z ↦
                    (let w = z.1 in omega (arith, w))
              ] in (
                ne,
                (
                  ap h.parent x ∙ (p.parent 0 some ∙ sym e),
                  ap l.prev x
                      ∙ (p.prev_zero some ∙ sym p.root),
                ),
              ))
          | inr lt ↦ absurd (ne (p.first_low u lt ∙ sym p.root))
        ];
    next = λ v lv off ne.
        (let q = below_n v lv in
        let is = p.next_low v q in
        let more : v + 1 < n = (let z : v + 1 ≢ n = λ e. ne (is ∙ (e ∙ sym p.root)) in
        omega (arith, z, q)) in (
          ne,
          (
            ap h.parent is ∙ (p.parent (v + 1) more ∙ sym (p.parent v q)),
            ap l.prev is
                ∙ p.prev_more v more,
          ),
        ));
    prev = λ v lv off ne.
        (let q = below_n v lv in
        elim (prev_cases v q) [
          | inl z ↦ absurd (ne (z.1 ∙ sym p.root))
          | inr z ↦ (let some = z.0 in (
            ne,
            ap l.next z.1
                ∙ (p.next_low (v - 1) (omega (arith, q)) ∙ omega (arith, some)),
          ))
        ]);
    least = λ v lv off r.
        (let q = below_n v lv in
        elim (prev_cases v q) [
          | inl z ↦ ap l.first (p.parent v q) ∙ (p.first_top ∙ sym z.0)
          | inr z ↦ (let a = sym z.1 ∙ (r ∙ p.root) in absurd (omega (arith, a, q)))
        ]);
    place = λ v. v;
    grows = λ v lv off ne.
        (let q = below_n v lv in
        elim (prev_cases v q) [
          | inl z ↦ absurd (ne (z.1 ∙ sym p.root))
          | inr z ↦ (let a = z.1 in let b = z.0 in omega (arith, a, b))
        ]);
  }
