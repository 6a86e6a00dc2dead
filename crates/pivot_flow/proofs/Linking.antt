-- A node taken out of its list of children, and put into another.
use Rattle.std.proofs.Common.{◌≡◌, ◌≢◌, ◌⊎◌, inl, inr, ℕ, ◌+◌, ◌<◌, true, false, eqb, cond, refl}
use Rattle.std.proofs.Common.{sym, ◌∙◌, ap, arith}
use Rattle.std.proofs.lemmas.Bool.Decides.{nat_tests, eqb_tells}
use Rattle.plain_certificates.proofs.Tables.{self_eqb, set_at-here, set_at-other}
use Rattle.plain_certificates.specs.Tables.{set_at}
use Rattle.pivot_flow.proofs.Sending.{differ}
use Rattle.pivot_flow.specs.Kids.{AreKids, AreKidsBut, Links}
use Rattle.pivot_flow.specs.Tree.{IsLow, Task}

-- the links without v: the slots of the root are written freely
abbrev pub without : Task → Links → (ℕ → ℕ) → ℕ → Links
without t l p v = record {
  first = cond (eqb (l.prev v) t.root) (set_at l.first (p v) (l.next v)) l.first;
  next = set_at l.next (l.prev v) (l.next v);
  prev = set_at l.prev (l.next v) (l.prev v);
}

-- the links with v put in front of the children of u
abbrev pub before_all : Task → Links → ℕ → ℕ → Links
before_all t l v u = record {
  first = set_at l.first u v;
  next = set_at l.next v (l.first u);
  prev = set_at (set_at l.prev (l.first u) v) v t.root;
}

pub cond_true : (f g : ℕ → ℕ) (a b : ℕ) → a ≡ b → cond (eqb a b) f g ≡ f
cond_true f g a b e = (let q : eqb a b ≡ true = grind (arith, nat_tests, e) in rw q)

pub cond_false : (f g : ℕ → ℕ) (a b : ℕ) → a ≢ b → cond (eqb a b) f g ≡ g
cond_false f g a b e = (let q : eqb a b ≡ false = grind (arith, nat_tests, e) in rw q)

module _ (t : Task) (l : Links) (p : ℕ → ℕ) (v : ℕ) (k : AreKids t l p) (low : IsLow t v) where
  first_cases : (u : ℕ) → ((l.prev v ≡ t.root)
      × ((u ≡ p v) × ((without t l p v).first u ≡ l.next v)))
      ⊎ (((l.prev v ≡ t.root) → u ≢ p v) × ((without t l p v).first u ≡ l.first u))
  first_cases u =
      elim (eqb_tells (l.prev v) t.root) [
        | inl e ↦ elim (eqb_tells u (p v)) [
          | inl d ↦
              inl (
                e.1,
                (
                  d.1,
                  rw (
                    cond_true (set_at l.first (p v) (l.next v)) l.first (l.prev v) t.root e.1,
                    d.1,
                  ) (set_at-here l.first (p v) (l.next v)),
                ),
              )
          | inr d ↦
              inr (
                (λ _. d.1),
                rw (cond_true (set_at l.first (p v) (l.next v)) l.first (l.prev v)
                    t.root e.1) (set_at-other l.first (p v) (l.next v) u d.1),
              )
        ]
        | inr e ↦
            inr (
              (λ z. absurd (e.1 z)),
              rw (cond_false (set_at l.first (p v) (l.next v)) l.first
                  (l.prev v) t.root e.1),
            )
      ]

  next_at : (w : ℕ) → w ≡ l.prev v → (without t l p v).next w ≡ l.next v
  next_at w e = rw e (set_at-here l.next (l.prev v) (l.next v))

  next_off : (w : ℕ) → w ≢ l.prev v → (without t l p v).next w ≡ l.next w
  next_off w e = set_at-other l.next (l.prev v) (l.next v) w e

  prev_at : (w : ℕ) → w ≡ l.next v → (without t l p v).prev w ≡ l.prev v
  prev_at w e = rw e (set_at-here l.prev (l.next v) (l.prev v))

  prev_off : (w : ℕ) → w ≢ l.next v → (without t l p v).prev w ≡ l.prev w
  prev_off w e = set_at-other l.prev (l.next v) (l.prev v) w e

  v_next : l.next v ≢ t.root → (p (l.next v) ≡ p v) × (l.prev (l.next v) ≡ v)
  v_next n = (k.next v low low.1 n).1

  v_prev : l.prev v ≢ t.root → l.next (l.prev v) ≡ v
  v_prev n = (k.prev v low low.1 n).1

  not_own_next : l.next v ≢ t.root → l.prev v ≢ v → l.next v ≢ v
  not_own_next n m e = m (let q = (v_next n).1 in ap l.prev (sym e) ∙ q)

  root_prev : l.prev v ≡ t.root → l.prev v ≢ v
  root_prev r e = low.1 (sym e ∙ r)

  pub unlinked : AreKidsBut t (without t l p v) p v
  unlinked = record {
    nodes = λ w lw. (
      elim (first_cases w) [
        | inl x ↦ rw x.1.1 (k.nodes v low.0).1.0
        | inr x ↦
            rw x.1 (k.nodes w lw).0
      ],
      (
        elim (eqb_tells w (l.prev v)) [
          | inl e ↦ rw (next_at w e.1) (k.nodes v low.0).1.0
          | inr e ↦
              rw (next_off w e.1) (k.nodes w lw).1.0
        ],
        elim (eqb_tells w (l.next v)) [
          | inl e ↦ rw (prev_at w e.1) (k.nodes v low.0).1.1
          | inr e ↦
              rw (prev_off w e.1) (k.nodes w lw).1.1
        ],
      ),
    );
    first = λ u lu ne.
        elim (first_cases u) [
          | inl x ↦
              (let is = x.1.1 in
              let n : l.next v ≢ t.root = λ z. ne (is ∙ z) in
              let own = not_own_next n (root_prev x.0) in (
                (λ z. own (sym is ∙ z)),
                (
                  ap p is
                      ∙ ((v_next n).0 ∙ sym x.1.0),
                  ap (without t l p v).prev is
                      ∙ (prev_at (l.next v) refl ∙ x.0),
                ),
              ))
          | inr x ↦
              (let is = x.1 in
              let n : l.first u ≢ t.root = λ z. ne (is ∙ z) in
              let old = (k.first u lu n).1 in
              let off : l.first u ≢ v = λ z. x.0 (ap l.prev (sym z) ∙ old.1) (sym old.0 ∙ ap p z) in
              let apart : l.first u ≢ l.next v =
              λ z. low.1 (let m : l.next v ≢ t.root = λ y. n (z ∙ y) in let q = (v_next m).1 in
              sym q ∙ (ap l.prev (sym z) ∙ old.1)) in (
                (λ z. off (sym is ∙ z)),
                (
                  ap p is ∙ old.0,
                  ap (without t l p v).prev is
                      ∙ (prev_off (l.first u) apart ∙ old.1),
                ),
              ))
        ];
    next = λ w lw off ne.
        elim (eqb_tells w (l.prev v)) [
          | inl e ↦
              (let is = next_at w e.1 in
              let n : l.next v ≢ t.root = λ z. ne (is ∙ z) in
              let back : l.prev v ≢ t.root = λ z. lw.1 (e.1 ∙ z) in
              let own = not_own_next n (λ z. off (e.1 ∙ z)) in
              let to_v : l.next w ≡ v = ap l.next e.1 ∙ v_prev back in
              let same = (k.next w lw lw.1 (λ z. low.1 (sym to_v ∙ z))).1.0 in (
                (λ z. own (sym is ∙ z)),
                (
                  ap p is
                      ∙ ((v_next n).0 ∙ (ap p (sym to_v) ∙ same)),
                  ap (without t l p v).prev is
                      ∙ (prev_at (l.next v) refl ∙ sym e.1),
                ),
              ))
          | inr e ↦
              (let is = next_off w e.1 in
              let n : l.next w ≢ t.root = λ z. ne (is ∙ z) in
              let old = (k.next w lw lw.1 n).1 in
              let skip : l.next w ≢ v = λ z. e.1 (sym old.1 ∙ ap l.prev z) in
              let apart : l.next w ≢ l.next v =
              λ z. off (let m : l.next v ≢ t.root = λ y. n (z ∙ y) in sym old.1
              ∙ (ap l.prev z ∙ (v_next m).1)) in (
                (λ z. skip (sym is ∙ z)),
                (
                  ap p is ∙ old.0,
                  ap (without t l p v).prev is
                      ∙ (prev_off (l.next w) apart ∙ old.1),
                ),
              ))
        ];
    prev = λ w lw off ne.
        elim (eqb_tells w (l.next v)) [
          | inl e ↦
              (let is = prev_at w e.1 in
              let back : l.prev v ≢ t.root = λ z. ne (is ∙ z) in
              let own : l.prev v ≢ v = λ z. off (e.1 ∙ (ap l.next (sym z) ∙ v_prev back)) in (
                (λ z. own (sym is ∙ z)),
                ap (without t l p v).next is
                    ∙ (next_at (l.prev v) refl ∙ sym e.1),
              ))
          | inr e ↦
              (let is = prev_off w e.1 in
              let n : l.prev w ≢ t.root = λ z. ne (is ∙ z) in
              let old = (k.prev w lw lw.1 n).1 in
              let skip : l.prev w ≢ v = λ z. e.1 (sym old ∙ ap l.next z) in
              let apart : l.prev w ≢ l.prev v =
              λ z. off (let m : l.prev v ≢ t.root = λ y. n (z ∙ y) in sym old
              ∙ (ap l.next z ∙ v_prev m)) in (
                (λ z. skip (sym is ∙ z)),
                ap (without t l p v).next is
                    ∙ (next_off (l.prev w) apart ∙ old),
              ))
        ];
    least = λ w lw off r.
        elim (eqb_tells w (l.next v)) [
          | inl e ↦
              (let is : l.prev v ≡ t.root = sym (prev_at w e.1) ∙ r in
              let n : l.next v ≢ t.root = λ z. lw.1 (e.1 ∙ z) in
              elim (first_cases (p w)) [
                | inl x ↦ x.1.1 ∙ sym e.1
                | inr x ↦ absurd (x.0 is (ap p e.1 ∙ (v_next n).0))
              ])
          | inr e ↦
              (let old = k.least w lw lw.1 (sym (prev_off w e.1) ∙ r) in
              elim (first_cases (p w)) [
                | inl x ↦ absurd (off (sym old ∙ (ap l.first x.1.0 ∙ k.least v low low.1 x.0)))
                | inr x ↦ x.1 ∙ old
              ])
        ];
    place = k.place;
    grows = λ w lw off ne.
        elim (eqb_tells w (l.next v)) [
          | inl e ↦
              (let is = prev_at w e.1 in
              let back : l.prev v ≢ t.root = λ z. ne (is ∙ z) in
              let n : l.next v ≢ t.root = λ z. lw.1 (e.1 ∙ z) in
              let up = k.grows v low low.1 back in
              let q = (v_next n).1 in
              let more = k.grows (l.next v) ((k.nodes v low.0).1.0, n) n (λ z. low.1 (sym q ∙ z)) in
              let here = ap k.place q in
              rw (is, e.1) (omega (arith, up, more, here)))
          | inr e ↦ (let is = prev_off w e.1 in rw is (k.grows w lw lw.1 (λ z. ne (is ∙ z))))
        ];
  }

module _ (t : Task) (l : Links) (p : ℕ → ℕ) (v u : ℕ) (k : AreKidsBut t l p v) (low : IsLow t v)
    (lu : u < t.net.nodes)
    (top : t.root < t.net.nodes) where
  prev_v : (before_all t l v u).prev v ≡ t.root
  prev_v = set_at-here (set_at l.prev (l.first u) v) v t.root

  prev_f : (w : ℕ) → w ≢ v → w ≡ l.first u → (before_all t l v u).prev w ≡ v
  prev_f w n e = set_at-other (set_at l.prev (l.first u) v) v t.root w n
      ∙ rw e (set_at-here l.prev (l.first u) v)

  prev_rest : (w : ℕ) → w ≢ v → w ≢ l.first u → (before_all t l v u).prev w ≡ l.prev w
  prev_rest w n e = set_at-other (set_at l.prev (l.first u) v) v t.root w n
      ∙ set_at-other l.prev (l.first u) v w e

  next_v : (before_all t l v u).next v ≡ l.first u
  next_v = set_at-here l.next v (l.first u)

  next_rest : (w : ℕ) → w ≢ v → (before_all t l v u).next w ≡ l.next w
  next_rest w n = set_at-other l.next v (l.first u) w n

  first_u : (before_all t l v u).first u ≡ v
  first_u = set_at-here l.first u v

  first_rest : (a : ℕ) → a ≢ u → (before_all t l v u).first a ≡ l.first a
  first_rest a n = set_at-other l.first u v a n

  p_v : set_at p v u v ≡ u
  p_v = set_at-here p v u

  p_rest : (w : ℕ) → w ≢ v → set_at p v u w ≡ p w
  p_rest w n = set_at-other p v u w n

  pub linked : AreKids t (before_all t l v u) (set_at p v u)
  linked = record {
    nodes = λ w lw. (
      elim (eqb_tells w u) [
        | inl e ↦ rw (e.1, first_u) low.0
        | inr e ↦
            rw (first_rest w e.1) (k.nodes w lw).0
      ],
      (
        elim (eqb_tells w v) [
          | inl e ↦ rw (e.1, next_v) (k.nodes u lu).0
          | inr e ↦
              rw (next_rest w e.1) (k.nodes w lw).1.0
        ],
        elim (eqb_tells w v) [
          | inl e ↦ rw (e.1, prev_v) top
          | inr e ↦ elim (eqb_tells w (l.first u)) [
            | inl d ↦ rw (prev_f w e.1 d.1) low.0
            | inr d ↦
                rw (prev_rest w e.1 d.1) (k.nodes w lw).1.1
          ]
        ],
      ),
    );
    first = λ a la ne.
        elim (eqb_tells a u) [
          | inl e ↦
              (let is : (before_all t l v u).first a ≡ v = ap (before_all t l v u).first e.1
              ∙ first_u in (
                ne,
                (
                  ap (set_at p v u) is ∙ (p_v ∙ sym e.1),
                  ap (before_all t l v u).prev is
                      ∙ prev_v,
                ),
              ))
          | inr e ↦
              (let is = first_rest a e.1 in
              let n : l.first a ≢ t.root = λ z. ne (is ∙ z) in
              let old = k.first a la n in
              let apart : l.first a ≢ l.first u =
              λ z. e.1 (let m : l.first u ≢ t.root = λ y. n (z ∙ y) in sym old.1.0
              ∙ (ap p z ∙ (k.first u lu m).1.0)) in (
                ne,
                (
                  ap (set_at p v u) is ∙ (p_rest (l.first a) old.0
                      ∙ old.1.0),
                  ap (before_all t l v u).prev is
                      ∙ (prev_rest (l.first a) old.0 apart ∙ old.1.1),
                ),
              ))
        ];
    next = λ w lw off ne.
        elim (eqb_tells w v) [
          | inl e ↦
              (let is : (before_all t l v u).next w ≡ l.first u = ap (before_all t l v u).next e.1
              ∙ next_v in
              let n : l.first u ≢ t.root = λ z. ne (is ∙ z) in
              let old = k.first u lu n in (
                ne,
                (
                  ap (set_at p v u) is ∙ (p_rest (l.first u) old.0
                      ∙ (old.1.0 ∙ (sym p_v ∙ ap (set_at p v u) (sym e.1)))),
                  ap
                      (before_all t l v u).prev is ∙ (prev_f (l.first u) old.0 refl ∙ sym e.1),
                ),
              ))
          | inr e ↦
              (let is = next_rest w e.1 in
              let n : l.next w ≢ t.root = λ z. ne (is ∙ z) in
              let old = k.next w lw e.1 n in
              let apart : l.next w ≢ l.first u =
              λ z. off (let m : l.first u ≢ t.root = λ y. n (z ∙ y) in sym old.1.1
              ∙ (ap l.prev z ∙ (k.first u lu m).1.1)) in (
                ne,
                (
                  ap (set_at p v u) is ∙ (p_rest (l.next w) old.0
                      ∙ (old.1.0 ∙ sym (p_rest w e.1))),
                  ap (before_all t l v u).prev is
                      ∙ (prev_rest (l.next w) old.0 apart ∙ old.1.1),
                ),
              ))
        ];
    prev = λ w lw off ne.
        elim (eqb_tells w v) [
          | inl e ↦ absurd (ne (ap (before_all t l v u).prev e.1 ∙ prev_v))
          | inr e ↦
              elim (eqb_tells w (l.first u)) [
                | inl d ↦ (let is = prev_f w e.1 d.1 in
                    (ne, ap (before_all t l v u).next is ∙ (next_v ∙ sym d.1)))
                | inr d ↦
                    (let is = prev_rest w e.1 d.1 in
                    let old = k.prev w lw e.1 (λ z. ne (is ∙ z)) in
                    (ne, ap (before_all t l v u).next is ∙ (next_rest (l.prev w) old.0 ∙ old.1)))
              ]
        ];
    least = λ w lw off r.
        elim (eqb_tells w v) [
          | inl e ↦ ap (before_all t l v u).first (ap (set_at p v u) e.1 ∙ p_v)
              ∙ (first_u ∙ sym e.1)
          | inr e ↦
              elim (eqb_tells w (l.first u)) [
                | inl d ↦ absurd (low.1 (sym (prev_f w e.1 d.1) ∙ r))
                | inr d ↦
                    (let old = k.least w lw e.1 (sym (prev_rest w e.1 d.1) ∙ r) in
                    let apart : p w ≢ u = λ z. d.1 (sym old ∙ ap l.first z) in
                    ap (before_all t l v u).first (p_rest w e.1) ∙ (first_rest (p w) apart ∙ old))
              ]
        ];
    place = λ w. cond (eqb w v) 0 (k.place w + 1);
    grows = λ w lw off ne.
        elim (eqb_tells w v) [
          | inl e ↦ absurd (ne (ap (before_all t l v u).prev e.1 ∙ prev_v))
          | inr e ↦
              elim (eqb_tells w (l.first u)) [
                | inl d ↦ (let is = prev_f w e.1 d.1 in let q = self_eqb v in
                    rw (is, q, e.0) (omega arith))
                | inr d ↦
                    (let is = prev_rest w e.1 d.1 in
                    let n : l.prev w ≢ t.root = λ z. ne (is ∙ z) in
                    let old = (k.prev w lw e.1 n).0 in
                    let grow = k.grows w lw e.1 n in
                    let q = differ (l.prev w) v (λ z. old (sym z)) in
                    rw (is, q, e.0) (omega (arith, grow)))
              ]
        ];
  }
