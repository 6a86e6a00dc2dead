-- What the walk has seen and done.
use Rattle.std.proofs.Common.{◌≡◌, ◌≢◌, ◌⊎◌, inl, inr, ℕ, ◌+◌, ◌<◌, ◌≤◌, Bool, true, false, eqb}
use Rattle.std.proofs.Common.{cond, ℤ, refl, sym, ◌∙◌, ap, arith}
use Rattle.std.proofs.lemmas.Bool.Decides.{eqb_tells}
use Rattle.plain_certificates.proofs.Pigeons.{pigeons}
use Rattle.plain_certificates.proofs.Tables.{self_eqb, set_at-here, set_at-other}
use Rattle.plain_certificates.specs.Tables.{set_at}
use Rattle.pivot_flow.proofs.Bools.{bool_cases, true_not_false}
use Rattle.pivot_flow.proofs.Sending.{differ}
use Rattle.pivot_flow.specs.Kids.{Links}
use Rattle.pivot_flow.specs.Stroll.{IsStroll}
use Rattle.pivot_flow.specs.Tree.{IsLow, Task}

-- a mark with one node more
unfoldable pub also : (ℕ → Bool) → ℕ → ℕ → Bool
also m c u = cond (eqb u c) true (m u)

pub also_here : (m : ℕ → Bool) (c : ℕ) → also m c c ≡ true
unfolding also
also_here m c = rw (self_eqb c)

pub also_old : (m : ℕ → Bool) (c u : ℕ) → m u ≡ true → also m c u ≡ true
unfolding also
also_old m c u h = elim (eqb_tells u c) [ inl e ↦ rw e.0 | inr e ↦ rw (e.0, h) ]

pub also_cases : (m : ℕ → Bool) (c u : ℕ) → also m c u ≡ true → (u ≡ c) ⊎ ((u ≢ c) × (m u ≡ true))
unfolding also
also_cases m c u h = elim (eqb_tells u c) [ inl e ↦ inl e.1 | inr e ↦ inr (e.1, rw e.0 at h) ]

pub also_off : (m : ℕ → Bool) (c u : ℕ) → also m c u ≡ false → (u ≢ c) × (m u ≡ false)
unfolding also
also_off m c u h = elim (eqb_tells u c) [
  | inl e ↦ absurd (true_not_false (rw e.0 at h))
  | inr e ↦
      (e.1, rw e.0 at h)
]

pub apart_by : (m : ℕ → Bool) (u v : ℕ) → m u ≡ true → m v ≡ false → u ≢ v
apart_by m u v a b e = true_not_false (sym a ∙ (ap m e ∙ b))

-- ---- one more node is reached
module _ (t : Task) (l : Links) (p q d₀ d : ℕ → ℕ) (y₀ y : ℕ → ℤ) (inner outer : ℕ) (by : ℤ)
    (head tail w stage : ℕ)
    (st : IsStroll t l p q d₀ d y₀ y inner outer by head tail w stage) where
  pub tail_small : tail < t.net.nodes
  tail_small =
      let m = pigeons t.net.nodes (tail + 1) (set_at q tail inner)
      (λ v. cond (eqb v inner) tail (st.place v))
      (λ k lt. elim (eqb_tells k tail) [
        | inl e ↦ rw (e.0, e.1, self_eqb inner) (st.cut.low.0, refl)
        | inr e ↦
            (let n = e.1 in
            let small : k < tail = omega (arith, lt, n) in
            let here = st.listed k small in
            let node = st.node (q k) here.0 in
            rw (e.0, differ (q k) inner (λ z. node.1.1 (sym z))) (node.0.0, here.1))
      ]) in
      omega (arith, m)

  -- c is reached, as the first child or the neighbour that was due
  pub pushed_one : (c more : ℕ) → IsLow t c → st.cut.part c ≡ true → c ≢ inner → st.seen c ≡ false
      → st.done (p c) ≡ true → stage ≤ more →
      (l.prev c ≡ t.root → (p c ≢ w) ⊎ (0 < more))
      → (l.prev c ≢ t.root → (st.done (l.prev c) ≡ true) × ((l.prev c ≢ w) ⊎ (1 < more))) →
      ((u : ℕ) → st.done u ≡ true → l.first u ≢ t.root → ((u ≡ w) × (more < 1))
      ⊎ ((st.seen (l.first u) ≡ true) ⊎ (l.first u ≡ c))) →
      ((u : ℕ) → st.done u ≡ true → u ≢ inner → l.next u ≢ t.root → ((u ≡ w) × (more < 2))
      ⊎ ((st.seen (l.next u) ≡ true) ⊎ (l.next u ≡ c))) →
      IsStroll t l p (set_at q tail c) d₀ d y₀ y inner outer by head (tail + 1) w more
  pushed_one c more low part off fresh up le first_by next_by kids sibs =
      let ne : (u : ℕ) → st.seen u ≡ true → u ≢ c = λ u h. apart_by st.seen u c h fresh in
      let place' = λ (u : ℕ). cond (eqb u c) tail (st.place u) in
      let place_c : place' c ≡ tail = rw (self_eqb c) in
      let place_old : (u : ℕ) → u ≢ c
      → place' u ≡ st.place u = λ u h. (rw (differ u c (λ z. h (sym z)))) in
      let ordered : head ≤ tail = st.ordered in
      let not_done : st.done c ≡ true
      → ⊥ = λ h. elim (st.past c h) [
        | inl e ↦ off e
        | inr e ↦
            true_not_false (sym e.0 ∙ fresh)
      ] in
      let reached : (u : ℕ) → (st.seen u ≡ true) ⊎ (u ≡ c)
      → also st.seen c u ≡ true = λ u h. elim h [
        | inl z ↦ also_old st.seen c u z
        | inr z ↦
            ap (also st.seen c) z ∙ also_here st.seen c
      ] in
      record {
        cut = st.cut;
        links = st.links;
        seen = also st.seen c;
        done = st.done;
        place = place';
        ordered = omega (arith, ordered);
        listed = λ k lt. elim (eqb_tells k tail) [
          | inl e ↦ rw (e.0, e.1) (also_here st.seen c, place_c)
          | inr e ↦
              (let n = e.1 in
              let small : k < tail = omega (arith, lt, n) in
              let here = st.listed k small in
              rw e.0 (also_old st.seen c (q k) here.0, place_old (q k) (ne (q k) here.0) ∙ here.1))
        ];
        found = λ u h. elim (also_cases st.seen c u h) [
          | inl e ↦ rw (e, place_c) (omega arith, set_at-here q tail c)
          | inr e ↦
              (let here = st.found u e.1 in
              let lt = here.0 in
              let far : st.place u ≢ tail = omega (arith, lt) in
              rw (place_old u e.0) (
                omega (arith, lt),
                set_at-other q tail c (st.place u) far
                    ∙ here.1,
              ))
        ];
        node = λ u h. elim (also_cases st.seen c u h) [
          | inl e ↦ rw e (low, (part, off))
          | inr e ↦
              st.node u e.1
        ];
        begins = st.begins;
        past = λ u h. elim (st.past u h) [
          | inl e ↦ inl e
          | inr e ↦
              inr (also_old st.seen c u e.0, rw (place_old u (ne u e.0)) e.1)
        ];
        dealt = λ u h lt. elim (also_cases st.seen c u h) [
          | inl e ↦ absurd (let a = ap place' e ∙ place_c in omega (arith, a, lt, ordered))
          | inr e ↦ st.dealt u e.1 (rw (place_old u e.0) at lt)
        ];
        up = λ u h. elim (also_cases st.seen c u h) [
          | inl e ↦
              rw e (
                up,
                elim (st.past (p c) up) [
                  | inl z ↦ inl z
                  | inr z ↦
                      inr (let a = z.1 in rw (place_c, place_old (p c) (ne (p c) z.0))
                      (omega (arith, a, ordered)))
                ],
              )
          | inr e ↦
              (let here = st.up u e.1 in (
                here.0,
                elim here.1 [
                  | inl z ↦ inl z
                  | inr z ↦ elim (st.past (p u) here.0) [
                    | inl y ↦ inl y
                    | inr y ↦
                        inr (rw (place_old u e.0, place_old (p u) (ne (p u) y.0)) z)
                  ]
                ],
              ))
        ];
        first_by = λ u h r. elim (also_cases st.seen c u h) [
          | inl e ↦ rw e (up, first_by (rw e at r))
          | inr e ↦ (let old = st.first_by u e.1 r in
              (old.0, elim old.1 [ inl z ↦ inl z | inr z ↦ inr (omega (arith, z, le)) ]))
        ];
        next_by = λ u h r. elim (also_cases st.seen c u h) [
          | inl e ↦ rw e (next_by (λ z. r (ap l.prev e ∙ z)))
          | inr e ↦ (let old = st.next_by u e.1 r in
              (old.0, elim old.1 [ inl z ↦ inl z | inr z ↦ inr (omega (arith, z, le)) ]))
        ];
        kids = λ u h r. elim (kids u h r) [ inl e ↦ inl e | inr e ↦ inr (reached (l.first u) e) ];
        sibs = λ u h on r. elim (sibs u h on r) [
          | inl e ↦ inl e
          | inr e ↦
              inr (reached (l.next u) e)
        ];
        depth = st.depth;
        high = λ u h dn. elim (also_cases st.seen c u h) [
          | inl e ↦ absurd (not_done (rw e at dn))
          | inr e ↦ rw (place_old u e.0) (st.high u e.1 dn)
        ];
        high_inner = st.high_inner;
        price = st.price;
        same = st.same;
      }

  -- nothing was due
  pub skipped_one : (more : ℕ) → stage ≤ more →
      ((u : ℕ) → st.done u ≡ true → l.first u ≢ t.root → ((u ≡ w) × (more < 1))
      ⊎ (st.seen (l.first u) ≡ true)) →
      ((u : ℕ) → st.done u ≡ true → u ≢ inner → l.next u ≢ t.root → ((u ≡ w) × (more < 2))
      ⊎ (st.seen (l.next u) ≡ true)) →
      IsStroll t l p q d₀ d y₀ y inner outer by head tail w more
  skipped_one more le kids sibs = record {
    cut = st.cut;
    links = st.links;
    seen = st.seen;
    done = st.done;
    place = st.place;
    ordered = st.ordered;
    listed = st.listed;
    found = st.found;
    node = st.node;
    begins = st.begins;
    past = st.past;
    dealt = st.dealt;
    up = st.up;
    first_by = λ u h r. (let old = st.first_by u h r in
        (old.0, elim old.1 [ inl z ↦ inl z | inr z ↦ inr (omega (arith, z, le)) ]));
    next_by = λ u h r. (let old = st.next_by u h r in
        (old.0, elim old.1 [ inl z ↦ inl z | inr z ↦ inr (omega (arith, z, le)) ]));
    kids = kids;
    sibs = sibs;
    depth = st.depth;
    high = st.high;
    high_inner = st.high_inner;
    price = st.price;
    same = st.same;
  }

  -- the part has what is done
  pub part_done : (v : ℕ) → st.done v ≡ true → st.cut.part v ≡ true
  part_done v h = elim (st.past v h) [
    | inl e ↦ ap st.cut.part e
        ∙ st.cut.has
    | inr e ↦ (st.node v e.0).1.0
  ]

  pub node_done : (v : ℕ) → st.done v ≡ true → IsLow t v
  node_done v h = elim (st.past v h) [ inl e ↦ rw e st.cut.low | inr e ↦ (st.node v e.0).0 ]

  not_under : (c : ℕ) → st.done (p c) ≡ true → c ≢ inner
  not_under c h e = apart_by st.cut.part (p c) outer (part_done (p c) h) st.cut.lacks (ap p e
      ∙ st.cut.hangs)

-- ---- the first child of the node that is dealt with
module _ (t : Task) (l : Links) (p q d₀ d : ℕ → ℕ) (y₀ y : ℕ → ℤ) (inner outer : ℕ) (by : ℤ)
    (head tail w more : ℕ)
    (st : IsStroll t l p q d₀ d y₀ y inner outer by head tail w 0) (dw : st.done w ≡ true)
    (some : 0 < more) (alone : (w ≡ inner) ⊎ (more < 2)) where
  sibs_on : (u : ℕ) → st.done u ≡ true → u ≢ inner → l.next u ≢ t.root → ((u ≡ w) × (more < 2))
      ⊎ (st.seen (l.next u) ≡ true)
  sibs_on u h on r = elim (st.sibs u h on r) [
    | inl e ↦
        elim alone [ inl z ↦ absurd (on (e.0 ∙ z)) | inr z ↦ inl (e.0, z) ]
    | inr e ↦ inr e
  ]

  pub first_pushed : l.first w ≢ t.root
      → IsStroll t l p (set_at q tail (l.first w)) d₀ d y₀ y inner outer by head (tail + 1) w more
  first_pushed ne =
      let node = node_done t l p q d₀ d y₀ y inner outer by head tail w 0 st w dw in
      let c = l.first w in
      let by_links = (st.links.first w node.0 ne).1 in
      let low : IsLow t c = ((st.links.nodes w node.0).0, ne) in
      let up : st.done (p c) ≡ true = ap st.done by_links.0 ∙ dw in
      let part =
      st.cut.each c low (part_done t l p q d₀ d y₀ y inner outer by head tail w 0 st (p c)
      up) in
      let fresh : st.seen c ≡ false = elim (bool_cases (st.seen c)) [
        | inl h ↦
            absurd (elim (st.first_by c h by_links.1).1 [
              | inl z ↦ z by_links.0
              | inr z ↦
                  (absurd (omega (arith, z)))
            ])
        | inr h ↦ h
      ] in
      pushed_one t l p q d₀ d y₀ y inner outer by head tail w 0 st c more low part
      (not_under t l p q d₀ d y₀ y inner outer by head tail w 0 st c up) fresh up (omega arith)
      (λ z. inr some) (λ z. absurd (z by_links.1))
      (λ u h r. elim (st.kids u h r) [ inl e ↦ inr (inr (ap l.first e.0)) | inr e ↦ inr (inl e) ])
      (λ u h on r. elim (sibs_on u h on r) [ inl e ↦ inl e | inr e ↦ inr (inl e) ])

  pub first_skipped : l.first w ≡ t.root
      → IsStroll t l p q d₀ d y₀ y inner outer by head tail w more
  first_skipped none =
      skipped_one t l p q d₀ d y₀ y inner outer by head tail w 0 st more (omega arith)
      (λ u h r. elim (st.kids u h r) [ inl e ↦ absurd (r (ap l.first e.0 ∙ none)) | inr e ↦ inr e ])
      sibs_on

-- ---- and its neighbour
module _ (t : Task) (l : Links) (p q d₀ d : ℕ → ℕ) (y₀ y : ℕ → ℤ) (inner outer : ℕ) (by : ℤ)
    (head tail w : ℕ)
    (st : IsStroll t l p q d₀ d y₀ y inner outer by head tail w 1) (sw : st.seen w ≡ true)
    (dw : st.done w ≡ true) where
  kids_on : (u : ℕ) → st.done u ≡ true → l.first u ≢ t.root → ((u ≡ w) × (2 < 1))
      ⊎ (st.seen (l.first u) ≡ true)
  kids_on u h r = elim (st.kids u h r) [
    | inl e ↦ absurd (let z = e.1 in omega (arith, z))
    | inr e ↦
        inr e
  ]

  pub next_pushed : l.next w ≢ t.root
      → IsStroll t l p (set_at q tail (l.next w)) d₀ d y₀ y inner outer by head (tail + 1) w 2
  next_pushed ne =
      let node = (st.node w sw).0 in
      let c = l.next w in
      let by_links = (st.links.next w node node.1 ne).1 in
      let low : IsLow t c = ((st.links.nodes w node.0).1.0, ne) in
      let up : st.done (p c) ≡ true = ap st.done by_links.0 ∙ (st.up w sw).0 in
      let part =
      st.cut.each c low (part_done t l p q d₀ d y₀ y inner outer by head tail w 1 st (p c)
      up) in
      let back : l.prev c ≢ t.root = λ z. node.1 (sym by_links.1 ∙ z) in
      let fresh : st.seen c ≡ false = elim (bool_cases (st.seen c)) [
        | inl h ↦
            absurd (elim (st.next_by c h back).1 [
              | inl z ↦ z by_links.1
              | inr z ↦
                  (absurd (omega (arith, z)))
            ])
        | inr h ↦ h
      ] in
      pushed_one t l p q d₀ d y₀ y inner outer by head tail w 1 st c 2 low part
      (not_under t l p q d₀ d y₀ y inner outer by head tail w 1 st c up) fresh up (omega arith)
      (λ z. absurd (back z)) (λ z. (ap st.done by_links.1 ∙ dw, inr (omega arith)))
      (λ u h r. elim (kids_on u h r) [ inl e ↦ inl e | inr e ↦ inr (inl e) ])
      (λ u h on r. elim (st.sibs u h on r) [
        | inl e ↦ inr (inr (ap l.next e.0))
        | inr e ↦
            inr (inl e)
      ])

  pub next_skipped : l.next w ≡ t.root → IsStroll t l p q d₀ d y₀ y inner outer by head tail w 2
  next_skipped none =
      skipped_one t l p q d₀ d y₀ y inner outer by head tail w 1 st 2 (omega arith) kids_on
      (λ u h on r. elim (st.sibs u h on r) [
        | inl e ↦ absurd (r (ap l.next e.0 ∙ none))
        | inr e ↦
            inr e
      ])
