-- Each step of the walk, and its end.
use Rattle.std.proofs.Common.{◌≡◌, ◌≢◌, ◌⊎◌, inl, inr, ℕ, zero, suc, ◌+◌, ◌<◌, ◌≤◌, true, false}
use Rattle.std.proofs.Common.{eqb, ℤ, ◌+ℤ◌, sym, ◌∙◌, ap, arith}
use Rattle.std.proofs.lemmas.Int.{ints}
use Rattle.std.proofs.lemmas.Bool.Decides.{nat_tests, eqb_tells}
use Rattle.plain_certificates.proofs.Tables.{self_eqb, set_at-here, set_at-other}
use Rattle.plain_certificates.specs.Tables.{set_at}
use Rattle.pivot_flow.proofs.Bools.{bool_cases, true_not_false}
use Rattle.pivot_flow.proofs.Strolling.{also, also_cases, also_here, also_off, also_old, apart_by}
use Rattle.pivot_flow.proofs.Strolling.{first_pushed, first_skipped, next_pushed, next_skipped}
use Rattle.pivot_flow.proofs.Strolling.{part_done}
use Rattle.pivot_flow.specs.Enter.{IsSettled}
use Rattle.pivot_flow.specs.Kids.{AreKids, Links}
use Rattle.pivot_flow.specs.Spread.{IsCut}
use Rattle.pivot_flow.specs.Stroll.{IsStroll}
use Rattle.pivot_flow.specs.Tree.{IsLow, Task}

by_eqb : (v u : ℕ) → eqb v u ≡ true → v ≡ u
by_eqb v u h = grind (arith, nat_tests)

-- ---- the walk begins at the top of the part
pub stroll_begins : (t : Task) (l : Links) (p q d₀ : ℕ → ℕ) (y₀ : ℕ → ℤ) (inner outer : ℕ) (by : ℤ)
    → AreKids t l p → IsCut t p d₀ inner outer →
    IsStroll t l p q d₀ (set_at d₀ inner (d₀ outer + 1)) y₀ (set_at y₀ inner (y₀ inner +ℤ by)) inner
    outer by 0 0 inner 0
stroll_begins t l p q d₀ y₀ inner outer by links cut =
    let off : outer ≢ inner = λ z. apart_by cut.part inner outer cut.has cut.lacks (sym z) in
    record {
      cut = cut;
      links = links;
      seen = λ v. false;
      done = λ v. eqb v inner;
      place = λ v. 0;
      ordered = omega arith;
      listed = λ k lt. absurd (omega (arith, lt));
      found = λ v h. absurd (true_not_false (sym h));
      node = λ v h. absurd (true_not_false (sym h));
      begins = self_eqb inner;
      past = λ v h. inl (by_eqb v inner h);
      dealt = λ v h lt. absurd (true_not_false (sym h));
      up = λ v h. absurd (true_not_false (sym h));
      first_by = λ v h r. absurd (true_not_false (sym h));
      next_by = λ v h r. absurd (true_not_false (sym h));
      kids = λ u h r. inl (by_eqb u inner h, omega arith);
      sibs = λ u h on r. absurd (on (by_eqb u inner h));
      depth = λ v h.
          (let a = set_at-here d₀ inner (d₀ outer + 1) in
          let b = set_at-other d₀ inner (d₀ outer + 1) outer off in
          rw (by_eqb v inner h, cut.hangs, a, b));
      high = λ v h dn. absurd (true_not_false (sym h));
      high_inner = (let a = set_at-here d₀ inner (d₀ outer + 1) in omega (arith, a));
      price = λ v h. rw (by_eqb v inner h) (set_at-here y₀ inner (y₀ inner +ℤ by));
      same = λ v h.
          (let ne : v ≢ inner = λ z. true_not_false (sym (self_eqb inner)
          ∙ (ap (λ u. eqb u inner) (sym z) ∙ h)) in
          (set_at-other d₀ inner (d₀ outer + 1) v ne, set_at-other y₀ inner (y₀ inner +ℤ by) v ne));
    }

-- ---- the next node is dealt with
module _ (t : Task) (l : Links) (p q d₀ d : ℕ → ℕ) (y₀ y : ℕ → ℤ) (inner outer : ℕ) (by : ℤ)
    (head tail last w : ℕ)
    (st : IsStroll t l p q d₀ d y₀ y inner outer by head tail last 2) (inside : head < tail)
    (is : q head ≡ w) where
  pub seen_w : st.seen w ≡ true
  seen_w = ap st.seen (sym is) ∙ (st.listed head inside).0

  place_w : st.place w ≡ head
  place_w = ap st.place (sym is) ∙ (st.listed head inside).1

  pub open_w : st.done w ≡ false
  open_w = elim (bool_cases (st.done w)) [
    | inl h ↦
        absurd (elim (st.past w h) [
          | inl e ↦ (st.node w seen_w).1.1 e
          | inr e ↦
              (let a = e.1 in absurd (omega (arith, a, place_w)))
        ])
    | inr h ↦ h
  ]

  off_w : (u : ℕ) → st.done u ≡ true → u ≢ w
  off_w u h = apart_by st.done u w h open_w

  -- what is added, and what it is added to
  pub low_depth : d (p w) ≤ (d₀ outer + 1) + tail
  low_depth =
      let up = st.up w seen_w in
      elim up.1 [
        | inl e ↦ (let a = st.high_inner in let b = ap d e in omega (arith, a, b))
        | inr e ↦ elim (st.past (p w) up.0) [
          | inl z ↦ (let a = st.high_inner in let b = ap d z in omega (arith, a, b))
          | inr z ↦ (let a = st.high (p w) z.0 up.0 in let b = z.1 in omega (arith, a, b, inside))
        ]
      ]

  unfoldable dealt_with : IsStroll t l p q d₀ (set_at d w (d (p w) + 1)) y₀ (set_at y w (y w +ℤ by))
      inner outer by (head + 1) tail w 0
  dealt_with =
      let up_w = st.up w seen_w in
      let node_w = st.node w seen_w in
      record {
        cut = st.cut;
        links = st.links;
        seen = st.seen;
        done = also st.done w;
        place = st.place;
        ordered = omega (arith, inside);
        listed = st.listed;
        found = st.found;
        node = st.node;
        begins = also_old st.done w inner st.begins;
        past = λ v h. elim (also_cases st.done w v h) [
          | inl e ↦ inr (
            ap st.seen e ∙ seen_w,
            (let a = ap st.place e
                ∙ place_w in omega (arith, a)),
          )
          | inr e ↦ elim (st.past v e.1) [
            | inl z ↦ inl z
            | inr z ↦
                inr (z.0, (let a = z.1 in omega (arith, a)))
          ]
        ];
        dealt = λ v h lt. elim (eqb_tells (st.place v) head) [
          | inl e ↦ (let z : v ≡ w = sym (st.found v h).1 ∙ (ap q e.1 ∙ is) in ap (also st.done w) z
              ∙ also_here st.done w)
          | inr e ↦ (let n = e.1 in also_old st.done w v (st.dealt v h (omega (arith, lt, n))))
        ];
        up = λ v h. (also_old st.done w (p v) (st.up v h).0, (st.up v h).1);
        first_by = λ v h r. (let old = st.first_by v h r in
            (also_old st.done w (p v) old.0, inl (off_w (p v) old.0)));
        next_by = λ v h r. (let old = st.next_by v h r in
            (also_old st.done w (l.prev v) old.0, inl (off_w (l.prev v) old.0)));
        kids = λ u h r. elim (also_cases st.done w u h) [
          | inl e ↦ inl (e, omega arith)
          | inr e ↦ elim (st.kids u e.1 r) [
            | inl z ↦
                absurd (let a = z.1 in omega (arith, a))
            | inr z ↦ inr z
          ]
        ];
        sibs = λ u h on r. elim (also_cases st.done w u h) [
          | inl e ↦ inl (e, omega arith)
          | inr e ↦ elim (st.sibs u e.1 on r) [
            | inl z ↦
                absurd (let a = z.1 in omega (arith, a))
            | inr z ↦ inr z
          ]
        ];
        depth = λ v h. elim (also_cases st.done w v h) [
          | inl e ↦
              (let a = set_at-here d w (d (p w) + 1) in
              let b = set_at-other d w (d (p w) + 1) (p w) (off_w (p w) up_w.0) in
              rw (e, a, b))
          | inr e ↦
              (let a = set_at-other d w (d (p w) + 1) v e.0 in
              let far : p v ≢ w = elim (st.past v e.1) [
                | inl z ↦ (λ x. apart_by st.cut.part w outer node_w.1.0 st.cut.lacks (sym x
                    ∙ (ap p z ∙ st.cut.hangs)))
                | inr z ↦ off_w (p v) (st.up v z.0).0
              ] in
              let b = set_at-other d w (d (p w) + 1) (p v) far in
              rw (a, b) (st.depth v e.1))
        ];
        high = λ v h dn. elim (also_cases st.done w v dn) [
          | inl e ↦
              (let a = set_at-here d w (d (p w) + 1) in
              rw (e, a, place_w)
              (elim up_w.1 [
                | inl z ↦ (let x = st.high_inner in let b = ap d z in omega (arith, x, b))
                | inr z ↦ elim (st.past (p w) up_w.0) [
                  | inl k ↦ (let x = st.high_inner in let b = ap d k in omega (arith, x, b))
                  | inr k ↦ (let x = st.high (p w) k.0 up_w.0 in let b = k.1 in omega (arith, x, b))
                ]
              ]))
          | inr e ↦ (let a = set_at-other d w (d (p w) + 1) v e.0 in rw a (st.high v h e.1))
        ];
        high_inner = (let a = set_at-other d w (d (p w) + 1) inner (off_w inner st.begins) in
            let b = st.high_inner in omega (arith, a, b));
        price = λ v h. elim (also_cases st.done w v h) [
          | inl e ↦ rw (e, set_at-here y w (y w +ℤ by)) (ap (λ z. z +ℤ by) (st.same w open_w).1)
          | inr e ↦ rw (set_at-other y w (y w +ℤ by) v e.0) (st.price v e.1)
        ];
        same = λ v h.
            (let off = also_off st.done w v h in
            let old = st.same v off.1 in (
              set_at-other d w (d (p w) + 1) v off.0 ∙ old.0,
              set_at-other y w (y w +ℤ by) v off.0
                  ∙ old.1,
            ));
      }

  pub deal : (s : IsStroll t l p q d₀ (set_at d w (d (p w) + 1)) y₀ (set_at y w (y w +ℤ by)) inner
      outer by (head + 1) tail w 0) × ((s.seen w ≡ true) × (s.done w ≡ true))
  unfolding dealt_with
  deal = (dealt_with, (seen_w, also_here st.done w))

-- ---- all that hangs below was dealt with
pub stroll_ends : (t : Task) (l : Links) (p q d₀ d : ℕ → ℕ) (y₀ y : ℕ → ℤ) (inner outer : ℕ)
    (by : ℤ) (head tail w : ℕ)
    → IsStroll t l p q d₀ d y₀ y inner outer by head tail w 2 → tail ≤ head → d₀ t.root ≡ 0 →
    IsSettled t p y₀ y d inner outer by
stroll_ends t l p q d₀ d y₀ y inner outer by head tail w st le top =
    let part = part_done t l p q d₀ d y₀ y inner outer by head tail w 2 st in
    let unseen : (v : ℕ) → st.cut.part v ≡ false
    → st.done v ≡ false = λ v h. elim (bool_cases (st.done v)) [
      | inl z ↦
          absurd (true_not_false (sym (part v z) ∙ h))
      | inr z ↦ z
    ] in
    let closed : (v : ℕ) → IsLow t v → st.done (p v) ≡ true
    → st.done v ≡ true = λ v lv h. under (suc (st.links.place v)) v lv h (omega arith) in
    let up_unseen : (v : ℕ) → IsLow t v → st.done v ≡ false
    → st.done (p v) ≡ false = λ v lv h. elim (bool_cases (st.done (p v))) [
      | inl z ↦
          absurd (true_not_false (sym (closed v lv z) ∙ h))
      | inr z ↦ z
    ] in
    record {
      top = (st.same t.root (unseen t.root st.cut.lacks_root)).0 ∙ top;
      top_price = (st.same t.root (unseen t.root st.cut.lacks_root)).1;
      depth = λ v lv. elim (bool_cases (st.done v)) [
        | inl h ↦ st.depth v h
        | inr h ↦
            (let a = (st.same v h).0 in
            let b = (st.same (p v) (up_unseen v lv h)).0 in
            let c = st.cut.outside st.done st.begins closed v lv h in
            omega (arith, a, b, c))
      ];
      moved = λ v lv ne. elim (bool_cases (st.done v)) [
        | inl h ↦
            (let seen : st.seen v ≡ true =
            elim (st.past v h) [ inl z ↦ absurd (ne z) | inr z ↦ z.0 ] in
            let a = st.price v h in
            let b = st.price (p v) (st.up v seen).0 in
            omega (arith, ints, a, b))
        | inr h ↦ (let a = (st.same v h).1 in let b = (st.same (p v) (up_unseen v lv h)).1 in
            omega (arith, ints, a, b))
      ];
      inner_price = st.price inner st.begins;
      outer_price = (st.same outer (unseen outer st.cut.lacks)).1;
      each = λ v lv. elim (bool_cases (st.done v)) [
        | inl h ↦ inr (st.price v h)
        | inr h ↦
            inl (st.same v h).1
      ];
    }
  where
    dealt_seen : (v : ℕ) → st.seen v ≡ true → st.done v ≡ true
    dealt_seen v h = st.dealt v h (let a = (st.found v h).0 in omega (arith, a, le))

    under : (m v : ℕ) → IsLow t v → st.done (p v) ≡ true → st.links.place v < m → st.done v ≡ true
    under zero v lv h lt = absurd (omega (arith, lt))
    under (suc m) v lv h lt =
        elim (eqb_tells v inner) [
          | inl e ↦ ap st.done e.1 ∙ st.begins
          | inr e ↦
              elim (eqb_tells (l.prev v) t.root) [
                | inl r ↦
                    (let first = st.links.least v lv lv.1 r.1 in
                    elim (st.kids (p v) h (λ z. lv.1 (sym first ∙ z))) [
                      | inl z ↦
                          absurd (let a = z.1 in omega (arith, a))
                      | inr z ↦
                          dealt_seen v (ap st.seen (sym first) ∙ z)
                    ])
                | inr r ↦
                    (let u = l.prev v in
                    let back = (st.links.prev v lv lv.1 r.1).1 in
                    let low : IsLow t u = ((st.links.nodes v lv.0).1.1, r.1) in
                    let on = st.links.next u low low.1 (λ z. lv.1 (sym back ∙ z)) in
                    let same : p v ≡ p u = ap p (sym back) ∙ on.1.0 in
                    let grow = st.links.grows v lv lv.1 r.1 in
                    let done_u = under m u low (ap st.done (sym same)
                    ∙ h) (omega (arith, grow, lt)) in
                    let not_inner : u ≢ inner = λ z. apart_by st.cut.part (p v) outer
                    (part_done t l p q d₀ d y₀ y inner outer by head tail w 2 st (p v) h)
                    st.cut.lacks (same ∙ (ap p z ∙ st.cut.hangs)) in
                    elim (st.sibs u done_u not_inner (λ z. lv.1 (sym back ∙ z))) [
                      | inl z ↦
                          absurd (let a = z.1 in omega (arith, a))
                      | inr z ↦
                          dealt_seen v (ap st.seen (sym back) ∙ z)
                    ])
              ]
        ]

-- ---- what stands behind the end of the queue is of no account
requeued : (t : Task) (l : Links) (p q q' d₀ d : ℕ → ℕ) (y₀ y : ℕ → ℤ) (inner outer : ℕ) (by : ℤ)
    (head tail w stage : ℕ) → ((k : ℕ) → k < tail → q' k ≡ q k) →
    IsStroll t l p q d₀ d y₀ y inner outer by head tail w stage
    → IsStroll t l p q' d₀ d y₀ y inner outer by head tail w stage
requeued t l p q q' d₀ d y₀ y inner outer by head tail w stage same st = record {
  cut = st.cut;
  links = st.links;
  seen = st.seen;
  done = st.done;
  place = st.place;
  ordered = st.ordered;
  listed = λ k lt. (let e = same k lt in rw e (st.listed k lt));
  found = λ v h. (let f = st.found v h in (f.0, same (st.place v) f.0 ∙ f.1));
  node = st.node;
  begins = st.begins;
  past = st.past;
  dealt = st.dealt;
  up = st.up;
  first_by = st.first_by;
  next_by = st.next_by;
  kids = st.kids;
  sibs = st.sibs;
  depth = st.depth;
  high = st.high;
  high_inner = st.high_inner;
  price = st.price;
  same = st.same;
}

pub after_first : (t : Task) (l : Links) (p q d₀ d : ℕ → ℕ) (y₀ y : ℕ → ℤ) (inner outer : ℕ)
    (by : ℤ) (head tail end w more : ℕ)
    (st : IsStroll t l p q d₀ d y₀ y inner outer by head tail w 0) → st.done w ≡ true → 0 < more
    → (w ≡ inner) ⊎ (more < 2) →
    (l.first w ≡ t.root → end ≡ tail) → (l.first w ≢ t.root → end ≡ tail + 1)
    → IsStroll t l p (set_at q tail (l.first w)) d₀ d y₀ y inner outer by head end w more
after_first t l p q d₀ d y₀ y inner outer by head tail end w more st dw some alone none one =
    elim (eqb_tells (l.first w) t.root) [
      | inl e ↦
          rw (none e.1)
          (requeued t l p q (set_at q tail (l.first w)) d₀ d y₀ y inner outer by head tail w more
          (λ k lt. set_at-other q tail (l.first w) k (omega (arith, lt)))
          (first_skipped t l p q d₀ d y₀ y inner outer by head tail w more st dw some alone e.1))
      | inr e ↦
          rw (one e.1) (first_pushed t l p q d₀ d y₀ y inner outer by head tail w more st dw some
          alone e.1)
    ]

pub after_next : (t : Task) (l : Links) (p q d₀ d : ℕ → ℕ) (y₀ y : ℕ → ℤ) (inner outer : ℕ) (by : ℤ)
    (head tail end w : ℕ)
    → IsStroll t l p q d₀ d y₀ y inner outer by (head + 1) tail w 1 → q head ≡ w →
    (l.next w ≡ t.root → end ≡ tail) → (l.next w ≢ t.root → end ≡ tail + 1)
    → IsStroll t l p (set_at q tail (l.next w)) d₀ d y₀ y inner outer by (head + 1) end w 2
after_next t l p q d₀ d y₀ y inner outer by head tail end w st is none one =
    let ordered : head + 1 ≤ tail = st.ordered in
    let here = st.listed head (omega (arith, ordered)) in
    let sw : st.seen w ≡ true = ap st.seen (sym is) ∙ here.0 in
    let at : st.place w ≡ head = ap st.place (sym is) ∙ here.1 in
    let dw = st.dealt w sw (omega (arith, at)) in
    elim (eqb_tells (l.next w) t.root) [
      | inl e ↦
          rw (none e.1)
          (requeued t l p q (set_at q tail (l.next w)) d₀ d y₀ y inner outer by (head + 1) tail w 2
          (λ k lt. set_at-other q tail (l.next w) k (omega (arith, lt)))
          (next_skipped t l p q d₀ d y₀ y inner outer by (head + 1) tail w st sw dw e.1))
      | inr e ↦
          rw (one e.1) (next_pushed t l p q d₀ d y₀ y inner outer by (head + 1) tail w st sw dw e.1)
    ]

-- the state when the first child was put into the queue, and when the neighbour was
pub turn_first : (t : Task) (l : Links) (p q d₀ d : ℕ → ℕ) (y₀ y : ℕ → ℤ) (inner outer : ℕ) (by : ℤ)
    (head tail mid last w : ℕ)
    → IsStroll t l p q d₀ d y₀ y inner outer by head tail last 2 → head < tail → q head ≡ w →
    (l.first w ≡ t.root → mid ≡ tail) → (l.first w ≢ t.root → mid ≡ tail + 1) →
    IsStroll t l p (set_at q tail (l.first w)) d₀ (set_at d w (d (p w) + 1)) y₀
    (set_at y w (y w +ℤ by)) inner outer by (head + 1) mid w 1
turn_first t l p q d₀ d y₀ y inner outer by head tail mid last w st inside is none one =
    let s = deal t l p q d₀ d y₀ y inner outer by head tail last w st inside is in
    after_first t l p q d₀ (set_at d w (d (p w) + 1)) y₀ (set_at y w (y w +ℤ by)) inner outer by
    (head + 1) tail mid w 1 s.0 s.1.1 (omega arith) (inr (omega arith)) none one

pub turn_next : (t : Task) (l : Links) (p q d₀ d : ℕ → ℕ) (y₀ y : ℕ → ℤ) (inner outer : ℕ) (by : ℤ)
    (head tail mid end last w : ℕ)
    → IsStroll t l p q d₀ d y₀ y inner outer by head tail last 2 → head < tail → q head ≡ w →
    (l.first w ≡ t.root → mid ≡ tail) → (l.first w ≢ t.root → mid ≡ tail + 1)
    → (l.next w ≡ t.root → end ≡ mid) → (l.next w ≢ t.root → end ≡ mid + 1) →
    IsStroll t l p (set_at (set_at q tail (l.first w)) mid (l.next w)) d₀ (set_at d w (d (p w) + 1))
    y₀ (set_at y w (y w +ℤ by)) inner outer by (head + 1) end w 2
turn_next t l p q d₀ d y₀ y inner outer by head tail mid end last w st inside is none one none_next
    one_next =
    let s = turn_first t l p q d₀ d y₀ y inner outer by head tail mid last w st inside is none
    one in
    after_next t l p (set_at q tail (l.first w)) d₀ (set_at d w (d (p w) + 1)) y₀
    (set_at y w (y w +ℤ by)) inner outer by head mid end w s
    (set_at-other q tail (l.first w) head (omega (arith, inside)) ∙ is) none_next one_next
