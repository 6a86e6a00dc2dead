-- The cut of a largest flow: once from s to t, and once more to send back to s what didn't come to
-- t.
use Rattle.std.proofs.Common.{◌≡◌, ◌≢◌, inl, inr, ℕ, ◌-◌, ◌<◌, ◌≤◌, ◌^◌}
use Rattle.std.proofs.Common.{Bool, true, false, eqb, cond, ℤ, pos, neg_ℤ, ◌+ℤ◌, ◌-ℤ◌}
use Rattle.std.proofs.Common.{◌*ℤ◌, ◌≤ℤ◌, ◌<ℤ◌, refl, sym, ◌∙◌, ap, arith}
use Rattle.std.proofs.Math.IntN.{zero-*ℤ, *ℤ-zero}
use Rattle.std.proofs.lemmas.Int.{ints}
use Rattle.std.proofs.lemmas.Bool.Decides.{nat_tests, eqb_tells}
use Rattle.plain_certificates.proofs.Products.{add-mul, one_times}
use Rattle.plain_certificates.proofs.Sums.{sum_to-zero, sum_to-one, sum_to-same, sum_to-sub, mark}
use Rattle.plain_certificates.proofs.Sums.{sum_to-le, sum_to-add}
use Rattle.plain_certificates.proofs.Tables.{self_eqb, set_at-here, set_at-other}
use Rattle.plain_certificates.proofs.Weights.{weighed}
use Rattle.plain_certificates.specs.Cuts.{leaves, IsCut}
use Rattle.plain_certificates.specs.Numbered.{sum_to, Numbered, EndsAreNodes, net, sum_where}
use Rattle.plain_certificates.specs.Rooms.{as_flow}
use Rattle.plain_certificates.specs.Tables.{set_at}
use Rattle.push_flow.proofs.Lists.{differ}
use Rattle.push_flow.proofs.Shut.{no_part, shut_sum, shut_rests}
use Rattle.push_flow.specs.Held.{Supply, Task, IsHeld, supply_of}
use Rattle.push_flow.specs.Search.{IsShut, side_of}

-- no node sends out or takes in more than all arcs can carry
net_high : (b d : Bool) (x c : ℕ) → x ≤ c
    → (cond b (pos x) (pos 0) -ℤ cond d (pos x) (pos 0)) ≤ℤ pos c
net_high true true x c l = omega (arith, ints, l)
net_high true false x c l = omega (arith, ints, l)
net_high false true x c l = omega (arith, ints, l)
net_high false false x c l = omega (arith, ints, l)

net_low : (b d : Bool) (x c : ℕ) → x ≤ c
    → (pos 0 -ℤ pos c) ≤ℤ (cond b (pos x) (pos 0) -ℤ cond d (pos x) (pos 0))
net_low true true x c l = omega (arith, ints, l)
net_low true false x c l = omega (arith, ints, l)
net_low false true x c l = omega (arith, ints, l)
net_low false false x c l = omega (arith, ints, l)

pub net_most : (t : Task) (f : ℕ → ℕ) (v : ℕ) → ((k : ℕ) → k < t.graph.arcs → f k ≤ t.cap k) →
    (net t.graph (as_flow f) v ≤ℤ sum_to t.graph.arcs (as_flow t.cap))
    × ((pos 0 -ℤ sum_to t.graph.arcs (as_flow t.cap)) ≤ℤ net t.graph (as_flow f) v)
net_most t f v w =
    let share = λ (k : ℕ).
    cond (eqb (t.graph.from k) v) (as_flow f k) (pos 0) -ℤ cond (eqb (t.graph.to k) v)
    (as_flow f k) (pos 0) in
    let a = sum_to-le t.graph.arcs share (as_flow t.cap)
    (λ k l. net_high (eqb (t.graph.from k) v) (eqb (t.graph.to k) v) (f k) (t.cap k) (w k l)) in
    let b = sum_to-le t.graph.arcs (λ k. pos 0 -ℤ as_flow t.cap k) share
    (λ k l. net_low (eqb (t.graph.from k) v) (eqb (t.graph.to k) v) (f k) (t.cap k) (w k l)) in
    let c = sum_to-sub t.graph.arcs (λ k. pos 0) (as_flow t.cap) in
    let d = sum_to-zero t.graph.arcs (λ k. pos 0) (λ k l. refl) in
    let is = sum_to-sub t.graph.arcs (λ k. cond (eqb (t.graph.from k) v) (as_flow f k) (pos 0))
    (λ k. cond (eqb (t.graph.to k) v) (as_flow f k) (pos 0)) in
    (omega (arith, ints, a, is), omega (arith, ints, b, c, d, is))

-- what one side sends out the other takes in
pub both_sides : (g : Numbered) (f : ℕ → ℤ) (m : ℕ → ℤ) → EndsAreNodes g →
    sum_to g.nodes (λ v. (pos 1 -ℤ m v) *ℤ net g f v) +ℤ sum_to g.nodes (λ v. m v *ℤ net g f v)
    ≡ pos 0
both_sides g f m shape =
    sym (sum_to-add g.nodes (λ v. (pos 1 -ℤ m v) *ℤ net g f v) (λ v. m v *ℤ net g f v))
    ∙ (sum_to-same g.nodes (λ v. (pos 1 -ℤ m v) *ℤ net g f v +ℤ m v *ℤ net g f v)
    (λ v. pos 1 *ℤ net g f v)
    (λ v l. sym (add-mul (pos 1 -ℤ m v) (m v) (net g f v)) ∙ ap (λ z. z *ℤ net g f v) (whole (m v)))
    ∙ (weighed g (λ v. pos 1) f shape
    ∙ sum_to-zero g.arcs (λ k. (pos 1 -ℤ pos 1) *ℤ f k) (λ k l. zero-*ℤ (f k))))
  where
    whole : (z : ℤ) → (pos 1 -ℤ z) +ℤ z ≡ pos 1
    whole z = omega (arith, ints)

off_part : (b : Bool) (y : ℤ) → (b ≡ false → y ≡ pos 0)
    → (pos 1 -ℤ cond b (pos 1) (pos 0)) *ℤ y ≡ pos 0
off_part true y h = zero-*ℤ y
off_part false y h = rw (h refl) (*ℤ-zero (pos 1 -ℤ pos 0))

off_one : (b : Bool) (y : ℤ) → b ≡ false → (pos 1 -ℤ cond b (pos 1) (pos 0)) *ℤ y ≡ y
off_one true y h = absurd cc
off_one false y h = one_times y

-- all that s can send, and all that t wants
pub record IsAsked (supply : ℕ → Supply) (n s tt : ℕ) : Type 0 where
  pub source : (supply s).sends ≡ pos (2 ^ 62)
  pub target : (supply tt).sends ≡ neg_ℤ (pos (2 ^ 62))
  pub most : (supply tt).wants ≤ 2 ^ 62
  pub others : (x : ℕ) → x < n → x ≢ s → x ≢ tt → (supply x).sends ≡ pos 0
  pub want : (x : ℕ) → x < n → x ≢ tt → (supply x).wants ≡ 0

module _ (t : Task) (s tt : ℕ) (shape : EndsAreNodes t.graph) (ls : s < t.graph.nodes)
    (lt : tt < t.graph.nodes) (ne : s ≢ tt)
    (light : sum_to t.graph.arcs (as_flow t.cap) <ℤ pos (2 ^ 61))
    (supply : ℕ → Supply) (f e w h : ℕ → ℕ) (asked : IsAsked supply t.graph.nodes s tt)
    (st : IsHeld t supply f e w h) (shut : IsShut t f h)
    (quiet : (v : ℕ) → v < t.graph.nodes → h v < t.graph.nodes → e v ≡ 0)
    (f' e' w' h' : ℕ → ℕ)
    (st' : IsHeld t (supply_of t f (set_at e s 0) (set_at (λ _. 0) s (2 ^ 62))) f' e' w' h')
    (shut' : IsShut t f' h')
    (quiet' : (v : ℕ) → v < t.graph.nodes → h' v < t.graph.nodes → e' v ≡ 0) where
  back : ℕ → Supply
  back = supply_of t f (set_at e s 0) (set_at (λ _. 0) s (2 ^ 62))

  t_wants : 0 < w tt
  t_wants =
      let a = st.balance tt lt in
      let b = (net_most t f tt st.within).1 in
      let c = asked.target in
      omega (arith, ints, a, b, c, light)

  t_low : h tt ≡ 0
  t_low = st.wants tt lt t_wants

  t_rests : e tt ≡ 0
  t_rests = let a = t_low in quiet tt lt (omega (arith, a, lt))

  s_high : h s ≡ t.graph.nodes
  s_high = elim (eqb_tells (t.graph.nodes - h s) 0) [
    | inl z ↦ (let a = z.1 in let b = st.high s ls in omega (arith, a, b))
    | inr z ↦
        (let m = z.1 in
        let none = quiet s ls (omega (arith, m)) in
        let a = st.balance s ls in
        let b = (net_most t f s st.within).0 in
        let c = asked.source in
        absurd (omega (arith, ints, a, b, c, none, light)))
  ]

  no_want : (x : ℕ) → x < t.graph.nodes → x ≢ tt → w x ≡ 0
  no_want x l off = let a = st.owed x l in let b = asked.want x l off in omega (arith, a, b)

  left : (x : ℕ) → x < t.graph.nodes → x ≢ s → x ≢ tt
      → net t.graph (as_flow f) x +ℤ pos (e x) ≡ pos 0
  left x l a b = let c = st.balance x l in let d = no_want x l b in let g =
      asked.others x l a b in omega (arith, ints, c, d, g)

  back_else : (x : ℕ) → x ≢ s
      → (supply_of t f (set_at e s 0) (set_at (λ _. 0) s (2 ^ 62)) x).sends
      ≡ net t.graph (as_flow f) x +ℤ pos (e x)
  back_else x off = let a = set_at-other e s 0 x off in let b =
      set_at-other (λ _. 0) s (2 ^ 62) x off in rw (a, b) (omega (arith, ints))

  back_s : (supply_of t f (set_at e s 0) (set_at (λ _. 0) s (2 ^ 62)) s).sends
      ≡ net t.graph (as_flow f) s -ℤ pos (2 ^ 62)
  back_s = let a = set_at-here e s 0 in let b =
      set_at-here (λ _. 0) s (2 ^ 62) in rw (a, b) (omega (arith, ints))

  s_wants : 0 < w' s
  s_wants =
      let a = st'.balance s ls in
      let b = (net_most t f s st.within).1 in
      let c = (net_most t f' s st'.within).1 in
      let d = (net_most t f s st.within).0 in
      let g = back_s in
      omega (arith, ints, a, b, c, d, g, light)

  s_low : h' s ≡ 0
  s_low = st'.wants s ls s_wants

  all_rest : (x : ℕ) → x < t.graph.nodes → e' x ≡ 0
  all_rest = shut_rests t (supply_of t f (set_at e s 0) (set_at (λ _. 0) s (2 ^ 62))) f' e' w' h'
      shape st' shut' quiet' (λ x l top.
      (let off : x ≢ s = λ q.
      (let a = ap h' q in let b = s_low in absurd (omega (arith, a, b, top, l))) in
      elim (eqb_tells x tt) [
        | inl q ↦
            (let a = st.balance tt lt in
            let b = asked.target in
            let c = st.owed tt lt in
            let d = asked.most in
            let g : (net t.graph (as_flow f) tt +ℤ pos (e tt)) ≤ℤ pos 0 =
            omega (arith, ints, a, b, c, d) in
            rw (back_else x off, q.1) g)
        | inr q ↦ rw (back_else x off, left x l off q.1) (omega (arith, ints))
      ]))

  -- after the second time, each node but s sends what it sent and kept before
  then_is : (x : ℕ) → x < t.graph.nodes → x ≢ s
      → net t.graph (as_flow f') x ≡ net t.graph (as_flow f) x +ℤ pos (e x)
  then_is x l off =
      let a = st'.balance x l in
      let b = all_rest x l in
      let c = st'.owed x l in
      let d : set_at (λ _. 0) s (2 ^ 62) x ≡ 0 = set_at-other (λ _. 0) s (2 ^ 62) x off in
      let g = back_else x off in
      let none : w' x ≡ 0 = omega (arith, c, d) in
      omega (arith, ints, a, b, none, g)

  has_s : side_of t.graph.nodes h s ≡ true
  has_s = rw s_high (self_eqb t.graph.nodes)

  lacks_t : side_of t.graph.nodes h tt ≡ false
  lacks_t = let a = t_low in rw a (differ 0 t.graph.nodes (λ q. absurd (omega (arith, q, lt))))

  kept : (v : ℕ) → v < t.graph.nodes → v ≢ s → v ≢ tt → net t.graph (as_flow f') v ≡ pos 0
  kept v l a b = then_is v l a ∙ left v l a b

  -- s sends what t takes, which is what can leave the side
  value_is : net t.graph (as_flow f') s
      ≡ sum_where t.graph.arcs (leaves t.graph (side_of t.graph.nodes h)) (as_flow t.cap)
  value_is =
      let n = t.graph.nodes in
      let m = mark (side_of n h) in
      let on = sum_to-one n s (λ v. m v *ℤ net t.graph (as_flow f') v) ls
      (λ v l off. no_part (side_of n h v) (net t.graph (as_flow f') v)
      (λ q. kept v l off (λ z. apart (sym q ∙ (ap (side_of n h) z ∙ lacks_t))))) in
      let on_s : m s *ℤ net t.graph (as_flow f') s ≡ net t.graph (as_flow f') s =
      rw has_s (one_times (net t.graph (as_flow f') s)) in
      let out' = sum_to-one n tt (λ v. (pos 1 -ℤ m v) *ℤ net t.graph (as_flow f') v) lt
      (λ v l off. off_part (side_of n h v) (net t.graph (as_flow f') v)
      (λ q. kept v l (λ z. apart (sym has_s ∙ (ap (side_of n h) (sym z) ∙ q))) off)) in
      let out = sum_to-one n tt (λ v. (pos 1 -ℤ m v) *ℤ net t.graph (as_flow f) v) lt
      (λ v l off. off_part (side_of n h v) (net t.graph (as_flow f) v) (λ q.
      (let low : h v ≢ n = grind (arith, nat_tests) in
      let high = st.high v l in
      let none = quiet v l (omega (arith, low, high)) in
      let is = left v l (λ z. apart (sym has_s ∙ (ap (side_of n h) (sym z) ∙ q))) off in
      omega (arith, ints, is, none)))) in
      let t' = off_one (side_of n h tt) (net t.graph (as_flow f') tt) lacks_t in
      let t₀ = off_one (side_of n h tt) (net t.graph (as_flow f) tt) lacks_t in
      let same = then_is tt lt (λ z. ne (sym z)) in
      let rests = t_rests in
      let both' = both_sides t.graph (as_flow f') m shape in
      let both = both_sides t.graph (as_flow f) m shape in
      let cut = shut_sum t f h shape st.within st.high shut in
      omega (arith, ints, on, on_s, out', out, t', t₀, same, rests, both', both, cut)
    where
      apart : true ≡ false → ⊥
      apart q = cc

  -- the flow and the side at the end
  pub cut_found : IsCut t.graph (as_flow t.cap) s tt (as_flow f') (side_of t.graph.nodes h) (net
      t.graph (as_flow f') s)
  cut_found = record {
    is_flow = record {
      at_least_0 = λ k l. omega (arith, ints);
      within_cap = λ k l. (let a = st'.within k l in omega (arith, ints, a));
      kept = kept;
    };
    value_is = refl;
    has_s = has_s;
    lacks_t = lacks_t;
    tight = value_is;
  }
