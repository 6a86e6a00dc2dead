-- What is sent round the cycle, one arc more at a time.
use Rattle.std.proofs.Common.{◌≡◌, ◌≢◌, inl, inr, ℕ, ◌<◌, ◌≤◌, eqb, pos, ◌-ℤ◌, refl, sym, ◌∙◌, ap}
use Rattle.std.proofs.Common.{arith}
use Rattle.std.proofs.lemmas.Int.{ints}
use Rattle.std.proofs.lemmas.Bool.Decides.{eqb_tells}
use Rattle.plain_certificates.proofs.Rooms.{is_sent_from, is_sent_to}
use Rattle.plain_certificates.proofs.Forest.{over_same, over_self}
use Rattle.plain_certificates.proofs.Tables.{set_at-here, set_at-other}
use Rattle.plain_certificates.specs.Pushes.{at_node}
use Rattle.plain_certificates.specs.Rooms.{room_from, room_to, sent_from, sent_to}
use Rattle.plain_certificates.specs.Tables.{set_at}
use Rattle.pivot_flow.proofs.Above.{over_parent}
use Rattle.pivot_flow.proofs.Looking.{left_low, right_low}
use Rattle.pivot_flow.proofs.Sending.{arc_one, from_within, kept_from, kept_to, net_shared}
use Rattle.pivot_flow.proofs.Sending.{off_parent, share_at, share_from, share_to, to_within}
use Rattle.pivot_flow.specs.Send.{CanSend, IsBetween, IsSent}
use Rattle.pivot_flow.specs.Tree.{ComesTo, IsHung, IsLow, Task, Tree, forest_of}

module _ (t : Task) (h : Tree) (f g : ℕ → ℕ) (i j w a b step : ℕ) (s : IsHung t h)
    (can : CanSend t h f i j w step)
    (on : IsBetween t h i j w a b) (st : IsSent t h f g i j a b step) (ne : a ≢ b) where
  -- the higher part of the cycle is above both
  w_below_a : h.depth b ≤ h.depth a → h.depth w < h.depth a
  w_below_a d =
      let p : h.depth w ≤ h.depth a = on.a_over in
      let q : h.depth w ≤ h.depth b = on.b_over in
      let off : h.depth w ≢ h.depth a =
      λ e. ne (let x = over_same (forest_of h) i a w on.over_a can.over_i (sym e) in
      let y = over_same (forest_of h) j b w on.over_b can.over_j (omega (arith, p, q, d, e)) in x
      ∙ sym y) in
      omega (arith, p, off)

  w_below_b : h.depth a < h.depth b → h.depth w < h.depth b
  w_below_b d = let p : h.depth w ≤ h.depth a = on.a_over in omega (arith, p, d)

  -- what is above both sides is at or above w
  not_j : h.depth b ≤ h.depth a → ComesTo h j a → ⊥
  not_j d o = let x = can.apart a on.over_a o in let y = w_below_a d in absurd (omega (arith, x, y))

  not_i : h.depth a < h.depth b → ComesTo h i b → ⊥
  not_i d o = let x = can.apart b o on.over_b in let y = w_below_b d in absurd (omega (arith, x, y))

  same_left : h.depth b ≤ h.depth a → IsLow t a → g (h.arc a) ≡ f (h.arc a)
  same_left d low =
      elim (st.each a low) [
        | inl (inl x) ↦ absurd (let q = x.1 in omega (arith, q))
        | inl (inr x) ↦ absurd (not_j d x.0)
        | inr e ↦ e
      ]

  same_right : h.depth a < h.depth b → IsLow t b → g (h.arc b) ≡ f (h.arc b)
  same_right d low =
      elim (st.each b low) [
        | inl (inl x) ↦ absurd (not_i d x.0)
        | inl (inr x) ↦ absurd (let q = x.1 in omega (arith, q))
        | inr e ↦ e
      ]

  pub between_left : h.depth b ≤ h.depth a → IsBetween t h i j w (h.parent a) b
  between_left d =
      let low = left_low t h a b s on.a_node on.b_node ne d in
      let fall = s.falls a low in
      let deep = w_below_a d in
      record {
        a_node = s.parent a low;
        b_node = on.b_node;
        over_a = over_parent t h i a s low on.over_a;
        over_b = on.over_b;
        a_over = omega (arith, fall, deep);
        b_over = on.b_over;
      }

  pub between_right : h.depth a < h.depth b → IsBetween t h i j w a (h.parent b)
  between_right d =
      let low = right_low t h a b s on.b_node d in
      let fall = s.falls b low in
      let deep = w_below_b d in
      record {
        a_node = on.a_node;
        b_node = s.parent b low;
        over_a = on.over_a;
        over_b = over_parent t h j b s low on.over_b;
        a_over = on.a_over;
        b_over = omega (arith, fall, deep);
      }

  other_arc : (u v : ℕ) → IsLow t u → IsLow t v → v ≢ u → h.arc v ≢ h.arc u
  other_arc u v lu lv off e = off (arc_one t h v u s lv lu e)

  -- one arc more on the side of i
  pub room_left : h.depth b ≤ h.depth a → IsLow t a → step ≤ room_to t.net t.cap g (h.arc a) a
  room_left d low = rw (same_left d low) (can.before a on.over_a (w_below_a d))

  pub room_right : h.depth a < h.depth b → IsLow t b → step ≤ room_from t.net t.cap g (h.arc b) b
  room_right d low = rw (same_right d low) (can.after b on.over_b (w_below_b d))

  pub send_left : h.depth b ≤ h.depth a
      → IsSent t h f (set_at g (h.arc a) (sent_to t.net g (h.arc a) a step)) i j (h.parent a) b step
  send_left d =
      let low = left_low t h a b s on.a_node on.b_node ne d in
      let fall = s.falls a low in
      let k = h.arc a in
      let in_arcs = s.arc a low in
      let next = set_at g k (sent_to t.net g k a step) in
      let room = room_left d low in
      let moved = kept_to t g f next next k a step (same_left d low) refl
      (is_sent_to t.net t.cap g k a step (st.within k in_arcs) room) in
      let keeps : (v : ℕ) → IsLow t v → v ≢ a
      → next (h.arc v) ≡ g (h.arc v) =
      λ v lv off. set_at-other g k (sent_to t.net g k a step) (h.arc v)
      (other_arc a v low lv off) in
      record {
        within = λ x l. elim (eqb_tells x k) [
          | inl e ↦
              rw (e.0, e.1) (to_within (eqb (t.net.from k) a) (g k) (t.cap k) step
              (st.within k in_arcs) room)
          | inr e ↦ rw e.0 (st.within x l)
        ];
        before = λ v lv o q. elim (eqb_tells (h.depth a) (h.depth v)) [
          | inl e ↦ (let is = over_same (forest_of h) i v a o on.over_a (sym e.1) in rw is moved)
          | inr e ↦ (let n = e.1 in let lt : h.depth a < h.depth v = omega (arith, fall, n, q) in
              kept_to t f f g next (h.arc v) v step refl
              (sym (keeps v lv (λ x. (let y = ap h.depth x in absurd (omega (arith, y, lt))))))
              (st.before v lv o lt))
        ];
        after = λ v lv o q. kept_from t f f g next (h.arc v) v step refl
            (sym (keeps v lv (λ x. not_j d (rw (← x) o)))) (st.after v lv o q);
        each = λ v lv. elim (eqb_tells v a) [
          | inl e ↦ inl (inl (rw e.1 (on.over_a, omega (arith, fall))))
          | inr e ↦ elim (st.each v lv) [
            | inl (inl x) ↦ inl (inl (x.0, (let q = x.1 in omega (arith, fall, q))))
            | inl (inr x) ↦ inl (inr x)
            | inr x ↦ inr (keeps v lv e.1 ∙ x)
          ]
        ];
        rest = λ x l. elim (eqb_tells x k) [
          | inl e ↦ inr (a, (low, sym e.1))
          | inr e ↦ elim (st.rest x l) [ inl y ↦ inl (rw e.0 y) | inr y ↦ inr y ]
        ];
        nets = λ v l.
            (let c = net_shared t.net (λ x. pos (g x)) (λ x. pos (next x)) k v in_arcs
            (λ x q off. ap pos (set_at-other g k (sent_to t.net g k a step) x off)) in
            let m = share_to t g k a (h.parent a) step v (s.joins a low) (off_parent t h a s low)
            room in
            let e : share_at t.net k (pos (next k) -ℤ pos (g k)) v
            ≡ at_node (h.parent a) (pos step) v -ℤ at_node a (pos step) v =
            rw (set_at-here g k (sent_to t.net g k a step)) m in
            let old = st.nets v l in
            omega (arith, ints, c, e, old));
      }

  pub send_right : h.depth a < h.depth b
      → IsSent t h f (set_at g (h.arc b) (sent_from t.net g (h.arc b) b step)) i j a (h.parent b)
      step
  send_right d =
      let low = right_low t h a b s on.b_node d in
      let fall = s.falls b low in
      let k = h.arc b in
      let in_arcs = s.arc b low in
      let next = set_at g k (sent_from t.net g k b step) in
      let room = room_right d low in
      let moved = kept_from t g f next next k b step (same_right d low) refl
      (is_sent_from t.net t.cap g k b step (st.within k in_arcs) room) in
      let keeps : (v : ℕ) → IsLow t v → v ≢ b
      → next (h.arc v) ≡ g (h.arc v) =
      λ v lv off. set_at-other g k (sent_from t.net g k b step) (h.arc v)
      (other_arc b v low lv off) in
      record {
        within = λ x l. elim (eqb_tells x k) [
          | inl e ↦
              rw (e.0, e.1) (from_within (eqb (t.net.from k) b) (g k) (t.cap k) step
              (st.within k in_arcs) room)
          | inr e ↦ rw e.0 (st.within x l)
        ];
        before = λ v lv o q. kept_to t f f g next (h.arc v) v step refl
            (sym (keeps v lv (λ x. not_i d (rw (← x) o)))) (st.before v lv o q);
        after = λ v lv o q. elim (eqb_tells (h.depth b) (h.depth v)) [
          | inl e ↦ (let is = over_same (forest_of h) j v b o on.over_b (sym e.1) in rw is moved)
          | inr e ↦ (let n = e.1 in let lt : h.depth b < h.depth v = omega (arith, fall, n, q) in
              kept_from t f f g next (h.arc v) v step refl
              (sym (keeps v lv (λ x. (let y = ap h.depth x in absurd (omega (arith, y, lt))))))
              (st.after v lv o lt))
        ];
        each = λ v lv. elim (eqb_tells v b) [
          | inl e ↦ inl (inr (rw e.1 (on.over_b, omega (arith, fall))))
          | inr e ↦ elim (st.each v lv) [
            | inl (inl x) ↦ inl (inl x)
            | inl (inr x) ↦ inl (inr (x.0, (let q = x.1 in omega (arith, fall, q))))
            | inr x ↦ inr (keeps v lv e.1 ∙ x)
          ]
        ];
        rest = λ x l. elim (eqb_tells x k) [
          | inl e ↦ inr (b, (low, sym e.1))
          | inr e ↦ elim (st.rest x l) [ inl y ↦ inl (rw e.0 y) | inr y ↦ inr y ]
        ];
        nets = λ v l.
            (let c = net_shared t.net (λ x. pos (g x)) (λ x. pos (next x)) k v in_arcs
            (λ x q off. ap pos (set_at-other g k (sent_from t.net g k b step) x off)) in
            let m = share_from t g k b (h.parent b) step v (s.joins b low) (off_parent t h b s low)
            room in
            let e : share_at t.net k (pos (next k) -ℤ pos (g k)) v ≡ at_node b (pos step) v
            -ℤ at_node (h.parent b) (pos step) v =
            rw (set_at-here g k (sent_from t.net g k b step)) m in
            let old = st.nets v l in
            omega (arith, ints, c, e, old));
      }

pub send_begins : (t : Task) (h : Tree) (f : ℕ → ℕ) (i j step : ℕ)
    → ((k : ℕ) → k < t.net.arcs → f k ≤ t.cap k) → IsSent t h f f i j i j step
send_begins t h f i j step w = record {
  within = w;
  before = λ v lv o q. absurd (let x = o.high in omega (arith, x, q));
  after = λ v lv o q. absurd (let x = o.high in omega (arith, x, q));
  each = λ v lv. inr refl;
  rest = λ k l. inl refl;
  nets = λ v l. omega (arith, ints);
}

pub between_begins : (t : Task) (h : Tree) (f : ℕ → ℕ) (i j w step : ℕ) → i < t.net.nodes
    → j < t.net.nodes → CanSend t h f i j w step → IsBetween t h i j w i j
between_begins t h f i j w step li lj c = record {
  a_node = li;
  b_node = lj;
  over_a = over_self (forest_of h) i;
  over_b = over_self (forest_of h) j;
  a_over = c.over_i.high;
  b_over = c.over_j.high;
}

-- both sides end at w
pub between_ends : (t : Task) (h : Tree) (f : ℕ → ℕ) (i j w a step : ℕ) → CanSend t h f i j w step
    → IsBetween t h i j w a a → a ≡ w
between_ends t h f i j w a step c on =
    let x = c.apart a on.over_a on.over_b in
    let y : h.depth w ≤ h.depth a = on.a_over in
    over_same (forest_of h) i a w on.over_a c.over_i (omega (arith, x, y))
