-- The new flow keeps to the new tree.
use Rattle.std.proofs.Common.{◌≡◌, ◌≢◌, ◌⊎◌, inl, inr, ℕ, ◌+◌, ◌-◌, ◌<◌, ◌≤◌, Bool, true, false}
use Rattle.std.proofs.Common.{eqb, cond, ℤ, pos, ◌-ℤ◌, sym, ◌∙◌, ap, arith}
use Rattle.std.proofs.lemmas.Int.{ints}
use Rattle.std.proofs.lemmas.Bool.Decides.{eqb_tells}
use Rattle.pivot_flow.specs.declared.look.Leaves.{Leaves}
use Rattle.pivot_flow.specs.declared.look.Leaves.TheVariants.{Enters, Before, After}
use Rattle.plain_certificates.proofs.Forest.{over_self}
use Rattle.plain_certificates.proofs.Tables.{self_eqb, set_at-here, set_at-other}
use Rattle.plain_certificates.specs.Numbered.{Numbered, net}
use Rattle.plain_certificates.specs.Pushes.{at_node}
use Rattle.plain_certificates.specs.Rooms.{Joins, room_from, room_to}
use Rattle.plain_certificates.specs.Tables.{set_at}
use Rattle.pivot_flow.proofs.Hanging.{inner_low, still_tree, tree_cases}
use Rattle.pivot_flow.proofs.Looking.{fits_entering}
use Rattle.pivot_flow.proofs.Sending.{differ, from_within, net_shared, off_parent, share_at}
use Rattle.pivot_flow.proofs.Sending.{share_less, share_more}
use Rattle.pivot_flow.specs.Enter.{HasRoom, enter_room, entered, head_of, tail_of}
use Rattle.pivot_flow.specs.Look.{IsLook}
use Rattle.pivot_flow.specs.Send.{IsSent}
use Rattle.pivot_flow.specs.Tree.{ComesTo, IsHeld, IsHung, IsLow, IsTreeArc, Task, Tree, forest_of}
use Rattle.pivot_flow.specs.Turn.{IsTurned}

-- ---- what is said of one arc
room_to_same : (t : Task) (f g : ℕ → ℕ) (k v : ℕ) → f k ≡ g k
    → room_to t.net t.cap f k v ≡ room_to t.net t.cap g k v
room_to_same t f g k v e = rw e

room_from_same : (t : Task) (f g : ℕ → ℕ) (k v : ℕ) → f k ≡ g k
    → room_from t.net t.cap f k v ≡ room_from t.net t.cap g k v
room_from_same t f g k v e = rw e

-- what can be sent to one end can be sent away from the other
other_end : (t : Task) (f : ℕ → ℕ) (k u q : ℕ) → Joins t.net k u q → u ≢ q
    → room_to t.net t.cap f k q ≡ room_from t.net t.cap f k u
other_end t f k u q (inl j) ne = rw (j.0, differ u q (λ e. ne (sym e)), self_eqb u)
other_end t f k u q (inr j) ne = rw (j.0, self_eqb q, differ q u ne)

bound_to : (b : Bool) (x c : ℕ) → x ≤ c → cond b x (c - x) ≡ 0 → (x ≡ 0) ⊎ (x ≡ c)
bound_to true x c w e = inl e
bound_to false x c w e = inr (omega (arith, e, w))

bound_from : (b : Bool) (x c : ℕ) → x ≤ c → cond b (c - x) x ≡ 0 → (x ≡ 0) ⊎ (x ≡ c)
bound_from true x c w e = inr (omega (arith, e, w))
bound_from false x c w e = inl e

-- the entering arc is at its other bound
full : (b : Bool) (x c s : ℕ) → x ≤ c → s ≡ cond b (c - x) x → (cond b (x + s) (x - s) ≡ 0)
    ⊎ (cond b (x + s) (x - s) ≡ c)
full true x c s w e = inr (omega (arith, e, w))
full false x c s w e = inl (omega (arith, e, w))

enter_share : (g : Numbered) (b : Bool) (e x c s v : ℕ) → s ≤ cond b c x →
    share_at g e (pos (cond b (x + s) (x - s)) -ℤ pos x) v
    ≡ at_node (cond b (g.from e) (g.to e)) (pos s) v
    -ℤ at_node (cond b (g.to e) (g.from e)) (pos s) v
unfolding share_at
enter_share g true e x c s v l = share_more (eqb (g.from e) v) (eqb (g.to e) v) x s
enter_share g false e x c s v l = share_less (eqb (g.from e) v) (eqb (g.to e) v) x s l

back_room : (b : Bool) (from to x c s : ℕ) → from ≢ to → x ≤ c → 0 < s → s ≤ cond b (c - x) x →
    0 < cond (eqb from (cond b from to)) (cond b (x + s) (x - s)) (c - cond b (x + s) (x - s))
back_room true from to x c s ne w l m = rw (self_eqb from) (omega (arith, l))
back_room false from to x c s ne w l m =
    rw (differ from to (λ e. ne (sym e))) (omega (arith, w, l, m))

more_left : (b : Bool) (from to x c s : ℕ) → from ≢ to → x ≤ c → s < cond b (c - x) x →
    0 < cond (eqb from (cond b to from)) (cond b (x + s) (x - s)) (c - cond b (x + s) (x - s))
more_left true from to x c s ne w l = rw (differ from to (λ e. ne (sym e))) (omega (arith, w, l))
more_left false from to x c s ne w l = rw (self_eqb from) (omega (arith, l))

pub ends_differ : (b : Bool) (from to : ℕ) → cond b from to ≢ cond b to from → from ≢ to
ends_differ true from to ne = ne
ends_differ false from to ne = λ e. ne (sym e)

-- ---- the flow after the entering arc took its part too
module _ (t : Task) (supply : ℕ → ℤ) (h : Tree) (f g : ℕ → ℕ) (e : ℕ) (forward : Bool) (w step : ℕ)
    (leaves : Leaves) (s : IsHung t h)
    (held : IsHeld t supply h f) (le : e < t.net.arcs) (off_tree : IsTreeArc t h e → ⊥)
    (look : IsLook t h f (tail_of t.net e forward) (head_of t.net e forward)
    (enter_room t f e forward) w w step leaves)
    (sent : IsSent t h f g (tail_of t.net e forward) (head_of t.net e forward) w w step) where
  pub same_e : g e ≡ f e
  same_e = elim (sent.rest e le) [ inl q ↦ q | inr q ↦ absurd (off_tree q) ]

  small : step ≤ enter_room t g e forward
  small = rw same_e (fits_entering leaves step (enter_room t f e forward) look.entering)

  pub new_within : (k : ℕ) → k < t.net.arcs → set_at g e (entered g e forward step) k ≤ t.cap k
  new_within k l =
      elim (eqb_tells k e) [
        | inl q ↦ rw (q.0, q.1) (from_within forward (g e) (t.cap e) step (sent.within e le) small)
        | inr q ↦ rw q.0 (sent.within k l)
      ]

  pub new_met : (v : ℕ) → v < t.net.nodes
      → net t.net (λ k. pos (set_at g e (entered g e forward step) k)) v ≡ supply v
  new_met v l =
      let c = net_shared t.net (λ x. pos (g x)) (λ x. pos (set_at g e (entered g e forward step) x))
      e v le (λ x q off. ap pos (set_at-other g e (entered g e forward step) x off)) in
      let m = enter_share t.net forward e (g e) (t.cap e - g e) step v small in
      let d : share_at t.net e (pos (set_at g e (entered g e forward step) e) -ℤ pos (g e)) v
      ≡ at_node (tail_of t.net e forward) (pos step) v
      -ℤ at_node (head_of t.net e forward) (pos step) v =
      rw (set_at-here g e (entered g e forward step)) m in
      let a = sent.nets v l in
      let b = held.met v l in
      omega (arith, ints, a, b, c, d)

  arc_off : (v : ℕ) → IsLow t v → h.arc v ≢ e
  arc_off v lv q = off_tree (v, (lv, q))

  pub new_same : (v : ℕ) → IsLow t v → set_at g e (entered g e forward step) (h.arc v) ≡ g (h.arc v)
  new_same v lv = set_at-other g e (entered g e forward step) (h.arc v) (arc_off v lv)

  -- an arc has its old flow, or is one of the old tree, or the one that enters
  pub new_rest : (k : ℕ) → k < t.net.arcs → k ≢ e
      → ((set_at g e (entered g e forward step) k ≡ 0)
      ⊎ (set_at g e (entered g e forward step) k ≡ t.cap k)) ⊎ IsTreeArc t h k
  new_rest k l off =
      let is = set_at-other g e (entered g e forward step) k off in
      elim (sent.rest k l) [
        | inr q ↦ inr q
        | inl q ↦ elim (held.rest k l) [
          | inr z ↦ inr z
          | inl (inl z) ↦ inl (inl (is ∙ (q ∙ z)))
          | inl (inr z) ↦ inl (inr (is ∙ (q ∙ z)))
        ]
      ]

  -- the room to a node that hangs as before, where the step was less on the way to the entering arc
  pub still_room : (v : ℕ) → IsLow t v
      → (ComesTo h (tail_of t.net e forward) v → h.depth w < h.depth v
      → step < room_to t.net t.cap f (h.arc v) v)
      → 0 < room_to t.net t.cap (set_at g e (entered g e forward step)) (h.arc v) v
  still_room v lv less =
      rw (room_to_same t (set_at g e (entered g e forward step)) g (h.arc v) v (new_same v lv))
      (elim (sent.each v lv) [
        | inl (inl q) ↦ (let a = less q.0 q.1 in let b = (sent.before v lv q.0 q.1).less in
            omega (arith, a, b))
        | inl (inr q) ↦ (let a = held.sends v lv in let b = (sent.after v lv q.0 q.1).more in
            omega (arith, a, b))
        | inr q ↦ rw (room_to_same t g f (h.arc v) v q) (held.sends v lv)
      ])

  pub apart_ends : (x : ℕ) → h.depth w < h.depth x → (h.depth x ≤ h.depth (tail_of t.net e forward))
      ⊎ (h.depth x ≤ h.depth (head_of t.net e forward))
      → tail_of t.net e forward ≢ head_of t.net e forward
  apart_ends x deep top q =
      let a = look.apart (tail_of t.net e forward)
      (over_self (forest_of h) (tail_of t.net e forward))
      (rw (← q) (over_self (forest_of h) (tail_of t.net e forward))) in
      let d = ap h.depth q in
      elim top [
        | inl z ↦ absurd (omega (arith, a, deep, z))
        | inr z ↦
            absurd (omega (arith, a, deep, z, d))
      ]

-- ---- the arc that leaves lies before the entering one
module _ (t : Task) (supply : ℕ → ℤ) (h : Tree) (f g : ℕ → ℕ) (e : ℕ) (forward : Bool)
    (w step x : ℕ) (s : IsHung t h) (held : IsHeld t supply h f)
    (le : e < t.net.arcs) (off_tree : IsTreeArc t h e → ⊥)
    (sent : IsSent t h f g (tail_of t.net e forward) (head_of t.net e forward) w w step) where
  pub room_before : (low_x : IsLow t x)
      → IsLook t h f (tail_of t.net e forward) (head_of t.net e forward) (enter_room t f e forward)
      w w step (Before x) →
      HasRoom t h (set_at g e (entered g e forward step)) (tail_of t.net e forward) e x
  room_before low_x look =
      let i = tail_of t.net e forward in
      let next = set_at g e (entered g e forward step) in
      let deep : h.depth w < h.depth x = look.tight.1.1.0 in
      let over : ComesTo h i x = look.tight.1.0 in
      let is : room_to t.net t.cap f (h.arc x) x ≡ step = look.tight.1.1.1 in
      let some : 0 < step = (let a = held.sends x low_x in omega (arith, a, is)) in
      let keeps = new_same t supply h f g e forward w step (Before x) s held le off_tree look
      sent in
      let ne = ends_differ forward (t.net.from e) (t.net.to e)
      (apart_ends t supply h f g e forward w step (Before x) s held le off_tree look sent x deep
      (inl over.high)) in
      record {
        kept = λ v lv q. still_room t supply h f g e forward w step (Before x) s held le off_tree
            look sent v lv (λ o d. (look.before v o d).1 (q o));
        turned = λ u lu o d.
            rw (room_from_same t next g (h.arc u) u (keeps u lu))
            (let a = (sent.before u lu o (omega (arith, deep, d))).more in omega (arith, a, some));
        first = rw (set_at-here g e (entered g e forward step))
            (back_room forward (t.net.from e) (t.net.to e) (g e) (t.cap e) step ne
            (sent.within e le) some (small t supply h f g e forward w step (Before x) s held le
            off_tree look sent));
        leaves =
            (let same = keeps x low_x in
            let a = (sent.before x low_x over deep).less in
            let zero : room_to t.net t.cap g (h.arc x) x ≡ 0 = omega (arith, a, is) in
            elim (bound_to (eqb (t.net.from (h.arc x)) x) (g (h.arc x)) (t.cap (h.arc x))
            (sent.within (h.arc x) (s.arc x low_x)) zero) [
              | inl z ↦ inl (same ∙ z)
              | inr z ↦
                  inr (same ∙ z)
            ]);
      }

  pub room_after : (low_x : IsLow t x)
      → IsLook t h f (tail_of t.net e forward) (head_of t.net e forward) (enter_room t f e forward)
      w w step (After x) →
      HasRoom t h (set_at g e (entered g e forward step)) (head_of t.net e forward) e x
  room_after low_x look =
      let j = head_of t.net e forward in
      let next = set_at g e (entered g e forward step) in
      let deep : h.depth w < h.depth x = look.tight.1.1.0 in
      let over : ComesTo h j x = look.tight.1.0 in
      let is : room_from t.net t.cap f (h.arc x) x ≡ step = look.tight.1.1.1 in
      let keeps = new_same t supply h f g e forward w step (After x) s held le off_tree look sent in
      let ne = ends_differ forward (t.net.from e) (t.net.to e)
      (apart_ends t supply h f g e forward w step (After x) s held le off_tree look sent x deep
      (inr over.high)) in
      let less : step < enter_room t g e forward =
      rw (same_e t supply h f g e forward w step (After x) s held le off_tree look sent)
      look.entering in
      record {
        kept = λ v lv q. still_room t supply h f g e forward w step (After x) s held le off_tree
            look sent v lv (λ o d. look.before v o d);
        turned = λ u lu o d.
            rw (room_from_same t next g (h.arc u) u (keeps u lu))
            (let deeper : h.depth w < h.depth u = omega (arith, deep, d) in
            let a = (sent.after u lu o deeper).less in
            let b = (look.after u o deeper).1 d in
            omega (arith, a, b));
        first = rw (set_at-here g e (entered g e forward step))
            (more_left forward (t.net.from e) (t.net.to e) (g e) (t.cap e) step ne
            (sent.within e le) less);
        leaves =
            (let same = keeps x low_x in
            let a = (sent.after x low_x over deep).less in
            let zero : room_from t.net t.cap g (h.arc x) x ≡ 0 = omega (arith, a, is) in
            elim (bound_from (eqb (t.net.from (h.arc x)) x) (g (h.arc x)) (t.cap (h.arc x))
            (sent.within (h.arc x) (s.arc x low_x)) zero) [
              | inl z ↦ inl (same ∙ z)
              | inr z ↦
                  inr (same ∙ z)
            ]);
      }

  -- ---- the entering arc itself is full, and the tree stays
  pub held_same : IsLook t h f (tail_of t.net e forward) (head_of t.net e forward)
      (enter_room t f e forward) w w step Enters
      → IsHeld t supply h (set_at g e (entered g e forward step))
  held_same look = record {
    within = new_within t supply h f g e forward w step Enters s held le off_tree look sent;
    met = new_met t supply h f g e forward w step Enters s held le off_tree look sent;
    rest = λ k l.
        elim (eqb_tells k e) [
          | inl q ↦
              inl (rw (q.0, q.1)
              (full forward (g e) (t.cap e) step (sent.within e le)
              (rw (same_e t supply h f g e forward w step Enters s held le off_tree look sent)
              look.entering)))
          | inr q ↦ new_rest t supply h f g e forward w step Enters s held le off_tree look sent k l
              q.1
        ];
    sends = λ v lv. still_room t supply h f g e forward w step Enters s held le off_tree look sent v
        lv (λ o d. look.before v o d);
  }

-- ---- a flow that leaves room along the new tree keeps to the task by it
pub held_again : (t : Task) (supply : ℕ → ℤ) (h : Tree) (f : ℕ → ℕ) (p a d' : ℕ → ℕ)
    (inner outer e x : ℕ) → IsHung t h → IsTurned t h p a inner outer e x → inner < t.net.nodes
    → IsLow t x → ComesTo h inner x → Joins t.net e inner outer →
    ((k : ℕ) → k < t.net.arcs → f k ≤ t.cap k)
    → ((v : ℕ) → v < t.net.nodes → net t.net (λ k. pos (f k)) v ≡ supply v) →
    ((k : ℕ) → k < t.net.arcs → k ≢ e → ((f k ≡ 0) ⊎ (f k ≡ t.cap k)) ⊎ IsTreeArc t h k)
    → HasRoom t h f inner e x → IsHeld t supply (record { parent = p; arc = a; depth = d' }) f
held_again t supply h f p a d' inner outer e x s tu li low_x over joins within met rest room =
    record {
      within = within;
      met = met;
      rest = λ k l.
          elim (eqb_tells k e) [
            | inl q ↦ inr (
              inner,
              (
                inner_low t h p a inner outer e x s tu li low_x over,
                tu.first.1
                    ∙ sym q.1,
              ),
            )
            | inr q ↦
                elim (rest k l q.1) [
                  | inl z ↦ inl z
                  | inr z ↦
                      elim (eqb_tells z.0 x) [
                        | inl y ↦ (let is : h.arc x ≡ k = ap h.arc (sym y.1)
                            ∙ z.1.1 in inl (rw is at room.leaves))
                        | inr y ↦
                            (let again = still_tree t h p a inner outer e x s tu li low_x over p d'
                            z.0 z.1.0 y.1 in
                            inr (again.0, (again.1.0, again.1.1 ∙ z.1.1)))
                      ]
                ]
          ];
      sends = λ v lv.
          elim (tree_cases t h p a inner outer e x s tu li low_x over v lv) [
            | inl k ↦ rw k.0.1 (room.kept v lv k.1)
            | inr (inl i) ↦ rw (i, tu.first.1) room.first
            | inr (inr b) ↦
                (let u = b.0 in
                let is = b.1.1.1.1 in
                let n = tu.turned u b.1.0 b.1.1.0 b.1.1.1.0 in
                let other = other_end t f (h.arc u) u (h.parent u) (s.joins u b.1.0)
                (off_parent t h u s b.1.0) in
                rw (← is, n.1, other) (room.turned u b.1.0 b.1.1.0 b.1.1.1.0))
          ];
    }
