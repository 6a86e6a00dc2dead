-- The three outcomes of a pivot: each keeps the state, and its height falls.
use Rattle.std.proofs.Common.{◌≡◌, ◌≢◌, ◌⊎◌, inl, inr, ℕ, ◌+◌, ◌-◌, ◌<◌, ◌≤◌, Bool, true, false}
use Rattle.std.proofs.Common.{cond, ℤ, pos, neg_ℤ, ◌-ℤ◌, ◌*ℤ◌, ◌<ℤ◌, refl, sym, ◌∙◌, ap, arith}
use Rattle.std.proofs.lemmas.Int.{ints}
use Rattle.std.proofs.lemmas.Bool.Decides.{eqb_tells}
use Rattle.std.proofs.Math.IntN.{*ℤ-zero}
use Rattle.pivot_flow.specs.declared.look.Leaves.{Leaves}
use Rattle.pivot_flow.specs.declared.look.Leaves.TheVariants.{Enters, Before, After}
use Rattle.plain_certificates.proofs.Measures.{height_falls}
use Rattle.plain_certificates.proofs.Tables.{set_at-here, set_at-other}
use Rattle.plain_certificates.proofs.Sums.{sum_to-falls}
use Rattle.plain_certificates.specs.Cheapest.{reduced_cost}
use Rattle.plain_certificates.specs.Numbered.{EndsAreNodes, Numbered, sum_to}
use Rattle.plain_certificates.specs.Rooms.{Joins, room_from, room_to}
use Rattle.plain_certificates.specs.Tables.{set_at}
use Rattle.pivot_flow.proofs.Falling.{cost_changed, saves}
use Rattle.pivot_flow.proofs.Hanging.{hung_again, priced_again}
use Rattle.pivot_flow.proofs.Holding.{apart_ends, held_again, held_same, new_met, new_rest}
use Rattle.pivot_flow.proofs.Holding.{new_within, room_after, room_before, same_e}
use Rattle.pivot_flow.proofs.Looking.{fits_after, fits_before, fits_entering}
use Rattle.pivot_flow.proofs.Pricing.{floor_is, price_small, sum_bounds}
use Rattle.pivot_flow.specs.Enter.{HasRoom, IsSettled, MayEnter, enter_room, entered, head_of}
use Rattle.pivot_flow.specs.Enter.{saving, tail_of}
use Rattle.pivot_flow.specs.Look.{IsLook}
use Rattle.pivot_flow.specs.Send.{CanSend, IsSent}
use Rattle.pivot_flow.specs.State.{IsCosted, IsState, floor_of, height_of, reach_of, total_of}
use Rattle.pivot_flow.specs.Tree.{ComesTo, IsLow, IsPriced, IsTreeArc, Task, Tree}
use Rattle.pivot_flow.specs.Turn.{IsTurned}

-- what the look says is what the sending needs
pub can_send : (t : Task) (h : Tree) (f : ℕ → ℕ) (i j room w step : ℕ) (leaves : Leaves)
    → IsLook t h f i j room w w step leaves → CanSend t h f i j w step
can_send t h f i j room w step leaves l = record {
  over_i = l.over_a;
  over_j = l.over_b;
  apart = λ c x y. (l.apart c x y).0;
  before = λ v o d. fits_before h leaves step v (room_to t.net t.cap f (h.arc v) v)
      (l.before v o d);
  after = λ v o d. fits_after h leaves step v (room_from t.net t.cap f (h.arc v) v) (l.after v o d);
}

-- an arc that may enter is none of the tree
not_tree : (b : Bool) (r : ℤ) → pos 0 <ℤ cond b (neg_ℤ r) r → r ≡ pos 0 → ⊥
not_tree true r s z = absurd (omega (arith, ints, s, z))
not_tree false r s z = absurd (omega (arith, ints, s, z))

pub off_tree : (t : Task) (cost : ℕ → ℤ) (h : Tree) (f : ℕ → ℕ) (y : ℕ → ℤ) (e : ℕ) (forward : Bool)
    → IsPriced t cost h y → MayEnter t cost f y e forward → IsTreeArc t h e → ⊥
off_tree t cost h f y e forward pr m q =
    not_tree forward (reduced_cost t.net cost y e) m.saves
    (ap (reduced_cost t.net cost y) (sym q.1.1) ∙ pr.zero q.0 q.1.0)

pub joins_tail : (g : Numbered) (e : ℕ) (b : Bool) → Joins g e (tail_of g e b) (head_of g e b)
joins_tail g e true = inl (refl, refl)
joins_tail g e false = inr (refl, refl)

pub joins_head : (g : Numbered) (e : ℕ) (b : Bool) → Joins g e (head_of g e b) (tail_of g e b)
joins_head g e true = inr (refl, refl)
joins_head g e false = inl (refl, refl)

-- by how much the potentials below the entering arc change
by_tail : (b : Bool) (from to : ℕ) (r : ℤ) → cond b from to ≢ cond b to from
    → (from ≡ cond b from to → cond b (neg_ℤ r) r ≡ neg_ℤ r)
    × (to ≡ cond b from to → cond b (neg_ℤ r) r ≡ r)
by_tail true from to r ne = ((λ _. refl), λ q. absurd (ne (sym q)))
by_tail false from to r ne = ((λ q. absurd (ne (sym q))), λ _. refl)

by_head : (b : Bool) (from to : ℕ) (r : ℤ) → cond b from to ≢ cond b to from
    → (from ≡ cond b to from → neg_ℤ (cond b (neg_ℤ r) r) ≡ neg_ℤ r)
    × (to ≡ cond b to from → neg_ℤ (cond b (neg_ℤ r) r) ≡ r)
by_head true from to r ne = ((λ q. absurd (ne q)), λ _. omega (arith, ints))
by_head false from to r ne = ((λ _. refl), λ q. absurd (ne q))

some_saved : (a : ℤ) (s : ℕ) → pos 0 <ℤ a → 0 < s → pos 0 <ℤ (a *ℤ pos s)
some_saved a s l m = grind (arith, ints)

room_some : (b : Bool) (s c x : ℕ) → s ≤ cond b c x → s ≤ cond b s x
room_some true s c x l = omega arith
room_some false s c x l = l

tail_node : (t : Task) (e : ℕ) (b : Bool) → EndsAreNodes t.net → e < t.net.arcs
    → (tail_of t.net e b < t.net.nodes) × (head_of t.net e b < t.net.nodes)
tail_node t e true s l = s e l
tail_node t e false s l = ((s e l).1, (s e l).0)

module _ (t : Task) (supply cost : ℕ → ℤ) (h : Tree) (f g : ℕ → ℕ) (y : ℕ → ℤ) (e : ℕ)
    (forward : Bool) (w step : ℕ) (leaves : Leaves) (shape : EndsAreNodes t.net)
    (cs : IsCosted t cost) (st : IsState t supply cost h f y) (may : MayEnter t cost f y e forward)
    (look : IsLook t h f (tail_of t.net e forward) (head_of t.net e forward)
    (enter_room t f e forward) w w step leaves)
    (sent : IsSent t h f g (tail_of t.net e forward) (head_of t.net e forward) w w step) where
  off : IsTreeArc t h e → ⊥
  off = off_tree t cost h f y e forward st.priced may

  abbrev next : ℕ → ℕ
  next = set_at g e (entered g e forward step)

  -- the cost falls by the step times the saving
  pub cost_falls : total_of t cost next -ℤ total_of t cost f
      ≡ neg_ℤ (saving t.net cost y e forward *ℤ pos step)
  cost_falls =
      let same = same_e t supply h f g e forward w step leaves st.hung st.held may.arc off look
      sent in
      let c = cost_changed t cost h f next y e shape st.priced may.arc
      (λ v l. new_met t supply h f g e forward w step leaves st.hung st.held may.arc off look sent v
      l ∙ sym (st.held.met v l))
      (λ k l ne. elim (sent.rest k l) [
        | inl q ↦
            inl (set_at-other g e (entered g e forward step) k ne ∙ q)
        | inr q ↦ inr q
      ]) in
      let small = fits_entering leaves step (enter_room t f e forward) look.entering in
      let s = saves forward (reduced_cost t.net cost y e) (f e) step
      (room_some forward step (t.cap e - f e) (f e) small) in
      let is : next e ≡ cond forward (f e + step) (f e - step) =
      set_at-here g e (entered g e forward step)
      ∙ ap (λ z. cond forward (z + step) (z - step)) same in
      c ∙ (ap (λ z. reduced_cost t.net cost y e *ℤ (pos z -ℤ pos (f e))) is ∙ s)

  falls_by_cost : 0 < step → total_of t cost next <ℤ total_of t cost f
  falls_by_cost some = let a = some_saved (saving t.net cost y e forward) step may.saves some in
      let c = cost_falls in omega (arith, ints, a, c)

  same_cost : step ≡ 0 → total_of t cost next ≡ total_of t cost f
  same_cost none =
      let z : saving t.net cost y e forward *ℤ pos step ≡ pos 0 =
      ap (λ s. saving t.net cost y e forward *ℤ pos s) none
      ∙ *ℤ-zero (saving t.net cost y e forward) in
      let c = cost_falls in
      omega (arith, ints, z, c)

  -- a better state has less height
  lower : (h' : Tree) (y' : ℕ → ℤ) → IsState t supply cost h' next y'
      → ((total_of t cost next <ℤ total_of t cost f)
      ⊎ ((total_of t cost next ≡ total_of t cost f)
      × (sum_to t.net.nodes y' <ℤ sum_to t.net.nodes y)))
      → height_of t cost next y' < height_of t cost f y
  lower h' y' st' falls =
      let bounds = sum_bounds t y' (price_small t cost h' y' st'.hung st'.priced cs) in
      height_falls (floor_of t cost) (reach_of t) (total_of t cost f) (sum_to t.net.nodes y)
      (total_of t cost next) (sum_to t.net.nodes y')
      (floor_is t cost next st'.held.within) bounds.0 bounds.1 falls

  -- ---- the part below x hangs anew
  turned_state : (p a d' : ℕ → ℕ) (y' : ℕ → ℤ) (inner outer x : ℕ) (by : ℤ) → inner < t.net.nodes
      → outer < t.net.nodes → IsLow t x → ComesTo h inner x → Joins t.net e inner outer
      → inner ≢ outer →
      (t.net.from e ≡ inner → by ≡ neg_ℤ (reduced_cost t.net cost y e))
      → (t.net.to e ≡ inner → by ≡ reduced_cost t.net cost y e) →
      HasRoom t h next inner e x → IsTurned t h p a inner outer e x
      → IsSettled t p y y' d' inner outer by
      → IsState t supply cost (record { parent = p; arc = a; depth = d' }) next y'
  turned_state p a d' y' inner outer x by li lo low_x over joins ne from_inner to_inner room tu se =
      record {
        hung = hung_again t h p a inner outer e x st.hung tu li low_x over y y' d' by lo may.arc
            joins se;
        held = held_again t supply h next p a d' inner outer e x st.hung tu li low_x over joins
            (new_within t supply h f g e forward w step leaves st.hung st.held may.arc off look
            sent)
            (new_met t supply h f g e forward w step leaves st.hung st.held may.arc off look sent)
            (new_rest t supply h f g e forward w step leaves st.hung st.held may.arc off look sent)
            room;
        priced = priced_again t cost h p a inner outer e x y y' d' by st.hung tu li low_x over
            st.priced joins ne from_inner to_inner se;
      }

-- ---- the three outcomes of a pivot
module _ (t : Task) (supply cost : ℕ → ℤ) (h : Tree) (f g : ℕ → ℕ) (y : ℕ → ℤ) (e : ℕ)
    (forward : Bool) (w step : ℕ) (shape : EndsAreNodes t.net) (cs : IsCosted t cost)
    (st : IsState t supply cost h f y) (may : MayEnter t cost f y e forward)
    (sent : IsSent t h f g (tail_of t.net e forward) (head_of t.net e forward) w w step) where
  pub state_enters : IsLook t h f (tail_of t.net e forward) (head_of t.net e forward)
      (enter_room t f e forward) w w step Enters →
      IsState t supply cost h (set_at g e (entered g e forward step)) y
      × (height_of t cost (set_at g e (entered g e forward step)) y < height_of t cost f y)
  state_enters look =
      let now : IsState t supply cost h (set_at g e (entered g e forward step)) y = record {
        hung = st.hung;
        held = held_same t supply h f g e forward w step 0 st.hung st.held may.arc
            (off_tree t cost h f y e forward st.priced may) sent look;
        priced = st.priced;
      } in
      let some : 0 < step = (let a = look.entering in let b = may.room in omega (arith, a, b)) in (
        now,
        lower t supply cost h f g y e forward w step Enters shape cs st may look sent h y now
            (inl (falls_by_cost t supply cost h f g y e forward w step Enters shape cs st may look
            sent some)),
      )

  pub state_before : (x : ℕ) (p a d' : ℕ → ℕ) (y' : ℕ → ℤ)
      → IsLook t h f (tail_of t.net e forward) (head_of t.net e forward) (enter_room t f e forward)
      w w step (Before x) →
      IsTurned t h p a (tail_of t.net e forward) (head_of t.net e forward) e x
      → IsSettled t p y y' d' (tail_of t.net e forward) (head_of t.net e forward)
      (saving t.net cost y e forward) →
      IsState t supply cost (record { parent = p; arc = a; depth = d' })
      (set_at g e (entered g e forward step)) y'
      × (height_of t cost (set_at g e (entered g e forward step)) y' < height_of t cost f y)
  state_before x p a d' y' look tu se =
      let low_x = look.tight.0 in
      let over = look.tight.1.0 in
      let deep = look.tight.1.1.0 in
      let no_tree = off_tree t cost h f y e forward st.priced may in
      let ends = tail_node t e forward shape may.arc in
      let ne = apart_ends t supply h f g e forward w step (Before x) st.hung st.held may.arc no_tree
      look sent x deep (inl over.high) in
      let by = by_tail forward (t.net.from e) (t.net.to e) (reduced_cost t.net cost y e) ne in
      let room = room_before t supply h f g e forward w step x st.hung st.held may.arc no_tree sent
      low_x look in
      let now = turned_state t supply cost h f g y e forward w step (Before x) shape cs st may look
      sent p a d' y' (tail_of t.net e forward) (head_of t.net e forward) x
      (saving t.net cost y e forward) ends.0 ends.1 low_x over (joins_tail t.net e forward) ne
      by.0 by.1 room tu se in
      let some : 0 < step = (let a = st.held.sends x low_x in let b = look.tight.1.1.1 in
      omega (arith, a, b)) in (
        now,
        lower t supply cost h f g y e forward w step (Before x) shape cs st may look sent
            (record { parent = p; arc = a; depth = d' }) y' now
            (inl (falls_by_cost t supply cost h f g y e forward w step (Before x) shape cs st may
            look sent some)),
      )

  pub state_after : (x : ℕ) (p a d' : ℕ → ℕ) (y' : ℕ → ℤ)
      → IsLook t h f (tail_of t.net e forward) (head_of t.net e forward) (enter_room t f e forward)
      w w step (After x) →
      IsTurned t h p a (head_of t.net e forward) (tail_of t.net e forward) e x
      → IsSettled t p y y' d' (head_of t.net e forward) (tail_of t.net e forward)
      (neg_ℤ (saving t.net cost y e forward)) →
      IsState t supply cost (record { parent = p; arc = a; depth = d' })
      (set_at g e (entered g e forward step)) y'
      × (height_of t cost (set_at g e (entered g e forward step)) y' < height_of t cost f y)
  state_after x p a d' y' look tu se =
      let low_x = look.tight.0 in
      let over = look.tight.1.0 in
      let deep = look.tight.1.1.0 in
      let no_tree = off_tree t cost h f y e forward st.priced may in
      let ends = tail_node t e forward shape may.arc in
      let ne = apart_ends t supply h f g e forward w step (After x) st.hung st.held may.arc no_tree
      look sent x deep (inr over.high) in
      let by = by_head forward (t.net.from e) (t.net.to e) (reduced_cost t.net cost y e) ne in
      let room = room_after t supply h f g e forward w step x st.hung st.held may.arc no_tree sent
      low_x look in
      let now = turned_state t supply cost h f g y e forward w step (After x) shape cs st may look
      sent p a d' y' (head_of t.net e forward) (tail_of t.net e forward) x
      (neg_ℤ (saving t.net cost y e forward)) ends.1 ends.0 low_x over
      (joins_head t.net e forward) (λ q. ne (sym q)) by.0 by.1 room tu se in
      let save = may.saves in
      let sum = sum_to-falls t.net.nodes (head_of t.net e forward) y y' ends.1
      (λ v l. elim (se.each v l) [
        | inl q ↦ rw q (omega (arith, ints))
        | inr q ↦
            omega (arith, ints, q, save)
      ])
      (let q = se.inner_price in omega (arith, ints, q, save)) in (
        now,
        lower t supply cost h f g y e forward w step (After x) shape cs st may look sent
            (record { parent = p; arc = a; depth = d' }) y' now
            (elim (eqb_tells step 0) [
              | inl z ↦
                  inr (
                    same_cost t supply cost h f g y e forward w step (After x) shape cs st may
                        look sent z.1,
                    sum,
                  )
              | inr z ↦
                  inl (falls_by_cost t supply cost h f g y e forward w step (After x) shape cs st
                  may look sent (let n = z.1 in omega (arith, n)))
            ]),
      )
