-- What sending more over one arc makes of its rooms and of the net flow at its ends.
use Rattle.std.proofs.Common.{◌≡◌, ◌≢◌, inl, inr, ℕ, ◌+◌, ◌-◌, ◌<◌, ◌≤◌, Bool, true, false, eqb}
use Rattle.std.proofs.Common.{cond, pos, ◌+ℤ◌, ◌-ℤ◌, sym, ap, ◌∙◌, arith}
use Rattle.std.proofs.lemmas.Int.{ints}
use Rattle.plain_certificates.specs.Numbered.{Numbered, net}
use Rattle.plain_certificates.specs.Tables.{set_at}
use Rattle.plain_certificates.specs.Pushes.{at_node}
use Rattle.plain_certificates.specs.Rooms.{Joins, room_from, room_to, sent_from, sent_to}
use Rattle.plain_certificates.specs.Rooms.{IsSentFrom, IsSentTo, as_flow}
use Rattle.plain_certificates.proofs.Tables.{self_eqb, apart_eqb, set_at-here, set_at-other}
use Rattle.plain_certificates.proofs.Changes.{net_changed}

-- ---- the two ends

pub joins_back : (g : Numbered) (k u v : ℕ) → Joins g k u v → Joins g k v u
joins_back g k u v (inl e) = inr e
joins_back g k u v (inr e) = inl e

-- what one end can send the other can take
pub room_across : (g : Numbered) (cap flow : ℕ → ℕ) (k u v : ℕ) → Joins g k u v → u ≢ v
    → room_from g cap flow k u ≡ room_to g cap flow k v
room_across g cap flow k u v (inl e) ne = rw (e.0, self_eqb u, apart_eqb u v ne)
room_across g cap flow k u v (inr e) ne =
    rw (e.0, self_eqb v, apart_eqb v u (λ q. ne (sym q)))

pub sent_across : (g : Numbered) (flow : ℕ → ℕ) (k u v step : ℕ) → Joins g k u v → u ≢ v
    → sent_from g flow k u step ≡ sent_to g flow k v step
sent_across g flow k u v step (inl e) ne = rw (e.0, self_eqb u, apart_eqb u v ne)
sent_across g flow k u v step (inr e) ne =
    rw (e.0, self_eqb v, apart_eqb v u (λ q. ne (sym q)))

-- ---- rooms

less_room : (b : Bool) (x c s : ℕ) → s ≤ cond b (c - x) x
    → cond b (c - cond b (x + s) (x - s)) (cond b (x + s) (x - s)) + s ≡ cond b (c - x) x
less_room true x c s l = omega (arith, l)
less_room false x c s l = omega (arith, l)

more_room : (b : Bool) (x c s : ℕ) → x ≤ c → s ≤ cond b (c - x) x
    → cond b (cond b (x + s) (x - s)) (c - cond b (x + s) (x - s)) ≡ cond b x (c - x) + s
more_room true x c s w l = omega (arith, w, l)
more_room false x c s w l = omega (arith, w, l)

less_back : (b : Bool) (x c s : ℕ) → s ≤ cond b x (c - x)
    → cond b (cond b (x - s) (x + s)) (c - cond b (x - s) (x + s)) + s ≡ cond b x (c - x)
less_back true x c s l = omega (arith, l)
less_back false x c s l = omega (arith, l)

more_back : (b : Bool) (x c s : ℕ) → x ≤ c → s ≤ cond b x (c - x)
    → cond b (c - cond b (x - s) (x + s)) (cond b (x - s) (x + s)) ≡ cond b (c - x) x + s
more_back true x c s w l = omega (arith, w, l)
more_back false x c s w l = omega (arith, w, l)

from_within : (b : Bool) (x c s : ℕ) → x ≤ c → s ≤ cond b (c - x) x → cond b (x + s) (x - s) ≤ c
from_within true x c s w l = omega (arith, w, l)
from_within false x c s w l = omega (arith, w, l)

to_within : (b : Bool) (x c s : ℕ) → x ≤ c → s ≤ cond b x (c - x) → cond b (x - s) (x + s) ≤ c
to_within true x c s w l = omega (arith, w, l)
to_within false x c s w l = omega (arith, w, l)

module _ (g : Numbered) (cap flow : ℕ → ℕ) (k end step : ℕ) (within : flow k ≤ cap k) where
  -- no more than the room is sent away from the end
  module _ (room : step ≤ room_from g cap flow k end) where
    pub sent_from_within : sent_from g flow k end step ≤ cap k
    sent_from_within = from_within (eqb (g.from k) end) (flow k) (cap k) step within room

    pub is_sent_from : IsSentFrom g cap flow (set_at flow k
        (sent_from g flow k end step)) k end step
    is_sent_from = record {
      less = rw (set_at-here flow k (sent_from g flow k end step))
          (less_room (eqb (g.from k) end) (flow k) (cap k) step room);
      more = rw (set_at-here flow k (sent_from g flow k end step))
          (more_room (eqb (g.from k) end) (flow k) (cap k) step within room);
    }

  -- or to it
  module _ (room : step ≤ room_to g cap flow k end) where
    pub sent_to_within : sent_to g flow k end step ≤ cap k
    sent_to_within = to_within (eqb (g.from k) end) (flow k) (cap k) step within room

    pub is_sent_to : IsSentTo g cap flow (set_at flow k (sent_to g flow k end step)) k end step
    is_sent_to = record {
      less = rw (set_at-here flow k (sent_to g flow k end step))
          (less_back (eqb (g.from k) end) (flow k) (cap k) step room);
      more = rw (set_at-here flow k (sent_to g flow k end step))
          (more_back (eqb (g.from k) end) (flow k) (cap k) step within room);
    }

-- the rooms of the other arcs are as before
pub room_kept : (g : Numbered) (cap flow : ℕ → ℕ) (k x j end : ℕ) → j ≢ k
    → room_from g cap (set_at flow k x) j end ≡ room_from g cap flow j end
room_kept g cap flow k x j end ne = rw (set_at-other flow k x j ne)

-- sending is told by the arc's own flow alone
pub sent_from_same : (g : Numbered) (cap f f' h h' : ℕ → ℕ) (k end step : ℕ)
    → f k ≡ h k → f' k ≡ h' k → IsSentFrom g cap f f' k end step → IsSentFrom g cap h h' k end step
sent_from_same g cap f f' h h' k end step a b sent =
    record { less = rw (← a, ← b) sent.less; more = rw (← a, ← b) sent.more }

pub sent_to_same : (g : Numbered) (cap f f' h h' : ℕ → ℕ) (k end step : ℕ)
    → f k ≡ h k → f' k ≡ h' k → IsSentTo g cap f f' k end step → IsSentTo g cap h h' k end step
sent_to_same g cap f f' h h' k end step a b sent =
    record { less = rw (← a, ← b) sent.less; more = rw (← a, ← b) sent.more }

-- ---- net flow

sent_more : (b d : Bool) (x s : ℕ)
    → cond b (pos (x + s) -ℤ pos x) (pos 0) -ℤ cond d (pos (x + s) -ℤ pos x) (pos 0)
    ≡ cond b (pos s) (pos 0) -ℤ cond d (pos s) (pos 0)
sent_more true true x s = omega (arith, ints)
sent_more true false x s = omega (arith, ints)
sent_more false true x s = omega (arith, ints)
sent_more false false x s = omega (arith, ints)

sent_less : (b d : Bool) (x s : ℕ) → s ≤ x
    → cond b (pos (x - s) -ℤ pos x) (pos 0) -ℤ cond d (pos (x - s) -ℤ pos x) (pos 0)
    ≡ cond d (pos s) (pos 0) -ℤ cond b (pos s) (pos 0)
sent_less true true x s l = omega (arith, ints, l)
sent_less true false x s l = omega (arith, ints, l)
sent_less false true x s l = omega (arith, ints, l)
sent_less false false x s l = omega (arith, ints, l)

part_sent : (g : Numbered) (cap flow : ℕ → ℕ) (k u v step x : ℕ) → Joins g k u v → u ≢ v
    → step ≤ room_from g cap flow k u
    → at_node (g.from k) (pos (sent_from g flow k u step) -ℤ pos (flow k)) x
    -ℤ at_node (g.to k) (pos (sent_from g flow k u step) -ℤ pos (flow k)) x
    ≡ at_node u (pos step) x -ℤ at_node v (pos step) x
part_sent g cap flow k u v step x (inl e) ne room =
    rw (e.0, e.1, self_eqb u) (sent_more (eqb u x) (eqb v x) (flow k) step)
part_sent g cap flow k u v step x (inr e) ne room =
    let off = apart_eqb v u (λ q. ne (sym q)) in
    let some : step ≤ flow k = rw (e.0, off) at room in
    rw (e.0, e.1, off) (sent_less (eqb v x) (eqb u x) (flow k) step some)

-- what is sent from u to v over an arc leaves u and comes to v
pub net_sent : (g : Numbered) (cap flow : ℕ → ℕ) (k u v step x : ℕ) → k < g.arcs → Joins g k u v
    → u ≢ v → step ≤ room_from g cap flow k u
    → net g (as_flow (set_at flow k (sent_from g flow k u step))) x
    ≡ net g (as_flow flow) x +ℤ (at_node u (pos step) x -ℤ at_node v (pos step) x)
net_sent g cap flow k u v step x l joins ne room =
    let flow' = set_at flow k (sent_from g flow k u step) in
    let change = net_changed g (as_flow flow) (as_flow flow') k x l
    (λ j _ off. ap pos (set_at-other flow k (sent_from g flow k u step) j off)) in
    let here = ap (λ y. at_node (g.from k) (pos y -ℤ pos (flow k)) x
    -ℤ at_node (g.to k) (pos y -ℤ pos (flow k)) x)
    (set_at-here flow k (sent_from g flow k u step)) in
    let part = part_sent g cap flow k u v step x joins ne room in
    change ∙ ap (λ y. net g (as_flow flow) x +ℤ y) (here ∙ part)
