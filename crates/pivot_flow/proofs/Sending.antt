-- What is sent over one arc of the tree.
use Rattle.std.proofs.Common.{◌≡◌, ◌≢◌, inl, inr, ℕ, ◌+◌, ◌-◌, ◌<◌, ◌≤◌, Bool, true, false, eqb}
use Rattle.std.proofs.Common.{cond, ℤ, pos, ◌+ℤ◌, ◌-ℤ◌, sym, ◌∙◌, ap, arith}
use Rattle.std.proofs.lemmas.Int.{ints}
use Rattle.plain_certificates.proofs.Changes.{net_changed}
use Rattle.plain_certificates.proofs.Tables.{apart_eqb, self_eqb}
use Rattle.plain_certificates.specs.Numbered.{Numbered, net}
use Rattle.plain_certificates.specs.Pushes.{at_node}
use Rattle.plain_certificates.specs.Rooms.{IsSentFrom, IsSentTo, Joins, room_from, room_to}
use Rattle.plain_certificates.specs.Rooms.{sent_from, sent_to}
use Rattle.pivot_flow.specs.Tree.{IsHung, IsLow, Task, Tree}

-- ---- one arc's flow is another
unfoldable pub share_at : Numbered → ℕ → ℤ → ℕ → ℤ
share_at g k x v = cond (eqb (g.from k) v) x (pos 0) -ℤ cond (eqb (g.to k) v) x (pos 0)

pub net_shared : (g : Numbered) (f f' : ℕ → ℤ) (k v : ℕ) → k < g.arcs
    → ((j : ℕ) → j < g.arcs → j ≢ k → f' j ≡ f j)
    → net g f' v ≡ net g f v +ℤ share_at g k (f' k -ℤ f k) v
unfolding share_at
net_shared g f f' k v l same = net_changed g f f' k v l same

-- ---- what is sent over one arc
pub share_less : (b d : Bool) (x s : ℕ) → s ≤ x
    → cond b (pos (x - s) -ℤ pos x) (pos 0) -ℤ cond d (pos (x - s) -ℤ pos x) (pos 0)
    ≡ cond d (pos s) (pos 0) -ℤ cond b (pos s) (pos 0)
share_less true true x s l = omega (arith, ints)
share_less true false x s l = omega (arith, ints)
share_less false true x s l = omega (arith, ints)
share_less false false x s l = omega (arith, ints)

pub share_more : (b d : Bool) (x s : ℕ)
    → cond b (pos (x + s) -ℤ pos x) (pos 0) -ℤ cond d (pos (x + s) -ℤ pos x) (pos 0)
    ≡ cond b (pos s) (pos 0) -ℤ cond d (pos s) (pos 0)
share_more true true x s = omega (arith, ints)
share_more true false x s = omega (arith, ints)
share_more false true x s = omega (arith, ints)
share_more false false x s = omega (arith, ints)

pub differ : (p a : ℕ) → a ≢ p → eqb p a ≡ false
differ p a ne = apart_eqb p a (λ e. ne (sym e))

pub share_to : (t : Task) (f : ℕ → ℕ) (k a p step v : ℕ) → Joins t.net k a p → a ≢ p
    → step ≤ room_to t.net t.cap f k a →
    share_at t.net k (pos (sent_to t.net f k a step) -ℤ pos (f k)) v ≡ at_node p (pos step) v
    -ℤ at_node a (pos step) v
unfolding share_at
share_to t f k a p step v (inl e) ne le =
    let x : step ≤ f k = (rw (e.0, self_eqb a) at le) in
    rw (e.0, e.1, self_eqb a) (share_less (eqb a v) (eqb p v) (f k) step x)
share_to t f k a p step v (inr e) ne le =
    rw (e.0, e.1, differ p a ne) (share_more (eqb p v) (eqb a v) (f k) step)

pub share_from : (t : Task) (f : ℕ → ℕ) (k a p step v : ℕ) → Joins t.net k a p → a ≢ p
    → step ≤ room_from t.net t.cap f k a →
    share_at t.net k (pos (sent_from t.net f k a step) -ℤ pos (f k)) v ≡ at_node a (pos step) v
    -ℤ at_node p (pos step) v
unfolding share_at
share_from t f k a p step v (inl e) ne le =
    rw (e.0, e.1, self_eqb a) (share_more (eqb a v) (eqb p v) (f k) step)
share_from t f k a p step v (inr e) ne le =
    let x : step ≤ f k = (rw (e.0, differ p a ne) at le) in
    rw (e.0, e.1, differ p a ne) (share_less (eqb p v) (eqb a v) (f k) step x)

pub to_within : (b : Bool) (x c s : ℕ) → x ≤ c → s ≤ cond b x (c - x) → cond b (x - s) (x + s) ≤ c
to_within true x c s w l = omega arith
to_within false x c s w l = omega arith

pub from_within : (b : Bool) (x c s : ℕ) → x ≤ c → s ≤ cond b (c - x) x → cond b (x + s) (x - s) ≤ c
from_within true x c s w l = omega arith
from_within false x c s w l = omega arith

-- an arc's sending depends on its own flow alone
pub kept_to : (t : Task) (f g f' g' : ℕ → ℕ) (k v step : ℕ) → f k ≡ g k → f' k ≡ g' k
    → IsSentTo t.net t.cap f f' k v step → IsSentTo t.net t.cap g g' k v step
kept_to t f g f' g' k v step a b m =
    record { less = rw (← a, ← b) m.less; more = rw (← a, ← b) m.more }

pub kept_from : (t : Task) (f g f' g' : ℕ → ℕ) (k v step : ℕ) → f k ≡ g k → f' k ≡ g' k
    → IsSentFrom t.net t.cap f f' k v step → IsSentFrom t.net t.cap g g' k v step
kept_from t f g f' g' k v step a b m =
    record { less = rw (← a, ← b) m.less; more = rw (← a, ← b) m.more }

-- ---- one node hangs by one arc
pub off_parent : (t : Task) (h : Tree) (v : ℕ) → IsHung t h → IsLow t v → v ≢ h.parent v
off_parent t h v s l e = let d = s.falls v l in let q = ap h.depth e in absurd (omega (arith, d, q))

pub arc_one : (t : Task) (h : Tree) (v w : ℕ) → IsHung t h → IsLow t v → IsLow t w
    → h.arc v ≡ h.arc w → v ≡ w
arc_one t h v w s lv lw e = cases (s.joins v lv) (s.joins w lw)
  where
    cross : v ≡ h.parent w → h.parent v ≡ w → v ≡ w
    cross p q = (let a = s.falls v lv in let b = s.falls w lw in let c = ap h.depth p in let d =
        ap h.depth q in absurd (omega (arith, a, b, c, d)))

    cases : Joins t.net (h.arc v) v (h.parent v) → Joins t.net (h.arc w) w (h.parent w) → v ≡ w
    cases (inl a) (inl b) = sym a.0 ∙ (ap t.net.from e ∙ b.0)
    cases (inl a) (inr b) = cross (sym a.0 ∙ (ap t.net.from e ∙ b.0)) (sym a.1
        ∙ (ap t.net.to e ∙ b.1))
    cases (inr a) (inl b) = cross (sym a.1 ∙ (ap t.net.to e ∙ b.1)) (sym a.0
        ∙ (ap t.net.from e ∙ b.0))
    cases (inr a) (inr b) = sym a.1 ∙ (ap t.net.to e ∙ b.1)
