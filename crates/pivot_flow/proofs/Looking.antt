-- What a step up does to what the look knows.
use Rattle.std.proofs.Common.{◌≡◌, ◌≢◌, ◌⊎◌, inl, inr, ℕ, ◌<◌, ◌≤◌, refl, sym, ◌∙◌, ap, arith}
use Rattle.std.proofs.lemmas.Bool.Decides.{eqb_tells}
use Rattle.pivot_flow.specs.declared.look.Leaves.{Leaves}
use Rattle.pivot_flow.specs.declared.look.Leaves.TheVariants.{Enters, Before, After}
use Rattle.plain_certificates.proofs.Forest.{over_same, over_self}
use Rattle.plain_certificates.specs.Rooms.{room_from, room_to}
use Rattle.pivot_flow.proofs.Above.{low_deep, over_parent}
use Rattle.pivot_flow.specs.Look.{FitsAfter, FitsBefore, FitsEntering, IsLook, IsTight}
use Rattle.pivot_flow.specs.Tree.{ComesTo, IsHung, IsLow, Task, Tree, forest_of}

-- ---- what was found so far says as much of a smaller step
less_before : (h : Tree) (leaves : Leaves) (step less x v room : ℕ) → less ≤ step
    → h.depth x ≤ h.depth v → FitsBefore h leaves step v room → FitsBefore h (Before x) less v room
less_before h Enters step less x v room le d p = (omega (arith, p), λ _. omega (arith, p))
less_before h (Before y) step less x v room le d p = (omega (arith, p.0), λ q. omega (arith, p.0))
less_before h (After y) step less x v room le d p = (omega (arith, p), λ _. omega (arith, p))

pub fits_after : (h : Tree) (leaves : Leaves) (step v room : ℕ) → FitsAfter h leaves step v room
    → step ≤ room
fits_after h Enters step v room p = p
fits_after h (Before y) step v room p = p
fits_after h (After y) step v room p = p.0

pub fits_before : (h : Tree) (leaves : Leaves) (step v room : ℕ) → FitsBefore h leaves step v room
    → step ≤ room
fits_before h Enters step v room p = omega (arith, p)
fits_before h (Before y) step v room p = p.0
fits_before h (After y) step v room p = omega (arith, p)

pub fits_entering : (leaves : Leaves) (step room : ℕ) → FitsEntering leaves step room → step ≤ room
fits_entering Enters step room p = omega (arith, p)
fits_entering (Before y) step room p = p
fits_entering (After y) step room p = omega (arith, p)

strict_before : (h : Tree) (leaves : Leaves) (step v room : ℕ) → step < room
    → FitsBefore h leaves step v room
strict_before h Enters step v room p = p
strict_before h (Before y) step v room p = (omega (arith, p), λ _. p)
strict_before h (After y) step v room p = p

-- the arc at b is no first one where another arc after the entering one leaves
still_after : (t : Task) (h : Tree) (f : ℕ → ℕ) (i j a b step : ℕ) (leaves : Leaves) (room : ℕ)
    → IsTight t h f i j a b step leaves → step ≤ room → FitsAfter h leaves step b room
still_after t h f i j a b step Enters room p le = le
still_after t h f i j a b step (Before x) room p le = le
still_after t h f i j a b step (After x) room p le =
    (le, λ q. absurd (let d = p.1.1.0 in omega (arith, d, q)))

tight_left : (t : Task) (h : Tree) (f : ℕ → ℕ) (i j a a' b step : ℕ) (leaves : Leaves)
    → h.depth a' ≤ h.depth a → IsTight t h f i j a b step leaves
    → IsTight t h f i j a' b step leaves
tight_left t h f i j a a' b step Enters d p = p
tight_left t h f i j a a' b step (Before x) d p =
    (p.0, (p.1.0, ((let q = p.1.1.0 in omega (arith, d, q)), p.1.1.1)))
tight_left t h f i j a a' b step (After x) d p = p

tight_right : (t : Task) (h : Tree) (f : ℕ → ℕ) (i j a b b' step : ℕ) (leaves : Leaves)
    → h.depth b' ≤ h.depth b → IsTight t h f i j a b step leaves
    → IsTight t h f i j a b' step leaves
tight_right t h f i j a b b' step Enters d p = p
tight_right t h f i j a b b' step (Before x) d p = p
tight_right t h f i j a b b' step (After x) d p =
    (p.0, (p.1.0, ((let q = p.1.1.0 in omega (arith, d, q)), p.1.1.1)))

-- ---- which of two different nodes hangs
pub root_alone : (t : Task) (h : Tree) (v : ℕ) → IsHung t h → v < t.net.nodes → h.depth v ≡ 0
    → v ≡ t.root
root_alone t h v s l d =
    elim (eqb_tells v t.root) [
      | inl e ↦ e.1
      | inr e ↦ absurd (let a = low_deep t h v s (l, e.1) in omega (arith, a, d))
    ]

pub left_low : (t : Task) (h : Tree) (a b : ℕ) → IsHung t h → a < t.net.nodes → b < t.net.nodes
    → a ≢ b → h.depth b ≤ h.depth a → IsLow t a
left_low t h a b s la lb ne d = (
  la,
  λ e. ne (let z : h.depth a ≡ 0 = ap h.depth e ∙ s.top_depth in
      let w = root_alone t h b s lb (omega (arith, z, d)) in e ∙ sym w),
)

pub right_low : (t : Task) (h : Tree) (a b : ℕ) → IsHung t h → b < t.net.nodes
    → h.depth a < h.depth b → IsLow t b
right_low t h a b s lb d = (
  lb,
  λ e. (let z : h.depth b ≡ 0 = ap h.depth e
      ∙ s.top_depth in absurd (omega (arith, z, d))),
)

-- ---- a look over one arc more
module _ (t : Task) (h : Tree) (f : ℕ → ℕ) (i j room a b step : ℕ) (leaves : Leaves)
    (s : IsHung t h)
    (l : IsLook t h f i j room a b step leaves) (ne : a ≢ b) where
  apart_left : h.depth b ≤ h.depth a → (c : ℕ) → ComesTo h i c → ComesTo h j c
      → (h.depth c ≤ h.depth (h.parent a)) × (h.depth c ≤ h.depth b)
  apart_left d c x y =
      let low = left_low t h a b s l.a_node l.b_node ne d in
      let fall = s.falls a low in
      let both = l.apart c x y in
      let off : h.depth c ≢ h.depth a =
      λ e. ne (let p = over_same (forest_of h) i a c l.over_a x (sym e) in
      let q = over_same (forest_of h) j b c l.over_b y (omega (arith, both, d, e)) in p ∙ sym q) in
      (omega (arith, fall, both, off), omega (arith, both))

  apart_right : h.depth a < h.depth b → (c : ℕ) → ComesTo h i c → ComesTo h j c
      → (h.depth c ≤ h.depth a) × (h.depth c ≤ h.depth (h.parent b))
  apart_right d c x y =
      let low = right_low t h a b s l.b_node d in
      let fall = s.falls b low in
      let both = l.apart c x y in
      (omega (arith, both), omega (arith, fall, both, d))

  at_or_below : (low : IsLow t a) (v : ℕ) → ComesTo h i v → h.depth (h.parent a) < h.depth v
      → (v ≡ a) ⊎ (h.depth a < h.depth v)
  at_or_below low v x d =
      elim (eqb_tells (h.depth a) (h.depth v)) [
        | inl e ↦ inl (over_same (forest_of h) i v a x l.over_a (sym e.1))
        | inr e ↦ inr (let fall = s.falls a low in let n = e.1 in omega (arith, fall, n, d))
      ]

  at_or_below_b : (low : IsLow t b) (v : ℕ) → ComesTo h j v → h.depth (h.parent b) < h.depth v
      → (v ≡ b) ⊎ (h.depth b < h.depth v)
  at_or_below_b low v x d =
      elim (eqb_tells (h.depth b) (h.depth v)) [
        | inl e ↦ inl (over_same (forest_of h) j v b x l.over_b (sym e.1))
        | inr e ↦ inr (let fall = s.falls b low in let n = e.1 in omega (arith, fall, n, d))
      ]

  pub look_left : h.depth b ≤ h.depth a → step < room_to t.net t.cap f (h.arc a) a
      → IsLook t h f i j room (h.parent a) b step leaves
  look_left d less =
      let low = left_low t h a b s l.a_node l.b_node ne d in
      let fall = s.falls a low in
      record {
        a_node = s.parent a low;
        b_node = l.b_node;
        over_a = over_parent t h i a s low l.over_a;
        over_b = l.over_b;
        apart = apart_left d;
        before = λ v x q. elim (at_or_below low v x q) [
          | inl e ↦ rw e (strict_before h leaves step a (room_to t.net t.cap f (h.arc a) a) less)
          | inr g ↦ l.before v x g
        ];
        after = l.after;
        entering = l.entering;
        tight = tight_left t h f i j a (h.parent a) b step leaves (omega (arith, fall)) l.tight;
      }

  pub look_left_new : h.depth b ≤ h.depth a → room_to t.net t.cap f (h.arc a) a ≤ step
      → IsLook t h f i j room (h.parent a) b (room_to t.net t.cap f (h.arc a) a) (Before a)
  look_left_new d le =
      let low = left_low t h a b s l.a_node l.b_node ne d in
      let fall = s.falls a low in
      let enter = fits_entering leaves step room l.entering in
      let less = room_to t.net t.cap f (h.arc a) a in
      record {
        a_node = s.parent a low;
        b_node = l.b_node;
        over_a = over_parent t h i a s low l.over_a;
        over_b = l.over_b;
        apart = apart_left d;
        before = λ v x q. elim (at_or_below low v x q) [
          | inl e ↦ rw e (omega arith, λ z. absurd (omega (arith, z)))
          | inr g ↦ less_before h leaves step less a v (room_to t.net t.cap f (h.arc v) v) le
              (omega (arith, g)) (l.before v x g)
        ];
        after = λ v x g. (let p = fits_after h leaves step v (room_from t.net t.cap f (h.arc v) v)
            (l.after v x g) in omega (arith, p, le));
        entering = omega (arith, enter, le);
        tight = (low, (l.over_a, (omega (arith, fall), refl)));
      }

  pub look_right : h.depth a < h.depth b → step ≤ room_from t.net t.cap f (h.arc b) b
      → IsLook t h f i j room a (h.parent b) step leaves
  look_right d le =
      let low = right_low t h a b s l.b_node d in
      let fall = s.falls b low in
      record {
        a_node = l.a_node;
        b_node = s.parent b low;
        over_a = l.over_a;
        over_b = over_parent t h j b s low l.over_b;
        apart = apart_right d;
        before = l.before;
        after = λ v x q. elim (at_or_below_b low v x q) [
          | inl e ↦
              rw e (still_after t h f i j a b step leaves (room_from t.net t.cap f (h.arc b) b)
              l.tight le)
          | inr g ↦ l.after v x g
        ];
        entering = l.entering;
        tight = tight_right t h f i j a b (h.parent b) step leaves (omega (arith, fall)) l.tight;
      }

  pub look_right_new : h.depth a < h.depth b → room_from t.net t.cap f (h.arc b) b < step
      → IsLook t h f i j room a (h.parent b) (room_from t.net t.cap f (h.arc b) b) (After b)
  look_right_new d less =
      let low = right_low t h a b s l.b_node d in
      let fall = s.falls b low in
      let enter = fits_entering leaves step room l.entering in
      record {
        a_node = l.a_node;
        b_node = s.parent b low;
        over_a = l.over_a;
        over_b = over_parent t h j b s low l.over_b;
        apart = apart_right d;
        before =
            λ v x g. (let p = fits_before h leaves step v (room_to t.net t.cap f (h.arc v) v)
            (l.before v x g) in omega (arith, p, less));
        after = λ v x q. elim (at_or_below_b low v x q) [
          | inl e ↦ rw e (omega arith, λ z. absurd (omega (arith, z)))
          | inr g ↦
              (let p = fits_after h leaves step v (room_from t.net t.cap f (h.arc v) v)
              (l.after v x g) in (omega (arith, p, less), λ _. omega (arith, p, less)))
        ];
        entering = omega (arith, enter, less);
        tight = (low, (l.over_b, (omega (arith, fall), refl)));
      }

-- the look begins with the entering arc alone
pub look_begins : (t : Task) (h : Tree) (f : ℕ → ℕ) (i j room : ℕ) → i < t.net.nodes
    → j < t.net.nodes → IsLook t h f i j room i j room Enters
look_begins t h f i j room li lj = record {
  a_node = li;
  b_node = lj;
  over_a = over_self (forest_of h) i;
  over_b = over_self (forest_of h) j;
  apart = λ c x y. (x.high, y.high);
  before = λ v x g. absurd (let q = x.high in omega (arith, q, g));
  after = λ v x g. absurd (let q = x.high in omega (arith, q, g));
  entering = refl;
  tight = tt;
}
