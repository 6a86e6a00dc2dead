-- What the nodes have to send together, and the added arcs at first.
use Rattle.std.proofs.Common.{◌≡◌, ◌⊎◌, inl, inr, ℕ, ◌<◌, ◌^◌}
use Rattle.std.proofs.Common.{true, false, cond, eqb, ℤ, pos, neg_ℤ, ◌-ℤ◌}
use Rattle.std.proofs.Common.{◌≤ℤ◌}
use Rattle.std.proofs.Common.{arith}
use Rattle.std.proofs.lemmas.Int.{ints}
use Rattle.std.proofs.lemmas.Bool.Decides.{nat_tests}
use Rattle.plain_certificates.specs.Numbered.{Numbered}
use Rattle.pivot_flow.specs.declared.look.Ends.{Ends}
use Rattle.net_simplex.specs.Start.{IsSpoke}

pub spoke_joins : (g : Numbered) (v : ℕ) (x : ℤ) (e : Ends) (f : ℕ) (p : ℤ)
    → IsSpoke g.nodes v x e f p
    → ((e.from ≡ v) × (e.to ≡ g.nodes)) ⊎ ((e.from ≡ g.nodes) × (e.to ≡ v))
spoke_joins g v x e f p (inl s) = inl (s.from, s.to)
spoke_joins g v x e f p (inr s) = inr (s.from, s.to)

pub spoke_adds : (n v : ℕ) (x : ℤ) (e : Ends) (f : ℕ) (p : ℤ) → v < n → IsSpoke n v x e f p
    → cond (eqb e.from v) (pos f) (neg_ℤ (pos f)) ≡ x
spoke_adds n v x e f p l (inl s) =
    let on : eqb e.from v ≡ true = (let is = s.from in grind (arith, nat_tests, is)) in
    rw on s.carries
spoke_adds n v x e f p l (inr s) =
    let off : eqb e.from v ≡ false = (let is = s.from in grind (arith, nat_tests, is, l)) in
    let is = s.carries in
    rw off (omega (arith, ints, is))

pub spoke_small : (n v : ℕ) (x w : ℤ) (e : Ends) (f : ℕ) (p : ℤ) → IsSpoke n v x e f p
    → neg_ℤ w ≤ℤ x → x ≤ℤ w → pos f ≤ℤ w
spoke_small n v x w e f p (inl s) low high = let is = s.carries in omega (arith, ints, is, high)
spoke_small n v x w e f p (inr s) low high = let is = s.carries in omega (arith, ints, is, low)

pub spoke_carries : (n v : ℕ) (x : ℤ) (e : Ends) (f : ℕ) (p : ℤ) → v < n → IsSpoke n v x e f p
    → e.from ≡ v → 0 < f
spoke_carries n v x e f p l (inl s) from =
    let is = s.carries in let some = s.some in omega (arith, ints, is, some)
spoke_carries n v x e f p l (inr s) from =
    let is = s.from in absurd (omega (arith, is, from, l))

pub spoke_up : (n v : ℕ) (x c : ℤ) (e : Ends) (f : ℕ) (p : ℤ) → v < n → c ≡ pos (2 ^ 57)
    → IsSpoke n v x e f p → e.from ≡ v → p ≡ pos 0 -ℤ c
spoke_up n v x c e f p l dear (inl s) from =
    let is = s.priced in omega (arith, ints, is, dear)
spoke_up n v x c e f p l dear (inr s) from =
    let is = s.from in absurd (omega (arith, is, from, l))

pub spoke_down : (n v : ℕ) (x c : ℤ) (e : Ends) (f : ℕ) (p : ℤ) → v < n → c ≡ pos (2 ^ 57)
    → IsSpoke n v x e f p → e.from ≡ n → p ≡ c
spoke_down n v x c e f p l dear (inl s) from =
    let is = s.from in absurd (omega (arith, is, from, l))
spoke_down n v x c e f p l dear (inr s) from =
    let is = s.priced in omega (arith, ints, is, dear)
