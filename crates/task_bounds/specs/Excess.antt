-- What the nodes have to send once the lower bounds of some arcs are sent.
use Rattle.std.specs.Prelude.{◌≡◌, ◌==◌, ℕ, ◌<◌, ◌^◌, ℤ, pos, neg_ℤ, ◌+ℤ◌, ◌≤ℤ◌}
use Rattle.plain_certificates.specs.Feasible.{Bounds}
use Rattle.plain_certificates.specs.Numbered.{Numbered, net, sum_where}

-- a bound of what a node has to send: 2^36, and as much again for each end of an arc at it
abbrev pub weight : Numbered → ℕ → ℤ
weight g node =
    pos (2 ^ 36)
    +ℤ (sum_where g.arcs (λ arc. g.from arc == node) (λ _. pos (2 ^ 36))
    +ℤ sum_where g.arcs (λ arc. g.to arc == node) (λ _. pos (2 ^ 36)))

-- each node has at most as much to send, or to take
abbrev pub AreLight : Numbered → (ℕ → ℤ) → Type 0
AreLight g excess =
    (v : ℕ) → v < g.nodes
    → (neg_ℤ (weight g v) ≤ℤ excess v) × (excess v ≤ℤ weight g v)

-- the digraph with its first arcs alone
abbrev pub first_arcs : Numbered → ℕ → Numbered
first_arcs g count = record { nodes = g.nodes; arcs = count; from = g.from; to = g.to }

-- the lower bounds of the arcs were taken off what the nodes had to send
pub record IsTaken (g : Numbered) (lower was is : ℕ → ℤ) : Type 0 where
  pub each : (v : ℕ) → v < g.nodes → is v +ℤ net g lower v ≡ was v
  pub light : AreLight g is

-- the number is what the node supplies above what the lower bounds send out of it
abbrev pub IsExcess : Numbered → Bounds → (ℕ → ℤ) → Type 0
IsExcess g bounds excess =
    (v : ℕ) → v < g.nodes → excess v +ℤ net g bounds.lower v ≡ bounds.supply v
