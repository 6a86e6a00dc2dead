-- What can still be sent over an arc, seen from one of its ends, where flows are from 0 to a
-- capacity.
use Rattle.std.specs.Prelude.{◌≡◌, ◌⊎◌, ℕ, ◌+◌, ◌-◌, ◌==◌, cond, ℤ, pos}
use Rattle.plain_certificates.specs.Numbered.{Numbered}

-- the arc has the ends u and v, in either order
abbrev pub Joins : Numbered → ℕ → ℕ → ℕ → Type 0
Joins g arc u v = ((g.from arc ≡ u) × (g.to arc ≡ v)) ⊎ ((g.from arc ≡ v) × (g.to arc ≡ u))

-- how much more can be sent over the arc away from its end
abbrev pub room_from : Numbered → (ℕ → ℕ) → (ℕ → ℕ) → ℕ → ℕ → ℕ
room_from g cap flow arc end = cond (g.from arc == end) (cap arc - flow arc) (flow arc)

-- how much more can be sent over it to its end
abbrev pub room_to : Numbered → (ℕ → ℕ) → (ℕ → ℕ) → ℕ → ℕ → ℕ
room_to g cap flow arc end = cond (g.from arc == end) (flow arc) (cap arc - flow arc)

-- the flow of the arc once more is sent away from its end
abbrev pub sent_from : Numbered → (ℕ → ℕ) → ℕ → ℕ → ℕ → ℕ
sent_from g flow arc end step = cond (g.from arc == end) (flow arc + step) (flow arc - step)

-- the flow of the arc once more is sent to its end
abbrev pub sent_to : Numbered → (ℕ → ℕ) → ℕ → ℕ → ℕ → ℕ
sent_to g flow arc end step = cond (g.from arc == end) (flow arc - step) (flow arc + step)

-- more was sent over the arc away from its end: the room there is less, and the room back is more
pub record IsSentFrom (g : Numbered) (cap flow flow' : ℕ → ℕ) (arc end step : ℕ) : Type 0 where
  pub less : room_from g cap flow' arc end + step ≡ room_from g cap flow arc end
  pub more : room_to g cap flow' arc end ≡ room_to g cap flow arc end + step

-- more was sent over it to its end
pub record IsSentTo (g : Numbered) (cap flow flow' : ℕ → ℕ) (arc end step : ℕ) : Type 0 where
  pub less : room_to g cap flow' arc end + step ≡ room_to g cap flow arc end
  pub more : room_from g cap flow' arc end ≡ room_from g cap flow arc end + step

-- a flow that is told by numbers without a sign
abbrev pub as_flow : (ℕ → ℕ) → ℕ → ℤ
as_flow flow arc = pos (flow arc)
