-- Seats that accepted a change take it back.
use Rattle.std.specs.Prelude.{List}
use Rattle.observe_core.specs.declared.changes.Change.{Change}
use Rattle.observe_core.specs.Changes.{told, untold, CanTell, CanUntell}
use Rattle.notify_chain.specs.Seats.{SeatSeen, Steady, Became, Each, AllSeats}

-- the seats accepted the change
pub record Accepted (c : Change) (old new : List SeatSeen) : Type 0 where
  pub could : AllSeats (λ s. CanTell c s.seen) old
  pub steady : AllSeats Steady old
  pub told : Each (Became (told c)) old new

-- each may be told to undo it
abbrev pub AcceptedMayBeUndone : Type 0
AcceptedMayBeUndone = (c : Change) (old new : List SeatSeen) → Accepted c old new
    → AllSeats (λ s. CanUntell c s.seen s.reach) new

-- and then each is as before
abbrev pub UndoneIsAsBefore : Type 0
UndoneIsAsBefore = (c : Change) (old mid new : List SeatSeen) → Accepted c old mid
    → Each (Became (untold c)) mid new → Each (Became (λ s. s)) old new
