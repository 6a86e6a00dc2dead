-- Who stays in a chain at a loss, and who leaves.
use Rattle.std.specs.Prelude.{ℕ, Bool, true, false, List, [], ◌∷◌, ◌++◌, if◌then◌else◌}
use Rattle.observe_core.specs.declared.kinds.After.{After}
use Rattle.observe_core.specs.declared.kinds.After.TheVariants.{Keep, Detach}
use Rattle.observe_core.specs.declared.losses.Loss.{Loss}
use Rattle.observe_core.specs.Losses.{lost, leaves_at}
use Rattle.observe_core.specs.Seen.{Watched}
use Rattle.notify_chain.specs.Seats.{SeatSeen, ChainOf, Became, Each, seats}

abbrev pub goes : After → Bool
goes Keep = false
goes Detach = true

-- the seats that stay, oldest first
abbrev pub stayers : Loss → List SeatSeen → List SeatSeen
stayers loss [] = []
stayers loss (s ∷ ss) =
    if goes (leaves_at loss s.seen) then stayers loss ss else (record s { seen = lost loss s.seen })
    ∷ stayers loss ss

-- the keys of those that leave, the newest first
abbrev pub goers : Loss → List SeatSeen → List ℕ
goers loss [] = []
goers loss (s ∷ ss) = goers loss ss ++ (if goes (leaves_at loss s.seen) then s.key ∷ [] else [])

-- the others stay, and have heard of the loss
abbrev pub Stay : Loss → List SeatSeen → List SeatSeen → Type 0
Stay loss old new = Each (Became (λ s. s)) (stayers loss old) new

module _ {O : Type 0} (watch : O → Watched) where
  abbrev pub OthersStay : Loss → ChainOf O → ChainOf O → Type 0
  OthersStay loss old new = Stay loss (seats watch old) (seats watch new)

  -- the keys of those that leave the chain
  abbrev pub leavers : Loss → ChainOf O → List ℕ
  leavers loss old = goers loss (seats watch old)
