-- What is seen under the key of a seat.
use Rattle.std.specs.Prelude.{ℕ, ◌==◌, List, [], ◌∷◌, cond, Option, None, Some, option_map}
use Rattle.std.specs.List.{filter_map}
use Rattle.base_items.specs.declared.items.ItemSort.{ItemSort}
use Rattle.observe_core.specs.Seen.{Seen}
use Rattle.notify_chain.specs.Seats.{SeatSeen}
use Rattle.alter_graph.specs.Chains.{ChainsSeen, seats_in}
use Rattle.plain_world.specs.Tables.{Named, under}

-- what contracts see of the observer in the seat of a key, if there is one
abbrev pub seen_at : ℕ → List SeatSeen → Option Seen
seen_at key [] = None
seen_at key (s ∷ ss) = cond (s.key == key) (Some s.seen) (seen_at key ss)

-- how many labels there is room for in it
abbrev pub room_at : ℕ → List SeatSeen → ℕ
room_at key [] = 0
room_at key (s ∷ ss) = cond (s.key == key) s.room (room_at key ss)

-- the seats of both chains by key
abbrev pub Look : Type 0
Look = ItemSort → ℕ → Option Seen

abbrev pub look_in : ChainsSeen → Look
look_in c sort key = seen_at key (seats_in sort c)

-- what stands under each name, by its row; where the row leads to nothing, the name is gone
abbrev pub looked : {X Y : Type 0} → (X → Option Y) → List (Named X) → List (Named Y)
looked look rows = filter_map (λ row. option_map (under row.name) (look row.value)) rows
