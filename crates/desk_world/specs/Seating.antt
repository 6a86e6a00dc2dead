-- A seat that comes to its chain, and one that is written to.
use Rattle.std.specs.Prelude.{◌≡◌, ℕ, ◌∷◌, ◌++◌, Some, None, []}
use Rattle.base_items.specs.declared.items.ItemSort.{ItemSort}
use Rattle.observe_core.specs.Seen.{Seen}
use Rattle.observe_core.specs.Held.{Held}
use Rattle.notify_chain.specs.Seats.{SeatSeen, find_seat, put_seat}
use Rattle.alter_graph.specs.Attaching.{with_seats}
use Rattle.alter_graph.specs.Chains.{ChainsSeen, seats_in, in_chain}
use Rattle.desk_seats.specs.Contents.{holding}
use Rattle.desk_world.specs.Looks.{look_in}

-- the observer has the newest seat of its chain, under a key that no seat had, and all else is as
-- before
pub record Comes (sort : ItemSort) (key : ℕ) (s : Seen) (old new : ChainsSeen) : Type 0 where
  pub seat : SeatSeen
  pub name : seat.key ≡ key
  pub seen : seat.seen ≡ s
  pub is_new : find_seat key (seats_in sort old) ≡ None
  pub is : new ≡ in_chain sort (with_seats (seats_in sort old ++ seat ∷ [])) old

-- the observer in the seat holds something else, by what it was, and all else is as before
pub record Puts (sort : ItemSort) (key : ℕ) (change : Seen → Held) (old new : ChainsSeen) : Type 0
  where
    pub was : Seen
    pub found : look_in old sort key ≡ Some was
    pub seat : SeatSeen
    pub name : seat.key ≡ key
    pub seen : seat.seen ≡ holding (change was) was
    pub is : new ≡ in_chain sort (with_seats (put_seat seat (seats_in sort old))) old
