-- What the guards of a world were told.
use Rattle.std.specs.Prelude.{◌≡◌, false}
use Rattle.base_items.specs.declared.items.ItemSort.{ItemSort}
use Rattle.plain_digraph.specs.Digraph.{Digraph}
use Rattle.plain_digraph.specs.Items.{facts}
use Rattle.observe_core.specs.Guards.{Law}
use Rattle.observe_core.specs.Seen.{Seen, Watched}
use Rattle.notify_chain.specs.Seats.{AllSeats}
use Rattle.alter_graph.specs.Chains.{chains_seen, seats_in}
use Rattle.desk_world.specs.declared.world.World.{World}
use Rattle.desk_world.specs.Claims.{is_map}

-- What it tracks is exactly the live items of the sort, and its law holds of them.
pub record TracksItems (g : Digraph) (sort : ItemSort) (s : Seen) : Type 0 where
  pub tracked : s.facts ≡ facts g sort
  pub lawful : Law s.kind s.k (facts g sort)

-- So does each guard that sits in the world.
abbrev pub AllTrack : {O : Type 0} → (O → Watched) → World O → Type 0
AllTrack watch world =
    (sort : ItemSort)
    → AllSeats
    (λ seat. is_map seat.seen.kind ≡ false → TracksItems world.graph.graph.graph sort seat.seen)
    (seats_in sort (chains_seen watch world.graph.chains))
