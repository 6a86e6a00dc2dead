-- What the two chains are told of a numbered digraph, and who refuses it.
use Rattle.std.specs.Prelude.{ℕ, List, map, length}
use Rattle.std.specs.List.{range_with_len}
use Rattle.base_items.specs.declared.items.Fact.{Fact}
use Rattle.base_items.specs.declared.items.ItemSort.{ItemSort}
use Rattle.base_items.specs.declared.items.ItemSort.TheVariants as sorts
use Rattle.plain_digraph.specs.Items.{node_fact, arc_fact}
use Rattle.observe_core.specs.declared.kinds.Veto.{Veto}
use Rattle.observe_core.specs.declared.kinds.Veto.TheVariants.{Refused, Memory}
use Rattle.observe_core.specs.Seen.{Seen, Lawful}
use Rattle.observe_core.specs.Told.{built}
use Rattle.observe_core.specs.Untold.{TracksNothing}
use Rattle.notify_chain.specs.declared.key.SeatKey.{SeatKey}
use Rattle.notify_chain.specs.Seats.{SeatSeen, AllSeats, Refuses}
use Rattle.static_digraph.specs.declared.fault.FixFault.{FixFault}
use Rattle.static_digraph.specs.declared.fault.FixFault.TheVariants as faults
use Rattle.plain_certificates.specs.Tables.{at}
use Rattle.static_digraph.specs.Fixed.{FixedOf, fixed_from}

-- each node by its number, which is its stamp too
abbrev pub nodes_told : ℕ → List Fact
nodes_told count = map (λ node. node_fact node node) (range_with_len 0 count)

-- each arc by its number, which is its stamp too, with the numbers of its ends
abbrev pub arcs_told : ℕ → (ℕ → ℕ) → (ℕ → ℕ) → List Fact
arcs_told count from to =
    map (λ arc. arc_fact arc (from arc, to arc) arc arc) (range_with_len 0 count)

-- what is told of its nodes, and of its arcs
abbrev pub nodes_of : FixedOf → List Fact
nodes_of f = nodes_told (length f.nodes)

abbrev pub arcs_of : FixedOf → List Fact
arcs_of f = arcs_told (length f.arcs) (at 0 f.from) (at 0 f.to)

-- what a record becomes by the build of the nodes, and by that of the arcs
abbrev pub nodes_built : List ℕ → List Fact → Seen → Seen
nodes_built nodes arcs = built (nodes_of (fixed_from nodes arcs))

abbrev pub arcs_built : List ℕ → List Fact → Seen → Seen
arcs_built nodes arcs = built (arcs_of (fixed_from nodes arcs))

-- no seat tracks anything
abbrev pub AreBlank : List SeatSeen → Type 0
AreBlank seats = AllSeats (λ s. TracksNothing s.seen) seats

-- the fault names the oldest seat that refuses its build, nodes before arcs
abbrev pub Blames : (Seen → Seen) → (Seen → Seen) → List SeatSeen → List SeatSeen → FixFault
    → Type 0
Blames node_build arc_build nodes arcs (faults.Vetoed sorts.Node key) =
    Refuses node_build nodes key.0 Refused
Blames node_build arc_build nodes arcs (faults.Vetoed sorts.Arc key) =
    AllSeats (λ s. Lawful (node_build s.seen)) nodes × Refuses arc_build arcs key.0 Refused
Blames node_build arc_build nodes arcs faults.Memory = Unit {0}

-- the fault that a chain's refusal becomes
abbrev pub fault_of : ItemSort → SeatKey → Veto → FixFault
fault_of sort key Refused = faults.Vetoed sort key
fault_of sort key Memory = faults.Memory
