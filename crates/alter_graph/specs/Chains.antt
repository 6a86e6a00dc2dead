-- What contracts see of the two chains, and of the snapshots that sit in both.
use Rattle.std.specs.Prelude.{◌≡◌, ℕ, List, [], ◌++◌, map, refl}
use Rattle.std.specs.Coded.{Coded, code_by, coded×, coded_ℕ, coded_list}
use Rattle.base_items.specs.declared.items.ItemSort.{ItemSort}
use Rattle.base_items.specs.declared.items.ItemSort.TheVariants as sorts
use Rattle.observe_core.specs.declared.losses.Loss.{Loss}
use Rattle.observe_core.specs.Seen.{Watched, Seen}
use Rattle.notify_chain.specs.Seats.{SeatSeen, ChainOf, chain_code, seats, Each, Became}
use Rattle.notify_chain.specs.Leaving.{stayers, goers}
use Rattle.alter_graph.specs.declared.snaps.SnapKeys.{SnapKeys}

pub record ChainsOf (O : Type 0) : Type 0 where
  pub nodes : ChainOf O
  pub arcs : ChainOf O
  pub snaps : List SnapKeys

-- the name of a snapshot is stored as a pair, and chains as a tuple
abbrev pub snap_code : Coded SnapKeys
snap_code = code_by (ℕ × ℕ) (coded× coded_ℕ coded_ℕ) (λ k. (k.nodes.0, k.arcs.0))
    (λ p. record { nodes = record { 0 = p.0 }; arcs = record { 0 = p.1 } }) (λ _. refl)

abbrev pub chains_code : {O : Type 0} → Coded O → Coded (ChainsOf O)
chains_code {O} code =
    code_by (ChainOf O × (ChainOf O × List SnapKeys))
    (coded× (chain_code code) (coded× (chain_code code) (coded_list snap_code)))
    (λ c. (c.nodes, (c.arcs, c.snaps)))
    (λ p. record { nodes = p.0; arcs = p.1.0; snaps = p.1.1 }) (λ _. refl)

-- the seats, oldest first, and the keys that left by themselves, oldest departure first
pub record ChainSeen : Type 0 where
  pub seats : List SeatSeen
  pub left : List ℕ

pub record ChainsSeen : Type 0 where
  pub nodes : ChainSeen
  pub arcs : ChainSeen
  -- the names of the snapshots that are there, oldest first
  pub snaps : List SnapKeys

module _ {O : Type 0} (watch : O → Watched) where
  abbrev pub chain_seen : ChainOf O → ChainSeen
  chain_seen c = record { seats = seats watch c; left = c.left }

  abbrev pub chains_seen : ChainsOf O → ChainsSeen
  chains_seen c =
      record { nodes = chain_seen c.nodes; arcs = chain_seen c.arcs; snaps = c.snaps }

abbrev pub no_chain : ChainSeen
no_chain = record { seats = []; left = [] }

abbrev pub no_chains : ChainsSeen
no_chains = record { nodes = no_chain; arcs = no_chain; snaps = [] }

abbrev pub chain_in : ItemSort → ChainsSeen → ChainSeen
chain_in sorts.Node c = c.nodes
chain_in sorts.Arc c = c.arcs

abbrev pub seats_in : ItemSort → ChainsSeen → List SeatSeen
seats_in sort c = (chain_in sort c).seats

-- the chain of this sort alone changed
abbrev pub in_chain : ItemSort → (ChainSeen → ChainSeen) → ChainsSeen → ChainsSeen
in_chain sorts.Node change c = record { nodes = change c.nodes; arcs = c.arcs; snaps = c.snaps }
in_chain sorts.Arc change c = record { nodes = c.nodes; arcs = change c.arcs; snaps = c.snaps }

-- ---- what a chain hears

-- the seats after each observer's record became g of what it was
abbrev pub seat_heard : (Seen → Seen) → SeatSeen → SeatSeen
seat_heard g s = record s { seen = g s.seen }

abbrev pub seats_heard : (Seen → Seen) → List SeatSeen → List SeatSeen
seats_heard g ss = map (seat_heard g) ss

abbrev pub chain_heard : (Seen → Seen) → ChainSeen → ChainSeen
chain_heard g c = record { seats = seats_heard g c.seats; left = c.left }

-- who stays at a loss has heard of it; who leaves is put to those that left, the newest first
abbrev pub chain_lost : Loss → ChainSeen → ChainSeen
chain_lost loss c =
    record { seats = stayers loss c.seats; left = c.left ++ goers loss c.seats }

-- ---- the same but for room and reach, which never fall

pub record IsSameChain (old new : ChainSeen) : Type 0 where
  pub seats : Each (Became (λ s. s)) old.seats new.seats
  pub left : new.left ≡ old.left

pub record IsSameChains (old new : ChainsSeen) : Type 0 where
  pub nodes : IsSameChain old.nodes new.nodes
  pub arcs : IsSameChain old.arcs new.arcs
  pub snaps : new.snaps ≡ old.snaps
