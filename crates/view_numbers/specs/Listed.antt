-- The nodes and the arcs of a view in lists, and when there are too many.
use Rattle.std.specs.Prelude.{◌≡◌, ℕ, ◌+◌, ◌<◌, ◌≤◌, true, List, ◌++◌, map, take, length}
use Rattle.std.specs.Prelude.{Option, Some}
use Rattle.std.specs.List.{flat_map}
use Rattle.base_items.specs.declared.items.Fact.{Fact}
use Rattle.base_items.specs.declared.limits.Limit.TheVariants as limits
use Rattle.plain_digraph.specs.Lists.{has, ahead}
use Rattle.plain_views.specs.Shown.{Shown, ShownArc, arcs_in_order, arcs_from, arc_ids, arc_of}
use Rattle.plain_views.specs.Shown.{out_ids}
use Rattle.plain_certificates.specs.Numbering.{numbered}
use Rattle.static_digraph.specs.Fixed.{FixedOf, graph_of}
use Rattle.view_numbers.specs.declared.fault.NumberFault.{NumberFault}
use Rattle.view_numbers.specs.declared.fault.NumberFault.TheVariants as faults

-- an arc with its ends, as a fact without stamps
abbrev pub fact_shown : ShownArc → Fact
fact_shown arc = record { id = arc.id; from = arc.from; to = arc.to; from_at = 0; to_at = 0 }

-- the arcs in order
abbrev pub facts_of : Shown → List Fact
facts_of p = map fact_shown (arcs_in_order p)

-- a fault that names nodes comes with more than the limit of them
abbrev pub IsFullOfNodes : Shown → NumberFault → Type 0
IsFullOfNodes p (faults.Full limits.Nodes) = 1048576 < length p.nodes
IsFullOfNodes p (faults.Full _) = ⊥
IsFullOfNodes p faults.Memory = Unit {0}

-- a fault that names arcs comes with more than the limit of them
abbrev pub IsFullOfArcs : Shown → NumberFault → Type 0
IsFullOfArcs p (faults.Full limits.Arcs) = 4194304 < length (arcs_in_order p)
IsFullOfArcs p (faults.Full _) = ⊥
IsFullOfArcs p faults.Memory = Unit {0}

-- a fault that names a sort comes with more than the limit of it, nodes before arcs
abbrev pub IsFull : Shown → NumberFault → Type 0
IsFull p (faults.Full limits.Nodes) = 1048576 < length p.nodes
IsFull p (faults.Full limits.Arcs) =
    (length p.nodes ≤ 1048576) × (4194304 < length (arcs_in_order p))
IsFull p (faults.Full limits.Stamps) = ⊥
IsFull p faults.Memory = Unit {0}

-- no more than the limits
pub record Fits (p : Shown) : Type 0 where
  pub nodes : length p.nodes ≤ 1048576
  pub arcs : length (arcs_in_order p) ≤ 4194304

-- the view by number: its nodes and its arcs in order, each with its id
pub record Numbers (p : Shown) (f : FixedOf) : Type 0 where
  pub nodes : f.nodes ≡ p.nodes
  pub arcs : f.arcs ≡ arc_ids (arcs_in_order p)
  pub graph : graph_of f ≡ numbered p

-- ---- walks

-- while a list of ids is walked: what was met and what is ahead make up the list
pub record IsWalking (ids : List ℕ) (met : List ℕ) (next : Option ℕ) : Type 0 where
  pub whole : met ++ ahead ids next ≡ ids
  pub there : (id : ℕ) → next ≡ Some id → has ids id ≡ true

-- the fact of the arc with this id
abbrev pub fact_at : Shown → ℕ → Fact
fact_at p id = fact_shown (arc_of p id)

-- while the arcs from a node are walked: what was met and what is ahead make up those of the nodes
-- before it and its own
pub record IsGathering (p : Shown) (before : ℕ) (node : ℕ) (met : List Fact) (next : Option ℕ)
    : Type 0 where
  pub whole : met ++ map (fact_at p) (ahead (out_ids p node) next)
      ≡ map fact_shown (flat_map (arcs_from p) (take (before + 1) p.nodes))
  pub there : (id : ℕ) → next ≡ Some id → has (out_ids p node) id ≡ true
