-- How the arcs at the nodes are laid one behind the other.
use Rattle.std.specs.Prelude.{ℕ, ◌++◌, List, length, map}
use Rattle.std.specs.List.{flat_map, range_with_len}
use Rattle.plain_certificates.specs.Numbered.{Numbered}
use Rattle.static_digraph.specs.Fixed.{row_of}
use Rattle.push_flow.specs.declared.push.Ends.{Ends}
use Rattle.push_flow.specs.declared.push.Spoke.{Spoke}

-- the ends of an arc
abbrev pub ends_in : Numbered → ℕ → Ends
ends_in g arc = record { from = g.from arc; to = g.to arc }

-- those of each arc
abbrev pub ends_list : Numbered → List Ends
ends_list g = map (ends_in g) (range_with_len 0 g.arcs)

-- an arc with its target
abbrev pub out_spoke : Numbered → ℕ → Spoke
out_spoke g arc = record { arc = arc; far = g.to arc }

-- an arc with its source
abbrev pub in_spoke : Numbered → ℕ → Spoke
in_spoke g arc = record { arc = arc; far = g.from arc }

-- the arcs from a node, by rising number
abbrev pub out_spokes : Numbered → ℕ → List Spoke
out_spokes g node = map (out_spoke g) (row_of g.from g.arcs node)

-- the arcs to a node, by rising number
abbrev pub in_spokes : Numbered → ℕ → List Spoke
in_spokes g node = map (in_spoke g) (row_of g.to g.arcs node)

-- the arcs at a node, those from it first
abbrev pub spokes_of : Numbered → ℕ → List Spoke
spokes_of g node = out_spokes g node ++ in_spokes g node

-- those at the first nodes, one node behind the other
abbrev pub spokes_before : Numbered → ℕ → List Spoke
spokes_before g count = flat_map (spokes_of g) (range_with_len 0 count)

-- where the arcs at each of the first nodes begin
abbrev pub starts_before : Numbered → ℕ → List ℕ
starts_before g count = map (λ node. length (spokes_before g node)) (range_with_len 0 count)
