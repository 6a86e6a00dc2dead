-- What a view shows: nodes in order, and its arcs in an order by source and in one by target.
use Rattle.std.specs.Prelude.{◌≡◌, ℕ, ◌<◌, ◌==◌, ◌&&◌, Bool, true, false, not, cond, List, [], ◌∷◌}
use Rattle.std.specs.Prelude.{map, filter, Option}
use Rattle.std.specs.List.{flat_map, list_any}
use Rattle.plain_digraph.specs.Lists.{has, after}
use Rattle.plain_digraph.specs.Digraph.{Digraph}
use Rattle.plain_digraph.specs.Items as items

-- an arc with its source and its target
pub record ShownArc : Type 0 where
  pub id : ℕ
  pub from : ℕ
  pub to : ℕ

-- the nodes in order, and each arc once in each of two lists
pub record Shown : Type 0 where
  pub nodes : List ℕ
  pub by_source : List ShownArc  -- each arc
  pub by_target : List ShownArc

-- the ids of the arcs, in their order
abbrev pub arc_ids : List ShownArc → List ℕ
arc_ids arcs = map (λ arc. arc.id) arcs

-- the arcs from the node, in the order of the list by source
abbrev pub arcs_from : Shown → ℕ → List ShownArc
arcs_from p node = filter (λ arc. arc.from == node) p.by_source

-- the arcs to the node, in the order of the list by target
abbrev pub arcs_to : Shown → ℕ → List ShownArc
arcs_to p node = filter (λ arc. arc.to == node) p.by_target

-- the arcs in order: for each node in turn the arcs from it
abbrev pub arcs_in_order : Shown → List ShownArc
arcs_in_order p = flat_map (arcs_from p) p.nodes

-- an arc of the base with its ends
abbrev pub shown_arc : Digraph → ℕ → ShownArc
shown_arc g id = record { id = id; from = items.source_of g id; to = items.target_of g id }

-- the base, as it stands, without its stamps
abbrev pub base_shown : Digraph → Shown
base_shown g = record {
  nodes = items.ids g.nodes;
  by_source = map (shown_arc g) (items.ids g.by_source);
  by_target = map (shown_arc g) (items.ids g.by_target);
}

-- ---- what holds of it

-- whether no id stands twice
abbrev pub once : List ℕ → Bool
once [] = true
once (id ∷ ids) = not (has ids id) && once ids

-- what both directions share: a list of arcs, and the end of an arc at which a walk along it stays
abbrev pub End : Type 0
End = ShownArc → ℕ

-- the end at which a walk along the list by source stays
abbrev pub source : End
source arc = arc.from

-- the end at which a walk along the list by target stays
abbrev pub target : End
target arc = arc.to

-- the ids of the arcs at the node, in the order of the list
abbrev pub ids_at : End → List ShownArc → ℕ → List ℕ
ids_at end arcs node = arc_ids (filter (λ arc. end arc == node) arcs)

-- the end of the arc with this id, and 0 where there is none
abbrev pub end_in : End → List ShownArc → ℕ → ℕ
end_in end [] id = 0
end_in end (arc ∷ arcs) id = cond (arc.id == id) (end arc) (end_in end arcs id)

-- the ids of the arcs from the node, in order
abbrev pub out_ids : Shown → ℕ → List ℕ
out_ids p node = ids_at source p.by_source node

-- the ids of the arcs to the node, in order
abbrev pub in_ids : Shown → ℕ → List ℕ
in_ids p node = ids_at target p.by_target node

-- the source of the arc with this id
abbrev pub source_of : Shown → ℕ → ℕ
source_of p id = end_in source p.by_source id

-- the target of the arc with this id
abbrev pub target_of : Shown → ℕ → ℕ
target_of p id = end_in target p.by_target id

-- whether an arc has this id
abbrev pub has_arc : Shown → ℕ → Bool
has_arc p id = has (arc_ids p.by_source) id

-- the arc that follows from the same source
abbrev pub next_out : Shown → ℕ → Option ℕ
next_out p id = after (out_ids p (source_of p id)) id

-- the arc that follows to the same target
abbrev pub next_in : Shown → ℕ → Option ℕ
next_in p id = after (in_ids p (target_of p id)) id

-- the arc with this id, each end as its own list has it
abbrev pub arc_of : Shown → ℕ → ShownArc
arc_of p id = record { id = id; from = source_of p id; to = target_of p id }

-- whether both ends of the arc are shown
abbrev pub has_ends : List ℕ → ShownArc → Bool
has_ends nodes arc = has nodes arc.from && has nodes arc.to

-- each node once, and each arc once in both lists, with the same ends, which are nodes; that the
-- lists have the same arcs is said by tests: what finds an arc in one finds one in the other
pub record IsShown (p : Shown) : Type 0 where
  pub nodes_differ : once p.nodes ≡ true
  pub sources_differ : once (arc_ids p.by_source) ≡ true
  pub targets_differ : once (arc_ids p.by_target) ≡ true
  pub same_arcs : (test : ShownArc → Bool) → list_any test p.by_source ≡ list_any test p.by_target
  pub ends_shown : list_any (λ arc. not (has_ends p.nodes arc)) p.by_source ≡ false

-- every id is below the bound
pub record AreBelow (p : Shown) (bound : ℕ) : Type 0 where
  pub nodes_below : (node : ℕ) → has p.nodes node ≡ true → node < bound
  pub arcs_below : (id : ℕ) → has_arc p id ≡ true → id < bound
