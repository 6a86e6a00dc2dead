-- The plain steps: each takes the stamp that is next, and changes nothing that isn't named.
use Rattle.std.specs.Prelude.{ℕ, ◌+◌, ◌==◌, nat_lt, not, filter, cond, List, [], ◌∷◌}
use Rattle.std.specs.FinMap as fin
use Rattle.base_items.specs.declared.items.Fact.{Fact}
use Rattle.plain_digraph.specs.Lists.{all_but_first}
use Rattle.plain_digraph.specs.Digraph.{Digraph, Place}
use Rattle.plain_digraph.specs.Items.{source_of, target_of}

-- ---- additions

-- the id that is used next: the one given back last, or else a fresh one
abbrev pub next_id : List ℕ → ℕ → ℕ
next_id [] used = used
next_id (id ∷ free) used = id

-- how many ids are used once the next is taken
abbrev pub used_after : List ℕ → ℕ → ℕ
used_after [] used = used + 1
used_after (id ∷ free) used = used

-- the id that the next added node gets
abbrev pub new_node : Digraph → ℕ
new_node g = next_id g.free_nodes g.used_nodes

-- the id that the next added arc gets
abbrev pub new_arc : Digraph → ℕ
new_arc g = next_id g.free_arcs g.used_arcs

-- a node in front of the others
abbrev pub add_node : Digraph → Digraph
add_node g = record g {
  nodes = (new_node g, g.stamps) ∷ g.nodes;
  free_nodes = all_but_first g.free_nodes;
  used_nodes = used_after g.free_nodes g.used_nodes;
  stamps = g.stamps + 1;
}

-- an arc in front of both lists
abbrev pub add_arc : Digraph → ℕ → ℕ → Digraph
add_arc g from to = record g {
  ends = fin.insert g.ends (new_arc g) (from, to);
  by_source = (new_arc g, g.stamps) ∷ g.by_source;
  by_target = (new_arc g, g.stamps) ∷ g.by_target;
  free_arcs = all_but_first g.free_arcs;
  used_arcs = used_after g.free_arcs g.used_arcs;
  stamps = g.stamps + 1;
}

-- ---- erasures

-- the places without that of the id
abbrev pub unplaced : List Place → ℕ → List Place
unplaced places id = filter (λ p. not (p.0 == id)) places

-- the arc is gone, and its id is the first to be used again
abbrev pub erase_arc : Digraph → ℕ → Digraph
erase_arc g arc = record g {
  ends = fin.remove g.ends arc;
  by_source = unplaced g.by_source arc;
  by_target = unplaced g.by_target arc;
  free_arcs = arc ∷ g.free_arcs;
}

-- the node, which has no arc, is gone, and its id is the first to be used again
abbrev pub erase_node : Digraph → ℕ → Digraph
erase_node g node = record g {
  nodes = unplaced g.nodes node;
  free_nodes = node ∷ g.free_nodes;
}

-- all arcs are gone, and ids start from 0 again
abbrev pub clear_arcs : Digraph → Digraph
clear_arcs g = record g {
  ends = fin.empty;
  by_source = [];
  by_target = [];
  free_arcs = [];
  used_arcs = 0;
}

-- all nodes are gone, and ids start from 0 again
abbrev pub clear_nodes : Digraph → Digraph
clear_nodes g = record g {
  nodes = [];
  free_nodes = [];
  used_nodes = 0;
}

-- ---- moves of an arc

-- the place of the id is in front, with this stamp
abbrev pub in_front : List Place → ℕ → ℕ → List Place
in_front places id at = (id, at) ∷ unplaced places id

-- behind the places with a larger stamp
abbrev pub placed : List Place → ℕ → ℕ → List Place
placed [] id at = (id, at) ∷ []
placed (p ∷ places) id at = cond (nat_lt p.1 at) ((id, at) ∷ p ∷ places) (p ∷ placed places id at)

-- the place of the id is the one that this stamp gives it
abbrev pub by_stamp : List Place → ℕ → ℕ → List Place
by_stamp places id at = placed (unplaced places id) id at

-- the arc has these ends, and these are the lists
abbrev pub relaid : Digraph → ℕ → ℕ → ℕ → List Place → List Place → ℕ → Digraph
relaid g arc from to by_source by_target stamps = record g {
  ends = fin.insert g.ends arc (from, to);
  by_source = by_source;
  by_target = by_target;
  stamps = stamps;
}

-- the arc comes from this node, and its place by source is the newest
abbrev pub move_from : Digraph → ℕ → ℕ → Digraph
move_from g arc from =
    relaid g arc from (target_of g arc) (in_front g.by_source arc g.stamps) g.by_target
    (g.stamps + 1)

-- the arc goes to this node, and its place by target is the newest
abbrev pub move_to : Digraph → ℕ → ℕ → Digraph
move_to g arc to =
    relaid g arc (source_of g arc) to g.by_source (in_front g.by_target arc g.stamps) (g.stamps + 1)

-- the arc goes the other way, and both of its places are the newest
abbrev pub turn : Digraph → ℕ → Digraph
turn g arc =
    relaid g arc (target_of g arc) (source_of g arc) (in_front g.by_source arc g.stamps)
    (in_front g.by_target arc g.stamps) (g.stamps + 1)

-- the arc has the ends and the places of the fact
abbrev pub laid_by : Digraph → Fact → ℕ → Digraph
laid_by g fact stamps =
    relaid g fact.id fact.from fact.to (by_stamp g.by_source fact.id fact.from_at)
    (by_stamp g.by_target fact.id fact.to_at) stamps

-- no place gets a new stamp, but one is used up
abbrev pub place : Digraph → Fact → Digraph
place g fact = laid_by g fact (g.stamps + 1)
