-- The adaptors: from what is shown below to what a layer shows.
use Rattle.std.specs.Prelude.{ℕ, ◌+◌, ◌*◌, ◌/◌, ◌%◌, ◌==◌, ◌&&◌, Bool, cond, [], ◌∷◌, ◌++◌, map}
use Rattle.std.specs.Prelude.{filter, ℤ, pos, int_lt, ◌-ℤ◌, Option, Some, None}
use Rattle.std.specs.List.{flat_map}
use Rattle.plain_views.specs.Shown.{Shown, ShownArc}

-- ---- reverse

-- an arc the other way
abbrev pub turned : ShownArc → ShownArc
turned arc = record { id = arc.id; from = arc.to; to = arc.from }

-- each arc turned, so that its lists change places
abbrev pub reversed : Shown → Shown
reversed p = record {
  nodes = p.nodes;
  by_source = map turned p.by_target;
  by_target = map turned p.by_source;
}

-- ---- sub

-- whether the arc and both its ends are kept
abbrev pub is_kept : (ℕ → Bool) → (ℕ → Bool) → ShownArc → Bool
is_kept keeps_node keeps_arc arc = keeps_arc arc.id && keeps_node arc.from && keeps_node arc.to

-- the nodes that are kept, and the arcs that are kept with both ends
abbrev pub sub : (ℕ → Bool) → (ℕ → Bool) → Shown → Shown
sub keeps_node keeps_arc p = record {
  nodes = filter keeps_node p.nodes;
  by_source = filter (is_kept keeps_node keeps_arc) p.by_source;
  by_target = filter (is_kept keeps_node keeps_arc) p.by_target;
}

-- ---- undirect and residual

-- whether the id is that of an arc as it goes, or of an in-node
abbrev pub is_even : ℕ → Bool
is_even id = id % 2 == 0

-- the id below that this one comes from
abbrev pub half : ℕ → ℕ
half id = id / 2

-- the even id of two that come from one
abbrev pub twice : ℕ → ℕ
twice id = id * 2

-- the odd id of the two
abbrev pub odd : ℕ → ℕ
odd id = twice id + 1

-- an arc as it goes, with the even id
abbrev pub forward : ShownArc → ShownArc
forward arc = record { id = twice arc.id; from = arc.from; to = arc.to }

-- an arc the other way, with the odd id
abbrev pub backward : ShownArc → ShownArc
backward arc = record { id = odd arc.id; from = arc.to; to = arc.from }

-- where a walk begins that has the even ids of one list before the odd ids of another
abbrev pub first_both : Option ℕ → Option ℕ → Option ℕ
first_both (Some a) other = Some (twice a)
first_both None (Some b) = Some (odd b)
first_both None None = None

-- each arc both ways: as they go, and then the other way
abbrev pub undirected : Shown → Shown
undirected p = record {
  nodes = p.nodes;
  by_source = map forward p.by_source ++ map backward p.by_target;
  by_target = map forward p.by_target ++ map backward p.by_source;
}

-- whether the capacity is above the flow, and on the arc back whether there is flow
abbrev pub id_has_room : (ℕ → ℤ) → (ℕ → ℤ) → ℕ → Bool
id_has_room cap flow id =
    let below = half id in
    cond (is_even id) (int_lt (flow below) (cap below)) (int_lt (pos 0) (flow below))

-- whether there is room on the arc of this id
abbrev pub has_room : (ℕ → ℤ) → (ℕ → ℤ) → ShownArc → Bool
has_room cap flow arc = id_has_room cap flow arc.id

-- how much: the capacity without the flow, and on the arc back the flow
abbrev pub room_of : (ℕ → ℤ) → (ℕ → ℤ) → ℕ → ℤ
room_of cap flow id =
    let below = half id in
    cond (is_even id) (cap below -ℤ flow below) (flow below)

-- of each arc both ways those that have room
abbrev pub residual : (ℕ → ℤ) → (ℕ → ℤ) → Shown → Shown
residual cap flow p = record {
  nodes = p.nodes;
  by_source = filter (has_room cap flow) (undirected p).by_source;
  by_target = filter (has_room cap flow) (undirected p).by_target;
}

-- ---- split

-- where the arcs to a split node end
abbrev pub in_node : ℕ → ℕ
in_node node = twice node

-- where the arcs from a split node begin
abbrev pub out_node : ℕ → ℕ
out_node node = odd node

-- an arc from the out-node of its source to the in-node of its target
abbrev pub between : ShownArc → ShownArc
between arc = record { id = twice arc.id; from = out_node arc.from; to = in_node arc.to }

-- the arc from the in-node of a node to its out-node
abbrev pub bind : ℕ → ShownArc
bind node = record { id = odd node; from = in_node node; to = out_node node }

-- each node as an in-node and an out-node, and an arc from the one to the other
abbrev pub split : Shown → Shown
split p = record {
  nodes = flat_map (λ node. in_node node ∷ out_node node ∷ []) p.nodes;
  by_source = map between p.by_source ++ map bind p.nodes;
  by_target = map between p.by_target ++ map bind p.nodes;
}
