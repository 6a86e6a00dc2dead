-- Towers of layers, the top layer first: the values that they pull, and what they show.
use Rattle.std.specs.Prelude.{ℕ, Bool, true, cond, List, [], ◌∷◌, ℤ, pos, neg_ℤ, Option}
use Rattle.std.specs.Option.{option_map_or}
use Rattle.base_items.specs.declared.items.ItemSort.{ItemSort}
use Rattle.base_items.specs.declared.items.ItemSort.TheVariants as sorts
use Rattle.plain_digraph.specs.Digraph.{Digraph}
use Rattle.plain_views.specs.Shown.{Shown, base_shown}
use Rattle.plain_views.specs.Adaptors.{reversed, sub, undirected, residual, split, is_even, half}

-- a layer, with the maps that it names; an absent filter lets all pass
pub data Layer (M : Type 0) : Type 0 where
  Reverse : Layer M
  Sub : (nodes arcs : Option M) → Layer M
  Undirect : Layer M
  Residual : (cap flow : M) → Layer M
  Split : Layer M

-- the values of the maps at the items of the base
pub record Values (M : Type 0) : Type 0 where
  pub int : ItemSort → M → ℕ → ℤ
  pub bool : ItemSort → M → ℕ → Bool
  pub partner : M
      → Option M  -- the map of the nodes with the name and the type of this one of the arcs

-- the node of the base that a node comes from
abbrev pub base_node : {M : Type 0} → List (Layer M) → ℕ → ℕ
base_node [] node = node
base_node (Split ∷ below) node = base_node below (half node)
base_node (_ ∷ below) node = base_node below node

module _ {M : Type 0} (values : Values M) where
  -- ---- pulled values

  -- a node has the value of its node of the base
  abbrev pub node_int : List (Layer M) → M → ℕ → ℤ
  node_int tower map node = values.int sorts.Node map (base_node tower node)

  -- whether the node passes the filter
  abbrev pub node_bool : List (Layer M) → M → ℕ → Bool
  node_bool tower map node = values.bool sorts.Node map (base_node tower node)

  -- the int of an arc: on the way back through a residual layer it is negated, and the arc that
  -- binds a split node has the value of the node in the map's partner, or else 0
  abbrev pub arc_int : List (Layer M) → M → ℕ → ℤ
  arc_int [] map arc = values.int sorts.Arc map arc
  arc_int (Reverse ∷ below) map arc = arc_int below map arc
  arc_int (Sub nodes arcs ∷ below) map arc = arc_int below map arc
  arc_int (Undirect ∷ below) map arc = arc_int below map (half arc)
  arc_int (Residual cap flow ∷ below) map arc =
      cond (is_even arc) (arc_int below map (half arc)) (neg_ℤ (arc_int below map (half arc)))
  arc_int (Split ∷ below) map arc =
      cond (is_even arc) (arc_int below map (half arc))
      (option_map_or (λ partner. node_int below partner (half arc)) (values.partner map) (pos 0))

  -- whether the arc passes the filter; where the filter has no partner, the arcs that bind split
  -- nodes pass
  abbrev pub arc_bool : List (Layer M) → M → ℕ → Bool
  arc_bool [] map arc = values.bool sorts.Arc map arc
  arc_bool (Reverse ∷ below) map arc = arc_bool below map arc
  arc_bool (Sub nodes arcs ∷ below) map arc = arc_bool below map arc
  arc_bool (Undirect ∷ below) map arc = arc_bool below map (half arc)
  arc_bool (Residual cap flow ∷ below) map arc = arc_bool below map (half arc)
  arc_bool (Split ∷ below) map arc =
      cond (is_even arc) (arc_bool below map (half arc))
      (option_map_or (λ partner. node_bool below partner (half arc)) (values.partner map) true)

  -- whether the item passes the filter, if there is one
  abbrev pub passes : (M → ℕ → Bool) → Option M → ℕ → Bool
  passes filter map item = option_map_or (λ name. filter name item) map true

  -- ---- what a tower shows

  -- what a layer shows of what is shown below
  abbrev pub level : List (Layer M) → Layer M → Shown → Shown
  level below Reverse p = reversed p
  level below (Sub nodes arcs) p =
      sub (passes (node_bool below) nodes) (passes (arc_bool below) arcs) p
  level below Undirect p = undirected p
  level below (Residual cap flow) p = residual (arc_int below cap) (arc_int below flow) p
  level below Split p = split p

  -- the base, with each layer over what is shown below it
  abbrev pub shown : Digraph → List (Layer M) → Shown
  shown g [] = base_shown g
  shown g (layer ∷ below) = level below layer (shown g below)
