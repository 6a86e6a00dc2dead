-- Where the items of a tower come from, and the marks that tell them apart.
use Rattle.std.specs.Prelude.{ℕ, cond, List, [], ◌∷◌, ◌++◌, codes}
use Rattle.plain_views.specs.Adaptors.{is_even, half}
use Rattle.plain_views.specs.Towers.{Layer, Reverse, Sub, Undirect, Residual, Split, base_node}

-- the item of the base that an arc comes from: an arc, or a node that a layer split
pub data Origin : Type 0 where
  FromArc : ℕ → Origin
  FromNode : ℕ → Origin

module _ {M : Type 0} where
  -- what the arc comes from, layer by layer down
  abbrev pub arc_origin : List (Layer M) → ℕ → Origin
  arc_origin [] arc = FromArc arc
  arc_origin (Reverse ∷ below) arc = arc_origin below arc
  arc_origin (Sub nodes arcs ∷ below) arc = arc_origin below arc
  arc_origin (Undirect ∷ below) arc = arc_origin below (half arc)
  arc_origin (Residual cap flow ∷ below) arc = arc_origin below (half arc)
  arc_origin (Split ∷ below) arc =
      cond (is_even arc) (arc_origin below (half arc)) (FromNode (base_node below (half arc)))

  -- i or o for each layer that splits, from the lowest up.
  abbrev pub node_marks : List (Layer M) → ℕ → List ℕ
  node_marks [] node = []
  node_marks (Split ∷ below) node = node_marks below (half node)
      ++ cond (is_even node) (codes "i") (codes "o")
  node_marks (_ ∷ below) node = node_marks below node

  -- + or - for each undirect or residual layer, from the lowest up; an arc that binds a node has
  -- the marks of the node, and = in the place of the layer that split it
  abbrev pub arc_marks : List (Layer M) → ℕ → List ℕ
  arc_marks [] arc = []
  arc_marks (Reverse ∷ below) arc = arc_marks below arc
  arc_marks (Sub nodes arcs ∷ below) arc = arc_marks below arc
  arc_marks (Undirect ∷ below) arc = arc_marks below (half arc)
      ++ cond (is_even arc) (codes "+") (codes "-")
  arc_marks (Residual cap flow ∷ below) arc = arc_marks below (half arc)
      ++ cond (is_even arc) (codes "+") (codes "-")
  arc_marks (Split ∷ below) arc =
      cond (is_even arc) (arc_marks below (half arc)) (node_marks below (half arc) ++ codes "=")

-- a label with marks behind it
abbrev pub marked : List ℕ → List ℕ → List ℕ
marked label [] = label
marked label (mark ∷ marks) = label ++ codes "/" ++ mark ∷ marks
