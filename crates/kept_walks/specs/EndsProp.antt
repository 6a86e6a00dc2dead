-- That all arcs have their ends has one proof at most.
use Rattle.std.specs.Prelude.{List, [], ◌∷◌}
use Rattle.std.proofs.Props as below
use Rattle.observe_core.specs.Held.{Marked}
use Rattle.kept_views.specs.declared.nodes.KeptNodes.{KeptNodes}
use Rattle.kept_views.specs.declared.arcs.KeptArcs.{KeptArcs}
use Rattle.kept_views.specs.Views.{nodes_of, arcs_of}
use Rattle.kept_walks.specs.Stored.{HasEnds, HoldEnds}

ends-prop : (nodes arcs : List Marked) → IsProp (HasEnds nodes arcs)
ends-prop nodes [] = Prim.hlevel below.props
ends-prop nodes (a ∷ arcs) = let rest = ends-prop nodes arcs in Prim.hlevel (rest, below.props)

pub hold-prop : (n : KeptNodes) (a : KeptArcs) → IsProp (HoldEnds n a)
hold-prop n a = ends-prop (nodes_of n) (arcs_of a)
