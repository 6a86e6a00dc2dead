-- What contracts see of the observers of kept views.
use Rattle.std.specs.Prelude.{Bool, List}
use Rattle.observe_core.specs.declared.kinds.KeptShape.{KeptShape}
use Rattle.observe_core.specs.Held.{Kept, KeptNodes as NodesRole, KeptArcs as ArcsRole, Marked}
use Rattle.observe_core.specs.Seen.{Seen, map_seen}
use Rattle.kept_views.specs.declared.nodes.KeptNodes.{KeptNodes}
use Rattle.kept_views.specs.declared.arcs.KeptArcs.{KeptArcs}
use Rattle.kept_views.specs.ItemViews.{items_of}

abbrev pub holding_nodes : Bool → List Marked → Seen
holding_nodes all items = map_seen (Kept NodesRole all items)

abbrev pub holding_arcs : KeptShape → Bool → List Marked → Seen
holding_arcs shape all items = map_seen (Kept (ArcsRole shape) all items)

-- the nodes, or the arcs, by rising id, each with its marks
abbrev pub nodes_of : KeptNodes → List Marked
nodes_of k = items_of k.items

abbrev pub arcs_of : KeptArcs → List Marked
arcs_of k = items_of k.items

abbrev pub nodes_seen : KeptNodes → Seen
nodes_seen k = holding_nodes k.items.all (nodes_of k)

abbrev pub arcs_seen : KeptArcs → Seen
arcs_seen k = holding_arcs k.shape k.items.all (arcs_of k)
