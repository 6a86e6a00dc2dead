-- The orders in which a walk meets the nodes and the arcs of a kept view.
use Rattle.std.specs.Prelude.{ℕ, List}
use Rattle.observe_core.specs.Seen.{facts_of_marked}
use Rattle.kept_views.specs.declared.listing.Listing.TheVariants.{Whole, BySource, ByTarget}
use Rattle.kept_views.specs.declared.nodes.KeptNodes.{KeptNodes}
use Rattle.kept_views.specs.declared.arcs.KeptArcs.{KeptArcs}
use Rattle.kept_views.specs.Order.{ids_at}
use Rattle.kept_views.specs.Views.{nodes_of, arcs_of}

-- all nodes, by falling stamp
abbrev pub node_order : KeptNodes → List ℕ
node_order k = ids_at Whole (facts_of_marked (nodes_of k)) 0

-- the arcs from a node, by the falling stamp of the source
abbrev pub out_order : KeptArcs → ℕ → List ℕ
out_order k node = ids_at BySource (facts_of_marked (arcs_of k)) node

-- the arcs to a node, by the falling stamp of the target
abbrev pub in_order : KeptArcs → ℕ → List ℕ
in_order k node = ids_at ByTarget (facts_of_marked (arcs_of k)) node
