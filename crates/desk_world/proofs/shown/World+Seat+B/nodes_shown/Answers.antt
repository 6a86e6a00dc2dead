use Rattle.std.proofs.Common.{sym, subst, ◌∙◌}
use Rattle.base_items.specs.declared.items.ItemSort.TheVariants.{Node}
use Rattle.plain_digraph.specs.Items.{IsLive}
use Rattle.plain_digraph.specs.Lists.{AllOf}
use Rattle.plain_views.specs.Towers.{base_node}
use Rattle.view_tower.specs.Layers.{tower_of}
use Rattle.desk_world.proofs.ShownLive.{nodes_live}
use Rattle.desk_world.proofs.shown.World+Seat+B.nodes_shown.Goals as goal

pub node_lines-requires-clause-live : goal.node_lines-requires-clause-live
node_lines-requires-clause-live g c =
    let graph = c.args.self.now.graph.graph.graph in
    let tower = tower_of c.args.layers.now in
    subst (AllOf (λ node. IsLive graph Node (base_node tower node)))
    (sym (c.as_slice.ensures.value ∙ c.in_ok-nodes.ensures.nodes))
    (nodes_live graph tower (g.G.Shown.graph c.args.g.now) c.requires.live)
