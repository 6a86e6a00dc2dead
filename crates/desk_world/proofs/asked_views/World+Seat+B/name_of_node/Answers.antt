use Rattle.std.proofs.Common.{◌≡◌, ◌<◌, refl, sym, ap, subst, ◌∙◌, length}
use Rattle.std.specs.Prelude.{IfOk}
use Rattle.base_items.specs.declared.items.ItemSort.TheVariants.{Node}
use Rattle.plain_digraph.specs.Items.{IsLive}
use Rattle.plain_views.specs.Towers.{base_node}
use Rattle.view_tower.specs.Layers.{tower_of}
use Rattle.desk_seats.specs.contracts.seat.SeatObserver.TheImpl.{watch-value}
use Rattle.desk_world.specs.Naming.{node_called}
use Rattle.desk_world.specs.Plain.{plain_of}
use Rattle.desk_world.proofs.AskedViews.{nodes_live, node_told}
use Rattle.desk_world.proofs.asked_views.World+Seat+B.name_of_node.Goals as goal

pub node_called-requires-clause-live : goal.node_called-requires-clause-live
node_called-requires-clause-live g c =
    let w = (watch-value g.row.B g.B.Observer g.B.Observer-dict g.B.Destruct-dict).it in
    let world = plain_of w c.args.self.now in
    let asks = c.requires.asks in
    subst (λ id. IsLive world.graph Node (base_node (tower_of c.as_slice.result.now) id))
    (sym c.node_item.ensures)
    (nodes_live world c.args.asked.now asks world refl c.as_slice.result.now
    c.as_slice.ensures.value c.requires.in_step.valid.graph_ok c.args.node
    (subst (λ n. c.args.node < n) (sym (ap length asks.numbers.nodes)) c.requires.node))

pub returns : goal.returns
returns g c =
    let w = (watch-value g.row.B g.B.Observer g.B.Observer-dict g.B.Destruct-dict).it in
    let world = plain_of w c.args.self.now in
    subst (λ n. IfOk c.node_called.result (λ name. name ≡ n))
    ((λ i. node_called world (tower_of (c.as_slice.ensures.value i)) (c.node_item.ensures i))
    ∙ node_told world c.args.asked.now c.requires.asks c.args.node)
    c.node_called.ensures
