use Rattle.std.proofs.Common.{◌≡◌, ap, subst, ◌∙◌, map}
use Rattle.std.specs.Prelude.{IfOk}
use Rattle.base_items.specs.declared.items.ItemSort.TheVariants.{Node}
use Rattle.script_words.specs.declared.commands.MapType.TheVariants as types
use Rattle.plain_views.specs.Towers.{node_bool}
use Rattle.view_tower.specs.Layers.{tower_of}
use Rattle.desk_seats.specs.contracts.seat.SeatObserver.TheImpl.{watch-value}
use Rattle.desk_world.specs.MapNumbers.{numbered}
use Rattle.desk_world.specs.Plain.{plain_of}
use Rattle.desk_world.proofs.AskedViews.{nodes_live, sides_pulled, map_there}
use Rattle.desk_world.proofs.asked_values.World+Seat+B.left_of.Goals as goal

pub node_bools-requires-clause-map : goal.node_bools-requires-clause-map
node_bools-requires-clause-map g c =
    let w = (watch-value g.row.B g.B.Observer g.B.Observer-dict g.B.Destruct-dict).it in
    let world = plain_of w c.args.self.now in
    map_there world (plain_of w c.in_ok-values.values.world.now)
    (ap (plain_of w) c.in_ok-values.ensures) Node types.Bools c.args.map.now c.in_ok-number.number
    c.in_ok-number.ensures c.requires.typed

pub node_bools-requires-clause-live : goal.node_bools-requires-clause-live
node_bools-requires-clause-live g c =
    let w = (watch-value g.row.B g.B.Observer g.B.Observer-dict g.B.Destruct-dict).it in
    let world = plain_of w c.args.self.now in
    nodes_live world c.args.asked.now c.requires.asks (plain_of w c.in_ok-values.values.world.now)
    (ap (plain_of w) c.in_ok-values.ensures) c.as_slice.result.now c.as_slice.ensures.value
    c.requires.in_step.valid.graph_ok

pub returns : goal.returns
returns g c =
    let w = (watch-value g.row.B g.B.Observer g.B.Observer-dict g.B.Destruct-dict).it in
    let world = plain_of w c.args.self.now in
    let read = plain_of w c.in_ok-values.values.world.now in
    let asked = c.args.asked.now in
    subst (λ told. IfOk c.node_bools.result (λ left. left.items ≡ told))
    ((λ i. map (node_bool (numbered read) (tower_of c.as_slice.result.now)
    (c.in_ok-number.ensures i)) asked.fixed.nodes)
    ∙ sides_pulled world asked c.requires.asks read (ap (plain_of w) c.in_ok-values.ensures)
    c.as_slice.result.now c.as_slice.ensures.value c.args.map.now)
    c.node_bools.ensures
