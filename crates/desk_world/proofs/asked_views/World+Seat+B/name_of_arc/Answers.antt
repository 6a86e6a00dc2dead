use Rattle.std.proofs.Common.{◌≡◌, refl, sym, subst, ◌∙◌}
use Rattle.std.specs.Prelude.{IfOk}
use Rattle.plain_views.specs.Marks.{arc_origin}
use Rattle.plain_views.specs.TowerLaws.{IsLiveOrigin}
use Rattle.view_tower.specs.Layers.{tower_of}
use Rattle.desk_seats.specs.contracts.seat.SeatObserver.TheImpl.{watch-value}
use Rattle.desk_world.specs.Naming.{arc_called}
use Rattle.desk_world.specs.Plain.{plain_of}
use Rattle.desk_world.proofs.AskedViews.{arcs_live, origin_lives, arc_told, arc_numbered}
use Rattle.desk_world.proofs.asked_views.World+Seat+B.name_of_arc.Goals as goal

pub arc_called-requires-clause-live : goal.arc_called-requires-clause-live
arc_called-requires-clause-live g c =
    let w = (watch-value g.row.B g.B.Observer g.B.Observer-dict g.B.Destruct-dict).it in
    let world = plain_of w c.args.self.now in
    let asks = c.requires.asks in
    let layers = c.as_slice.result.now in
    subst (λ id. IsLiveOrigin world.graph (arc_origin (tower_of layers) id))
    (sym c.arc_item.ensures)
    (origin_lives world.graph (arc_origin (tower_of layers) _)
    (arcs_live world c.args.asked.now asks world refl layers c.as_slice.ensures.value
    c.requires.in_step.valid.graph_ok c.args.arc
    (arc_numbered world c.args.asked.now asks c.args.arc c.requires.arc)))

pub returns : goal.returns
returns g c =
    let w = (watch-value g.row.B g.B.Observer g.B.Observer-dict g.B.Destruct-dict).it in
    let world = plain_of w c.args.self.now in
    subst (λ n. IfOk c.arc_called.result (λ name. name ≡ n))
    ((λ i. arc_called world (tower_of (c.as_slice.ensures.value i)) (c.arc_item.ensures i))
    ∙ arc_told world c.args.asked.now c.requires.asks c.args.arc)
    c.arc_called.ensures
