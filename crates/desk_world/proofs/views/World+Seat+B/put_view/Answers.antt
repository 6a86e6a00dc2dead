use Rattle.std.proofs.Common.{None, refl, sym, ap, subst, ◌∙◌}
use Rattle.plain_world.specs.Tables.{has_entry, with_entry}
use Rattle.desk_seats.specs.contracts.seat.SeatObserver.TheImpl.{watch-value}
use Rattle.desk_world.specs.KeptViews.{NoneStand, views_of}
use Rattle.desk_world.proofs.ViewsComing.{view_comes}
use Rattle.desk_world.proofs.views.World+Seat+B.put_view.Goals as goal

pub returns-clause-in_step : goal.returns-clause-in_step
returns-clause-in_step g c =
    let w = (watch-value g.row.B g.B.Observer g.B.Observer-dict g.B.Destruct-dict).it in
    let self = c.args.self.now in
    let rows = self.views.rows in
    let copied = c.in_ok-name.ensures ∙ c.as_bytes-2.ensures in
    view_comes w self c.requires.in_step c.put.new.self c.in_ok-name.name
    (record { layer = c.in_ok-layer.layer; below = c.in_ok-below.below; kept = None }) refl
    (ap (has_entry rows) copied ∙ c.requires.new)
    (subst (NoneStand (views_of rows)) (sym copied) c.requires.alone)
    (c.put.ensures.rows ∙ ap (λ table. with_entry table c.in_ok-name.name
    (record { layer = c.in_ok-layer.layer; below = c.in_ok-below.below; kept = None }))
    c.reserve.ensures.rows)
