use Rattle.std.proofs.Common.{sym, ap, ◌∙◌}
use Rattle.std.specs.Option.{option_copied}
use Rattle.std.specs.Prelude.{option_map}
use Rattle.desk_seats.specs.contracts.seat.SeatObserver.TheImpl.{watch-value}
use Rattle.desk_world.specs.Plain.{plain_of, view_of}
use Rattle.desk_world.proofs.Layered.{counts_more, counts_all, at_base}
use Rattle.desk_world.proofs.ViewRows.{entry_as}
use Rattle.desk_world.proofs.layers.World+Seat+B.depth.Goals as goal

pub returns-in-None : goal.returns-in-None
returns-in-None g c =
    let w = (watch-value g.row.B g.B.Observer g.B.Observer-dict g.B.Destruct-dict).it in
    let self = c.args.self.now in
    let views = (plain_of w self).views in
    let name = c.down.name.now in
    counts_all views c.args.view.now c.down.count name c.down.invariant
    (at_base views c.down.count name
    (entry_as view_of self.views.rows name
    ∙ ap (option_map view_of) (sym c.get.ensures.found ∙ ap option_copied c.in-None.is)))

pub down-preserved : goal.down-preserved
down-preserved g c =
    let w = (watch-value g.row.B g.B.Observer g.B.Observer-dict g.B.Destruct-dict).it in
    let self = c.args.self.now in
    let name = c.down.name.now in
    counts_more (plain_of w self).views c.args.view.now c.down.count name
    (view_of c.in-Some.row.now) c.down.invariant c.down-test.true
    (entry_as view_of self.views.rows name
    ∙ ap (option_map view_of) (sym c.get.ensures.found ∙ ap option_copied c.in-Some.is))
