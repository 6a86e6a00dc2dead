use Rattle.std.proofs.Common.{◌≡◌, refl, ap, ◌∙◌}
use Rattle.desk_world.proofs.ViewSizes.{small_enough, nodes_full, arcs_full}
use Rattle.desk_world.proofs.view_lists.list_view.Goals as goal

pub returns-in-Ok-list_arcs-clause-small : goal.returns-in-Ok-list_arcs-clause-small
returns-in-Ok-list_arcs-clause-small g c =
    let p = g.G.Shown.graph c.args.g.now in
    let shown = g.met.G.Shown.valid c.args.g.now in
    small_enough p shown c.in-Ok.ensures.few c.in-Ok-list_arcs.ensures.few

pub returns-in-Err-list_arcs-clause-full : goal.returns-in-Err-list_arcs-clause-full
returns-in-Err-list_arcs-clause-full g c =
    let p = g.G.Shown.graph c.args.g.now in
    let shown = g.met.G.Shown.valid c.args.g.now in
    rw c.not_listed-in-Err-list_arcs.ensures
    (arcs_full p shown c.in-Err-list_arcs.fault c.in-Ok.ensures.few c.in-Err-list_arcs.ensures.full)
