use Rattle.std.proofs.Common.{sym, ◌∙◌, ap}
use Rattle.view_tower.specs.Layers.{tower_of}
use Rattle.view_tower.specs.Origins.{origin_bool}
use Rattle.view_tower.proofs.Origins.{bool_by_origin}
use Rattle.view_tower.proofs.pulled.arc_bool_at.Goals as goal

pub returns : goal.returns
returns g c =
    let values = g.V.Values.values c.args.values.now in
    c.bool_from.ensures ∙ ap (origin_bool values c.args.map) c.arc_from.ensures
    ∙ sym (bool_by_origin values c.args.map (tower_of c.args.layers.now) c.args.arc)
