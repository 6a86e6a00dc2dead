use Rattle.std.proofs.Common.{rules, sym, ◌∙◌, ap, w64, FitsSigned}
use Rattle.std.specs.Int.{w128}
use Rattle.std.proofs.lemmas.Int.{to_z-of_z}
use Rattle.view_tower.specs.Layers.{tower_of}
use Rattle.view_tower.specs.Origins.{is_turned, origin_int, signed}
use Rattle.view_tower.proofs.Origins.{int_by_origin}
use Rattle.view_tower.proofs.pulled.arc_int_at.Goals as goal

pub returns : goal.returns
returns g c =
    let values = g.V.Values.values c.args.values.now in
    let tower = tower_of c.args.layers.now in
    let fits : FitsSigned w64 c.int_from.result = search rules in
    let wide : FitsSigned w128 c.with_sign.result = search rules in
    to_z-of_z w128 c.with_sign.result wide ∙ c.with_sign.ensures
    ∙ ap (signed c.goes_back.result) (to_z-of_z w64 c.int_from.result fits)
    ∙ ap (λ back. signed back c.int_from.result) c.goes_back.ensures
    ∙ ap (signed (is_turned tower c.args.arc))
    (c.int_from.ensures ∙ ap (origin_int values c.args.map) c.arc_from.ensures)
    ∙ sym (int_by_origin values c.args.map tower c.args.arc)
