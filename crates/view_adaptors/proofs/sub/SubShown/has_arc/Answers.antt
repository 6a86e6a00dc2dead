use Rattle.std.proofs.Common.{◌&&◌, filter, sym, ◌∙◌, ap}
use Rattle.plain_views.specs.Shown.{arc_of}
use Rattle.plain_views.specs.Adaptors.{is_kept}
use Rattle.plain_views.proofs.Adapted.{part_has_arc}
use Rattle.view_adaptors.proofs.sub.SubShown.has_arc.Goals as goal

pub returns-then-has_arc : goal.returns-then-has_arc
returns-then-has_arc g c =
    let s = c.args.self.now in
    let p = g.G.Shown.graph s.below in
    let shown = g.met.G.Shown.valid s.below in
    let keeps_node = g.F.Filter.keeps_node s.filter in
    let k = is_kept keeps_node (g.F.Filter.keeps_arc s.filter) in
    let nodes = filter keeps_node p.nodes in
    c.keeps.ensures
    ∙ sym (part_has_arc nodes k p shown c.args.a.0
    ∙ ap (λ b. b && k (arc_of p c.args.a.0)) (sym c.has_arc.ensures ∙ c.if-has_arc.true))

pub returns-else-has_arc : goal.returns-else-has_arc
returns-else-has_arc g c =
    let s = c.args.self.now in
    let p = g.G.Shown.graph s.below in
    let shown = g.met.G.Shown.valid s.below in
    let keeps_node = g.F.Filter.keeps_node s.filter in
    let k = is_kept keeps_node (g.F.Filter.keeps_arc s.filter) in
    let nodes = filter keeps_node p.nodes in
    c.if-has_arc.false
    ∙ sym (part_has_arc nodes k p shown c.args.a.0
    ∙ ap (λ b. b && k (arc_of p c.args.a.0)) (sym c.has_arc.ensures ∙ c.if-has_arc.false))
