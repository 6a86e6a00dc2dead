use Rattle.std.proofs.Common.{◌&&◌, filter, sym, ◌∙◌, ap}
use Rattle.plain_views.specs.Adaptors.{is_kept}
use Rattle.plain_views.proofs.Walks.{has-filter}
use Rattle.view_adaptors.proofs.sub.SubShown.has_node.Goals as goal

pub returns-then-has_node : goal.returns-then-has_node
returns-then-has_node g c =
    let s = c.args.self.now in
    let p = g.G.Shown.graph s.below in
    let shown = g.met.G.Shown.valid s.below in
    let keeps_node = g.F.Filter.keeps_node s.filter in
    let k = is_kept keeps_node (g.F.Filter.keeps_arc s.filter) in
    let nodes = filter keeps_node p.nodes in
    c.node.ensures
    ∙ sym (has-filter keeps_node p.nodes c.args.n.0
    ∙ ap (λ b. b && keeps_node c.args.n.0) (sym c.has_node.ensures ∙ c.if-has_node.true))

pub returns-else-has_node : goal.returns-else-has_node
returns-else-has_node g c =
    let s = c.args.self.now in
    let p = g.G.Shown.graph s.below in
    let shown = g.met.G.Shown.valid s.below in
    let keeps_node = g.F.Filter.keeps_node s.filter in
    let k = is_kept keeps_node (g.F.Filter.keeps_arc s.filter) in
    let nodes = filter keeps_node p.nodes in
    c.if-has_node.false
    ∙ sym (has-filter keeps_node p.nodes c.args.n.0
    ∙ ap (λ b. b && keeps_node c.args.n.0) (sym c.has_node.ensures ∙ c.if-has_node.false))
