use Rattle.std.proofs.Common.{filter, sym, ◌∙◌}
use Rattle.plain_digraph.specs.Lists.{has}
use Rattle.plain_views.specs.Adaptors.{is_kept}
use Rattle.plain_views.proofs.Walks.{and_left, has-filter}
use Rattle.view_adaptors.proofs.sub.SubShown.first_out.Goals as goal

pub first_along-requires : goal.first_along-requires
first_along-requires g c =
    let s = c.args.self.now in
    let p = g.G.Shown.graph s.below in
    let shown = g.met.G.Shown.valid s.below in
    let keeps_node = g.F.Filter.keeps_node s.filter in
    let k = is_kept keeps_node (g.F.Filter.keeps_arc s.filter) in
    let nodes = filter keeps_node p.nodes in
    and_left (has p.nodes c.args.n.0) (keeps_node c.args.n.0)
    (sym (has-filter keeps_node p.nodes c.args.n.0) ∙ c.requires)
