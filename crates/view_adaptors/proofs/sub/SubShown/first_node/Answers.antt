use Rattle.std.proofs.Common.{◌≡◌, true, filter, ◌∙◌, ap}
use Rattle.plain_digraph.specs.Lists.{has, first, ahead}
use Rattle.plain_views.specs.Adaptors.{is_kept}
use Rattle.plain_views.proofs.Walks.{has-first, ahead-first}
use Rattle.view_adaptors.proofs.Places.{at_node}
use Rattle.view_adaptors.proofs.sub.SubShown.first_node.Goals as goal

pub skip_nodes-requires : goal.skip_nodes-requires
skip_nodes-requires g c =
    let s = c.args.self.now in
    let p = g.G.Shown.graph s.below in
    let shown = g.met.G.Shown.valid s.below in
    let keeps_node = g.F.Filter.keeps_node s.filter in
    let k = is_kept keeps_node (g.F.Filter.keeps_arc s.filter) in
    let nodes = filter keeps_node p.nodes in
    at_node (λ id. has p.nodes id ≡ true) c.first_node.result (first p.nodes) c.first_node.ensures
    (has-first p.nodes)

pub returns : goal.returns
returns g c =
    let s = c.args.self.now in
    let p = g.G.Shown.graph s.below in
    let shown = g.met.G.Shown.valid s.below in
    let keeps_node = g.F.Filter.keeps_node s.filter in
    let k = is_kept keeps_node (g.F.Filter.keeps_arc s.filter) in
    let nodes = filter keeps_node p.nodes in
    c.skip_nodes.ensures
    ∙ (ap (λ o. first (filter keeps_node (ahead p.nodes o))) c.first_node.ensures
    ∙ ap (λ ids. first (filter keeps_node ids)) (ahead-first p.nodes))
