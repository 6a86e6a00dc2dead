use Rattle.std.proofs.Common.{◌≡◌, true, filter, sym, ◌∙◌, ap}
use Rattle.plain_digraph.specs.Lists.{has, first, after, ahead}
use Rattle.plain_views.specs.Adaptors.{is_kept}
use Rattle.plain_views.proofs.Walks.{and_left, and_right, has-after, has-filter, ahead-after}
use Rattle.plain_views.proofs.Walks.{rest-filter}
use Rattle.view_adaptors.proofs.Places.{at_node}
use Rattle.view_adaptors.proofs.sub.SubShown.next_node.Goals as goal

pub next_node-requires : goal.next_node-requires
next_node-requires g c =
    let s = c.args.self.now in
    let p = g.G.Shown.graph s.below in
    let shown = g.met.G.Shown.valid s.below in
    let keeps_node = g.F.Filter.keeps_node s.filter in
    let k = is_kept keeps_node (g.F.Filter.keeps_arc s.filter) in
    let nodes = filter keeps_node p.nodes in
    and_left (has p.nodes c.args.n.0) (keeps_node c.args.n.0)
    (sym (has-filter keeps_node p.nodes c.args.n.0) ∙ c.requires)

pub skip_nodes-requires : goal.skip_nodes-requires
skip_nodes-requires g c =
    let s = c.args.self.now in
    let p = g.G.Shown.graph s.below in
    let shown = g.met.G.Shown.valid s.below in
    let keeps_node = g.F.Filter.keeps_node s.filter in
    let k = is_kept keeps_node (g.F.Filter.keeps_arc s.filter) in
    let nodes = filter keeps_node p.nodes in
    at_node (λ id. has p.nodes id ≡ true) c.next_node.result (after p.nodes c.args.n.0)
    c.next_node.ensures (has-after p.nodes c.args.n.0)

pub returns : goal.returns
returns g c =
    let s = c.args.self.now in
    let p = g.G.Shown.graph s.below in
    let shown = g.met.G.Shown.valid s.below in
    let keeps_node = g.F.Filter.keeps_node s.filter in
    let k = is_kept keeps_node (g.F.Filter.keeps_arc s.filter) in
    let nodes = filter keeps_node p.nodes in
    let n = c.args.n.0 in
    let keeps = and_right (has p.nodes n) (keeps_node n)
    (sym (has-filter keeps_node p.nodes n) ∙ c.requires) in
    c.skip_nodes.ensures
    ∙ (ap (λ o. first (filter keeps_node (ahead p.nodes o))) c.next_node.ensures
    ∙ (ap (λ ids. first (filter keeps_node ids)) (ahead-after p.nodes n shown.nodes_differ)
    ∙ sym (ap first (rest-filter keeps_node p.nodes n keeps))))
