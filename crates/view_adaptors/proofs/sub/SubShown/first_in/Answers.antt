use Rattle.std.proofs.Common.{filter, sym, ◌∙◌}
use Rattle.plain_digraph.specs.Lists.{has}
use Rattle.plain_views.specs.Adaptors.{is_kept, sub}
use Rattle.plain_views.proofs.Walks.{and_left, has-filter}
use Rattle.plain_views.proofs.Walked as walked
use Rattle.view_adaptors.proofs.sub.SubShown.first_in.Goals as goal

pub first_along-requires : goal.first_along-requires
first_along-requires g c =
    let s = c.args.self.now in
    let p = g.G.Shown.graph s.below in
    let shown = g.met.G.Shown.valid s.below in
    let keeps_node = g.F.Filter.keeps_node s.filter in
    let k = is_kept keeps_node (g.F.Filter.keeps_arc s.filter) in
    let nodes = filter keeps_node p.nodes in
    let kept = sub keeps_node (g.F.Filter.keeps_arc s.filter) in
    let same = walked.sub_reversed keeps_node (g.F.Filter.keeps_arc s.filter) p in
    rw c.turned.ensures.below
    (and_left (has p.nodes c.args.n.0) (keeps_node c.args.n.0)
    (sym (has-filter keeps_node p.nodes c.args.n.0) ∙ c.requires))

pub returns : goal.returns
returns g c =
    let s = c.args.self.now in
    let p = g.G.Shown.graph s.below in
    let shown = g.met.G.Shown.valid s.below in
    let keeps_node = g.F.Filter.keeps_node s.filter in
    let k = is_kept keeps_node (g.F.Filter.keeps_arc s.filter) in
    let nodes = filter keeps_node p.nodes in
    let kept = sub keeps_node (g.F.Filter.keeps_arc s.filter) in
    let same = walked.sub_reversed keeps_node (g.F.Filter.keeps_arc s.filter) p in
    (rw (c.turned.ensures.below, c.turned.ensures.filter) at c.first_along.ensures)
    ∙ walked.first_mirrored kept p c.args.n.0 same
