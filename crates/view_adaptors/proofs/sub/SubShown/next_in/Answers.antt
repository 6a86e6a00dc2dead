use Rattle.std.proofs.Common.{filter, ◌∙◌, ap}
use Rattle.plain_views.specs.Shown.{has_arc}
use Rattle.plain_views.specs.Adaptors.{is_kept, sub}
use Rattle.plain_views.proofs.Adapted.{reversed_has_arc, sub_is_shown}
use Rattle.plain_views.proofs.Walked as walked
use Rattle.view_adaptors.proofs.sub.SubShown.next_in.Goals as goal

pub next_along-requires : goal.next_along-requires
next_along-requires g c =
    let s = c.args.self.now in
    let p = g.G.Shown.graph s.below in
    let shown = g.met.G.Shown.valid s.below in
    let keeps_node = g.F.Filter.keeps_node s.filter in
    let k = is_kept keeps_node (g.F.Filter.keeps_arc s.filter) in
    let nodes = filter keeps_node p.nodes in
    let kept = sub keeps_node (g.F.Filter.keeps_arc s.filter) in
    let same = walked.sub_reversed keeps_node (g.F.Filter.keeps_arc s.filter) p in
    rw (c.turned.ensures.below, c.turned.ensures.filter)
    (ap (λ q. has_arc q c.args.a.0) same
    ∙ (reversed_has_arc (kept p)
    (sub_is_shown keeps_node (g.F.Filter.keeps_arc s.filter) p shown) c.args.a.0 ∙ c.requires))

pub returns : goal.returns
returns g c =
    let s = c.args.self.now in
    let p = g.G.Shown.graph s.below in
    let shown = g.met.G.Shown.valid s.below in
    let keeps_node = g.F.Filter.keeps_node s.filter in
    let k = is_kept keeps_node (g.F.Filter.keeps_arc s.filter) in
    let nodes = filter keeps_node p.nodes in
    let kept = sub keeps_node (g.F.Filter.keeps_arc s.filter) in
    let same = walked.sub_reversed keeps_node (g.F.Filter.keeps_arc s.filter) p in
    (rw (c.turned.ensures.below, c.turned.ensures.filter) at c.next_along.ensures)
    ∙ walked.next_mirrored kept p c.args.a.0 same
