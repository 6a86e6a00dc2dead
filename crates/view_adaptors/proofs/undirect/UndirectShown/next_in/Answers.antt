use Rattle.std.proofs.Common.{◌∙◌, ap}
use Rattle.plain_views.specs.Shown.{has_arc}
use Rattle.plain_views.specs.Adaptors.{undirected}
use Rattle.plain_views.proofs.Adapted.{reversed_has_arc, undirected_is_shown}
use Rattle.plain_views.proofs.Walked as walked
use Rattle.view_adaptors.proofs.undirect.UndirectShown.next_in.Goals as goal

pub next_along-requires : goal.next_along-requires
next_along-requires g c =
    let s = c.args.self.now in
    let p = g.G.Shown.graph s.below in
    let shown = g.met.G.Shown.valid s.below in
    let same = walked.undirected_reversed p in
    rw c.turned.ensures
    (ap (λ q. has_arc q c.args.a.0) same
    ∙ (reversed_has_arc (undirected p) (undirected_is_shown p shown) c.args.a.0 ∙ c.requires))

pub returns : goal.returns
returns g c =
    let s = c.args.self.now in
    let p = g.G.Shown.graph s.below in
    let shown = g.met.G.Shown.valid s.below in
    let same = walked.undirected_reversed p in
    (rw c.turned.ensures at c.next_along.ensures)
    ∙ walked.next_mirrored undirected p c.args.a.0 same
