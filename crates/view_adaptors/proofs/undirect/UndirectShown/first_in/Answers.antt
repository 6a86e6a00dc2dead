use Rattle.std.proofs.Common.{◌∙◌}
use Rattle.plain_views.specs.Adaptors.{undirected}
use Rattle.plain_views.proofs.Walked as walked
use Rattle.view_adaptors.proofs.undirect.UndirectShown.first_in.Goals as goal

pub returns : goal.returns
returns g c =
    let s = c.args.self.now in
    let p = g.G.Shown.graph s.below in
    let shown = g.met.G.Shown.valid s.below in
    let same = walked.undirected_reversed p in
    (rw c.turned.ensures at c.first_along.ensures)
    ∙ walked.first_mirrored undirected p c.args.n.0 same
