use Rattle.std.proofs.Common.{◌∙◌, ap}
use Rattle.plain_views.specs.Shown.{target_of}
use Rattle.plain_views.proofs.Adapted.{residual_as_sub}
use Rattle.residual_view.proofs.residual.ResidualShown.ends.Goals as goal

pub returns-clause-to : goal.returns-clause-to
returns-clause-to g c =
    let s = c.args.self.now in
    let p = g.G.Shown.graph s.below in
    let shown = g.met.G.Shown.valid s.below in
    let cap = g.C.Rooms.cap_of s.rooms in
    let flow = g.C.Rooms.flow_of s.rooms in
    (rw (c.part.ensures.below, c.part.ensures.rooms) at c.ends.ensures.to)
    ∙ ap (λ q. target_of q c.args.a.0) (residual_as_sub cap flow p)
