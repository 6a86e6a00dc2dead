use Rattle.plain_views.specs.Adaptors.{half}
use Rattle.plain_views.proofs.Adapted.{residual_arc_below}
use Rattle.residual_view.proofs.residual.Residual.room.Goals as goal

pub cap-requires : goal.cap-requires
cap-requires g c =
    let s = c.args.self.now in
    s.admitted (half c.args.a.0)
    (residual_arc_below (g.C.Rooms.cap_of s.rooms) (g.C.Rooms.flow_of s.rooms)
    (g.G.Shown.graph s.below) (g.met.G.Shown.valid s.below) c.args.a.0 c.requires.shown)

pub flow-requires : goal.flow-requires
flow-requires g c =
    let s = c.args.self.now in
    s.admitted (half c.args.a.0)
    (residual_arc_below (g.C.Rooms.cap_of s.rooms) (g.C.Rooms.flow_of s.rooms)
    (g.G.Shown.graph s.below) (g.met.G.Shown.valid s.below) c.args.a.0 c.requires.shown)

pub flow-requires-else-a-eq0 : goal.flow-requires-else-a-eq0
flow-requires-else-a-eq0 g c =
    let s = c.args.self.now in
    s.admitted (half c.args.a.0)
    (residual_arc_below (g.C.Rooms.cap_of s.rooms) (g.C.Rooms.flow_of s.rooms)
    (g.G.Shown.graph s.below) (g.met.G.Shown.valid s.below) c.args.a.0 c.requires.shown)
