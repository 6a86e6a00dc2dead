use Rattle.plain_views.proofs.Sides.{source_shown, target_shown}
use Rattle.view_adaptors.proofs.sub.Sub.keeps.Goals as goal

pub node-requires : goal.node-requires
node-requires g c =
    let s = c.args.self.now in
    let p = g.G.Shown.graph s.below in
    let shown = g.met.G.Shown.valid s.below in
    s.nodes_admitted c.ends.result.0.0
    (rw c.ends.ensures.from (source_shown p c.args.a.0 shown c.requires))

pub node-requires-then-node : goal.node-requires-then-node
node-requires-then-node g c =
    let s = c.args.self.now in
    let p = g.G.Shown.graph s.below in
    let shown = g.met.G.Shown.valid s.below in
    s.nodes_admitted c.ends.result.1.0
    (rw c.ends.ensures.to (target_shown p c.args.a.0 shown c.requires))
