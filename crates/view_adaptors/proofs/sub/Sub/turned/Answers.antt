use Rattle.std.proofs.Common.{sym, ◌∙◌}
use Rattle.plain_views.proofs.Adapted.{reversed_has_arc}
use Rattle.view_adaptors.proofs.sub.Sub.turned.Goals as goal

pub new-requires-2-clause-arcs : goal.new-requires-2-clause-arcs
new-requires-2-clause-arcs g c =
    λ id at. c.args.self.now.arcs_admitted id
    (sym (reversed_has_arc (g.G.Shown.graph c.args.self.now.below)
    (g.met.G.Shown.valid c.args.self.now.below) id) ∙ (rw c.new.ensures at at))
