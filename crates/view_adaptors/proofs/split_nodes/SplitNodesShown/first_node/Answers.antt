use Rattle.std.proofs.Common.{sym, ◌∙◌, ap, arith}
use Rattle.std.specs.Prelude.{option_map}
use Rattle.plain_views.proofs.Walks.{has-first}
use Rattle.view_adaptors.proofs.Places.{node_small}
use Rattle.view_adaptors.proofs.split_nodes.SplitNodesShown.first_node.Goals as goal

pub overflow_mul-result : goal.overflow_mul-result
overflow_mul-result g c =
    let s = c.args.self.now in
    let p = g.G.Shown.graph s.below in
    let shown = g.met.G.Shown.valid s.below in
    let below = g.met.G.Shown.below s.below in
    let bound = g.G.Shown.bound s.below in
    let l = node_small p bound below s.small c.in-Some.n.0
    (has-first p.nodes c.in-Some.n.0
    (sym c.first_node.ensures ∙ ap (option_map (λ n. n.0)) c.in-Some.is)) in omega (arith, l)
