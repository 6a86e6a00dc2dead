use Rattle.std.proofs.Common.{◌≡◌, true, refl, sym, ◌∙◌}
use Rattle.std.specs.Prelude.{option_map}
use Rattle.plain_digraph.specs.Lists.{has, after}
use Rattle.plain_views.proofs.Walks.{turn, has-after}
use Rattle.view_adaptors.proofs.Places.{at_node}
use Rattle.view_adaptors.proofs.sub.Sub.skip_nodes.Goals as goal

pub returns-then-node : goal.returns-then-node
returns-then-node g c =
    let p = g.G.Shown.graph c.args.self.now.below in
    let k = g.F.Filter.keeps_node c.args.self.now.filter in
    let at = c.in-Some.n.0 in
    let on : has p.nodes at ≡ true = rw c.in-Some.is at c.loop-at.invariant.on in
    let once = (g.met.G.Shown.valid c.args.self.now.below).nodes_differ in
    sym ((turn k p.nodes at (after p.nodes at) once on refl).stop
    (sym c.node.ensures ∙ c.if-node.true)) ∙ (rw c.in-Some.is at c.loop-at.invariant.same)

pub loop-at-smaller : goal.loop-at-smaller
loop-at-smaller g c =
    let p = g.G.Shown.graph c.args.self.now.below in
    let k = g.F.Filter.keeps_node c.args.self.now.filter in
    let at = c.in-Some.n.0 in
    let on : has p.nodes at ≡ true = rw c.in-Some.is at c.loop-at.invariant.on in
    let once = (g.met.G.Shown.valid c.args.self.now.below).nodes_differ in
    rw c.in-Some.is
    (turn k p.nodes at (option_map (λ n. n.0) c.next_node-at.result) once on
    c.next_node-at.ensures).less

pub loop-at-preserved : goal.loop-at-preserved
loop-at-preserved g c =
    let p = g.G.Shown.graph c.args.self.now.below in
    let k = g.F.Filter.keeps_node c.args.self.now.filter in
    let at = c.in-Some.n.0 in
    let on : has p.nodes at ≡ true = rw c.in-Some.is at c.loop-at.invariant.on in
    let once = (g.met.G.Shown.valid c.args.self.now.below).nodes_differ in
    record {
      on = at_node (λ id. has p.nodes id ≡ true) c.next_node-at.result (after p.nodes at)
          c.next_node-at.ensures (has-after p.nodes at);
      same = (turn k p.nodes at (option_map (λ n. n.0) c.next_node-at.result) once on
          c.next_node-at.ensures).go (sym c.node.ensures ∙ c.if-node.false)
          ∙ (rw c.in-Some.is at c.loop-at.invariant.same);
    }
