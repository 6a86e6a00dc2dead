use Rattle.std.proofs.Common.{◌≡◌, ◌+◌, [], ◌∷◌, ◌++◌, take, get_or, sym, ap, ◌∙◌, subst, arith}
use Rattle.alter_graph.specs.State.{state_of}
use Rattle.plain_digraph.specs.Digraph.{Digraph}
use Rattle.plain_digraph.specs.PlainSteps.{AddArc, after_step}
use Rattle.desk_world.specs.Blank.{ArcsLead}
use Rattle.desk_world.proofs.Unseen.{arc_unseen, arcs_lead, arcs_start, went, one_more, all_done}
use Rattle.desk_world.proofs.opening.add_arcs.Goals as goal

pub loop-done-init : goal.loop-done-init
loop-done-init g c = record {
  within = omega arith;
  in_step = c.requires.in_step;
  unseen = c.requires.unseen;
  nodes = λ i. c.args.graph.now.graph.graph.nodes;
  leads = arcs_start c.args.graph.now.graph.graph;
}

pub loop-done-preserved : goal.loop-done-preserved
loop-done-preserved g c =
    let was = c.loop-done.invariant in
    let arcs = c.args.arcs.now in
    let done = c.loop-done.done in
    let below = c.loop-done-test.true in
    let watch = g.O.Observer.watch in
    let here = c.loop-done.graph.graph.graph in
    let later = c.add_arc.new.self.graph.graph in
    let fine = sym c.is_err.ensures.value ∙ c.if-is_err.false in
    let happens = went c.add_arc.result fine c.add_arc.ensures.happens in
    let link = c.index-arcs-done.result in
    let at : link ≡ get_or arcs done link = c.index-arcs-done.is in
    let took = happens.goes.took.graph in
    let next = arcs_lead (take done arcs) link c.args.graph.now.graph.graph here later was.leads
    was.in_step.valid took in
    record {
      within = omega (arith, below);
      in_step = happens.goes.in_step;
      unseen = arc_unseen (state_of watch c.loop-done.graph) (state_of watch c.add_arc.new.self)
          link.from link.to was.unseen happens;
      nodes = ap (λ (d : Digraph). d.nodes) took ∙ was.nodes;
      leads = subst (λ some. ArcsLead some c.args.graph.now.graph.graph later)
          (ap (λ l. take done arcs ++ l ∷ []) at ∙ sym (one_more arcs done link below)) next;
    }

pub returns-clause-leads : goal.returns-clause-leads
returns-clause-leads g c =
    let was = c.loop-done.invariant in
    let arcs = c.args.arcs.now in
    subst (λ some. ArcsLead some c.args.graph.now.graph.graph c.loop-done.graph.graph.graph)
    (all_done arcs c.loop-done.done was.within c.loop-done-test.false) was.leads
