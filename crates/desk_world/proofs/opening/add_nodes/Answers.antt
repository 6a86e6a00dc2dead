use Rattle.std.proofs.Common.{◌≡◌, ◌+◌, [], take, get_or, sym, ◌∙◌, subst, arith}
use Rattle.alter_graph.specs.State.{state_of}
use Rattle.desk_world.specs.Blank.{NodesLead}
use Rattle.desk_world.proofs.Unseen.{node_unseen, nodes_lead, nodes_start, went, one_more, all_done}
use Rattle.desk_world.proofs.opening.add_nodes.Goals as goal

pub loop-done-init : goal.loop-done-init
loop-done-init g c = record {
  within = omega arith;
  in_step = c.requires.in_step;
  unseen = c.requires.unseen;
  leads = nodes_start c.args.graph.now.graph.graph;
}

pub loop-done-preserved : goal.loop-done-preserved
loop-done-preserved g c =
    let was = c.loop-done.invariant in
    let rows = c.args.rows.now in
    let done = c.loop-done.done in
    let below = c.loop-done-test.true in
    let watch = g.O.Observer.watch in
    let here = c.loop-done.graph.graph.graph in
    let later = c.add_node.new.self.graph.graph in
    let fine = sym c.is_err.ensures.value ∙ c.if-is_err.false in
    let happens = went c.add_node.result fine c.add_node.ensures.happens in
    let cells = get_or rows done [] in
    let next = nodes_lead (take done rows) cells c.args.graph.now.graph.graph here later was.leads
    was.in_step.valid happens.goes.took.graph in
    record {
      within = omega (arith, below);
      in_step = happens.goes.in_step;
      unseen = node_unseen (state_of watch c.loop-done.graph) (state_of watch c.add_node.new.self)
          was.unseen happens;
      leads = subst (λ some. NodesLead some c.args.graph.now.graph.graph later)
          (sym (one_more rows done [] below)) next;
    }

pub returns-clause-leads : goal.returns-clause-leads
returns-clause-leads g c =
    let was = c.loop-done.invariant in
    let rows = c.args.rows.now in
    subst (λ some. NodesLead some c.args.graph.now.graph.graph c.loop-done.graph.graph.graph)
    (all_done rows c.loop-done.done was.within c.loop-done-test.false) was.leads
