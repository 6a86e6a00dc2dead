use Rattle.std.proofs.Common.{◌∙◌, length, pos, sym, ap, arith}
use Rattle.std.specs.Option.{option_copied}
use Rattle.plain_certificates.specs.Tables.{at}
use Rattle.static_digraph.specs.Fixed.{graph_of}
use Rattle.net_simplex.proofs.Cycled.{from_climbs, hung, inside, is_free, to_climbs}
use Rattle.task_bounds.proofs.Freed.{free_same}
use Rattle.net_simplex.proofs.Settled.{weighed_by}
use Rattle.task_bounds.specs.Given.{bounds_given}
use Rattle.task_bounds.specs.Plan.{AreSmall, IsReady}
use Rattle.net_simplex.specs.Weights.{AreWeights}
use Rattle.net_simplex.specs.Solved.{IsSolved}
use Rattle.net_simplex.proofs.answer.simplex.Goals as goal

pub weights_of-requires : goal.weights_of-requires
weights_of-requires c =
    let all = c.requires.cost.0 in
    let few = c.in_ok-plan.ensures.ready.few_arcs in
    let nodes = c.node_count-nodes.ensures.few in
    record { few = (omega (arith, all, few), omega (arith, nodes)) }

pub solve_network-requires : goal.solve_network-requires
solve_network-requires c =
    let g = graph_of c.args.g.now in
    let cost = c.args.cost.now in
    let ready : IsReady g g.nodes c.in_ok-plan.plan =
    rw c.node_count-nodes.ensures.count at c.in_ok-plan.ensures.ready in
    let excess = ap length c.deref.ensures.value in
    let excess_all = ready.excess_all in
    let weights : AreWeights g.arcs g.nodes (at (pos 0) cost) c.in_ok-weights.weights.items =
    rw (c.requires.cost.0, c.node_count-nodes.ensures.count) at c.in_ok-weights.ensures in
    let small : AreSmall g.arcs cost = record {
      all = c.requires.cost.0;
      small = λ k l. (let all = c.requires.cost.0 in
          c.requires.cost.1 k (pos 0) (omega (arith, l, all)));
    } in
    record {
      nodes = omega (arith, excess, excess_all);
      light = rw c.deref.ensures.value ready.light;
      caps = rw c.deref-2.ensures.value ready.caps;
      costs = ap length c.deref-3.ensures.value ∙ weights.all;
      weighed = rw c.deref-3.ensures.value
          (weighed_by g cost c.in_ok-weights.weights.items small weights);
    }

pub settle-requires : goal.settle-requires
settle-requires c =
    let g = graph_of c.args.g.now in
    let cost = c.args.cost.now in
    let plan = c.in_ok-plan.plan in
    let weights : AreWeights g.arcs g.nodes (at (pos 0) cost) c.in_ok-weights.weights.items =
    rw (c.requires.cost.0, c.node_count-nodes.ensures.count) at c.in_ok-weights.ensures in
    let solved : IsSolved g (at (pos 0) plan.excess.items) plan.caps.items
    c.in_ok-weights.weights.items c.in_ok-solved.solved =
    rw (c.deref.ensures.value, c.deref-2.ensures.value, c.deref-3.ensures.value) at
    c.in_ok-solved.ensures in
    record {
      ready = rw c.node_count-nodes.ensures.count at c.in_ok-plan.ensures.ready;
      cost = record {
        all = c.requires.cost.0;
        small = λ k l. (let all = c.requires.cost.0 in
            c.requires.cost.1 k (pos 0) (omega (arith, l, all)));
      };
      weights = rw c.deref-in-None.ensures.value weights;
      solved = rw c.deref-in-None.ensures.value solved;
      stopped = c.in-None.is;
    }

pub returns-in-None : goal.returns-in-None
returns-in-None c = c.settle.ensures (bounds_given (option_copied c.args.lower)
    (option_copied c.args.upper)
    (option_copied c.args.supply)) c.in_ok-plan.ensures.task

pub cycle_of-requires : goal.cycle_of-requires
cycle_of-requires c =
    let g = graph_of c.args.g.now in
    let plan = c.in_ok-plan.plan in
    let run = c.in_ok-solved.solved in
    let solved : IsSolved g (at (pos 0) plan.excess.items) plan.caps.items
    c.in_ok-weights.weights.items run =
    rw (c.deref.ensures.value, c.deref-2.ensures.value, c.deref-3.ensures.value) at
    c.in_ok-solved.ensures in
    let excess = at (pos 0) plan.excess.items in
    let x = c.in-Some.endless in
    let is = c.in-Some.is in
    record {
      sizes = (solved.arc_all ∙ sym solved.parent_all, solved.depth_all ∙ sym solved.parent_all);
      arc = inside g excess plan.caps.items c.in_ok-weights.weights.items run solved x is;
      hung = hung g excess plan.caps.items c.in_ok-weights.weights.items run solved;
      from = from_climbs g excess plan.caps.items c.in_ok-weights.weights.items run solved x is;
      to = to_climbs g excess plan.caps.items c.in_ok-weights.weights.items run solved x is;
    }

pub settle_free-requires : goal.settle_free-requires
settle_free-requires c =
    let g = graph_of c.args.g.now in
    let cost = c.args.cost.now in
    let plan = c.in_ok-plan.plan in
    let run = c.in_ok-solved.solved in
    let weights : AreWeights g.arcs g.nodes (at (pos 0) cost) c.in_ok-weights.weights.items =
    rw (c.requires.cost.0, c.node_count-nodes.ensures.count) at c.in_ok-weights.ensures in
    let solved : IsSolved g (at (pos 0) plan.excess.items) plan.caps.items
    c.in_ok-weights.weights.items run =
    rw (c.deref.ensures.value, c.deref-2.ensures.value, c.deref-3.ensures.value) at
    c.in_ok-solved.ensures in
    let small : AreSmall g.arcs cost = record {
      all = c.requires.cost.0;
      small = λ k l. (let all = c.requires.cost.0 in
          c.requires.cost.1 k (pos 0) (omega (arith, l, all)));
    } in
    let ready : IsReady g g.nodes plan =
    rw c.node_count-nodes.ensures.count at c.in_ok-plan.ensures.ready in
    record {
      ready = ready;
      cost = small;
      cycle = free_same g (at 0 plan.caps.items) (at (pos 0) c.in_ok-weights.weights.items)
          (at (pos 0) cost) c.in_ok-cycle-in-Some.cycle.items weights.inner
          (is_free g (at (pos 0) plan.excess.items) plan.caps.items c.in_ok-weights.weights.items
          run
          solved c.in-Some.endless c.in-Some.is c.in_ok-cycle-in-Some.cycle.items
          (weighed_by g cost c.in_ok-weights.weights.items small weights) ready.few_nodes
          c.in_ok-cycle-in-Some.ensures);
    }

pub returns : goal.returns
returns c =
    c.settle_free.ensures (bounds_given (option_copied c.args.lower) (option_copied c.args.upper)
    (option_copied c.args.supply)) c.in_ok-plan.ensures.task
