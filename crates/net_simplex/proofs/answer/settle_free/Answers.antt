use Rattle.std.proofs.Common.{◌≡◌, ◌∙◌, length, pos, ap, arith}
use Rattle.std.proofs.Math.ListN.{replicate}
use Rattle.std.proofs.lemmas.List.{length-replicate}
use Rattle.plain_certificates.specs.Tables.{at}
use Rattle.static_digraph.specs.Fixed.{graph_of}
use Rattle.net_simplex.proofs.Cycled.{none_free}
use Rattle.net_simplex.proofs.Settled.{sent_most}
use Rattle.net_simplex.proofs.Zeroed.{none_costs, weighed_zero, weights_all}
use Rattle.net_simplex.specs.Weights.{AreWeights}
use Rattle.net_simplex.specs.Solved.{IsSolved}
use Rattle.net_simplex.proofs.answer.settle_free.Goals as goal

pub weights_of-requires : goal.weights_of-requires
weights_of-requires c =
    let zeros : c.in_ok-zeros.zeros.items ≡ replicate (length c.args.cost.now) (pos 0) =
    c.in_ok-zeros.ensures.items_if_clones_equal (λ y e. e) in
    let lent = ap length (c.deref.ensures.value ∙ zeros) in
    let all = length-replicate (length c.args.cost.now) (pos 0) in
    let arcs = c.requires.cost.all in
    let few = c.requires.ready.few_arcs in
    let nodes = c.node_count.ensures.few in
    record { few = (omega (arith, lent, all, arcs, few), omega (arith, nodes)) }

pub solve_network-requires : goal.solve_network-requires
solve_network-requires c =
    let g = graph_of c.args.g.now in
    let ready = c.requires.ready in
    let excess = ap length c.deref-2.ensures.value in
    let excess_all = ready.excess_all in
    let zeros : c.in_ok-zeros.zeros.items ≡ replicate g.arcs (pos 0) =
    rw c.requires.cost.all at c.in_ok-zeros.ensures.items_if_clones_equal (λ y e. e) in
    let weights : AreWeights g.arcs g.nodes (at (pos 0) c.in_ok-zeros.zeros.items)
    c.in_ok-weights.weights.items =
    weights_all g c.deref.result.now c.in_ok-zeros.zeros.items c.in_ok-weights.weights.items
    c.node_count.result c.deref.ensures.value zeros c.node_count.ensures.count
    c.in_ok-weights.ensures in
    record {
      nodes = omega (arith, excess, excess_all);
      light = rw c.deref-2.ensures.value ready.light;
      caps = rw c.deref-3.ensures.value ready.caps;
      costs = ap length c.deref-4.ensures.value ∙ weights.all;
      weighed = rw c.deref-4.ensures.value
          (weighed_zero g c.in_ok-zeros.zeros.items c.in_ok-weights.weights.items zeros weights);
    }

pub freed-requires : goal.freed-requires
freed-requires c =
    let g = graph_of c.args.g.now in
    let plan = c.args.plan.now in
    let run = c.in_ok-solved.solved in
    let solved : IsSolved g (at (pos 0) plan.excess.items) plan.caps.items
    c.in_ok-weights.weights.items run =
    rw (c.deref-2.ensures.value, c.deref-3.ensures.value, c.deref-4.ensures.value) at
    c.in_ok-solved.ensures in
    record {
      ready = c.requires.ready;
      cost = c.requires.cost;
      cycle = c.requires.cycle;
      stopped = c.in-None.is;
      all = solved.sent_all;
      sent = sent_most g (at (pos 0) plan.excess.items) plan.caps.items
          c.in_ok-weights.weights.items
          run c.requires.ready.caps solved;
      prices = solved.price_all;
    }

pub unreachable-requires : goal.unreachable-requires
unreachable-requires c =
    let g = graph_of c.args.g.now in
    let plan = c.args.plan.now in
    let run = c.in_ok-solved.solved in
    let zeros : c.in_ok-zeros.zeros.items ≡ replicate g.arcs (pos 0) =
    rw c.requires.cost.all at c.in_ok-zeros.ensures.items_if_clones_equal (λ y e. e) in
    let weights : AreWeights g.arcs g.nodes (at (pos 0) c.in_ok-zeros.zeros.items)
    c.in_ok-weights.weights.items =
    weights_all g c.deref.result.now c.in_ok-zeros.zeros.items c.in_ok-weights.weights.items
    c.node_count.result c.deref.ensures.value zeros c.node_count.ensures.count
    c.in_ok-weights.ensures in
    let solved : IsSolved g (at (pos 0) plan.excess.items) plan.caps.items
    c.in_ok-weights.weights.items run =
    rw (c.deref-2.ensures.value, c.deref-3.ensures.value, c.deref-4.ensures.value) at
    c.in_ok-solved.ensures in
    none_free g (at (pos 0) plan.excess.items) plan.caps.items c.in_ok-weights.weights.items run
    solved c.in-Some.field-0 c.in-Some.is
    (weighed_zero g c.in_ok-zeros.zeros.items c.in_ok-weights.weights.items zeros weights)
    (none_costs g c.in_ok-zeros.zeros.items c.in_ok-weights.weights.items zeros weights)

pub returns : goal.returns
returns c =
    let g = graph_of c.args.g.now in
    let zeros : c.in_ok-zeros.zeros.items ≡ replicate g.arcs (pos 0) =
    rw c.requires.cost.all at c.in_ok-zeros.ensures.items_if_clones_equal (λ y e. e) in
    let weights : AreWeights g.arcs g.nodes (at (pos 0) c.in_ok-zeros.zeros.items)
    c.in_ok-weights.weights.items =
    weights_all g c.deref.result.now c.in_ok-zeros.zeros.items c.in_ok-weights.weights.items
    c.node_count.result c.deref.ensures.value zeros c.node_count.ensures.count
    c.in_ok-weights.ensures in
    let solved : IsSolved g (at (pos 0) c.args.plan.now.excess.items) c.args.plan.now.caps.items
    c.in_ok-weights.weights.items c.in_ok-solved.solved =
    rw (c.deref-2.ensures.value, c.deref-3.ensures.value, c.deref-4.ensures.value) at
    c.in_ok-solved.ensures in
    λ bounds task. c.freed.ensures bounds c.in_ok-weights.weights.items task
    (weighed_zero g c.in_ok-zeros.zeros.items c.in_ok-weights.weights.items zeros weights) solved
