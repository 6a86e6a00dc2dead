use Rattle.std.proofs.Common.{◌≤◌, ◌^◌, arith}
use Rattle.std.specs.Option.{option_copied}
use Rattle.static_digraph.specs.Fixed.{graph_of}
use Rattle.task_bounds.specs.declared.plan.Plan.{Plan}
use Rattle.task_bounds.proofs.Readied.{is_ready, is_ready_for}
use Rattle.task_bounds.proofs.plan.plan_of.Goals as goal

pub returns : goal.returns
returns c =
    let g = graph_of c.args.g.now in
    let arcs = c.arc_count-arcs.ensures.count in
    let nodes = c.node_count-nodes.ensures.count in
    let arcs_few = c.arc_count-arcs.ensures.few in
    let nodes_few = c.node_count-nodes.ensures.few in
    let few_arcs : g.arcs ≤ 2 ^ 22 = omega (arith, arcs, arcs_few) in
    let few_nodes : g.nodes ≤ 2 ^ 20 = omega (arith, nodes, nodes_few) in
    let low = rw arcs at c.in_ok-low.ensures in
    let high = rw arcs at c.in_ok-high.ensures in
    let supplies = rw nodes at c.in_ok-supplies.ensures in
    let rooms = rw (c.deref.ensures.value, low.all, arcs) at c.in_ok-caps.ensures in
    let taken = rw (c.deref-2.ensures.value, c.deref-3.ensures.value) at
    c.in_ok-excess.ensures.taken in
    let plan : Plan = record {
      lower = c.in_ok-low.low;
      upper = c.in_ok-high.high;
      supply = c.in_ok-supplies.supplies;
      caps = c.in_ok-caps.caps;
      excess = c.in_ok-excess.excess;
    } in
    record {
      ready = is_ready g (option_copied c.args.lower) (option_copied c.args.upper)
          (option_copied c.args.supply) c.args.added plan c.arc_count-arcs.ensures.ends few_nodes
          few_arcs low high supplies rooms c.in_ok-excess.ensures.nodes taken;
      task = is_ready_for g (option_copied c.args.lower) (option_copied c.args.upper)
          (option_copied c.args.supply) c.args.added plan c.arc_count-arcs.ensures.ends few_nodes
          few_arcs low high supplies rooms c.in_ok-excess.ensures.nodes taken;
    }
