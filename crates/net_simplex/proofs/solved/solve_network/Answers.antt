use Rattle.std.proofs.Common.{length, pos, ap, sym, arith, rules}
use Rattle.std.proofs.lemmas.Int.{ints}
use Rattle.std.proofs.lemmas.List.{with_items_is, places}
use Rattle.plain_certificates.specs.Tables.{at}
use Rattle.static_digraph.specs.Fixed.{graph_of}
use Rattle.task_bounds.proofs.Weighing.{weight_most}
use Rattle.net_simplex.proofs.Solving.{IsBegun, IsRun, begun, ended, is_solved}
use Rattle.net_simplex.specs.Start.{IsFirstFlow, IsFirstTree}
use Rattle.net_simplex.proofs.solved.solve_network.Goals as goal

pub first_flow-requires-clause-few : goal.first_flow-requires-clause-few
first_flow-requires-clause-few c =
    let all = c.requires.nodes in
    let few = c.node_count-n.ensures.few in
    let count = c.node_count-n.ensures.count in
    omega (arith, all, few, count)

pub first_flow-requires-clause-small : goal.first_flow-requires-clause-small
first_flow-requires-clause-small c v l =
    let g = graph_of c.args.g.now in
    let all = c.requires.nodes in
    let few = c.arc_count-m.ensures.few in
    let count = c.arc_count-m.ensures.count in
    let most = weight_most g v (omega (arith, few, count)) in
    let light = c.requires.light v (omega (arith, l, all)) in
    let low = light.0 in
    let high = light.1 in
    (omega (arith, ints, most, low), omega (arith, ints, most, high))

pub solve-endless-requires : goal.solve-endless-requires
solve-endless-requires c =
    let g = graph_of c.args.g.now in
    let n = c.node_count-n.ensures.count in
    let m = c.arc_count-m.ensures.count in
    let n_few = c.node_count-n.ensures.few in
    let m_few = c.arc_count-m.ensures.few in
    let ends = c.deref.result.now in
    let sent = c.deref_mut.result.now in
    let first = c.deref_mut-2.result.now in
    let next = c.deref_mut-3.result.now in
    let prev = c.deref_mut-4.result.now in
    let parent = c.deref_mut-5.result.now in
    let arc = c.deref_mut-6.result.now in
    let depth = c.deref_mut-7.result.now in
    let price = c.deref_mut-8.result.now in
    let flow : IsFirstFlow g (at (pos 0) c.args.excess.now) ends sent price =
    rw (c.deref.ensures.value, c.deref_mut.ensures.value, c.deref_mut-8.ensures.value)
    c.in_ok-flow.ensures in
    let tree : IsFirstTree g.nodes g.arcs parent arc depth first next prev =
    rw (
      c.deref_mut-5.ensures.value,
      c.deref_mut-6.ensures.value,
      c.deref_mut-7.ensures.value,
      c.deref_mut-2.ensures.value,
      c.deref_mut-3.ensures.value,
      c.deref_mut-4.ensures.value,
    ) (rw (n, m) at c.in_ok-tree.ensures) in
    let starts : IsBegun (length parent) ends c.args.cap.now sent c.args.cost.now price parent arc
    depth first next prev =
    begun g (at (pos 0) c.args.excess.now) ends c.args.cap.now sent c.args.cost.now price parent arc
    depth first next prev (omega (arith, n, n_few)) (omega (arith, m, m_few))
    c.arc_count-m.ensures.ends c.requires.light c.requires.caps c.requires.weighed flow tree
    (length parent) tree.parent_all in
    let caps = c.requires.caps.all in
    let costs = c.requires.costs in
    let ends_all = flow.ends_all in
    let sent_all = flow.flow_all in
    let price_all = flow.price_all in
    let parent_all = tree.parent_all in
    let arc_all = tree.arc_all in
    let depth_all = tree.depth_all in
    let first_all = tree.first_all in
    let next_all = tree.next_all in
    let prev_all = tree.prev_all in
    let lent = ap length c.deref_mut-9.ensures.value in
    let queue = c.in_ok-queue.ensures.len in
    let held = c.in_ok-queue.queue.ok.0 in
    record {
      arcs = (
        omega (arith, caps, ends_all),
        omega (arith, sent_all, ends_all),
        omega (arith, costs, ends_all),
      );
      sizes = (
        omega (arith, parent_all, first_all),
        omega (arith, parent_all, next_all),
        omega (arith, parent_all, prev_all),
      );
      lens = (
        omega (arith, parent_all, arc_all),
        omega (arith, parent_all, depth_all),
        omega (arith, parent_all, price_all),
        omega (arith, parent_all, lent, queue, held, n),
      );
      front = omega (arith, ends_all, m);
      block = (c.block_of-block.ensures, omega (arith, ends_all, n, m, n_few, m_few));
      shape = starts.shape;
      costed = starts.costed;
      kids = starts.kids;
      state = starts.state;
      roomy = starts.roomy;
      free = starts.free;
    }

pub returns : goal.returns
returns c =
    let g = graph_of c.args.g.now in
    let n = c.node_count-n.ensures.count in
    let m = c.arc_count-m.ensures.count in
    let n_few = c.node_count-n.ensures.few in
    let m_few = c.arc_count-m.ensures.few in
    let ends = c.deref.result.now in
    let sent = c.deref_mut.result.now in
    let first = c.deref_mut-2.result.now in
    let next = c.deref_mut-3.result.now in
    let prev = c.deref_mut-4.result.now in
    let parent = c.deref_mut-5.result.now in
    let arc = c.deref_mut-6.result.now in
    let depth = c.deref_mut-7.result.now in
    let price = c.deref_mut-8.result.now in
    let flow : IsFirstFlow g (at (pos 0) c.args.excess.now) ends sent price =
    rw (c.deref.ensures.value, c.deref_mut.ensures.value, c.deref_mut-8.ensures.value)
    c.in_ok-flow.ensures in
    let tree : IsFirstTree g.nodes g.arcs parent arc depth first next prev =
    rw (
      c.deref_mut-5.ensures.value,
      c.deref_mut-6.ensures.value,
      c.deref_mut-7.ensures.value,
      c.deref_mut-2.ensures.value,
      c.deref_mut-3.ensures.value,
      c.deref_mut-4.ensures.value,
    ) (rw (n, m) at c.in_ok-tree.ensures) in
    let run : IsRun (length parent) ends c.args.cap.now sent c.args.cost.now
    c.solve-endless.new.flow c.solve-endless.new.price c.solve-endless.new.parent
    c.solve-endless.new.arc c.solve-endless.new.depth c.solve-endless.result =
    record {
      basic = c.solve-endless.ensures.basic;
      free = c.solve-endless.ensures.free;
      state = c.solve-endless.ensures.state;
      stops = c.solve-endless.ensures.ends;
    } in
    let last = ended g (at (pos 0) c.args.excess.now) ends c.args.cap.now sent c.args.cost.now price
    parent arc depth first next prev (omega (arith, n, n_few)) (omega (arith, m, m_few))
    c.arc_count-m.ensures.ends c.requires.light c.requires.caps c.requires.weighed flow tree
    (length parent) tree.parent_all c.solve-endless.new.flow c.solve-endless.new.price
    c.solve-endless.new.parent c.solve-endless.new.arc c.solve-endless.new.depth
    c.solve-endless.result run in
    let new = c.solve-endless.new in
    let flow_same = c.solve-endless.auto.flow in
    let price_same = c.solve-endless.auto.price in
    let parent_same = c.solve-endless.auto.parent in
    let arc_same = c.solve-endless.auto.arc in
    let depth_same = c.solve-endless.auto.depth in
    let flow_all = flow.flow_all in
    let price_all = flow.price_all in
    let parent_all = tree.parent_all in
    let arc_all = tree.arc_all in
    let depth_all = tree.depth_all in
    is_solved g (at (pos 0) c.args.excess.now) c.args.cap.now c.args.cost.now _ ends new.flow
    new.price new.parent new.arc new.depth (length parent) tree.parent_all
    (sym c.deref.ensures.value)
    (with_items_is c.in_ok-flow.flow.sent new.flow (search (rules, places)))
    (with_items_is c.in_ok-flow.flow.price new.price (search (rules, places)))
    (with_items_is c.in_ok-tree.tree.parent new.parent (search (rules, places)))
    (with_items_is c.in_ok-tree.tree.arc new.arc (search (rules, places)))
    (with_items_is c.in_ok-tree.tree.depth new.depth (search (rules, places)))
    (omega (arith, flow_same, flow_all)) (omega (arith, price_same, price_all))
    (omega (arith, parent_same, parent_all)) (omega (arith, arc_same, arc_all))
    (omega (arith, depth_same, depth_all)) last
