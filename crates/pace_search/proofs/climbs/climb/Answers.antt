use Rattle.std.proofs.Common.{◌≡◌, ◌+◌, length, arith}
use Rattle.plain_certificates.specs.Tables.{at}
use Rattle.static_digraph.specs.Fixed.{graph_of}
use Rattle.pace_search.specs.Paces.{pace_graph}
use Rattle.pace_search.proofs.Climbed.{begins, passes}
use Rattle.pace_search.proofs.Climbing.{climbed}
use Rattle.pace_search.proofs.Marks.{fewer_open}
use Rattle.pace_search.proofs.Rounded.{closes_at}
use Rattle.pace_search.proofs.climbs.climb.Goals as goal

pub loop-node-init : goal.loop-node-init
loop-node-init c =
    let g = pace_graph (graph_of c.args.g.now) c.args.count in
    record {
      climb =
          rw c.requires.empty
          (begins g (at 0 c.args.dist.now) (at 0 c.args.via.now) c.args.mark.now c.args.base
          c.args.start c.requires.start c.requires.near c.requires.marked);
    }

pub bounds-via-node : goal.bounds-via-node
bounds-via-node c =
    let inside = c.loop-node.invariant.climb.inside in
    let all = c.requires.tree.vias in
    omega (arith, inside, all)

pub bounds-mark-node : goal.bounds-mark-node
bounds-mark-node c =
    let inside = c.loop-node.invariant.climb.inside in
    let all = c.loop-node.invariant.climb.sized in
    omega (arith, inside, all)

pub returns-then-seen-base : goal.returns-then-seen-base
returns-then-seen-base c =
    let g = pace_graph (graph_of c.args.g.now) c.args.count in
    closes_at g (at 0 c.args.dist.now) (at 0 c.args.via.now) c.loop-node.mark
    c.loop-node.path.items c.args.base c.args.start c.loop-node.node c.loop-node.invariant.climb
    c.if-seen-base.true

pub returns-then-seen-gt0 : goal.returns-then-seen-gt0
returns-then-seen-gt0 c =
    let g = pace_graph (graph_of c.args.g.now) c.args.count in
    let was = c.loop-node.invariant.climb in
    let few = c.if-seen-base.false in
    passes g (at 0 c.args.dist.now) (at 0 c.args.via.now) c.loop-node.mark
    c.loop-node.path.items c.args.base c.args.start c.loop-node.node
    (was.before c.loop-node.node was.inside c.if-seen-gt0.true (omega (arith, few))) was

pub bounds-via-node-in-loop-node : goal.bounds-via-node-in-loop-node
bounds-via-node-in-loop-node c =
    let inside = c.loop-node.invariant.climb.inside in
    let all = c.requires.tree.vias in
    omega (arith, inside, all)

pub overflow_cast-mark : goal.overflow_cast-mark
overflow_cast-mark c =
    let counted = c.loop-node.invariant.climb.counted in
    let few = c.requires.paced.few_nodes in
    let len = c.len.ensures in
    let items = c.in_ok-push.ensures.len in
    omega (arith, counted, few, len, items)

pub overflow_add-mark : goal.overflow_add-mark
overflow_add-mark c =
    let counted = c.loop-node.invariant.climb.counted in
    let few = c.requires.paced.few_nodes in
    let len = c.len.ensures in
    let items = c.in_ok-push.ensures.len in
    omega (arith, counted, few, len, items)

pub bounds-mark-node-in-loop-node : goal.bounds-mark-node-in-loop-node
bounds-mark-node-in-loop-node c =
    let inside = c.loop-node.invariant.climb.inside in
    let all = c.loop-node.invariant.climb.sized in
    omega (arith, inside, all)

pub bounds-via-node-in-loop-node-2 : goal.bounds-via-node-in-loop-node-2
bounds-via-node-in-loop-node-2 c =
    let inside = c.loop-node.invariant.climb.inside in
    let all = c.requires.tree.vias in
    omega (arith, inside, all)

pub loop-node-smaller : goal.loop-node-smaller
loop-node-smaller c =
    let inside = c.loop-node.invariant.climb.inside in
    let all = c.loop-node.invariant.climb.sized in
    let fresh = c.if-seen-gt0.false in
    let len = c.len.ensures in
    let items = c.in_ok-push.ensures.len in
    let fewer = fewer_open c.loop-node.mark c.loop-node.node (c.args.base + c.len.result)
    (omega (arith, inside, all)) (omega (arith, fresh)) (omega (arith, len, items)) in
    omega (arith, fewer)

pub loop-node-preserved : goal.loop-node-preserved
loop-node-preserved c =
    let g = pace_graph (graph_of c.args.g.now) c.args.count in
    let was = c.loop-node.invariant.climb in
    let below = c.loop-node-test.true in
    let fresh = c.if-seen-gt0.false in
    let tree = c.requires.tree in
    let state = tree.state in
    let len = c.len.ensures in
    let items = c.in_ok-push.ensures.len in
    let more : c.args.base + c.len.result ≡ c.args.base + length c.loop-node.path.items + 1 =
    omega (arith, len, items) in
    let next = climbed g tree.lens tree.first (at 0 c.args.dist.now)
    (at 0 c.args.via.now) state.turns state.clock tree.ends state.tree c.loop-node.mark
    c.loop-node.path.items c.args.base c.args.start c.loop-node.node was
    below (omega (arith, fresh)) in
    record { climb = rw (c.in_ok-push.ensures.items, c.pace_ends-from.ensures.from, more) next }

pub pace_ends-from-requires : goal.pace_ends-from-requires
pace_ends-from-requires c =
    let below = c.loop-node-test.true in
    let known = c.requires.paced.known in
    omega (arith, below, known)

pub returns : goal.returns
returns c =
    let g = pace_graph (graph_of c.args.g.now) c.args.count in
    let was = c.loop-node.invariant.climb in
    let above = c.loop-node-test.false in
    let tree = c.requires.tree in
    let root = tree.state.tree.root c.loop-node.node was.inside was.near (omega (arith, above)) in
    let high = tree.high c.loop-node.node was.inside in
    passes g (at 0 c.args.dist.now)
    (at 0 c.args.via.now) c.loop-node.mark c.loop-node.path.items c.args.base c.args.start
    c.loop-node.node (omega (arith, root, high)) was
