use Rattle.std.proofs.Common.{◌+◌, ◌*◌, ◌<◌, ◌^◌, length, ◌∙◌}
use Rattle.std.proofs.Common.{subst, arith}
use Rattle.std.proofs.Math.ListN.{set, length-set}
use Rattle.std.proofs.lemmas.List.Sorted.{length_permutation}
use Rattle.plain_certificates.specs.Tables.{at}
use Rattle.static_digraph.specs.Fixed.{graph_of}
use Rattle.path_search.specs.Search.{IsSearch, Settled}
use Rattle.path_search.proofs.Settling.{settle_last, skip_entry, entry_node}
use Rattle.pace_search.proofs.Marks.{fewer_open}
use Rattle.path_search.proofs.Changes.{found}
use Rattle.path_search.proofs.nearest.search.Goals as goal

pub bounds-turn-u : goal.bounds-turn-u
bounds-turn-u c =
    let was = c.loop-key.invariant in
    let node = entry_node (graph_of c.args.g.now) (at 0 c.args.len.now) c.args.s
    (at 0 c.loop-key.dist) (at 0 c.loop-key.via) (at 0 c.loop-key.turn) c.loop-key.count
    _ _ (c.in-Some.key, c.in-Some.u) was.search c.in-Some.ensures.some in
    let inside = node.0 in
    let size = was.turns in
    omega (arith, inside, size)

pub bounds-turn-u-then-turn-u-eq0 : goal.bounds-turn-u-then-turn-u-eq0
bounds-turn-u-then-turn-u-eq0 c =
    let was = c.loop-key.invariant in
    let node = entry_node (graph_of c.args.g.now) (at 0 c.args.len.now) c.args.s
    (at 0 c.loop-key.dist) (at 0 c.loop-key.via) (at 0 c.loop-key.turn) c.loop-key.count
    _ _ (c.in-Some.key, c.in-Some.u) was.search c.in-Some.ensures.some in
    let inside = node.0 in
    let size = was.turns in
    omega (arith, inside, size)

pub expand-requires-clause-node : goal.expand-requires-clause-node
expand-requires-clause-node c =
    let was = c.loop-key.invariant in
    (entry_node (graph_of c.args.g.now) (at 0 c.args.len.now) c.args.s
    (at 0 c.loop-key.dist) (at 0 c.loop-key.via) (at 0 c.loop-key.turn) c.loop-key.count
    _ _ (c.in-Some.key, c.in-Some.u) was.search c.in-Some.ensures.some).0

pub expand-requires-clause-near : goal.expand-requires-clause-near
expand-requires-clause-near c =
    let was = c.loop-key.invariant in
    let node = entry_node (graph_of c.args.g.now) (at 0 c.args.len.now) c.args.s
    (at 0 c.loop-key.dist) (at 0 c.loop-key.via) (at 0 c.loop-key.turn) c.loop-key.count
    _ _ (c.in-Some.key, c.in-Some.u) was.search c.in-Some.ensures.some in
    let low = node.1 in
    let all = was.unsettled in
    let few = c.requires.nodes in
    omega (arith, low, all, few)

pub loop-key-smaller-in-Continue-1 : goal.loop-key-smaller-in-Continue-1
loop-key-smaller-in-Continue-1 c =
    let was = c.loop-key.invariant in
    let node = entry_node (graph_of c.args.g.now) (at 0 c.args.len.now) c.args.s
    (at 0 c.loop-key.dist) (at 0 c.loop-key.via) (at 0 c.loop-key.turn) c.loop-key.count
    _ _ (c.in-Some.key, c.in-Some.u) was.search c.in-Some.ensures.some in
    let inside = node.0 in
    let size = was.turns in
    let l : c.in-Some.u < length c.loop-key.turn = omega (arith, inside, size) in
    let fewer = fewer_open c.loop-key.turn c.in-Some.u (c.loop-key.count + 1) l
    c.if-turn-u-eq0.true (omega arith) in
    let shorter = length_permutation _ _ c.in-Some.ensures.some in
    let grows = c.in_ok-expand.ensures.grows in
    let arcs = c.requires.arcs in
    omega (arith, fewer, shorter, grows, arcs)

pub loop-key-preserved-in-Continue-1 : goal.loop-key-preserved-in-Continue-1
loop-key-preserved-in-Continue-1 c =
    let g = graph_of c.args.g.now in
    let len = at 0 c.args.len.now in
    let was = c.loop-key.invariant in
    let turn = c.loop-key.turn in
    let count = c.loop-key.count in
    let node = entry_node g len c.args.s (at 0 c.loop-key.dist) (at 0 c.loop-key.via) (at 0 turn)
    count _ _ (c.in-Some.key, c.in-Some.u) was.search c.in-Some.ensures.some in
    let inside = node.0 in
    let size = was.turns in
    let l : c.in-Some.u < length turn = omega (arith, inside, size) in
    let fewer = fewer_open turn c.in-Some.u (count + 1) l c.if-turn-u-eq0.true (omega arith) in
    let all = was.unsettled in
    let last = settle_last g len c.args.s (at 0 c.loop-key.dist) (at 0 c.loop-key.via) turn count
    _ _ (c.in-Some.key, c.in-Some.u) l was.search c.in-Some.ensures.some c.in-Some.ensures.least
    c.if-turn-u-eq0.true all c.requires.nodes in
    record {
      sizes = record {
        ends = was.sizes.ends;
        lens = was.sizes.lens;
        dists = c.expand.auto.dist ∙ was.sizes.dists;
        vias = c.expand.auto.via ∙ was.sizes.vias;
      };
      turns = length-set turn c.in-Some.u (count + 1) ∙ size;
      search = record {
        floor = c.in-Some.key;
        search = c.in_ok-expand.ensures.search c.args.s (at 0 (set turn c.in-Some.u (count + 1)))
            (count + 1) (2 ^ 36 * (count + 1)) last;
      };
      unsettled = omega (arith, fewer, all);
    }

pub loop-key-smaller : goal.loop-key-smaller
loop-key-smaller c =
    let shorter = length_permutation _ _ c.in-Some.ensures.some in omega (arith, shorter)

pub loop-key-preserved : goal.loop-key-preserved
loop-key-preserved c =
    let was = c.loop-key.invariant in
    record {
      sizes = was.sizes;
      turns = was.turns;
      search = skip_entry (graph_of c.args.g.now) (at 0 c.args.len.now) c.args.s
          (at 0 c.loop-key.dist) (at 0 c.loop-key.via) (at 0 c.loop-key.turn) c.loop-key.count
          _ _ (c.in-Some.key, c.in-Some.u) was.search c.in-Some.ensures.some
          (let off = c.if-turn-u-eq0.false in omega (arith, off));
      unsettled = was.unsettled;
    }

pub returns : goal.returns
returns c =
    let g = graph_of c.args.g.now in
    let was = c.loop-key.invariant in
    let all = was.unsettled in
    let T = at 0 c.loop-key.turn in
    found g (at 0 c.args.len.now) c.args.s (at 0 c.loop-key.dist) (at 0 c.loop-key.via) T
    c.loop-key.count was.search.floor
    (subst (IsSearch g (at 0 c.args.len.now) c.args.s (Settled g T) (at 0 c.loop-key.dist)
    (at 0 c.loop-key.via) T c.loop-key.count was.search.floor (2 ^ 36 * c.loop-key.count))
    c.in_default.ensures.none was.search.search)
    (omega (arith, all))
