use Rattle.std.proofs.Common.{inl, inr, ap, arith}
use Rattle.std.proofs.lemmas.Bool.Decides.{eqb_tells}
use Rattle.plain_certificates.specs.Tables.{at}
use Rattle.static_digraph.specs.Fixed.{graph_of}
use Rattle.pace_search.specs.Paces.{pace_graph}
use Rattle.pace_search.proofs.Climbed.{ended_closed, ended_passed}
use Rattle.pace_search.proofs.Rounded.{refilled, rest_of}
use Rattle.pace_search.proofs.Rounded.{least_round}
use Rattle.pace_search.proofs.climbs.find_round.Goals as goal
use Rattle.pace_search.proofs.climbs.find_round.Goals.{then-dist-node-lt-FAR+in_ok-place+in-None}
use Rattle.pace_search.proofs.climbs.find_round.Goals.{else-dist-node-lt-FAR}

pub returns-in-Some : goal.returns-in-Some
returns-in-Some c =
    let g = pace_graph (graph_of c.args.g.now) c.args.count in
    let closed = ended_closed g (at 0 c.args.dist.now) (at 0 c.args.via.now)
    c.climb.new.mark c.climb.new.path.items c.loop-node.base c.loop-node.node c.in-Some.place
    c.in_ok-place.field-0 c.in-Some.is c.in_ok-place.ensures in
    let turned = c.reverse.ensures.items in
    let copied = c.in_ok-extend_from_slice-in-Some.ensures.items in
    let empty = c.in_ok-round-in-Some.ensures.items in
    least_round g (at 0 c.args.dist.now) (at 0 c.args.via.now)
    c.reverse.new.self.items c.in_ok-least_first-in-Some.field-0.items
    (rw (
      turned,
      copied,
      empty,
      c.deref.ensures.value,
      rest_of c.climb.new.path.items c.in-Some.place,
    ) closed.round)
    (rw c.as_slice.ensures.value at c.in_ok-least_first-in-Some.ensures)

pub loop-node-preserved : goal.loop-node-preserved
loop-node-preserved c =
    let g = pace_graph (graph_of c.args.g.now) c.args.count in
    let was = c.loop-node.invariant in
    let l = c.loop-node-test.true in
    elim c.if-dist-node-lt-FAR.branch [
      | then-dist-node-lt-FAR+in_ok-place+in-None w ↦
          (let ended = ended_passed g (at 0 c.args.dist.now)
          (at 0 c.args.via.now) w.climb.new.mark w.climb.new.path.items c.loop-node.base
          c.loop-node.node w.in_ok-place.field-0 w.in-None.is w.in_ok-place.ensures in
          let len = w.len-in-None.ensures in
          let low = ended.low in
          let sized = ended.marked.sized in
          let before = was.marked.sized in
          let held = c.loop-node.mark.ok.0 in
          rw (w.mark-is, w.base-is, len, w.climb.new.path.ok.0) (record {
            below = omega (arith, l);
            marked =
                rw (refilled c.loop-node.mark.len w.climb.new.mark c.loop-node.mark.items
                (omega (arith, sized, before, held))) ended.marked;
            passed = λ v l_v near. elim (eqb_tells v c.loop-node.node) [
              | inl e ↦ (let d = ap (at 0 c.args.dist.now) e.1 in omega (arith, low, d))
              | inr e ↦
                  (let ne = e.1 in
                  let old = was.passed v (omega (arith, l_v, ne)) near in
                  omega (arith, old))
            ];
          }))
      | else-dist-node-lt-FAR w ↦
          (let off = w.if-dist-node-lt-FAR.false in
          rw (w.mark-is, w.base-is) (record {
            below = omega (arith, l);
            marked = was.marked;
            passed = λ v l_v near. elim (eqb_tells v c.loop-node.node) [
              | inl e ↦ (let d = ap (at 0 c.args.dist.now) e.1 in omega (arith, near, d, off))
              | inr e ↦ (let ne = e.1 in was.passed v (omega (arith, l_v, ne)) near)
            ];
          }))
    ]
