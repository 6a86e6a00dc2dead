use Rattle.std.proofs.Common.{◌≡◌, ◌+◌, ◌++◌, length, append_assoc, sym, ◌∙◌, ap, arith}
use Rattle.std.proofs.Common.{◌*◌, refl}
use Rattle.std.proofs.lemmas.List.{length-replicate}
use Rattle.std.proofs.lemmas.List.FromFn.{length-map-range_with_len}
use Rattle.static_digraph.specs.Fixed.{graph_of}
use Rattle.flow_rows.specs.Laid.{ends_in, in_spokes, out_spokes, spokes_before}
use Rattle.flow_rows.proofs.Laying.{spokes_more, spokes_next, starts_more, spokes_few}
use Rattle.flow_rows.proofs.Reading.{laid_is}
use Rattle.flow_rows.proofs.network.network_of.Goals as goal

pub overflow_cast-place : goal.overflow_cast-place
overflow_cast-place c =
    let g = graph_of c.args.g.now in
    let low = spokes_few g c.loop-node.node in
    let is = c.loop-node.invariant.place in
    let few = c.arc_count.ensures.few in
    let count = c.arc_count.ensures.count in
    omega (arith, low, is, few, count)

pub overflow_cast-place-2 : goal.overflow_cast-place-2
overflow_cast-place-2 c =
    let g = graph_of c.args.g.now in
    let low = spokes_few g c.loop-node.node in
    let is = c.loop-node.invariant.place in
    let few = c.arc_count.ensures.few in
    let count = c.arc_count.ensures.count in
    omega (arith, low, is, few, count)

pub loop-node-init : goal.loop-node-init
loop-node-init c =
    let g = graph_of c.args.g.now in
    let filled = c.in_ok-row.ensures.items_if_clones_equal (λ y e. e) in
    let size = c.len.ensures in
    let ends = ap length c.in_ok-ends.ensures in
    let all = length-map-range_with_len (ends_in g) 0 g.arcs in
    let same : c.len.result ≡ g.arcs = omega (arith, size, ends, all) in
    let long = ap length filled
    ∙ length-replicate (2 * c.len.result) (record { arc = 0; far = 0 }) in
    record {
      below = omega arith;
      long = omega (arith, long, same);
      starts = c.in_ok-start.ensures.items;
      place = refl;
      laid = refl;
    }

pub lay_out-place-requires-clause-room : goal.lay_out-place-requires-clause-room
lay_out-place-requires-clause-room c =
    let g = graph_of c.args.g.now in
    let is = c.loop-node.invariant.place in
    let long = c.loop-node.invariant.long in
    let next = spokes_next g c.loop-node.node in
    let few = spokes_few g (c.loop-node.node + 1) in
    omega (arith, is, long, next, few)

pub lay_in-place-requires-clause-room : goal.lay_in-place-requires-clause-room
lay_in-place-requires-clause-room c =
    let g = graph_of c.args.g.now in
    let is = c.loop-node.invariant.place in
    let long = c.loop-node.invariant.long in
    let behind = c.lay_out-place.ensures.place in
    let same = c.lay_out-place.ensures.long in
    let next = spokes_next g c.loop-node.node in
    let few = spokes_few g (c.loop-node.node + 1) in
    omega (arith, is, long, behind, same, next, few)

pub loop-node-preserved : goal.loop-node-preserved
loop-node-preserved c =
    let g = graph_of c.args.g.now in
    let node = c.loop-node.node in
    let was = c.loop-node.invariant in
    let l = c.loop-node-test.true in
    let is = was.place in
    let out = c.lay_out-place.ensures.place in
    let into = c.lay_in-place.ensures.place in
    let next = spokes_next g node in
    record {
      below = omega (arith, l);
      long = c.lay_in-place.ensures.long ∙ (c.lay_out-place.ensures.long ∙ was.long);
      starts = c.in_ok-push.ensures.items ∙ (rw (was.starts, was.place) (sym (starts_more g node)));
      place = omega (arith, is, out, into, next);
      laid = c.lay_in-place.ensures.laid
          ∙ (ap (λ xs. xs ++ in_spokes g node)
          (c.lay_out-place.ensures.laid ∙ ap (λ xs. xs ++ out_spokes g node) was.laid)
          ∙ (append_assoc (spokes_before g node) (out_spokes g node) (in_spokes g node)
          ∙ sym (spokes_more g node)));
    }

pub returns : goal.returns
returns c =
    let g = graph_of c.args.g.now in
    let node = c.loop-node.node in
    let was = c.loop-node.invariant in
    let below = was.below in
    let over = c.loop-node-test.false in
    let nodes = c.node_count-nodes.ensures.count in
    let is : node ≡ g.nodes = omega (arith, below, over, nodes) in
    let starts = c.in_ok-push-2.ensures.items
    ∙ (rw (was.starts, was.place) (sym (starts_more g node))) in
    let laid = c.truncate.ensures.items ∙ was.laid in
    laid_is g c.in_ok-ends.ends.items c.push-2.new.self.items c.truncate.new.self.items
    c.arc_count.ensures.ends c.in_ok-ends.ensures (rw (← is) starts) (rw (← is) laid)
