use Rattle.std.proofs.Common.{◌<◌, ◌++◌, ◌∷◌, [], ◌∙◌, sym, ap, map, take, get_or, length}
use Rattle.std.proofs.Common.{append_assoc, arith}
use Rattle.std.proofs.Math.ListN.{length-set}
use Rattle.std.proofs.lemmas.List.{length-map, map_more, take_more_set}
use Rattle.static_digraph.specs.Fixed.{graph_of, row_of}
use Rattle.flow_rows.proofs.Rows.{row_inside}
use Rattle.flow_rows.specs.Laid.{in_spoke}
use Rattle.flow_rows.proofs.network.lay_in.Goals as goal

pub ends-far-requires : goal.ends-far-requires
ends-far-requires c =
    let g = graph_of c.args.g.now in
    let i = c.loop-arc.arc-index in
    let row = c.in_row-arcs.ensures in
    let l = c.loop-arc-test.true in
    rw row (row_inside g.to g.arcs c.args.node i 0 (rw row at l)).0

pub loop-arc-preserved : goal.loop-arc-preserved
loop-arc-preserved c =
    let g = graph_of c.args.g.now in
    let i = c.loop-arc.arc-index in
    let arcs = c.in_row-arcs.result.now in
    let l = c.loop-arc-test.true in
    let was = c.loop-arc.invariant in
    let next_is = was.next in
    let place = c.args.place in
    let row = c.loop-arc.row.items in
    let spoke = in_spoke g (get_or arcs i 0) in
    let same = ap length c.in_row-arcs.ensures in
    let many = length-map (row_of g.to g.arcs c.args.node) (in_spoke g) in
    let room = c.requires.room in
    let long = was.long in
    let inside : c.loop-arc.next < length row =
    omega (arith, next_is, l, same, many, room, long) in
    record {
      next = omega (arith, next_is);
      long = rw c.ends-far.ensures.from (length-set row c.loop-arc.next spoke ∙ was.long);
      laid = rw c.ends-far.ensures.from
          (take_more_set row c.loop-arc.next spoke inside
          ∙ (ap (λ xs. xs ++ spoke ∷ []) was.laid
          ∙ (append_assoc (take place c.args.row.now.items) (map (in_spoke g) (take i arcs))
          (spoke ∷ [])
          ∙ ap (λ xs. take place c.args.row.now.items ++ xs)
          (sym (map_more (in_spoke g) arcs i 0 l)))));
    }
