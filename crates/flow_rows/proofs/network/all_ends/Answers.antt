use Rattle.std.proofs.Common.{◌++◌, ◌∷◌, [], ◌∙◌, sym, ap, arith}
use Rattle.std.proofs.Math.ListN.{length-set}
use Rattle.std.proofs.lemmas.List.{take_more_set}
use Rattle.std.proofs.lemmas.List.FromFn.{map-range_with_len_more}
use Rattle.static_digraph.specs.Fixed.{graph_of}
use Rattle.flow_rows.specs.Laid.{ends_in}
use Rattle.flow_rows.proofs.network.all_ends.Goals as goal

pub loop-arc-preserved : goal.loop-arc-preserved
loop-arc-preserved c =
    let g = graph_of c.args.g.now in
    let was = c.loop-arc.invariant in
    let arc = c.loop-arc.arc in
    let ends = c.loop-arc.ends.items in
    let l = c.loop-arc-test.true in
    let long = was.long in
    record {
      below = omega (arith, l);
      long = rw (c.ends-from.ensures.from, c.ends-from.ensures.to)
          (length-set ends arc (ends_in g arc) ∙ was.long);
      listed = rw (c.ends-from.ensures.from, c.ends-from.ensures.to)
          (take_more_set ends arc (ends_in g arc) (omega (arith, l, long))
          ∙ (ap (λ xs. xs ++ ends_in g arc ∷ []) was.listed
          ∙ sym (map-range_with_len_more (ends_in g) 0 arc arc (omega arith))));
    }
