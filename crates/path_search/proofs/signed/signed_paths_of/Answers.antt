use Rattle.std.proofs.Common.{sym, arith}
use Rattle.std.proofs.lemmas.List.FromFn.{map-range_with_len_more}
use Rattle.plain_certificates.specs.Tables.{at}
use Rattle.path_search.specs.Answers.{via_in}
use Rattle.path_search.specs.Tree.{signed_in}
use Rattle.path_search.proofs.signed.signed_paths_of.Goals as goal

pub loop-node-preserved : goal.loop-node-preserved
loop-node-preserved c =
    let was = c.loop-node.invariant in
    let node = c.loop-node.node in
    let l = c.loop-node-test.true in
    let dist = at 0 c.args.dist.now in
    let via = at 0 c.args.via.now in
    record {
      below = omega (arith, l);
      dists = rw (c.in_ok-push.ensures.items, was.dists, c.signed_of.ensures)
          (sym (map-range_with_len_more (λ v. signed_in (dist v)) 0 node node (omega arith)));
      vias = rw (c.in_ok-push-2.ensures.items, was.vias, c.via_of.ensures)
          (sym (map-range_with_len_more (λ v. via_in (dist v) (via v) v c.args.s) 0 node node
          (omega arith)));
    }
