use Rattle.std.proofs.Common.{sym, cond, arith}
use Rattle.std.proofs.lemmas.List.FromFn.{map-range_with_len_more}
use Rattle.plain_certificates.specs.Tables.{at}
use Rattle.pair_match.specs.Facing.{flags}
use Rattle.pair_match.proofs.loads.kept_right.Goals as goal

pub loop-v-preserved : goal.loop-v-preserved
loop-v-preserved c =
    let was = c.loop-v.invariant in
    let v = c.loop-v.v in
    let l = c.loop-v-test.true in
    record {
      below = omega (arith, l);
      listed = rw (c.in_ok-push.ensures.items, was.listed, c.either.ensures)
          (sym (map-range_with_len_more
          (λ u. cond (flags c.args.left.now u) 0 (at 0 c.args.excess.now u)) 0 v v (omega arith)));
    }
