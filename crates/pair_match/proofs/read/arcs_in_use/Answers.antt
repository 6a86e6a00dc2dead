use Rattle.std.proofs.Common.{not, eqb, ◌∙◌, ap, arith}
use Rattle.plain_certificates.proofs.Tables.{apart_eqb}
use Rattle.plain_certificates.specs.Tables.{at}
use Rattle.pair_match.proofs.Paired.{picked_off, picked_on}
use Rattle.pair_match.proofs.read.arcs_in_use.Goals as goal

pub loop-k-preserved-then-flow-k-ne0 : goal.loop-k-preserved-then-flow-k-ne0
loop-k-preserved-then-flow-k-ne0 c =
    let k = c.loop-k.k in
    let flow = c.args.flow.now in
    let l = c.loop-k-test.true in
    record {
      below = omega (arith, l);
      listed = c.in_ok-push.ensures.items
          ∙ picked_on (λ j. not (eqb (at 0 flow j) 0)) k c.loop-k.arcs.items
          c.loop-k.invariant.listed (ap not (apart_eqb (at 0 flow k) 0 c.if-flow-k-ne0.true));
    }

pub loop-k-preserved : goal.loop-k-preserved
loop-k-preserved c =
    let k = c.loop-k.k in
    let flow = c.args.flow.now in
    let l = c.loop-k-test.true in
    record {
      below = omega (arith, l);
      listed = picked_off (λ j. not (eqb (at 0 flow j) 0)) k c.loop-k.arcs.items
          c.loop-k.invariant.listed (ap (λ x. not (eqb x 0)) c.if-flow-k-ne0.false);
    }
