use Rattle.std.proofs.Common.{◌≡◌, ◌<◌, ◌∙◌, length, pos, ◌+ℤ◌, to_z, of_z, w64, arith}
use Rattle.std.proofs.Math.ListN.{length-set}
use Rattle.std.proofs.lemmas.Int.{ints}
use Rattle.plain_certificates.specs.Tables.{at}
use Rattle.task_bounds.proofs.Filled.{set_more}
use Rattle.task_bounds.proofs.flows.flows_of.Goals as goal

pub loop-k-preserved : goal.loop-k-preserved
loop-k-preserved c =
    let was = c.loop-k.invariant in
    let all = was.all in
    let k = c.loop-k.k in
    let inside : k < length c.args.lower.now = omega arith in
    let flow = to_z w64 (of_z w64 c.raised.result) in
    let is = c.raised.ensures in
    let lower = c.requires.lower k inside in
    let low = lower.0 in
    let high = lower.1 in
    let sent = c.requires.sent k inside in
    record {
      all = length-set c.loop-k.flows.items k flow ∙ was.all;
      each = set_more (pos 0)
          (λ j x. x ≡ at (pos 0) c.args.lower.now j +ℤ pos (at 0 c.args.sent.now j))
          c.loop-k.flows.items k flow (omega (arith, all)) was.each
          (omega (arith, ints, is, low, high, sent));
    }
