use Rattle.std.proofs.Common.{◌∙◌, pos, neg_ℤ, cond, FitsSigned, get_or, w64, rules}
use Rattle.std.proofs.Common.{arith}
use Rattle.std.proofs.Math.ListN.{length-set}
use Rattle.std.proofs.lemmas.Int.{to_z-of_z}
use Rattle.plain_certificates.specs.Tables.{at}
use Rattle.task_bounds.proofs.Filled.{set_more}
use Rattle.flow_circulate.specs.Parts.{IsPart}
use Rattle.flow_circulate.proofs.loads.parts_of.Goals as goal

pub loop-v-preserved : goal.loop-v-preserved
loop-v-preserved c =
    let was = c.loop-v.invariant in
    let v = c.loop-v.v in
    let parts = c.loop-v.parts.items in
    let all = was.sized in
    let values = c.args.values.now in
    let turned = c.args.turned in
    let fits : FitsSigned w64 (get_or values v (pos 0)) = search rules in
    let is = to_z-of_z w64 (get_or values v (pos 0)) fits in
    record {
      sized = length-set parts v c.part.result ∙ was.sized;
      done = set_more 0
          (λ j x. IsPart (cond turned (neg_ℤ (at (pos 0) values j)) (at (pos 0) values j)) x)
          parts v c.part.result (omega (arith, all)) was.done
          (rw is at c.part.ensures);
    }
