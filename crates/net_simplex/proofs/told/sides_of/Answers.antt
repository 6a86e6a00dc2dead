use Rattle.std.proofs.Common.{◌∙◌, pos, false, FitsSigned, get_or, w64, subst, rules, arith}
use Rattle.std.proofs.Math.ListN.{length-set}
use Rattle.std.proofs.lemmas.Int.{to_z-of_z}
use Rattle.plain_certificates.specs.Tables.{at}
use Rattle.net_simplex.specs.Told.{IsSide}
use Rattle.task_bounds.proofs.Filled.{set_more}
use Rattle.net_simplex.proofs.told.sides_of.Goals as goal

pub loop-v-preserved : goal.loop-v-preserved
loop-v-preserved c =
    let was = c.loop-v.invariant in
    let all = was.all in
    let v = c.loop-v.v in
    let fits : FitsSigned w64 (get_or c.args.price.now v (pos 0)) = search rules in
    record {
      all = length-set c.loop-v.set.items v c.is_side.result ∙ was.all;
      each = set_more false (λ j b. IsSide c.args.over (at (pos 0) c.args.price.now j) b)
          c.loop-v.set.items v c.is_side.result (omega (arith, all)) was.each
          (subst (λ p. IsSide c.args.over p c.is_side.result)
          (to_z-of_z w64 (get_or c.args.price.now v (pos 0)) fits) c.is_side.ensures);
    }
