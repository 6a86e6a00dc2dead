use Rattle.std.proofs.Common.{◌≡◌, ◌+◌, ◌<◌, ◌∙◌, length, pos, FitsSigned, get_or, to_z, of_z}
use Rattle.std.proofs.Common.{w64, rules}
use Rattle.std.proofs.Common.{arith}
use Rattle.std.proofs.Math.ListN.{length-set}
use Rattle.std.proofs.lemmas.Int.{to_z-of_z}
use Rattle.std.proofs.lemmas.Bool.Decides.{nat_tests}
use Rattle.plain_certificates.specs.Tables.{at}
use Rattle.task_bounds.proofs.Filled.{set_more}
use Rattle.task_bounds.proofs.Filled.{set_other}
use Rattle.net_simplex.proofs.weights.weights_of.Goals as goal

pub loop-k-preserved : goal.loop-k-preserved
loop-k-preserved c =
    let was = c.loop-k.invariant in
    let all = was.all in
    let k = c.loop-k.k in
    let weights = c.loop-k.weights.items in
    let cost = to_z w64 (of_z w64 (get_or c.args.cost.now k (pos 0))) in
    let fits : FitsSigned w64 (get_or c.args.cost.now k (pos 0)) = search rules in
    record {
      all = length-set weights k cost ∙ was.all;
      done = set_more (pos 0) (λ j x. x ≡ at (pos 0) c.args.cost.now j) weights k cost
          (omega (arith, all)) was.done (to_z-of_z w64 (get_or c.args.cost.now k (pos 0)) fits);
      rim = λ v l.
          (let inside : k < length c.args.cost.now = omega arith in
          set_other (pos 0) weights k (length c.args.cost.now + v) cost (omega (arith, all))
          (grind (arith, nat_tests, inside)) ∙ was.rim v l);
    }
