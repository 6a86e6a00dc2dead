use Rattle.std.proofs.Common.{Some, pos, ◌∙◌, FitsSigned, get_or, w64, rules, arith}
use Rattle.std.proofs.Math.ListN.{length-set}
use Rattle.std.proofs.lemmas.Int.{to_z-of_z}
use Rattle.std.proofs.lemmas.Bool.Decides.{nat_tests}
use Rattle.plain_certificates.specs.Tables.{at}
use Rattle.task_bounds.specs.Given.{IsSpan}
use Rattle.task_bounds.proofs.Filled.{set_more, set_other}
use Rattle.task_bounds.proofs.given.spans_of.Goals as goal

pub loop-k-preserved : goal.loop-k-preserved
loop-k-preserved c =
    let was = c.loop-k.invariant in
    let k = c.loop-k.k in
    let caps = c.loop-k.caps.items in
    let all = was.sized in
    let few = c.requires.sizes.1 in
    let lower_fits : FitsSigned w64 (get_or c.args.lower.now k (pos 0)) = search rules in
    let upper_fits : FitsSigned w64 (get_or c.args.upper.now k (pos 0)) = search rules in
    let lower_is = to_z-of_z w64 (get_or c.args.lower.now k (pos 0)) lower_fits in
    let upper_is = to_z-of_z w64 (get_or c.args.upper.now k (pos 0)) upper_fits in
    record {
      sized = length-set caps k c.span.result ∙ was.sized;
      done = set_more 0 (λ j cap. IsSpan (at (pos 0) c.args.lower.now j)
          (Some (at (pos 0) c.args.upper.now j)) cap) caps k c.span.result
          (omega (arith, all, few)) was.done (rw (lower_is, upper_is) at c.span.ensures);
      rest = λ j l q. set_other 0 caps k j c.span.result (omega (arith, all, few))
          (grind (arith, nat_tests, l)) ∙ was.rest j l q;
    }
