use Rattle.std.proofs.Common.{◌≡◌, ◌∙◌, length, pos, FitsSigned, get_or, to_z, of_z, w64, sym}
use Rattle.std.proofs.Common.{subst, rules}
use Rattle.std.proofs.Common.{arith}
use Rattle.std.proofs.Math.ListN.{length-set}
use Rattle.std.proofs.lemmas.Int.{ints, to_z-of_z}
use Rattle.std.proofs.lemmas.Bool.Decides.{nat_tests}
use Rattle.plain_certificates.specs.Tables.{at}
use Rattle.net_simplex.specs.Start.{IsFirstPrice}
use Rattle.task_bounds.proofs.Filled.{set_more}
use Rattle.task_bounds.proofs.Filled.{set_other}
use Rattle.net_simplex.proofs.start.prices_of.Goals as goal

pub loop-v-preserved : goal.loop-v-preserved
loop-v-preserved c =
    let was = c.loop-v.invariant in
    let all = was.all in
    let v = c.loop-v.v in
    let n = length c.args.excess.now in
    let prices = c.loop-v.prices.items in
    let price = to_z w64 (of_z w64 c.price_of.result) in
    let low = c.price_of.ensures.small.0 in
    let high = c.price_of.ensures.small.1 in
    let is : price ≡ c.price_of.result = omega (arith, ints, low, high) in
    let fits : FitsSigned w64 (get_or c.args.excess.now v (pos 0)) = search rules in
    let given = rw (to_z-of_z w64 (get_or c.args.excess.now v (pos 0)) fits) at
    c.price_of.ensures.is in
    record {
      all = length-set prices v price ∙ was.all;
      each = set_more (pos 0) (λ j x. IsFirstPrice (at (pos 0) c.args.excess.now j) x) prices v
          price
          (omega (arith, all)) was.each
          (subst (λ x. IsFirstPrice (at (pos 0) c.args.excess.now v) x) (sym is) given);
      top = set_other (pos 0) prices v n price (omega (arith, all)) (grind (arith, nat_tests))
          ∙ was.top;
    }
