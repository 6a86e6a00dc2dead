use Rattle.std.proofs.Common.{◌≡◌, ◌<◌, ◌∙◌, length, pos, ◌-ℤ◌, to_z, of_z, w64, arith}
use Rattle.std.proofs.Math.ListN.{length-set}
use Rattle.std.proofs.lemmas.Int.{ints}
use Rattle.plain_certificates.specs.Tables.{at}
use Rattle.task_bounds.proofs.Filled.{set_more}
use Rattle.task_bounds.proofs.potentials.potentials_of.Goals as goal

pub loop-v-preserved : goal.loop-v-preserved
loop-v-preserved c =
    let was = c.loop-v.invariant in
    let all = was.all in
    let v = c.loop-v.v in
    let sizes = c.requires.sizes in
    let turn = c.loop-v.far-v in
    let inside : v < length c.args.price.now = omega (arith, sizes, turn) in
    let some : 0 < length c.args.price.now = omega (arith, inside) in
    let pi = to_z w64 (of_z w64 c.above.result) in
    let is = c.above.ensures in
    let here = c.requires.small v inside in
    let first = c.requires.small 0 some in
    let here_low = here.0 in
    let here_high = here.1 in
    let first_low = first.0 in
    let first_high = first.1 in
    record {
      all = length-set c.loop-v.pi.items v pi ∙ was.all;
      each = set_more (pos 0)
          (λ j x. x ≡ at (pos 0) c.args.price.now j -ℤ at (pos 0) c.args.price.now 0)
          c.loop-v.pi.items v pi (omega (arith, all)) was.each
          (omega (arith, ints, is, here_low, here_high, first_low, first_high));
    }
