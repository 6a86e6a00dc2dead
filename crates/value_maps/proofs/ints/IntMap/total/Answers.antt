use Rattle.std.proofs.Common.{◌≤◌, ◌∙◌, length, ap, FitsSigned, rules}
use Rattle.std.proofs.Common.{arith}
use Rattle.std.specs.Int.{w128}
use Rattle.std.proofs.lemmas.Int.{to_z-of_z}
use Rattle.lane_kernels.specs.Sums.{total_of}
use Rattle.value_maps.proofs.BlankValues.{total_live}
use Rattle.value_maps.proofs.ints.IntMap.total.Goals as goal

pub returns : goal.returns
returns c =
    let column = c.args.self.now.column in
    let m : length column.live.items ≤ length column.values.items = omega (arith, column.covered) in
    let f : FitsSigned w128 c.sum_i64.result = search rules in
    to_z-of_z w128 c.sum_i64.result f ∙ c.sum_i64.ensures ∙ ap total_of c.values.ensures.seen
    ∙ total_live 0 column.live.items column.values.items m c.args.self.now.blank
