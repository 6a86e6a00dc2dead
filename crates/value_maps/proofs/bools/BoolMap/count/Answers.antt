use Rattle.std.proofs.Common.{◌≤◌, ◌∙◌, length, ap, arith}
use Rattle.lane_kernels.specs.Counts.{truths}
use Rattle.lane_kernels.proofs.CountLemmas.{truths-few}
use Rattle.value_maps.proofs.BlankValues.{count_live}
use Rattle.value_maps.proofs.bools.BoolMap.count.Goals as goal

pub overflow_cast-result : goal.overflow_cast-result
overflow_cast-result c =
    let few = truths-few c.values.result.now in
    let small = c.args.self.now.small in
    omega (arith, few, small, c.count_true.ensures, c.values.ensures.extent)

pub returns : goal.returns
returns c =
    let column = c.args.self.now.column in
    let m : length column.live.items ≤ length column.values.items = omega (arith, column.covered) in
    c.count_true.ensures ∙ ap truths c.values.ensures.seen
    ∙ count_live 0 column.live.items column.values.items m c.args.self.now.blank
