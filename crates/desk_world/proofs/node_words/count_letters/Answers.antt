use Rattle.std.proofs.Common.{take, length-take-le, arith}
use Rattle.desk_world.proofs.NodesRaised.{letters_few}
use Rattle.desk_world.proofs.node_words.count_letters.Goals as goal

pub overflow_add-count : goal.overflow_add-count
overflow_add-count c =
    let layers = c.args.layers.now in
    let at = c.loop-layer.layer-index in
    let counted = c.loop-layer.invariant in
    let some = letters_few (take at layers) in
    let part = length-take-le at layers in
    let few = c.requires in
    omega (arith, counted, some, part, few)
