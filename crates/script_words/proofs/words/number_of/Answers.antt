-- The number of seven digits fits.
use Rattle.std.proofs.Common.{◌<◌, arith}
use Rattle.script_words.proofs.Powers.{seven_digits}
use Rattle.script_words.proofs.words.number_of.Goals as goal

pub overflow_mul-number : goal.overflow_mul-number
overflow_mul-number c =
    let below : c.loop-byte.number < 1000000 =
    seven_digits c.loop-byte.byte-index _ (omega arith) c.loop-byte.invariant.below in
    omega arith

pub overflow_add-number : goal.overflow_add-number
overflow_add-number c =
    let below : c.loop-byte.number < 1000000 =
    seven_digits c.loop-byte.byte-index _ (omega arith) c.loop-byte.invariant.below in
    omega arith
