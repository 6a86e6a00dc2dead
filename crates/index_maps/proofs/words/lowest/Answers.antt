use Rattle.std.proofs.Common.{◌≡◌, ℕ, ◌+◌, ◌*◌, ◌<◌, ap}
use Rattle.std.proofs.Common.{arith}
use Rattle.std.proofs.lemmas.Grind.{common_steps}
use Rattle.std.proofs.lemmas.Nat.{trailing_le}
use Rattle.std.specs.Int.{bit_at}
use Rattle.index_maps.specs.Bits.{word_at}
use Rattle.index_maps.proofs.BitLemmas.{first_rest, inside}
use Rattle.index_maps.proofs.words.lowest.Goals as goal

pub overflow_add-result : goal.overflow_add-result
overflow_add-result c =
    let l = inside c.args.words.now c.args.at c.requires.has in
    let t = trailing_le 64 (word_at c.args.words.now c.args.at) in
    omega (arith, l, t, c.requires.small)

pub returns : goal.returns
returns c =
    let ws = c.args.words.now in
    let w = c.args.at in
    let n = word_at ws w in
    let up : 0 < n = let h = c.requires.has in grind (arith, common_steps, h) in
    let same = λ (i : ℕ). let z : i ≡ 0 + i = omega arith in ap (bit_at n) z in
    first_rest ws w 0 n (w * 64) (omega arith) (omega arith) same (c.type_inv.words w).fits
    (omega arith) up
