use Rattle.std.proofs.Common.{◌+◌, ◌/◌, sym, subst}
use Rattle.index_maps.specs.Bits.{bit_in, has_bits, IsFirst}
use Rattle.index_maps.proofs.LevelLemmas.{later_first}
use Rattle.index_maps.proofs.bits.Bits.first.Goals as goal

pub returns-in-Some-first_word : goal.returns-in-Some-first_word
returns-in-Some-first_word c =
    let e = c.as_slice-items.ensures.value in
    let word = subst (λ xs. IsFirst (has_bits xs) (c.args.from / 64 + 1) c.in-Some-first_word.word)
    (sym e)
    c.in-Some-first_word.ensures in
    subst (λ xs. IsFirst (bit_in xs) c.args.from c.lowest.result) e
    (later_first c.as_slice-items.result.now c.args.from c.in-None.ensures c.in-Some-first_word.word
    c.lowest.result word c.lowest.ensures)
