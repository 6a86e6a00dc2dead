use Rattle.std.proofs.Common.{◌+◌, ◌/◌, None, ◌∙◌, sym, subst}
use Rattle.index_maps.specs.Bits.{bit_in, has_bits, Sums, IsFirst, IsFirstFound}
use Rattle.index_maps.proofs.LevelLemmas.{first_same, later_first, later_none}
use Rattle.index_maps.proofs.bits.Bits.first_word.Goals as goal

pub returns-in-Some : goal.returns-in-Some
returns-in-Some c =
    let self = c.args.self.now in
    let ws = c.as_slice-words.result.now in
    let sums = subst (λ xs. Sums xs self.items.items) (sym c.as_slice-words.ensures.value)
    self.summed in
    first_same (bit_in ws) (has_bits self.items.items) sums c.args.from c.in-Some.at
    c.in-Some.ensures

pub returns-in-Some-first_top : goal.returns-in-Some-first_top
returns-in-Some-first_top c =
    let self = c.args.self.now in
    let ws = c.as_slice-words.result.now in
    let sums = subst (λ xs. Sums xs self.items.items) (sym c.as_slice-words.ensures.value)
    self.summed in
    first_same (bit_in ws) (has_bits self.items.items) sums c.args.from c.lowest.result
    (later_first ws c.args.from c.in-None.ensures c.in-Some-first_top.word c.lowest.result
    (subst (λ xs. IsFirst (has_bits xs) (c.args.from / 64 + 1) c.in-Some-first_top.word)
    (sym c.as_slice-words.ensures.value)
    c.in-Some-first_top.ensures) c.lowest.ensures)

pub returns-in-None-first_top : goal.returns-in-None-first_top
returns-in-None-first_top c = λ k l.
    let self = c.args.self.now in
    let ws = c.as_slice-words.result.now in
    let sums = subst (λ xs. Sums xs self.items.items) (sym c.as_slice-words.ensures.value)
    self.summed in
    sym (sums k)
    ∙ later_none ws c.args.from c.in-None.ensures
    (subst (λ xs. IsFirstFound (has_bits xs) (c.args.from / 64 + 1) None)
    (sym c.as_slice-words.ensures.value)
    c.in-None-first_top.ensures) k l
