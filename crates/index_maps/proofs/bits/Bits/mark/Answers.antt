use Rattle.std.proofs.Common.{◌∙◌, ◌/◌, ap}
use Rattle.index_maps.specs.Bits.{has_bits}
use Rattle.index_maps.proofs.LevelLemmas.{sums_marked}
use Rattle.index_maps.proofs.bits.Bits.mark.Goals as goal

pub invariant_of-self-clause-summed : goal.invariant_of-self-clause-summed
invariant_of-self-clause-summed c =
    let self = c.args.self.now in
    let w = c.args.at / 64 in
    sums_marked self.words.items c.mark-2.new.words.items self.items.items c.mark.new.words.items w
    self.summed
    (c.mark-2.ensures.same ∙ c.has_bits-has.ensures
    ∙ ap (λ xs. has_bits xs w) c.as_slice.ensures.value)
    c.mark-2.ensures.others c.mark.ensures.words

pub invariant_of-self-clause-topped : goal.invariant_of-self-clause-topped
invariant_of-self-clause-topped c =
    let self = c.args.self.now in
    let w = c.args.at / 64 / 64 in
    sums_marked self.tops.items c.mark-3.new.words.items self.words.items c.mark-2.new.words.items w
    self.topped
    (c.mark-3.ensures.same ∙ c.has_bits-has-2.ensures
    ∙ ap (λ xs. has_bits xs w) c.as_slice-2.ensures.value)
    c.mark-3.ensures.others c.mark-2.ensures.words
