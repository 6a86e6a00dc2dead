use Rattle.std.proofs.Common.{◌∙◌, sym, subst}
use Rattle.index_maps.specs.Bits.{bit_in, has_bits, Sums}
use Rattle.index_maps.proofs.LevelLemmas.{first_same, later_first, later_none}
use Rattle.index_maps.proofs.bits.Bits.first_top.Goals as goal

pub returns-in-Some : goal.returns-in-Some
returns-in-Some c =
    let self = c.args.self.now in
    let ws = c.as_slice-tops.result.now in
    let sums = subst (λ xs. Sums xs self.words.items) (sym c.as_slice-tops.ensures.value)
    self.topped in
    first_same (bit_in ws) (has_bits self.words.items) sums c.args.from c.in-Some.at
    c.in-Some.ensures

pub returns-in-Some-scan : goal.returns-in-Some-scan
returns-in-Some-scan c =
    let self = c.args.self.now in
    let ws = c.as_slice-tops.result.now in
    let sums = subst (λ xs. Sums xs self.words.items) (sym c.as_slice-tops.ensures.value)
    self.topped in
    first_same (bit_in ws) (has_bits self.words.items) sums c.args.from c.lowest.result
    (later_first ws c.args.from c.in-None.ensures c.in-Some-scan.word c.lowest.result
    c.in-Some-scan.ensures c.lowest.ensures)

pub returns-in-None-scan : goal.returns-in-None-scan
returns-in-None-scan c = λ k l.
    let self = c.args.self.now in
    let ws = c.as_slice-tops.result.now in
    let sums = subst (λ xs. Sums xs self.words.items) (sym c.as_slice-tops.ensures.value)
    self.topped in
    sym (sums k) ∙ later_none ws c.args.from c.in-None.ensures c.in-None-scan.ensures k l
