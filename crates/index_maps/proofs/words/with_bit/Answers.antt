use Rattle.std.proofs.Common.{◌==◌, ap, w64, ◌∙◌, sym}
use Rattle.std.proofs.lemmas.Nat.Bits.{bit_at_set_same, bit_at_set_other, bit_at_clear_same}
use Rattle.std.proofs.lemmas.Nat.Bits.{bit_at_clear_other}
use Rattle.index_maps.proofs.words.with_bit.Goals as goal

pub returns-then-value-clause-same : goal.returns-then-value-clause-same
returns-then-value-clause-same c =
    ap (λ b. b == 1) (bit_at_set_same w64 c.args.word c.args.place c.requires) ∙ sym c.if-value.true

pub returns-then-value-clause-others : goal.returns-then-value-clause-others
returns-then-value-clause-others c i l d =
    bit_at_set_other w64 c.args.word c.args.place c.requires i d

pub returns-clause-same : goal.returns-clause-same
returns-clause-same c =
    ap (λ b. b == 1) (bit_at_clear_same w64 c.args.word c.args.place c.requires)
    ∙ sym c.if-value.false

pub returns-clause-others : goal.returns-clause-others
returns-clause-others c i l d = bit_at_clear_other w64 c.args.word c.args.place c.requires i l d
