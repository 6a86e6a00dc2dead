use Rattle.std.proofs.lemmas.Fmt.{IsAscii-from_digits}
use Rattle.std.proofs.lemmas.Str.{IsUtf8-from_ascii}
use Rattle.graph_maker.proofs.words.read_bounded.Goals as goal

pub returns-in_default-from_utf8-clause-none : goal.returns-in_default-from_utf8-clause-none
returns-in_default-from_utf8-clause-none c = λ number says.
    let digits = c.args.digits.now in
    absurd (c.in_default-from_utf8.ensures.cases.0
    (IsUtf8-from_ascii digits (IsAscii-from_digits digits says.0.0.1)))
