use Rattle.token_text.proofs.Digits.{int_text}
use Rattle.token_text.proofs.numbers.read_int.Goals as goal

pub returns-in-Err-clause-none : goal.returns-in-Err-clause-none
returns-in-Err-clause-none c = λ value spelled.
    absurd (c.in-Err.ensures.cases.0 (int_text c.args.bytes.now value spelled))
