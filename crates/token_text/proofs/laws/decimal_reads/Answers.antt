use Rattle.token_text.proofs.Digits.{decimal_reads}
use Rattle.token_text.proofs.laws.decimal_reads.Goals as goal

pub returns : goal.returns
returns c = decimal_reads
