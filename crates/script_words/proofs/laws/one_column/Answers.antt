use Rattle.script_words.proofs.Verdicts.{one_column}
use Rattle.script_words.proofs.laws.one_column.Goals as goal

pub returns : goal.returns
returns c = one_column
