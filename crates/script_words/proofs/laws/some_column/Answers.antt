use Rattle.script_words.proofs.SomeColumn.{some_column}
use Rattle.script_words.proofs.laws.some_column.Goals as goal

pub returns : goal.returns
returns c = some_column
