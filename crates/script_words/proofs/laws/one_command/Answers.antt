use Rattle.script_words.proofs.Verdicts.{one_command}
use Rattle.script_words.proofs.laws.one_command.Goals as goal

pub returns : goal.returns
returns c = one_command
