use Rattle.lgf_file.proofs.SomeAnswer.{some_answer}
use Rattle.lgf_file.proofs.laws.some_answer.Goals as goal

pub returns : goal.returns
returns c = some_answer
