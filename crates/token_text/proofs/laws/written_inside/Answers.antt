use Rattle.token_text.proofs.WrittenLaws.{written_inside}
use Rattle.token_text.proofs.laws.written_inside.Goals as goal

pub returns : goal.returns
returns c = written_inside
