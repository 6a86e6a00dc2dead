use Rattle.token_text.proofs.WrittenLaws.{written_stands}
use Rattle.token_text.proofs.laws.written_stands.Goals as goal

pub returns : goal.returns
returns c = written_stands
