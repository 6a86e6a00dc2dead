use Rattle.token_text.proofs.Determined.{one_reading}
use Rattle.token_text.proofs.laws.one_reading.Goals as goal

pub returns : goal.returns
returns c = one_reading
