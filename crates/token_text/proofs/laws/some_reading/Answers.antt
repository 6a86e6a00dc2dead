use Rattle.token_text.proofs.SomeReading.{some_reading}
use Rattle.token_text.proofs.laws.some_reading.Goals as goal

pub returns : goal.returns
returns c = some_reading
