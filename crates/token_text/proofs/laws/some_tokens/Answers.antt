use Rattle.token_text.proofs.SomeReading.{some_tokens}
use Rattle.token_text.proofs.laws.some_tokens.Goals as goal

pub returns : goal.returns
returns c = some_tokens
