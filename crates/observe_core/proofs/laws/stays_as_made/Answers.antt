use Rattle.observe_core.proofs.MadeLemmas.{told-made, untold-made, lost-made}
use Rattle.observe_core.proofs.laws.stays_as_made.Goals as goal

pub returns : goal.returns
returns c = λ s. ((λ change. (told-made s change, untold-made s change)), λ loss. lost-made s loss)
