use Rattle.observe_core.proofs.SoundLemmas.{told-own, lost-own}
use Rattle.observe_core.proofs.laws.numbers_stay_own.Goals as goal

pub returns : goal.returns
returns c = λ s h. ((λ change. told-own s change h), λ loss. lost-own s loss h)
