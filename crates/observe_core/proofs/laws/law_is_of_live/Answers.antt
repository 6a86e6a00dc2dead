use Rattle.observe_core.proofs.LawLemmas.{lawful-live, live-lawful}
use Rattle.observe_core.proofs.laws.law_is_of_live.Goals as goal

pub returns : goal.returns
returns c = λ s live fits. (lawful-live s live fits, live-lawful s live fits)
