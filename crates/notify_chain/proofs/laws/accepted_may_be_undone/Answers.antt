use Rattle.notify_chain.proofs.SeatLemmas.{undo_ready}
use Rattle.notify_chain.proofs.laws.accepted_may_be_undone.Goals as goal

pub returns : goal.returns
returns c = λ change old new a. undo_ready change old new a.could a.steady a.told
