use Rattle.notify_chain.proofs.SeatLemmas.{undo_back}
use Rattle.notify_chain.proofs.laws.undone_is_as_before.Goals as goal

pub returns : goal.returns
returns c = λ change old mid new a u. undo_back change old mid new a.could a.steady a.told u
