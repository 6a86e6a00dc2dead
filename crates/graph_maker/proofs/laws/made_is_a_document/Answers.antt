use Rattle.graph_maker.proofs.Valid.{made_valid}
use Rattle.graph_maker.proofs.laws.made_is_a_document.Goals as goal

pub returns : goal.returns
returns g = made_valid
