use Rattle.kept_walks.proofs.Staying.{marks_stay}
use Rattle.kept_walks.proofs.laws.marks_stay.Goals as goal

pub returns : goal.returns
returns c = marks_stay
