use Rattle.kept_walks.proofs.Staying.{placing_marks}
use Rattle.kept_walks.proofs.laws.placing_marks.Goals as goal

pub returns : goal.returns
returns c = placing_marks
