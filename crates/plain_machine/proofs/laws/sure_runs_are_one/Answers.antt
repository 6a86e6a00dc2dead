use Rattle.plain_machine.proofs.Sure.{sure_runs}
use Rattle.plain_machine.proofs.laws.sure_runs_are_one.Goals as goal

pub returns : goal.returns
returns c = sure_runs
