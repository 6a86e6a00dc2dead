use Rattle.plain_certificates.proofs.Rounds.{free_cycles_have_no_end}
use Rattle.plain_certificates.proofs.laws.free_cycle_has_no_end.Goals as goal

pub returns : goal.returns
returns c = free_cycles_have_no_end
