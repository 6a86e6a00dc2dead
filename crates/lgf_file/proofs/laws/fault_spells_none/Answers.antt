use Rattle.lgf_file.proofs.FirstFaults.{fault_spells_none}
use Rattle.lgf_file.proofs.laws.fault_spells_none.Goals as goal

pub returns : goal.returns
returns c = fault_spells_none
