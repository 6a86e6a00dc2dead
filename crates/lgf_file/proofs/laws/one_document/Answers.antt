use Rattle.lgf_file.proofs.SectionsRead.{one_document}
use Rattle.lgf_file.proofs.laws.one_document.Goals as goal

pub returns : goal.returns
returns c = one_document
