use Rattle.plain_world.proofs.Documented.{document_ok}
use Rattle.plain_world.proofs.laws.documents_are_valid.Goals as goal

pub returns : goal.returns
returns c = document_ok
