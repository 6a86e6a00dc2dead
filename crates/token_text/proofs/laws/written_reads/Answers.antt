use Rattle.token_text.proofs.WrittenLaws.{written_reads}
use Rattle.token_text.proofs.laws.written_reads.Goals as goal

pub returns : goal.returns
returns c = written_reads
