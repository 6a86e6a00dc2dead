use Rattle.std.proofs.Common.{◌-◌, length}
use Rattle.lgf_file.proofs.LineTokens.{WordsSoFar}
use Rattle.lgf_file.proofs.words.read_words.Given as goal

abbrev pub invariant-tokens : goal.invariant-tokens
invariant-tokens l = WordsSoFar l.line l.at l.cells.items

abbrev pub decreases-tokens : goal.decreases-tokens
decreases-tokens l = length l.line - l.at
