use Rattle.std.proofs.Common.{◌-◌, length}
use Rattle.token_text.proofs.TokensSoFar.{Reading}
use Rattle.token_text.proofs.line_tokens.read_tokens.Given as goal

abbrev pub invariant-tokens : goal.invariant-tokens
invariant-tokens l = Reading l.line l.at l.tokens.items

abbrev pub decreases-tokens : goal.decreases-tokens
decreases-tokens l = length l.line - l.at
