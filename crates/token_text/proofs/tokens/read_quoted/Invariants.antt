use Rattle.std.proofs.Common.{length}
use Rattle.token_text.specs.Grammar.{QuotedBytes}
use Rattle.token_text.proofs.tokens.read_quoted.Given as goal

abbrev pub invariant-loop-byte : goal.invariant-loop-byte
invariant-loop-byte l = QuotedBytes l.fn.text l.bytes.items l.rest

abbrev pub decreases-loop-byte : goal.decreases-loop-byte
decreases-loop-byte l = length l.rest
