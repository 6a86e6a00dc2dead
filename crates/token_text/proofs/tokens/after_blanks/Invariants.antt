use Rattle.std.proofs.Common.{◌≡◌, length}
use Rattle.token_text.specs.Grammar.{after_blanks}
use Rattle.token_text.proofs.tokens.after_blanks.Given as goal

abbrev pub invariant-loop-byte : goal.invariant-loop-byte
invariant-loop-byte l = after_blanks l.fn.text ≡ after_blanks l.rest

abbrev pub decreases-loop-byte : goal.decreases-loop-byte
decreases-loop-byte l = length l.rest
