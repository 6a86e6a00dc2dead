-- The places become fewer.
use Rattle.std.proofs.Common.{length}
use Rattle.script_words.proofs.words.+reach.Given as goal

abbrev pub decreases-reach : goal.decreases-reach
decreases-reach l = length l.places.now
