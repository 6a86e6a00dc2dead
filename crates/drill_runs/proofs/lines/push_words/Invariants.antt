use Rattle.std.proofs.Common.{◌≡◌, ◌<◌, ◌++◌, length}
use Rattle.plain_machine.specs.Drill.{words_text, after_words}
use Rattle.drill_runs.proofs.lines.push_words.Given as goal

-- what is left of the words goes on from here as all of them did from the start
abbrev pub invariant-words : goal.invariant-words
invariant-words l = record {
  below : l.draws.state < 2147483647;
  text : l.out.items ++ words_text l.rest l.number l.draws.state
      ≡ l.initial.out.items ++ words_text l.words l.number l.initial.draws.state;
  drawn : after_words l.rest l.draws.state ≡ after_words l.words l.initial.draws.state;
}

abbrev pub decreases-words : goal.decreases-words
decreases-words l = length l.rest
