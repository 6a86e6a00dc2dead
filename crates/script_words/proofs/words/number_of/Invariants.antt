-- The number of the bytes so far.
use Rattle.std.proofs.Common.{◌≡◌, ℕ, ◌<◌, ◌^◌, List, drop}
use Rattle.script_words.specs.Slots.{number_of, number_from}
use Rattle.script_words.proofs.words.number_of.Given as goal

-- So many first bytes spell this number: the others make of it the number of the word, and it has
-- no more digits than these.
pub record Counted (word : List ℕ) (count number : ℕ) : Type 0 where
  pub sum : number_of word ≡ number_from number (drop count word)
  pub below : number < 10 ^ count

abbrev pub invariant-loop-byte : goal.invariant-loop-byte
invariant-loop-byte l = Counted l.word l.byte-index l.number
