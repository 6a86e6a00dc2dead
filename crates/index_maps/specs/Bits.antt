-- Words of 64 bits as sets of places, and the first place of a set.
use Rattle.std.specs.Prelude.{◌≡◌, ℕ, ◌+◌, ◌*◌, ◌/◌, ◌%◌, ◌<◌, ◌≤◌, ◌==◌, Bool, true, false, not}
use Rattle.std.specs.Prelude.{List, slice_index_or, Option, Some, None}
use Rattle.std.specs.Int.{bit_at}

-- the word at a place; past the end it is 0
abbrev pub word_at : List ℕ → ℕ → ℕ
word_at words w = slice_index_or words w 0

-- whether a place is in the set: bit k % 64 of word k / 64
abbrev pub bit_in : List ℕ → ℕ → Bool
bit_in words k = bit_at (word_at words (k / 64)) (k % 64) == 1

-- whether a word has a bit
abbrev pub has_bits : List ℕ → ℕ → Bool
has_bits words w = not (word_at words w == 0)

-- no place from low on and below high is in the set
abbrev pub NoneWithin : (ℕ → Bool) → ℕ → ℕ → Type 0
NoneWithin is_in low high = (k : ℕ) → low ≤ k → k < high → is_in k ≡ false

-- the first place of the set from low on
pub record IsFirst (is_in : ℕ → Bool) (low k : ℕ) : Type 0 where
  pub above : low ≤ k
  pub found : is_in k ≡ true
  pub first : NoneWithin is_in low k

-- the same for an answer, which is none exactly where there is no such place
abbrev pub IsFirstFound : (ℕ → Bool) → ℕ → Option ℕ → Type 0
IsFirstFound is_in low None = (k : ℕ) → low ≤ k → is_in k ≡ false
IsFirstFound is_in low (Some k) = IsFirst is_in low k

-- where the word of a place ends
abbrev pub word_end : ℕ → ℕ
word_end k = (k / 64 + 1) * 64

-- the upper set has the words that have a bit
abbrev pub Sums : List ℕ → List ℕ → Type 0
Sums upper words = (w : ℕ) → bit_in upper w ≡ has_bits words w
