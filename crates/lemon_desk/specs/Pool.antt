-- The boxes that are handed to the program.
use Rattle.std.specs.Prelude.{◌≡◌, ℕ, ◌%◌, false, List, [], ◌∷◌, map, get_or}
use Rattle.std.specs.List.{range_with_len}
use Rattle.script_words.specs.declared.commands.GuardWord.{GuardWord}
use Rattle.script_words.specs.declared.commands.GuardWord.TheVariants as words
use Rattle.observe_core.specs.Held.{making_of, OfGuard}
use Rattle.observe_core.specs.Seen.{Seen}
use Rattle.observe_core.specs.Untold.{TracksNothing}
use Rattle.desk_world.specs.Claims.{is_map}

-- A guard that tracks nothing.
pub record IsUntoldGuard (s : Seen) : Type 0 where
  pub guard : is_map s.kind ≡ false
  pub making : making_of s.held ≡ OfGuard
  pub empty : TracksNothing s

-- The six kinds.
abbrev pub kinds : List GuardWord
kinds =
    words.Quota ∷ words.Loopless ∷ words.Simple ∷ words.OutCap ∷ words.Fuse ∷ words.Tally ∷ []

-- The kind of the box at a place: each of the six in turn.
abbrev pub kind_at : ℕ → GuardWord
kind_at place = get_or kinds (place % 6) words.Tally

-- Sixteen boxes of each kind.
abbrev pub all_boxes : List GuardWord
all_boxes = map kind_at (range_with_len 0 96)
