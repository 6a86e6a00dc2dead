-- Lengths without a sign.
use Rattle.std.specs.Prelude.{◌≡◌, ℕ, ℤ, pos, List, map}

-- the first list has the numbers of the second
abbrev pub AreLengths : List ℤ → List ℕ → Type 0
AreLengths len lens = map pos lens ≡ len
