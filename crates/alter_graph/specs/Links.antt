-- How many arcs a split adds.
use Rattle.std.specs.Prelude.{ℕ, Bool, true, false}

abbrev pub links : Bool → ℕ
links false = 0
links true = 1
