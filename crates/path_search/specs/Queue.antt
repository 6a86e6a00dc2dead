-- The entries of a queue of nodes by their keys.
use Rattle.std.specs.Prelude.{ℕ, List, map}
use Rattle.std.specs.declared.cmp.Reverse.{Reverse}

-- the pairs in a list of turned pairs
abbrev pub entries_of : List (Reverse (ℕ × ℕ)) → List (ℕ × ℕ)
entries_of xs = map (λ x. x.0) xs
