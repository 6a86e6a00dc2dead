-- What a hasher is fed of a text.
use Rattle.std.specs.Prelude.{ℕ, List, [], ◌∷◌}

-- The bytes in groups of four, and last the fewer than four that are left.
abbrev pub quads : List ℕ → List (List ℕ)
quads (first ∷ second ∷ third ∷ fourth ∷ rest) =
    (first ∷ second ∷ third ∷ fourth ∷ []) ∷ quads rest
quads rest = rest ∷ []
