-- What a hasher is fed, group by group.
use Rattle.std.proofs.Common.{◌≡◌, ℕ, ◌≤◌, ◌<◌, List, [], ◌∷◌, length, take, drop, refl, arith}
use Rattle.token_text.specs.Hashed.{quads}

-- Where four bytes are left, they are the next group.
pub next_quad : (rest : List ℕ) → 4 ≤ length rest → quads rest ≡ take 4 rest ∷ quads (drop 4 rest)
next_quad [] some = absurd (omega arith)
next_quad (first ∷ []) some = absurd (omega arith)
next_quad (first ∷ second ∷ []) some = absurd (omega arith)
next_quad (first ∷ second ∷ third ∷ []) some = absurd (omega arith)
next_quad (first ∷ second ∷ third ∷ fourth ∷ rest) some = refl

-- Fewer than four bytes are the last group.
pub last_quad : (rest : List ℕ) → length rest < 4 → quads rest ≡ rest ∷ []
last_quad [] few = refl
last_quad (first ∷ []) few = refl
last_quad (first ∷ second ∷ []) few = refl
last_quad (first ∷ second ∷ third ∷ []) few = refl
last_quad (first ∷ second ∷ third ∷ fourth ∷ rest) few = absurd (omega arith)
