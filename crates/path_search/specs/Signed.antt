-- Distances with a sign.
use Rattle.std.specs.Prelude.{◌≡◌, ℕ, ℤ, List, length, Option, map}
use Rattle.std.specs.List.{range_with_len}
use Rattle.plain_certificates.specs.Tables.{at}
use Rattle.path_search.specs.Answers.{via_in}
use Rattle.path_search.specs.Tree.{signed_in}

-- the lists of the answer
pub record TellsSigned (dist via : List ℕ) (start : ℕ) (dists : List (Option ℤ))
    (vias : List (Option ℕ)) : Type 0 where
  pub dists_are : dists
      ≡ map (λ node. signed_in (at 0 dist node)) (range_with_len 0 (length dist))
  pub vias_are : vias
      ≡ map (λ node. via_in (at 0 dist node) (at 0 via node) node start)
      (range_with_len 0 (length dist))
