-- What an answer shows.
use Rattle.std.specs.Prelude.{◌≡◌, ℕ, Bool, false, List, length, filter}
use Rattle.std.specs.List.{range_with_len}
use Rattle.plain_certificates.specs.Numbered.{Numbered}
use Rattle.plain_certificates.specs.Pairings.{IsPairing}
use Rattle.plain_certificates.specs.Tables.{at}

-- the arcs chosen by rising number, and whether each node is in the set that shows that they are as
-- many as can be
pub record IsAnswer (g : Numbered) (left : ℕ → Bool) (arcs : List ℕ) (hall : List Bool)
    : Type 0 where
  pub chosen : ℕ → Bool
  pub arcs_are : arcs ≡ filter chosen (range_with_len 0 g.arcs)
  pub hall_all : length hall ≡ g.nodes
  pub pairing : IsPairing g left chosen (at false hall)
