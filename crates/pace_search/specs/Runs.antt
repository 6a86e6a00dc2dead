-- What the rounds of a search leave.
use Rattle.std.specs.Prelude.{◌≡◌, ℕ, ◌*◌, ◌≤◌, ℤ, pos, ◌-ℤ◌, true, List, All, length, map}
use Rattle.std.specs.Prelude.{Option, None, Some}
use Rattle.plain_certificates.specs.Numbered.{Numbered}
use Rattle.plain_certificates.specs.Tables.{at}
use Rattle.plain_certificates.specs.Walks.{first_is_least}
use Rattle.pace_search.specs.Tree.{far, origin, shift, AreRelaxed}
use Rattle.pace_search.specs.Rounds.{AreWithin, IsState}
use Rattle.pace_search.specs.Climbs.{IsRoundOf}

-- a digraph with few nodes, and few enough paces of it
pub record IsPaced (g : Numbered) (count : ℕ) : Type 0 where
  pub few_nodes : g.nodes ≤ 1048576
  pub known : count ≤ 2 * g.arcs
  pub few : count ≤ 8388608

-- distances from 0 up to what stands for none, and no last arc below the count yet
pub record IsFresh (count : ℕ) (dist via : List ℕ) : Type 0 where
  pub low : All (λ d. origin ≤ d) dist
  pub high : All (λ d. d ≤ far) dist
  pub none : All (λ k. count ≤ k) via

-- distances and last arcs, an entry for each node, that a search leaves of what began with some
-- distances
pub record IsLeft (g : Numbered) (len first : ℕ → ℕ) (dist via : List ℕ) : Type 0 where
  pub dists : length dist ≡ g.nodes
  pub vias : length via ≡ g.nodes
  pub state : IsState g len first dist via

-- no arc leads nearer, or last arcs lead round, from the least one on
abbrev pub Ends : Numbered → (ℕ → ℕ) → List ℕ → List ℕ → Option (List ℕ) → Type 0
Ends g len dist via None = AreRelaxed g len (at 0 dist) × AreWithin g.nodes dist
Ends g len dist via (Some round) =
    IsRoundOf g (at 0 dist) (at 0 via) round × (first_is_least round ≡ true)

-- the second list has the numbers of the first, each with the shift added
abbrev pub AreShifted : List ℤ → List ℕ → Type 0
AreShifted len lens = map (λ l. pos l -ℤ pos shift) lens ≡ len

-- each distance with its sign
abbrev pub signed_all : List ℕ → List ℤ
signed_all dist = map (λ d. pos d -ℤ pos origin) dist
