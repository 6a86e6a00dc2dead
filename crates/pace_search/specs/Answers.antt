-- Potentials that show that no cycle of paces is of negative length, and cycles that are.
use Rattle.std.specs.Prelude.{◌≡◌, ℕ, ◌+◌, ◌*◌, ◌<◌, ◌^◌, true, ℤ, pos, neg_ℤ, ◌+ℤ◌, ◌≤ℤ◌}
use Rattle.std.specs.Prelude.{◌<ℤ◌, List, All, length, map}
use Rattle.plain_certificates.specs.Numbered.{Numbered}
use Rattle.plain_certificates.specs.Tables.{at}
use Rattle.plain_certificates.specs.Walks.{along, pace_to, IsTrail, arcs_of, Differ}
use Rattle.plain_certificates.specs.Walks.{first_is_least}
use Rattle.pace_search.specs.Paces.{paces_at}
use Rattle.pace_search.specs.declared.search.CycleSearch.{CycleSearch}
use Rattle.pace_search.specs.declared.search.CycleSearch.TheVariants as answers

-- the length that stands for no pace: no cycle that is told has one of it
abbrev pub none : ℤ
none = pos (2 ^ 62)

-- a potential of each node, from 0 down to 2^36 for each node, which rises along each arc by the
-- length of the pace there at most, and against it by that of the pace back
pub record IsPotential (g : Numbered) (len pi : ℕ → ℤ) : Type 0 where
  pub ahead : (arc : ℕ) → arc < g.arcs → pi (g.to arc) ≤ℤ (pi (g.from arc) +ℤ len arc)
  pub back : (arc : ℕ) → arc < g.arcs
      → pi (g.from arc) ≤ℤ (pi (g.to arc) +ℤ len (g.arcs + arc))
  pub high : (node : ℕ) → node < g.nodes → pi node ≤ℤ pos 0
  pub low : (node : ℕ) → node < g.nodes → neg_ℤ (pos (2 ^ 36 * g.nodes)) ≤ℤ pi node

-- no arc there and back is of negative length
abbrev pub HasNoTurn : Numbered → (ℕ → ℤ) → Type 0
HasNoTurn g len =
    (arc : ℕ) → arc < g.arcs → pos 0 ≤ℤ (len arc +ℤ len (g.arcs + arc))

-- numbers of paces to different nodes, which lead back to where they begin, the least number first,
-- and whose lengths add up to less than 0; where no arc there and back is of negative length, no
-- arc stands on them twice
pub record IsNegativeRound (g : Numbered) (len : ℕ → ℤ) (round : List ℕ) : Type 0 where
  pub nonempty : 0 < length round
  pub known : All (λ k. k < 2 * g.arcs) round
  pub node : ℕ
  pub closed : IsTrail g node (paces_at g round) node
  pub nodes_differ : Differ (map (λ pace. pace_to g pace) (paces_at g round))
  pub arcs_differ : HasNoTurn g len → Differ (arcs_of (paces_at g round))
  pub least_first : first_is_least round ≡ true
  pub short : All (λ k. len k <ℤ none) round
  pub negative : along len round <ℤ pos 0

-- one or the other
abbrev pub Shows : Numbered → (ℕ → ℤ) → CycleSearch → Type 0
Shows g len (answers.Potential pi) =
    (length pi.items ≡ g.nodes) × IsPotential g len (at (pos 0) pi.items)
Shows g len (answers.Cycle round) = IsNegativeRound g len round.items
