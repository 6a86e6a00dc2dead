-- Going up from a node along last arcs.
use Rattle.std.specs.Prelude.{◌≡◌, ℕ, ◌+◌, ◌-◌, ◌*◌, ◌<◌, ◌≤◌, ◌==◌, cond, List, length, sum_by}
use Rattle.std.specs.Prelude.{true, reverse, drop, Option, None, Some}
use Rattle.plain_certificates.specs.Numbered.{Numbered, EndsAreNodes}
use Rattle.plain_certificates.specs.Tables.{at}
use Rattle.plain_certificates.specs.Walks.{IsWalk, Differ, first_is_least}
use Rattle.pace_search.specs.Tree.{far, origin, shift, AreLast}
use Rattle.pace_search.specs.Rounds.{IsState}

abbrev pub one_if_open : ℕ → ℕ
one_if_open mark = cond (mark == 0) 1 0

-- how many nodes have no mark
abbrev pub open_count : List ℕ → ℕ
open_count marks = sum_by one_if_open marks

-- distances and last arcs of a search in which no node began below 0, an entry for each node
pub record IsTreeOf (g : Numbered) (dist via : List ℕ) : Type 0 where
  pub ends : EndsAreNodes g
  pub dists : length dist ≡ g.nodes
  pub vias : length via ≡ g.nodes
  pub lens : ℕ → ℕ
  pub first : ℕ → ℕ
  pub high : (v : ℕ) → v < g.nodes → origin ≤ first v
  pub state : IsState g lens first dist via

-- each marked node's mark is how many were passed before it, and one; what was passed before the
-- climb leads back to nodes that began with their distance
pub record IsMarked (g : Numbered) (D V : ℕ → ℕ) (mark : List ℕ) (base : ℕ) : Type 0 where
  pub sized : length mark ≡ g.nodes
  pub counted : base + open_count mark ≡ g.nodes
  pub low : (w : ℕ) → w < g.nodes → 0 < at 0 mark w → origin ≤ D w + shift * base
  pub few : (w : ℕ) → at 0 mark w ≤ base

-- from the start up to the node lie the arcs of the path
pub record IsClimb (g : Numbered) (D V : ℕ → ℕ) (mark path : List ℕ) (base start node : ℕ)
    : Type 0 where
  pub sized : length mark ≡ g.nodes
  pub inside : node < g.nodes
  pub near : D node < far
  pub counted : (base + length path) + open_count mark ≡ g.nodes
  pub walk : IsWalk g node (reverse path) start
  pub last : AreLast g D V (reverse path)
  pub places : (i : ℕ) → i < length path → at 0 mark (g.to (at 0 path i)) ≡ (base + i) + 1
  pub placed : (w : ℕ) → base < at 0 mark w
      → (at 0 mark w ≤ base + length path) × (g.to (at 0 path ((at 0 mark w - base) - 1)) ≡ w)
  pub before : (w : ℕ) → w < g.nodes → 0 < at 0 mark w → at 0 mark w ≤ base
      → origin ≤ D w + shift * base
  pub lower : (w : ℕ) → w < g.nodes → base < at 0 mark w → D node ≤ D w + shift * length path
  pub rises : D node ≤ D start + shift * length path

-- different last arcs that lead back to where they begin
pub record IsRoundOf (g : Numbered) (D V : ℕ → ℕ) (arcs : List ℕ) : Type 0 where
  pub some : 0 < length arcs
  pub differ : Differ arcs
  pub node : ℕ
  pub closed : IsWalk g node arcs node
  pub last : AreLast g D V arcs

-- a climb that found no round: what it passed is marked, and leads back to where it began
pub record HasPassed (g : Numbered) (D V : ℕ → ℕ) (mark : List ℕ) (base start : ℕ) : Type 0 where
  pub marked : IsMarked g D V mark base
  pub low : origin ≤ D start + shift * base

-- the arcs of the path from the place on, the last first, are such a round
pub record ClosesAt (g : Numbered) (D V : ℕ → ℕ) (path : List ℕ) (place : ℕ) : Type 0 where
  pub within : place < length path
  pub round : IsRoundOf g D V (reverse (drop place path))

-- how a climb ends
abbrev pub ClimbEnds : Numbered → (ℕ → ℕ) → (ℕ → ℕ) → List ℕ → List ℕ → ℕ → ℕ → Option ℕ → Type 0
ClimbEnds g D V mark path base start None = HasPassed g D V mark (base + length path) start
ClimbEnds g D V mark path base start (Some place) = ClosesAt g D V path place

-- where no last arcs close up, all distances are above a bound; else the round is from its least
-- arc on
abbrev pub FindsRound : Numbered → (ℕ → ℕ) → (ℕ → ℕ) → Option (List ℕ) → Type 0
FindsRound g D V None = (w : ℕ) → w < g.nodes → D w < far → origin ≤ D w + shift * g.nodes
FindsRound g D V (Some round) = IsRoundOf g D V round × (first_is_least round ≡ true)
