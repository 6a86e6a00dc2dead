-- What the certificates show, each said whole.
use Rattle.std.specs.Prelude.{◌≡◌, ℕ, ◌<◌, Bool, ℤ, ◌*ℤ◌, ◌≤ℤ◌, List, length, Option, None, Some}
use Rattle.plain_certificates.specs.Numbered.{Numbered, EndsAreNodes, sum_where, count_where, net}
use Rattle.plain_certificates.specs.Walks.{IsWalk, along, start_of}
use Rattle.plain_certificates.specs.Paths.{IsPaths, IsNegativeCycle, IsLeast, HasNoLeast}
use Rattle.plain_certificates.specs.Cuts.{IsFlow, IsCut}
use Rattle.plain_certificates.specs.Feasible.{Bounds, IsFeasible, IsBarrier}
use Rattle.plain_certificates.specs.Cheapest.{cost_of, IsOptimal, IsFreeCycle, HasCheaper}
use Rattle.plain_certificates.specs.Pairings.{IsBipartite, ShareNoNode, IsPairing, IsHeaviest}
use Rattle.plain_certificates.specs.Pairings.{CoversLeft, IsAssigned, IsShort}
use Rattle.plain_certificates.specs.Means.{IsLeastMean, IsAcyclic}

-- ---- paths

-- each distance is the least length of a walk
abbrev pub DistancesAreLeast : Type 0
DistancesAreLeast =
    (g : Numbered) (length : ℕ → ℤ) (start : ℕ) (dist : ℕ → Option ℤ) (via : ℕ → Option ℕ)
    → EndsAreNodes g → IsPaths g length start dist via
    → (node : ℕ) (d : ℤ) → node < g.nodes → dist node ≡ Some d → IsLeast g length start node d

-- to a node without a distance leads no walk
abbrev pub OthersAreUnreached : Type 0
OthersAreUnreached =
    (g : Numbered) (length : ℕ → ℤ) (start : ℕ) (dist : ℕ → Option ℤ) (via : ℕ → Option ℕ)
    → IsPaths g length start dist via
    → (node : ℕ) (walk : List ℕ) → dist node ≡ None → IsWalk g start walk node → ⊥

-- the first node of a negative cycle that is reached has no least length
abbrev pub NegativeCyclesLeaveNoLeast : Type 0
NegativeCyclesLeaveNoLeast =
    (g : Numbered) (length : ℕ → ℤ) (start : ℕ) (cycle : List ℕ)
    → IsNegativeCycle g length start cycle → HasNoLeast g length start (start_of g cycle)

-- ---- flows

-- no flow from s to t has a larger value than one with a cut
abbrev pub CutsAreLargest : Type 0
CutsAreLargest =
    (g : Numbered) (cap : ℕ → ℤ) (s t : ℕ) (flow : ℕ → ℤ) (side : ℕ → Bool) (value : ℤ)
    → EndsAreNodes g → s < g.nodes → IsCut g cap s t flow side value
    → (other : ℕ → ℤ) → IsFlow g cap s t other → net g other s ≤ℤ value

-- where there is a barrier, no flow is feasible
abbrev pub BarriersLeaveNoFlow : Type 0
BarriersLeaveNoFlow =
    (g : Numbered) (bounds : Bounds) (over : Bool) (set : ℕ → Bool) (supply limit : ℤ)
    → EndsAreNodes g → IsBarrier g bounds over set supply limit
    → (flow : ℕ → ℤ) → IsFeasible g bounds flow → ⊥

-- no feasible flow costs less than an optimal one
abbrev pub OptimalIsCheapest : Type 0
OptimalIsCheapest =
    (g : Numbered) (bounds : Bounds) (cost flow pi : ℕ → ℤ) (total : ℤ)
    → EndsAreNodes g → IsOptimal g bounds cost flow pi total
    → (other : ℕ → ℤ) → IsFeasible g bounds other → total ≤ℤ cost_of g cost other

-- where there is a free cycle, there is for each number a feasible flow that costs less
abbrev pub FreeCyclesHaveNoEnd : Type 0
FreeCyclesHaveNoEnd =
    (g : Numbered) (bounds : Bounds) (cost flow : ℕ → ℤ) (cycle : List ℕ) (total : ℤ)
    → IsFreeCycle g bounds cost flow cycle total
    → (limit : ℤ) → HasCheaper g bounds cost limit

-- ---- pairings

-- no arcs that share no node are more than those of a pairing with its set
abbrev pub PairingsAreLargest : Type 0
PairingsAreLargest =
    (g : Numbered) (left chosen hall : ℕ → Bool)
    → EndsAreNodes g → IsBipartite g left → IsPairing g left chosen hall
    → (other : ℕ → Bool) → ShareNoNode g other
    → count_where g.arcs other ≤ℤ count_where g.arcs chosen

-- no pairing weighs more than a heaviest one
abbrev pub HeaviestIsLargest : Type 0
HeaviestIsLargest =
    (g : Numbered) (left : ℕ → Bool) (weight : ℕ → ℤ) (chosen : ℕ → Bool) (dual : ℕ → ℤ) (total : ℤ)
    → EndsAreNodes g → IsBipartite g left → IsHeaviest g weight chosen dual total
    → (other : ℕ → Bool) → ShareNoNode g other → sum_where g.arcs other weight ≤ℤ total

-- no pairing that covers the left nodes costs less than an assigned one
abbrev pub AssignedIsCheapest : Type 0
AssignedIsCheapest =
    (g : Numbered) (left : ℕ → Bool) (cost : ℕ → ℤ) (chosen : ℕ → Bool) (dual : ℕ → ℤ) (total : ℤ)
    → EndsAreNodes g → IsBipartite g left → IsAssigned g left cost chosen dual total
    → (other : ℕ → Bool) → ShareNoNode g other → CoversLeft g left other
    → total ≤ℤ sum_where g.arcs other cost

-- where left nodes are short of neighbours, no pairing covers the left nodes
abbrev pub ShortLeavesNoCover : Type 0
ShortLeavesNoCover =
    (g : Numbered) (left set : ℕ → Bool)
    → EndsAreNodes g → IsBipartite g left → IsShort g left set
    → (other : ℕ → Bool) → ShareNoNode g other → CoversLeft g left other → ⊥

-- ---- cycle ratios

-- no round of arcs has a smaller ratio of length to time than a least cycle
abbrev pub MeansAreLeast : Type 0
MeansAreLeast =
    (g : Numbered) (length time : ℕ → ℤ) (cycle : List ℕ) (pi : ℕ → ℤ) (total times : ℤ)
    → IsLeastMean g length time cycle pi total times
    → (start : ℕ) (round : List ℕ) → IsWalk g start round start
    → (total *ℤ along time round) ≤ℤ (along length round *ℤ times)

-- where each arc goes on in an order of the nodes, no arcs lead round
abbrev pub OrdersLeaveNoCycle : Type 0
OrdersLeaveNoCycle =
    (g : Numbered) (order : List ℕ) → IsAcyclic g order
    → (start : ℕ) (round : List ℕ) → 0 < length round → IsWalk g start round start → ⊥

-- ---- no task has two answers

-- where a negative cycle is reached, there are no distances
abbrev pub PathsOrCycle : Type 0
PathsOrCycle =
    (g : Numbered) (length : ℕ → ℤ) (start : ℕ) (dist : ℕ → Option ℤ) (via : ℕ → Option ℕ)
    (cycle : List ℕ)
    → IsPaths g length start dist via → IsNegativeCycle g length start cycle → ⊥

-- where there is a barrier, no flow is optimal
abbrev pub OptimalOrBarrier : Type 0
OptimalOrBarrier =
    (g : Numbered) (bounds : Bounds) (cost flow pi : ℕ → ℤ) (total : ℤ)
    (over : Bool) (set : ℕ → Bool) (supply limit : ℤ)
    → EndsAreNodes g → IsOptimal g bounds cost flow pi total
    → IsBarrier g bounds over set supply limit → ⊥

-- where there is a barrier, there is no free cycle
abbrev pub FreeCycleOrBarrier : Type 0
FreeCycleOrBarrier =
    (g : Numbered) (bounds : Bounds) (cost flow : ℕ → ℤ) (cycle : List ℕ) (total : ℤ)
    (over : Bool) (set : ℕ → Bool) (supply limit : ℤ)
    → EndsAreNodes g → IsFreeCycle g bounds cost flow cycle total
    → IsBarrier g bounds over set supply limit → ⊥

-- where there is a free cycle, no flow is optimal
abbrev pub OptimalOrFreeCycle : Type 0
OptimalOrFreeCycle =
    (g : Numbered) (bounds : Bounds) (cost flow pi : ℕ → ℤ) (total : ℤ)
    (other : ℕ → ℤ) (cycle : List ℕ) (round : ℤ)
    → EndsAreNodes g → IsOptimal g bounds cost flow pi total
    → IsFreeCycle g bounds cost other cycle round → ⊥

-- where left nodes are short of neighbours, no pairing is assigned
abbrev pub AssignedOrShort : Type 0
AssignedOrShort =
    (g : Numbered) (left : ℕ → Bool) (cost : ℕ → ℤ) (chosen : ℕ → Bool) (dual : ℕ → ℤ) (total : ℤ)
    (set : ℕ → Bool)
    → EndsAreNodes g → IsBipartite g left → IsAssigned g left cost chosen dual total
    → IsShort g left set → ⊥

-- where each arc goes on in an order of the nodes, no cycle is of the least ratio
abbrev pub MeanOrAcyclic : Type 0
MeanOrAcyclic =
    (g : Numbered) (length time : ℕ → ℤ) (cycle : List ℕ) (pi : ℕ → ℤ) (total times : ℤ)
    (order : List ℕ)
    → IsLeastMean g length time cycle pi total times → IsAcyclic g order → ⊥
