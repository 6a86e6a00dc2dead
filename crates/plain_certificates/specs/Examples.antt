-- An example of each certificate, so that none of them asks what nothing meets.
use Rattle.std.specs.Prelude.{ℕ, ◌==◌, Bool, true, false, ℤ, pos, negsuc, [], ◌∷◌}
use Rattle.std.specs.Prelude.{Option, None, Some, nat_lt}
use Rattle.plain_certificates.specs.Numbered.{Numbered}
use Rattle.plain_certificates.specs.Tables.{at}
use Rattle.plain_certificates.specs.Paths.{IsPaths, IsNegativeCycle}
use Rattle.plain_certificates.specs.Cuts.{IsCut}
use Rattle.plain_certificates.specs.Feasible.{Bounds, IsBarrier}
use Rattle.plain_certificates.specs.Cheapest.{IsOptimal, IsFreeCycle, IsBasic}
use Rattle.plain_certificates.specs.Pairings.{IsPairing, IsHeaviest, IsAssigned, IsShort}
use Rattle.plain_certificates.specs.Means.{IsLeastMean, IsAcyclic}

-- ---- three digraphs

-- one arc from 0 to 1
abbrev pub line : Numbered
line = record { nodes = 2; arcs = 1; from = λ arc. 0; to = λ arc. 1 }

-- an arc from 0 to 1 and one back
abbrev pub round : Numbered
round = record { nodes = 2; arcs = 2; from = at 0 (0 ∷ 1 ∷ []); to = at 0 (1 ∷ 0 ∷ []) }

-- an arc from each of 0 and 1 to 2
abbrev pub fork : Numbered
fork = record { nodes = 3; arcs = 2; from = at 0 (0 ∷ 1 ∷ []); to = λ arc. 2 }

-- ---- paths

-- the distances along its arc of length 5
abbrev pub line_dist : ℕ → Option ℤ
line_dist = at None (Some (pos 0) ∷ Some (pos 5) ∷ [])

-- the last arc to each node
abbrev pub line_via : ℕ → Option ℕ
line_via = at None (None ∷ Some 0 ∷ [])

-- along an arc of length 5
abbrev pub PathsAlongLine : Type 0
PathsAlongLine = IsPaths line (λ arc. pos 5) 0 line_dist line_via

-- round two arcs of length -1
abbrev pub NegativeRound : Type 0
NegativeRound = IsNegativeCycle round (λ arc. negsuc 0) 0 (0 ∷ 1 ∷ [])

-- ---- flows

-- the only arc is full
abbrev pub CutOfLine : Type 0
CutOfLine = IsCut line (λ arc. pos 3) 0 1 (λ arc. pos 3) (λ node. node == 0) (pos 3)

-- up to 5 on each arc, and a supply at node 0 and one at node 1
abbrev pub line_bounds : ℤ → ℤ → Bounds
line_bounds first last = record {
  lower = λ arc. pos 0;
  upper = λ arc. Some (pos 5);
  supply = at (pos 0) (first ∷ last ∷ []);
}

-- the nodes together supply 1, which nothing takes
abbrev pub TooMuchOnLine : Type 0
TooMuchOnLine = IsBarrier line (line_bounds (pos 1) (pos 0)) true (λ node. true) (pos 1) (pos 0)

-- the nodes together take 1, which nothing supplies
abbrev pub TooLittleOnLine : Type 0
TooLittleOnLine =
    IsBarrier line (line_bounds (negsuc 0) (pos 0)) false (λ node. true) (negsuc 0) (pos 0)

-- a flow of 2 at a cost of 3 each
abbrev pub OptimalOnLine : Type 0
OptimalOnLine =
    IsOptimal line (line_bounds (pos 2) (negsuc 1)) (λ arc. pos 3) (λ arc. pos 2)
    (at (pos 0) (pos 0 ∷ pos 3 ∷ [])) (pos 6)

-- no flow on two arcs: each is at its lower bound
abbrev pub BasicRound : Type 0
BasicRound = IsBasic round (line_bounds (pos 0) (pos 0)) (λ arc. pos 0)

-- two arcs of cost -1 without an upper bound
abbrev pub FreeRound : Type 0
FreeRound =
    IsFreeCycle round (record { lower = λ arc. pos 0; upper = λ arc. None; supply = λ node. pos 0 })
    (λ arc. negsuc 0) (λ arc. pos 0) (0 ∷ 1 ∷ []) (negsuc 1)

-- ---- pairings

-- node 0 alone is left
abbrev pub first_is_left : ℕ → Bool
first_is_left node = node == 0

-- nodes 0 and 1 are left
abbrev pub two_are_left : ℕ → Bool
two_are_left node = nat_lt node 2

-- one pair, with the empty set of left nodes
abbrev pub PairOnLine : Type 0
PairOnLine = IsPairing line first_is_left (λ arc. true) (λ node. false)

-- one pair of weight 7, all of it on the left node
abbrev pub HeaviestOnLine : Type 0
HeaviestOnLine =
    IsHeaviest line (λ arc. pos 7) (λ arc. true) (at (pos 0) (pos 7 ∷ pos 0 ∷ [])) (pos 7)

-- one pair of cost 7, all of it on the left node
abbrev pub AssignedOnLine : Type 0
AssignedOnLine =
    IsAssigned line first_is_left (λ arc. pos 7) (λ arc. true)
    (at (pos 0) (pos 7 ∷ pos 0 ∷ [])) (pos 7)

-- two left nodes with one neighbour
abbrev pub ShortFork : Type 0
ShortFork = IsShort fork two_are_left two_are_left

-- ---- cycle ratios

-- lengths of 2 and 3 in a time of 1 each
abbrev pub MeanRound : Type 0
MeanRound =
    IsLeastMean round (at (pos 0) (pos 2 ∷ pos 3 ∷ [])) (λ arc. pos 1) (0 ∷ 1 ∷ [])
    (at (pos 0) (pos 0 ∷ negsuc 0 ∷ [])) (pos 5) (pos 2)

-- the arc goes from the first to the second
abbrev pub LineInOrder : Type 0
LineInOrder = IsAcyclic line (0 ∷ 1 ∷ [])
