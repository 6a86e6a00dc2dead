-- What a round over all arcs does to distances and last arcs.
use Rattle.std.specs.Prelude.{◌≡◌, ℕ, ◌+◌, ◌*◌, ◌<◌, ◌≤◌, Bool, true, false, List, All, sum_by}
use Rattle.std.specs.Prelude.{length}
use Rattle.plain_certificates.specs.Numbered.{Numbered, EndsAreNodes}
use Rattle.plain_certificates.specs.Tables.{at}
use Rattle.pace_search.specs.Tree.{far, origin, shift, IsTree}

-- ends that are nodes, a length for each arc, and a distance and a last arc for each node
pub record AreSized (g : Numbered) (len dist via : List ℕ) : Type 0 where
  pub ends : EndsAreNodes g
  pub lens : length len ≡ g.arcs
  pub dists : length dist ≡ g.nodes
  pub vias : length via ≡ g.nodes

-- the lists are a tree of what began with these distances, by some turns
pub record IsState (g : Numbered) (len first : ℕ → ℕ) (dist via : List ℕ) : Type 0 where
  pub turns : ℕ → ℕ
  pub clock : ℕ
  pub tree : IsTree g len first (at 0 dist) (at 0 via) turns clock

-- all distances together
abbrev pub weight : List ℕ → ℕ
weight dist = sum_by (λ d. d) dist

-- no distance is below so many lengths, and none above what stands for none
pub record AreWithin (steps : ℕ) (dist : List ℕ) : Type 0 where
  pub low : All (λ d. origin ≤ d + shift * steps) dist
  pub high : All (λ d. d ≤ far) dist

-- a distance became less, or the arcs below one lead no nearer and all is as before
abbrev pub IsRound : Numbered → (ℕ → ℕ) → ℕ → List ℕ → List ℕ → List ℕ → List ℕ → Bool → Type 0
IsRound g len count dist via dist' via' true = weight dist' < weight dist
IsRound g len count dist via dist' via' false =
    (dist' ≡ dist) × (via' ≡ via)
    × ((k : ℕ) → k < count → at 0 dist (g.from k) < far
    → at 0 dist (g.to k) + shift ≤ at 0 dist (g.from k) + len k)

-- a tree stays one
abbrev pub Keeps : Numbered → (ℕ → ℕ) → List ℕ → List ℕ → List ℕ → List ℕ → Type 0
Keeps g len dist via dist' via' =
    (first : ℕ → ℕ) → IsState g len first dist via → IsState g len first dist' via'
