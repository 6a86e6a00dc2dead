-- Arrays of distances and of last arcs, read as an answer.
use Rattle.std.specs.Prelude.{◌≡◌, ℕ, ◌==◌, ◌&&◌, not, cond, nat_lt, ℤ, pos, List, length}
use Rattle.std.specs.Prelude.{Option, None, Some, map}
use Rattle.std.specs.List.{range_with_len}
use Rattle.plain_certificates.specs.Numbered.{Numbered}
use Rattle.plain_certificates.specs.Paths.{IsPaths, IsNegativeCycle}
use Rattle.plain_certificates.specs.Tables.{at}
use Rattle.pace_search.specs.Tree.{far}
use Rattle.path_search.specs.declared.signed_search.Walks.{Walks}
use Rattle.path_search.specs.declared.signed_search.Walks.TheVariants as walks

-- a distance, where it is one
abbrev pub dist_in : ℕ → Option ℤ
dist_in d = cond (nat_lt d far) (Some (pos d)) None

-- a last arc, where there is one
abbrev pub via_in : ℕ → ℕ → ℕ → ℕ → Option ℕ
via_in d arc node start = cond (nat_lt d far && not (node == start)) (Some arc) None

-- the lists of the answer
pub record Tells (dist via : List ℕ) (start : ℕ) (dists : List (Option ℤ))
    (vias : List (Option ℕ)) : Type 0 where
  pub dists_are : dists ≡ map (λ node. dist_in (at 0 dist node)) (range_with_len 0 (length dist))
  pub vias_are : vias
      ≡ map (λ node. via_in (at 0 dist node) (at 0 via node) node start)
      (range_with_len 0 (length dist))

-- the lists are paths of these lengths, an entry for each node
pub record IsAnswer (g : Numbered) (len : List ℤ) (start : ℕ) (dists : List (Option ℤ))
    (vias : List (Option ℕ)) : Type 0 where
  pub dists_all : length dists ≡ g.nodes
  pub vias_all : length vias ≡ g.nodes
  pub paths : IsPaths g (at (pos 0) len) start (at None dists) (at None vias)

-- the paths of these lengths, or a negative cycle
abbrev pub AreWalks : Numbered → List ℤ → ℕ → Walks → Type 0
AreWalks g len start (walks.Paths paths) = IsAnswer g len start paths.dist paths.via
AreWalks g len start (walks.Cycle cycle) = IsNegativeCycle g (at (pos 0) len) start cycle
