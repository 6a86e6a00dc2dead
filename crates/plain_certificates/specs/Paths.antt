-- Shortest paths from a start, and cycles that leave none.
use Rattle.std.specs.Prelude.{◌≡◌, ◌≢◌, ◌⊎◌, ℕ, zero, suc, ◌<◌, ◌==◌, ◌||◌, Bool, true, false, ℤ}
use Rattle.std.specs.Prelude.{pos, ◌+ℤ◌, ◌≤ℤ◌, ◌<ℤ◌, List, Option, None, Some}
use Rattle.std.specs.Option.{option_map_or}
use Rattle.plain_certificates.specs.Numbered.{Numbered}
use Rattle.plain_certificates.specs.Walks.{IsWalk, IsCycle, along, start_of}

-- if the source has a distance, so has the target, at most that of the source and the length
abbrev pub IsNoFurther : Option ℤ → Option ℤ → ℤ → Type 0
IsNoFurther None target length = Unit {0}
IsNoFurther (Some d) None length = ⊥
IsNoFurther (Some d) (Some e) length = e ≤ℤ (d +ℤ length)

-- the arc ends at the node, and makes up its distance with that of its source
pub record IsLastArc (g : Numbered) (length : ℕ → ℤ) (dist : ℕ → Option ℤ) (arc node : ℕ) (d : ℤ)
    : Type 0 where
  pub within : arc < g.arcs
  pub ends : g.to arc ≡ node
  pub source : ℤ
  pub source_is : dist (g.from arc) ≡ Some source
  pub adds_up : d ≡ source +ℤ length arc

-- whether going back along via leads to the start in at most so many steps
abbrev pub leads_back : Numbered → (ℕ → Option ℕ) → ℕ → ℕ → ℕ → Bool
leads_back g via start zero node = node == start
leads_back g via start (suc n) node =
    node == start
    || option_map_or (λ arc. leads_back g via start n (g.from arc)) (via node) false

-- distances from the start, and the last arc on the way to each node that has one
pub record IsPaths (g : Numbered) (length : ℕ → ℤ) (start : ℕ) (dist : ℕ → Option ℤ)
    (via : ℕ → Option ℕ) : Type 0 where
  pub at_start : dist start ≡ Some (pos 0)
  pub no_further : (arc : ℕ) → arc < g.arcs
      → IsNoFurther (dist (g.from arc)) (dist (g.to arc)) (length arc)
  pub last : (node : ℕ) (d : ℤ) → node < g.nodes → node ≢ start → dist node ≡ Some d
      → (arc : ℕ) × (via node ≡ Some arc) × IsLastArc g length dist arc node d
  pub others : (node : ℕ) → node < g.nodes → (node ≡ start) ⊎ (dist node ≡ None)
      → via node ≡ None
  pub back : (node : ℕ) (d : ℤ) → node < g.nodes → dist node ≡ Some d
      → leads_back g via start g.nodes node ≡ true

-- a cycle of negative length, to which a walk leads from the start
pub record IsNegativeCycle (g : Numbered) (length : ℕ → ℤ) (start : ℕ) (cycle : List ℕ)
    : Type 0 where
  pub is_cycle : IsCycle g cycle
  pub negative : along length cycle <ℤ pos 0
  pub walk : List ℕ
  pub reached : IsWalk g start walk (start_of g cycle)

-- ---- what they show

-- the number is the least length of a walk from the start to the node
pub record IsLeast (g : Numbered) (length : ℕ → ℤ) (start node : ℕ) (d : ℤ) : Type 0 where
  pub walk : List ℕ
  pub reached : IsWalk g start walk node
  pub is_long : along length walk ≡ d
  pub least : (other : List ℕ) → IsWalk g start other node → d ≤ℤ along length other

-- some walk from the start to the node is shorter than this
pub record HasShorter (g : Numbered) (length : ℕ → ℤ) (start node : ℕ) (d : ℤ) : Type 0 where
  pub walk : List ℕ
  pub reached : IsWalk g start walk node
  pub shorter : along length walk <ℤ d

-- walks from the start lead to the node, and for each there is a shorter one
pub record HasNoLeast (g : Numbered) (length : ℕ → ℤ) (start node : ℕ) : Type 0 where
  pub walk : List ℕ
  pub reached : IsWalk g start walk node
  pub none : (other : List ℕ) → IsWalk g start other node
      → HasShorter g length start node (along length other)
