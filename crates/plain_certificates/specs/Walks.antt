-- Walks, cycles and trails as lists of arcs.
use Rattle.std.specs.Prelude.{◌≡◌, ℕ, ◌<◌, ◌==◌, Bool, true, cond, ℤ, pos, ◌+ℤ◌, List, [], ◌∷◌, map}
use Rattle.std.specs.Prelude.{length, nat_le}
use Rattle.std.specs.List.{list_all, IsDistinct}
use Rattle.plain_certificates.specs.Numbered.{Numbered}

-- the arcs lead from u to v, each from where the one before ends
abbrev pub IsWalk : Numbered → ℕ → List ℕ → ℕ → Type 0
IsWalk g u [] v = u ≡ v
IsWalk g u (arc ∷ arcs) v = (arc < g.arcs) × (g.from arc ≡ u) × IsWalk g (g.to arc) arcs v

-- the sum of a value on the arcs of a list
abbrev pub along : (ℕ → ℤ) → List ℕ → ℤ
along value [] = pos 0
along value (arc ∷ arcs) = value arc +ℤ along value arcs

-- no number stands twice in the list
abbrev pub Differ : List ℕ → Type 0
Differ numbers = IsDistinct (λ a b. a == b) numbers

-- the node at which the list begins
abbrev pub start_of : Numbered → List ℕ → ℕ
start_of g [] = 0
start_of g (arc ∷ arcs) = g.from arc

-- no number of the list is below the first
abbrev pub first_is_least : List ℕ → Bool
first_is_least [] = true
first_is_least (arc ∷ arcs) = list_all (nat_le arc) arcs

-- different arcs that lead back to where they begin, from the one of the least number
pub record IsCycle (g : Numbered) (arcs : List ℕ) : Type 0 where
  pub nonempty : 0 < length arcs
  pub differ : Differ arcs
  pub closed : IsWalk g (start_of g arcs) arcs (start_of g arcs)
  pub least_first : first_is_least arcs ≡ true

-- ---- with or against the arcs

-- an arc, and whether it is walked as it goes or the other way
pub record Pace : Type 0 where
  pub arc : ℕ
  pub onward : Bool

-- the node from which a pace leads
abbrev pub pace_from : Numbered → Pace → ℕ
pace_from g pace = cond pace.onward (g.from pace.arc) (g.to pace.arc)

-- the node to which it leads
abbrev pub pace_to : Numbered → Pace → ℕ
pace_to g pace = cond pace.onward (g.to pace.arc) (g.from pace.arc)

-- the paces lead from u to v, each from where the one before ends
abbrev pub IsTrail : Numbered → ℕ → List Pace → ℕ → Type 0
IsTrail g u [] v = u ≡ v
IsTrail g u (pace ∷ paces) v =
    (pace.arc < g.arcs) × (pace_from g pace ≡ u) × IsTrail g (pace_to g pace) paces v

-- the arcs of a trail
abbrev pub arcs_of : List Pace → List ℕ
arcs_of paces = map (λ pace. pace.arc) paces
