-- Arcs that don't join the two sides, and cycles turned to begin at the arc of the least item.
use Rattle.std.specs.Prelude.{◌≡◌, ℕ, ◌<◌, ◌≤◌, Bool, false, not, cond, List, ◌++◌, take, drop}
use Rattle.std.specs.Prelude.{length}
use Rattle.plain_certificates.specs.Numbered.{Numbered}
use Rattle.plain_certificates.specs.Tables.{at}
use Rattle.static_digraph.specs.Fixed.{FixedOf}

-- whether both ends are left, or neither is
abbrev pub is_one_sided : Numbered → List Bool → ℕ → Bool
is_one_sided g left arc =
    let to = at false left (g.to arc) in cond (at false left (g.from arc)) to (not to)

-- the item of the arc at a place of a list
abbrev pub item_at : FixedOf → List ℕ → ℕ → ℕ
item_at f arcs k = at 0 f.arcs (at 0 arcs k)

-- no arc of the first so many has a lesser item than the one at this place
pub record IsLeastOf (f : FixedOf) (arcs : List ℕ) (count place : ℕ) : Type 0 where
  pub inside : place < count
  pub least : (k : ℕ) → k < count → item_at f arcs place ≤ item_at f arcs k

-- no arc of the list has
abbrev pub IsLeast : FixedOf → List ℕ → ℕ → Type 0
IsLeast f arcs place = IsLeastOf f arcs (length arcs) place

-- the list from the arc of the least item on, and then what stands before it
pub record IsTurned (f : FixedOf) (arcs turned : List ℕ) : Type 0 where
  pub place : ℕ
  pub least : IsLeast f arcs place
  pub is : turned ≡ drop place arcs ++ take place arcs
