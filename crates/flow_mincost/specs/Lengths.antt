-- The lengths of paces for the two searches.
use Rattle.std.specs.Prelude.{◌≡◌, ℕ, ◌*◌, ◌<◌, true, ℤ, pos, neg_ℤ, List, length}
use Rattle.plain_certificates.specs.Numbered.{Numbered}
use Rattle.plain_certificates.specs.Pushes.{by_pace}
use Rattle.plain_certificates.specs.Tables.{at}
use Rattle.pace_search.specs.Answers.{none}
use Rattle.pace_search.specs.Paces.{pace_at}
use Rattle.flow_mincost.specs.Rooms.{open_load, room}

-- a value where there is something above 0, and else the length that stands for no pace
pub record IsLength (some : ℕ) (value len : ℤ) : Type 0 where
  pub there : 0 < some → len ≡ value
  pub none_there : some ≡ 0 → len ≡ none

-- such a length for each of so many paces
pub record AreLengths (count : ℕ) (some : ℕ → ℕ) (value : ℕ → ℤ) (lens : List ℤ) : Type 0 where
  pub all : length lens ≡ count
  pub each : (k : ℕ) → k < count → IsLength (some k) (value k) (at (pos 0) lens k)

-- what a unit costs along each pace with room
abbrev pub AreCosts : Numbered → (ℕ → ℕ) → (ℕ → ℤ) → (ℕ → ℕ) → List ℤ → Type 0
AreCosts g cap cost sent lens =
    AreLengths (2 * g.arcs) (λ k. room cap sent true (pace_at g k))
    (λ k. by_pace (pace_at g k) (cost (pace_at g k).arc)) lens

-- -1 along each arc without an upper bound that carries something, and no other pace
abbrev pub AreDrops : Numbered → (ℕ → ℕ) → (ℕ → ℕ) → List ℤ → Type 0
AreDrops g cap sent lens =
    AreLengths (2 * g.arcs) (λ k. open_load cap sent (pace_at g k)) (λ k. neg_ℤ (pos 1)) lens
