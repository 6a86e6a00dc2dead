-- What going through the arcs from a node does to a search.
use Rattle.std.specs.Prelude.{◌≡◌, ℕ, ◌+◌, ◌*◌, ◌<◌, ◌≤◌, ◌^◌, List, []}
use Rattle.plain_certificates.specs.Numbered.{Numbered}
use Rattle.path_search.specs.Search.{IsSearch, Done, Settled}
use Rattle.pace_search.specs.Tree.{far}

-- the node was settled last, at this distance
pub record IsLast (g : Numbered) (len : ℕ → ℕ) (s u near : ℕ) (D V T : ℕ → ℕ) (count reach : ℕ)
    (q : List (ℕ × ℕ)) : Type 0 where
  pub settled : 0 < T u
  pub room : near + 2 ^ 36 ≤ reach
  pub low : reach < far
  pub here : D u ≡ near
  pub search : IsSearch g len s (Done g T u []) D V T count near reach q

-- where it was, these arcs from it are relaxed, and it stays at its distance
pub record AfterArcs (g : Numbered) (len : ℕ → ℕ) (s u near : ℕ) (row : List ℕ) (D V T : ℕ → ℕ)
    (count reach : ℕ) (q : List (ℕ × ℕ)) : Type 0 where
  pub here : D u ≡ near
  pub search : IsSearch g len s (Done g T u row) D V T count near reach q

abbrev pub Relaxes : Numbered → (ℕ → ℕ) → ℕ → ℕ → List ℕ → (ℕ → ℕ) → (ℕ → ℕ) → List (ℕ × ℕ)
    → (ℕ → ℕ) → (ℕ → ℕ) → List (ℕ × ℕ) → Type 0
Relaxes g len u near row D V q D' V' r =
    (s : ℕ) (T : ℕ → ℕ) (count reach : ℕ) → IsLast g len s u near D V T count reach q
    → AfterArcs g len s u near row D' V' T count reach r

-- then the arcs from it are relaxed too
abbrev pub Expands : Numbered → (ℕ → ℕ) → ℕ → ℕ → (ℕ → ℕ) → (ℕ → ℕ) → List (ℕ × ℕ)
    → (ℕ → ℕ) → (ℕ → ℕ) → List (ℕ × ℕ) → Type 0
Expands g len u near D V q D' V' r =
    (s : ℕ) (T : ℕ → ℕ) (count reach : ℕ) → IsLast g len s u near D V T count reach q
    → IsSearch g len s (Settled g T) D' V' T count near reach r

-- the state between two nodes that are settled: no key is above what so many arcs make up
pub record IsSearching (g : Numbered) (len : ℕ → ℕ) (s : ℕ) (D V T : ℕ → ℕ) (count : ℕ)
    (q : List (ℕ × ℕ)) : Type 0 where
  pub floor : ℕ
  pub search : IsSearch g len s (Settled g T) D V T count floor (2 ^ 36 * count) q
