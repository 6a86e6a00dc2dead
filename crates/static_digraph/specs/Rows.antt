-- How rows of arcs lie in one list. No public clause cites this module.
use Rattle.std.specs.Prelude.{◌≡◌, ℕ, ◌+◌, ◌-◌, ◌<◌, ◌≤◌, List, [], ◌∷◌, ◌++◌, length, map, filter}
use Rattle.std.specs.Prelude.{◌==◌}
use Rattle.std.specs.List.{flat_map, range_with_len, slice_range}
use Rattle.plain_certificates.specs.Tables.{at}
use Rattle.static_digraph.specs.Fixed.{row_of}

-- the rows of the first nodes, one behind the other
abbrev pub rows_before : (ℕ → ℕ) → ℕ → ℕ → List ℕ
rows_before end arcs node = flat_map (row_of end arcs) (range_with_len 0 node)

-- where the row of each of the first nodes begins
abbrev pub starts_before : (ℕ → ℕ) → ℕ → ℕ → List ℕ
starts_before end arcs count =
    map (λ node. length (rows_before end arcs node)) (range_with_len 0 count)

-- all rows, one behind the other, and where each begins
pub record AreRows (nodes arcs : ℕ) (end : ℕ → ℕ) (start row : List ℕ) : Type 0 where
  pub starts : start ≡ starts_before end arcs (nodes + 1)
  pub laid : row ≡ rows_before end arcs nodes

-- a row begins and ends within the list
pub record HasRow (start row : List ℕ) (node : ℕ) : Type 0 where
  pub known : node + 1 < length start
  pub ordered : at 0 start node ≤ at 0 start (node + 1)
  pub inside : at 0 start (node + 1) ≤ length row

-- what stands from where the row of the node begins to where the next one does
abbrev pub row_in : List ℕ → List ℕ → ℕ → List ℕ
row_in start row node = slice_range row (at 0 start node) (at 0 start (node + 1))

-- following next from a number, one comes to these numbers, which rise, and then to the end
abbrev pub IsLinked : (ℕ → ℕ) → ℕ → ℕ → List ℕ → Type 0
IsLinked next end from [] = from ≡ end
IsLinked next end from (x ∷ xs) =
    (from ≡ x) × (x < end) × (x < next x) × IsLinked next end (next x) xs

-- of the arcs from one number on, those with this end at the node
abbrev pub rest_of : (ℕ → ℕ) → ℕ → ℕ → ℕ → List ℕ
rest_of end arcs node low = filter (λ arc. end arc == node) (range_with_len low (arcs - low))

-- the arcs from one number on are linked: for each node, those with this end at it
pub record AreLinked (nodes arcs : ℕ) (end : ℕ → ℕ) (first next : List ℕ) (low : ℕ) : Type 0 where
  pub firsts : length first ≡ nodes
  pub nexts : length next ≡ arcs
  pub linked : (node : ℕ) → node < nodes
      → IsLinked (at 0 next) arcs (at 0 first node) (rest_of end arcs node low)

-- while a row is laid: what is left of it, from an arc on
pub record IsLaying (nodes arcs : ℕ) (end next : ℕ → ℕ) (node from : ℕ) (row : List ℕ) : Type 0
  where
    pub rest : List ℕ
    pub laid : row ++ rest ≡ rows_before end arcs (node + 1)
    pub linked : IsLinked next arcs from rest
