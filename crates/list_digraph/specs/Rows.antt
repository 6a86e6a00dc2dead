-- The rows of the two tables: the row at place k is the item with the id k.
use Rattle.std.specs.Prelude.{◌≡◌, ℕ, Bool, List, Option, None, Some, cond, map, slice_index_or}
use Rattle.std.specs.Prelude.{slice_set}
use Rattle.list_digraph.specs.declared.rows.NodeRow.{NodeRow}
use Rattle.list_digraph.specs.declared.rows.ArcRow.{ArcRow}

-- ---- what is told of the live rows

-- A dead row tells nothing.
abbrev pub told : {X : Type 0} → Bool → X → Option X
told live x = cond live (Some x) None

-- The stamp of a node.
abbrev pub node_at : NodeRow → Option ℕ
node_at row = told row.live row.at

-- The ends of an arc, and its stamps by source and by target.
abbrev pub ends_at : ArcRow → Option (ℕ × ℕ)
ends_at row = told row.live (row.from, row.to)

abbrev pub source_at : ArcRow → Option ℕ
source_at row = told row.live row.from_at

abbrev pub target_at : ArcRow → Option ℕ
target_at row = told row.live row.to_at

-- Of the row with this id, if it is there and live.
abbrev pub read : {R X : Type 0} → (R → Option X) → List R → ℕ → Option X
read at rows id = slice_index_or (map at rows) id None

-- ---- the rows of the nodes, a column each

-- The stamps, and the newest arcs from the nodes and to them.
abbrev pub node_stamps : List NodeRow → List (Option ℕ)
node_stamps nodes = map node_at nodes

abbrev pub out_heads : List NodeRow → List (Option ℕ)
out_heads nodes = map (λ row. row.first_out) nodes

abbrev pub in_heads : List NodeRow → List (Option ℕ)
in_heads nodes = map (λ row. row.first_in) nodes

-- The head at a node.
abbrev pub head_at : List (Option ℕ) → ℕ → Option ℕ
head_at heads node = slice_index_or heads node None

-- The first arc from the node, and the first to it.
abbrev pub out_head : List NodeRow → ℕ → Option ℕ
out_head nodes node = head_at (out_heads nodes) node

abbrev pub in_head : List NodeRow → ℕ → Option ℕ
in_head nodes node = head_at (in_heads nodes) node

-- One head is another, and nothing else.
pub record SetsOut (old new : List NodeRow) (node : ℕ) (head : Option ℕ) : Type 0 where
  pub stamps : node_stamps new ≡ node_stamps old
  pub outs : out_heads new ≡ slice_set (out_heads old) node head
  pub ins : in_heads new ≡ in_heads old

pub record SetsIn (old new : List NodeRow) (node : ℕ) (head : Option ℕ) : Type 0 where
  pub stamps : node_stamps new ≡ node_stamps old
  pub outs : out_heads new ≡ out_heads old
  pub ins : in_heads new ≡ slice_set (in_heads old) node head
