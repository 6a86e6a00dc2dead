-- Generated graphs, by a sequence of numbers from a seed.
use Rattle.std.specs.Prelude.{ℕ, zero, suc, ◌+◌, ◌*◌, ◌%◌, codes, List, [], ◌∷◌, map}
use Rattle.std.specs.List.{range_with_len}
use Rattle.std.specs.Fmt.{decimal}
use Rattle.lgf_file.specs.Documents.{label}
use Rattle.lgf_file.specs.declared.documents.Doc.{Doc}
use Rattle.lgf_file.specs.declared.documents.Link.{Link}

-- The state after this one.
abbrev pub next : ℕ → ℕ
next state = 48271 * state % 2147483647

-- The state after so many draws: the seed, and then each state from the one before.
abbrev pub state : ℕ → ℕ → ℕ
state seed zero = seed
state seed (suc count) = next (state seed count)

-- The number below the limit that is drawn after so many others.
abbrev pub draw : ℕ → ℕ → ℕ → ℕ
draw seed count limit = state seed (count + 1) % limit

-- An arc takes four draws: its source, its target, its capacity and its cost.
abbrev pub made_arc : ℕ → ℕ → ℕ → Link
made_arc seed nodes arc = record {
  from = draw seed (4 * arc) nodes;
  to = draw seed (4 * arc + 1) nodes;
  values = decimal arc ∷ decimal (draw seed (4 * arc + 2) 1000)
      ∷ decimal (draw seed (4 * arc + 3) 1000) ∷ [];
}

-- The graph of so many nodes and arcs: labels are the numbers from 0 on.
abbrev pub made : ℕ → ℕ → ℕ → Doc
made seed nodes arcs = record {
  nodes = record {
    columns = label ∷ [];
    rows = map (λ node. decimal node ∷ []) (range_with_len 0 nodes);
  };
  arc_columns = label ∷ codes "cap" ∷ codes "cost" ∷ [];
  arcs = map (made_arc seed nodes) (range_with_len 0 arcs);
  attributes = [];
}
