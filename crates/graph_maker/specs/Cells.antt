-- The cells of a graph from a seed, by the state before they are drawn.
use Rattle.std.specs.Prelude.{ℕ, ◌*◌, ◌%◌, List, [], ◌∷◌, ◌++◌}
use Rattle.std.specs.List.{flat_map, range_with_len}
use Rattle.std.specs.Fmt.{decimal}
use Rattle.token_text.specs.Lines.{ended}
use Rattle.lgf_file.specs.Rows.{Cells}
use Rattle.lgf_file.specs.Plain.{cell_text, row_text}
use Rattle.plain_machine.specs.Generator.{next, state}

abbrev pub after_four : ℕ → ℕ
after_four state = next (next (next (next state)))

-- The cells of the ends of an arc.
abbrev pub ends_text : (nodes state : ℕ) → List ℕ
ends_text nodes state =
    cell_text (decimal (next state % nodes))
    ++ cell_text (decimal (next (next state) % nodes))

-- The cells of its values.
abbrev pub values : (arc state : ℕ) → Cells
values arc state =
    decimal arc ∷ decimal (next state % 1000) ∷ decimal (next (next state) % 1000) ∷ []

-- The line of an arc.
abbrev pub arc_line : (nodes arc state : ℕ) → List ℕ
arc_line nodes arc state =
    ends_text nodes state ++ ended (row_text (values arc (next (next state))))

-- The line of a node.
abbrev pub node_line : ℕ → List ℕ
node_line node = ended (row_text (decimal node ∷ []))

-- The lines of the first nodes.
abbrev pub nodes_text : ℕ → List ℕ
nodes_text count = flat_map node_line (range_with_len 0 count)

-- The lines of the first arcs.
abbrev pub arcs_text : (seed nodes count : ℕ) → List ℕ
arcs_text seed nodes count =
    flat_map (λ arc. arc_line nodes arc (state seed (4 * arc))) (range_with_len 0 count)
