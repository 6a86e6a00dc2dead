-- The written document.
use Rattle.std.specs.Prelude.{ℕ, List, [], ◌∷◌, ◌++◌, map, codes}
use Rattle.std.specs.List.{flat_map}
use Rattle.token_text.specs.Written.{written}
use Rattle.token_text.specs.Lines.{ended}
use Rattle.lgf_file.specs.Rows.{Cells}
use Rattle.lgf_file.specs.Documents.{node_labels, link_cells}
use Rattle.lgf_file.specs.declared.documents.Doc.{Doc}
use Rattle.lgf_file.specs.declared.documents.Table.{Table}
use Rattle.lgf_file.specs.declared.documents.Link.{Link}

-- A token and a tab.
abbrev pub cell_text : List ℕ → List ℕ
cell_text cell = written cell ++ 9 ∷ []

-- Tokens, each followed by a tab.
abbrev pub row_text : Cells → List ℕ
row_text cells = flat_map cell_text cells

-- The first line of the arcs: two tabs and the names of the columns, or - where there are none.
abbrev pub head_text : Cells → List ℕ
head_text [] = codes "-"
head_text (column ∷ columns) = 9 ∷ 9 ∷ row_text (column ∷ columns)

-- The name of an attribute, a blank of byte 32, and its value.
abbrev pub attribute_text : List ℕ × List ℕ → List ℕ
attribute_text attribute = written attribute.0 ++ 32 ∷ written attribute.1

-- The lines of the nodes.
abbrev pub node_lines : Table → List (List ℕ)
node_lines table = codes "@nodes" ∷ row_text table.columns ∷ map row_text table.rows

-- The lines of arcs between nodes with these labels.
abbrev pub arc_lines : Cells → Cells → List Link → List (List ℕ)
arc_lines labels columns arcs =
    codes "@arcs" ∷ head_text columns ∷ map (λ arc. row_text (link_cells labels arc)) arcs

-- The lines of the attributes, if there are any.
abbrev pub attribute_lines : List (List ℕ × List ℕ) → List (List ℕ)
attribute_lines [] = []
attribute_lines (attribute ∷ attributes) =
    codes "@attributes" ∷ map attribute_text (attribute ∷ attributes)

-- The lines of a document.
abbrev pub plain_lines : Doc → List (List ℕ)
plain_lines doc =
    node_lines doc.nodes
    ++ (arc_lines (node_labels doc.nodes) doc.arc_columns doc.arcs ++ attribute_lines
    doc.attributes)

-- The written document: its lines, each with its end.
abbrev pub plain : Doc → List ℕ
plain doc = flat_map ended (plain_lines doc)
