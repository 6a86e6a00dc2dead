-- Valid documents, and the bytes that spell them.
use Rattle.std.specs.Prelude.{◌≡◌, ℕ, ◌<◌, ◌≤◌, true, false, List, [], ◌∷◌, length, All, codes}
use Rattle.std.specs.Prelude.{slice_index_or, map, Some, None, Option, position}
use Rattle.std.specs.Str.{bytes_eq}
use Rattle.base_items.specs.declared.limits.TheConstants.{MAX_NODES, MAX_ARCS}
use Rattle.token_text.specs.Lines.{lines_of}
use Rattle.token_text.specs.Names.{is_among, has_twice}
use Rattle.lgf_file.specs.Sections.{Line, Part, part, rows_in}
use Rattle.lgf_file.specs.Rows.{Cells, Rows}
use Rattle.lgf_file.specs.declared.sections.Section.TheVariants.{Nodes, Arcs, Attributes}
use Rattle.lgf_file.specs.declared.documents.Doc.{Doc}
use Rattle.lgf_file.specs.declared.documents.Table.{Table}
use Rattle.lgf_file.specs.declared.documents.Link.{Link}

-- The name of the column of labels.
abbrev pub label : List ℕ
label = codes "label"

-- The token that stands in place of the columns of arcs where there are none.
abbrev pub dash : List ℕ
dash = codes "-"

-- The place of the column of labels, if there is one.
abbrev pub label_place : Cells → Option ℕ
label_place columns = position (bytes_eq label) columns

-- The token of a row at a place, if there is one.
abbrev pub cell_at : Option ℕ → Cells → List ℕ
cell_at None cells = []
cell_at (Some place) cells = slice_index_or cells place []

-- The label of a row.
abbrev pub label_in : Cells → Cells → List ℕ
label_in columns cells = cell_at (label_place columns) cells

-- The labels of rows.
abbrev pub labels_of : Cells → List Cells → Cells
labels_of columns rows = map (label_in columns) rows

-- The labels of the nodes.
abbrev pub node_labels : Table → Cells
node_labels table = labels_of table.columns table.rows

-- The labels of arcs, which they have where they have a column of labels.
abbrev pub arc_labels : Cells → List Link → Cells
arc_labels columns arcs = labels_of columns (map (λ arc. arc.values) arcs)

-- Names of columns: they differ, and none of them is -.
pub record AreColumns (columns : Cells) : Type 0 where
  pub differ : has_twice columns ≡ false
  pub no_dash : is_among dash columns ≡ false

-- Nodes: one of the columns has their labels, which differ, each row has one token a column, and
-- there are at most 1,048,576.
pub record IsTable (table : Table) : Type 0 where
  pub columns_ok : AreColumns table.columns
  pub labelled : is_among label table.columns ≡ true
  pub wide : All (λ cells. length cells ≡ length table.columns) table.rows
  pub labels_differ : has_twice (node_labels table) ≡ false
  pub few : length table.rows ≤ MAX_NODES

-- The arc goes from a node to a node, by the places of their labels, and has one token a column.
abbrev pub IsLink : Cells → Cells → Link → Type 0
IsLink labels columns arc =
    (arc.from < length labels) × (arc.to < length labels) × (length arc.values ≡ length columns)

-- Arcs between nodes with these labels: where one of the columns has the labels of arcs, these
-- differ, and there are at most 4,194,304 arcs.
pub record AreArcs (labels columns : Cells) (arcs : List Link) : Type 0 where
  pub columns_ok : AreColumns columns
  pub links : All (IsLink labels columns) arcs
  pub labels_differ : is_among label columns ≡ true → has_twice (arc_labels columns arcs) ≡ false
  pub few : length arcs ≤ MAX_ARCS

-- Attributes: their names differ.
abbrev pub AreAttributes : List (List ℕ × List ℕ) → Type 0
AreAttributes attributes = has_twice (map (λ attribute. attribute.0) attributes) ≡ false

-- A valid document.
pub record IsDoc (doc : Doc) : Type 0 where
  pub nodes_ok : IsTable doc.nodes
  pub arcs_ok : AreArcs (node_labels doc.nodes) doc.arc_columns doc.arcs
  pub attributes_ok : AreAttributes doc.attributes

-- The label at a place.
abbrev pub label_at : Cells → ℕ → List ℕ
label_at labels place = slice_index_or labels place []

-- The tokens of an arc: the labels of its source and of its target, and its values.
abbrev pub link_cells : Cells → Link → Cells
link_cells labels arc = label_at labels arc.from ∷ label_at labels arc.to ∷ arc.values

-- The tokens of the first line of the arcs: the names of the columns, or a single - where there are
-- none.
abbrev pub head_cells : Cells → Cells
head_cells [] = dash ∷ []
head_cells (column ∷ columns) = column ∷ columns

-- The rows of arcs behind their head.
abbrev pub arc_rows : Cells → Cells → List Link → List Cells
arc_rows labels columns arcs = head_cells columns ∷ map (link_cells labels) arcs

-- The tokens of an attribute: its name and its value.
abbrev pub attribute_cells : List ℕ × List ℕ → Cells
attribute_cells attribute = attribute.0 ∷ attribute.1 ∷ []

-- The lines are those of the nodes. A section without any line has the sole column of labels and no
-- nodes.
abbrev pub NodesSpell : List Line → Table → Type 0
NodesSpell [] table = (table.columns ≡ label ∷ []) × (table.rows ≡ [])
NodesSpell (line ∷ lines) table = Rows (line ∷ lines) (table.columns ∷ table.rows)

-- The lines are those of the arcs. A section without any line has no column and no arcs.
abbrev pub ArcsSpell : List Line → Cells → Cells → List Link → Type 0
ArcsSpell [] labels columns arcs = (columns ≡ []) × (arcs ≡ [])
ArcsSpell (line ∷ lines) labels columns arcs = Rows (line ∷ lines) (arc_rows labels columns arcs)

-- The lines are those of the attributes.
abbrev pub AttributesSpell : List Line → List (List ℕ × List ℕ) → Type 0
AttributesSpell lines attributes = Rows lines (map attribute_cells attributes)

-- The bytes spell the document: there are sections of nodes and of arcs, the first one of the nodes
-- stands before the first one of the arcs, and the rows of the first section of each kind are those
-- of the document, which is valid.
pub record Spells (bytes : List ℕ) (doc : Doc) : Type 0 where
  pub valid : IsDoc doc
  pub node_part : Part
  pub arc_part : Part
  pub node_part_is : part Nodes (lines_of bytes) ≡ Some node_part
  pub arc_part_is : part Arcs (lines_of bytes) ≡ Some arc_part
  pub in_order : node_part.at < arc_part.at
  pub nodes_are : NodesSpell node_part.rows doc.nodes
  pub arcs_are : ArcsSpell arc_part.rows (node_labels doc.nodes) doc.arc_columns doc.arcs
  pub attributes_are : AttributesSpell (rows_in (part Attributes (lines_of bytes))) doc.attributes
