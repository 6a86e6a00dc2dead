-- The world of a document, and the document of a world.
use Rattle.std.specs.Prelude.{ℕ, ◌==◌, List, [], ◌∷◌, map, filter, position, remove, fold, Option}
use Rattle.std.specs.Prelude.{None, Some, unwrap_or, is_some}
use Rattle.std.specs.Str.{bytes_eq}
use Rattle.std.specs.Fmt.{decimal}
use Rattle.std.specs.FinMap as fin
use Rattle.base_items.specs.declared.items.ItemSort.{ItemSort}
use Rattle.base_items.specs.declared.items.ItemSort.TheVariants.{Node, Arc}
use Rattle.lgf_file.specs.Rows.{Cells}
use Rattle.lgf_file.specs.Documents.{label as label_column, label_at}
use Rattle.lgf_file.specs.declared.documents.Doc.{Doc}
use Rattle.lgf_file.specs.declared.documents.Link.{Link}
use Rattle.script_words.specs.declared.commands.GuardWord.{GuardWord}
use Rattle.plain_digraph.specs.Digraph as plain
use Rattle.plain_digraph.specs.Items.{rising, source_of, target_of}
use Rattle.plain_digraph.specs.PlainSteps.{AddNode, AddArc}
use Rattle.plain_world.specs.Tables.{Name, Named, under}
use Rattle.plain_world.specs.World.{World, Attached, Held, Texts, Plain, attached, label_of}
use Rattle.plain_world.specs.Values.{type_of, text_at, written_at}
use Rattle.plain_world.specs.Following.{follow, labelled, new_item}
use Rattle.plain_world.specs.Effects.{with_maps, attribute_text}

-- ---- loading

-- the place of the column of labels, if there is one
abbrev pub label_place : Cells → Option ℕ
label_place columns = position (bytes_eq label_column) columns

-- the label of an item: the cell in the column of labels, or where there is none its id in decimal
abbrev pub item_label : Option ℕ → Cells → ℕ → Name
item_label None cells id = decimal id
item_label (Some place) cells id = label_at cells place

-- the cells but that in the column of labels
abbrev pub item_texts : Option ℕ → Cells → Cells
item_texts None cells = cells
item_texts (Some place) cells = remove cells place

-- the item has these texts in the maps, one in each
abbrev pub with_texts : List (Named Held) → ℕ → Cells → List (Named Held)
with_texts (e ∷ maps) id (text ∷ texts) =
    under e.name (written_at e.value id text) ∷ with_texts maps id texts
with_texts maps id texts = maps

-- the label and the texts of a row at an item
abbrev pub described : World → ItemSort → ℕ → Option ℕ → Cells → World
described world sort id place cells =
    labelled (with_maps world sort
    (with_texts (attached world sort).maps id (item_texts place cells)))
    sort id (item_label place cells id)

abbrev pub with_row : Option ℕ → World → Cells → World
with_row place world cells =
    described (follow world AddNode) Node (new_item world.graph Node) place cells

abbrev pub with_link : Option ℕ → World → Link → World
with_link place world link =
    described (follow world (AddArc link.from link.to)) Arc (new_item world.graph Arc) place
    link.values

-- no items, and a map of texts for each column but that of the labels
abbrev pub no_items : Cells → Attached
no_items columns = record {
  labels = fin.empty;
  maps = map (λ column. under column (Texts fin.empty)) (item_texts (label_place columns) columns);
}

-- the world of a document without its rows
abbrev pub opened : Doc → List GuardWord → World
opened doc pool = record {
  graph = plain.empty;
  nodes = no_items doc.nodes.columns;
  arcs = no_items doc.arc_columns;
  guards = [];
  pool = pool;
  snapshots = [];
  views = [];
  attributes = map (λ attribute. under attribute.0 (Plain attribute.1)) doc.attributes;
}

-- the world of a document, with these boxes: its rows in their order
abbrev pub load : Doc → List GuardWord → World
load doc pool =
    fold (with_link (label_place doc.arc_columns))
    (fold (with_row (label_place doc.nodes.columns)) (opened doc pool) doc.nodes.rows) doc.arcs

-- ---- the document of a world

-- the maps with values of their own
abbrev pub value_maps : List (Named Held) → List (Named Held)
value_maps maps = filter (λ e. is_some (type_of e.value)) maps

abbrev pub columns_of : Attached → Cells
columns_of items = label_column ∷ map (λ e. e.name) (value_maps items.maps)

abbrev pub cells_of : World → ItemSort → ℕ → Cells
cells_of world sort id =
    label_of world sort id ∷ map (λ e. text_at e.value id) (value_maps (attached world sort).maps)

-- the row of a node among those by rising id
abbrev pub row_of : World → ℕ → ℕ
row_of world node = unwrap_or (position (λ other. other == node) (rising world.graph Node)) 0

abbrev pub link_of : World → ℕ → Link
link_of world arc = record {
  from = row_of world (source_of world.graph arc);
  to = row_of world (target_of world.graph arc);
  values = cells_of world Arc arc;
}

-- rows by rising id, the column of labels in front of the maps, and the attributes, a tied one with
-- the label
abbrev pub doc_of : World → Doc
doc_of world = record {
  nodes = record {
    columns = columns_of world.nodes;
    rows =
        map (cells_of world Node) (rising world.graph Node);
  };
  arc_columns = columns_of world.arcs;
  arcs = map (link_of world) (rising world.graph Arc);
  attributes = map (λ e. (e.name, attribute_text world e.value)) world.attributes;
}
