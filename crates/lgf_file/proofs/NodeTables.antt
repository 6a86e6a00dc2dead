-- Nodes: rows in order are those of one table.
use Rattle.std.proofs.Common.{◌≡◌, ℕ, ◌<◌, List, [], ◌∷◌, length, None, Some, Option, sym, refl}
use Rattle.std.proofs.Common.{◌∙◌, arith, take, get_or, false}
use Rattle.std.proofs.lemmas.List.{length-take-le, get_or_default}
use Rattle.base_items.specs.declared.limits.TheConstants.{MAX_NODES}
use Rattle.token_text.specs.Names.{is_among}
use Rattle.lgf_file.specs.Rows.{Cells}
use Rattle.lgf_file.specs.Documents.{label_in, labels_of, IsTable, NodesSpell, label, node_labels}
use Rattle.lgf_file.specs.Faults.{node_row_fault, node_fault, columns_fault, room_fault}
use Rattle.lgf_file.specs.Faults.{width_fault, labels_read, twice_fault}
use Rattle.lgf_file.specs.Readers.{NodesSound, nodes_read, columns_or_label}
use Rattle.lgf_file.specs.Reading.{InOrder, AllRead}
use Rattle.lgf_file.specs.Sections.{Line}
use Rattle.lgf_file.specs.declared.heads.Head.{Head}
use Rattle.lgf_file.specs.declared.faults.LgfKind.TheVariants.{TwiceLabel, NoLabel}
use Rattle.lgf_file.specs.declared.documents.Table.{Table}
use Rattle.lgf_file.proofs.RowFaults.{neither, room_open, width_right, columns_right}
use Rattle.lgf_file.proofs.RowFaults.{width_is, both_none, untold, held, columns_are, room_is}
use Rattle.lgf_file.proofs.InOrderRows.{in_order_at, in_order_from, few_rows, names_differ}
use Rattle.lgf_file.proofs.InOrderRows.{name_apart}
use Rattle.lgf_file.proofs.Readings.{rows_one}

-- ---- a node behind others

-- A node isn't at fault exactly where there is room for it, it has a token a column, and its label
-- isn't among the others.
module _ (columns : Cells) (rows : List Cells) (cells : Cells) where
  pub node_right : (length rows ≡ MAX_NODES → ⊥) → length cells ≡ length columns
      → is_among (label_in columns cells) (labels_of columns rows) ≡ false
      → node_row_fault columns rows cells ≡ None
  node_right room wide apart =
      let fresh : twice_fault TwiceLabel (label_in columns cells) (labels_of columns rows) ≡ None =
      rw apart refl in
      neither _ _ (room_open MAX_NODES rows room)
      (neither _ _ (width_right (length columns) cells wide) fresh)

  node_is : node_row_fault columns rows cells ≡ None
      → (length rows ≡ MAX_NODES → ⊥) × (length cells ≡ length columns)
      × (is_among (label_in columns cells) (labels_of columns rows) ≡ false)
  node_is none =
      let room = both_none (room_fault MAX_NODES rows) _ none in
      let rest = both_none (width_fault (length columns) cells) _ room.1 in
      (room_is _ _ room.0, width_is _ _ rest.0, untold TwiceLabel _ rest.1)

-- ---- the rows of a table are in order, and rows in order are those of a table

module _ (table : Table) where
  pub nodes_fine : IsTable table → InOrder node_fault [] (table.columns ∷ table.rows)
  nodes_fine right = (
    neither _ _ (columns_right table.columns right.columns_ok) (rw right.labelled refl),
    in_order_from node_fault (table.columns ∷ []) table.rows (λ k within.
        node_right table.columns (take k table.rows) (get_or table.rows k [])
        (λ full. omega (arith, right.few, length-take-le k table.rows (omega arith)))
        (right.wide k [] within)
        (name_apart (label_in table.columns) table.rows [] right.labels_differ k within)),
  )

  pub nodes_right : InOrder node_fault [] (table.columns ∷ table.rows) → IsTable table
  nodes_right order =
      let head = both_none (columns_fault table.columns) _ order.0 in
      let at_place = λ (k : ℕ) (within : k < length table.rows).
      node_is table.columns (take k table.rows) (get_or table.rows k [])
      (in_order_at node_fault (table.columns ∷ []) table.rows order.1 k within) in
      record {
        columns_ok = columns_are table.columns head.0;
        labelled = held NoLabel (is_among label table.columns) head.1;
        wide = λ k none within.
            rw (get_or_default table.rows k none [] within) (at_place k within).1;
        labels_differ = names_differ (label_in table.columns) table.rows [] (λ k within.
            (at_place k within).2);
        few = few_rows MAX_NODES table.rows (λ k within. (at_place k within).0);
      }

-- The table that was read is one, with the sole column of labels where no row was read.
pub table_read : (head : Option Head) (rows : List Cells) (labels : Cells)
    → NodesSound head rows labels → InOrder node_fault [] (nodes_read head rows)
    → IsTable (record { columns = columns_or_label head; rows = rows })
table_read None rows labels sound order =
    rw sound.0 (nodes_right (record { columns = label ∷ []; rows = [] }) (refl, tt))
table_read (Some head) rows labels sound order = nodes_right _ order

-- The nodes that the lines say.
pub record NodesSaid (lines : List Line) (read : List Cells) : Type 0 where
  pub table : Table
  pub right : IsTable table
  pub spells : NodesSpell lines table
  pub labels_are : labels_read read ≡ node_labels table

pub nodes_said : (lines : List Line) (read : List Cells) → AllRead node_fault [] lines read
    → NodesSaid lines read
nodes_said [] [] all = record {
  table = record { columns = label ∷ []; rows = [] };
  right = nodes_right _ (refl, tt);
  spells = (refl, refl);
  labels_are = refl;
}
nodes_said [] (cells ∷ read) all = absurd all.read_is
nodes_said (line ∷ lines) [] all = absurd all.read_is
nodes_said (line ∷ lines) (columns ∷ rows) all = record {
  table = record { columns = columns; rows = rows };
  right = nodes_right _ all.fine;
  spells = all.read_is;
  labels_are = refl;
}

-- ---- lines are those of one table of nodes alone

-- Lines are those of one table of nodes at most.
pub nodes_one : (lines : List Line) (one other : Table) → NodesSpell lines one
    → NodesSpell lines other → one ≡ other
nodes_one lines one other spells other_spells =
    let same = rows_are lines spells other_spells in
    λ i. record { columns = same.0 i; rows = same.1 i }
  where
    rows_are : (own : List Line) → NodesSpell own one → NodesSpell own other
        → (one.columns ≡ other.columns) × (one.rows ≡ other.rows)
    rows_are [] first second = (first.0 ∙ sym second.0, first.1 ∙ sym second.1)
    rows_are (line ∷ more) first second =
        let same = rows_one (line ∷ more) (one.columns ∷ one.rows) (other.columns ∷ other.rows)
        first second in
        (cc, cc)
