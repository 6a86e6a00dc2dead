-- What the readers of rows hold. No public clause cites this module.
use Rattle.std.specs.Prelude.{◌≡◌, ℕ, ◌<◌, ◌≤◌, ◌&&◌, Bool, true, List, [], ◌∷◌}
use Rattle.std.specs.Prelude.{length, map, All, Some, None, Option}
use Rattle.base_items.specs.declared.limits.TheConstants.{MAX_NODES}
use Rattle.token_text.specs.Names.{is_among}
use Rattle.lgf_file.specs.Rows.{Cells}
use Rattle.lgf_file.specs.Documents.{label, label_at, label_in, label_place, labels_of, arc_labels}
use Rattle.lgf_file.specs.Documents.{AreColumns, IsLink, arc_rows}
use Rattle.lgf_file.specs.Faults.{first_cell, second_cell}
use Rattle.lgf_file.specs.declared.heads.Head.{Head}
use Rattle.lgf_file.specs.declared.documents.Link.{Link}

-- The place of the labels is that among the columns.
abbrev pub IsHead : Head → Type 0
IsHead head = head.label_place ≡ label_place head.columns

-- The rows of nodes that were read, their head among them.
abbrev pub nodes_read : Option Head → List Cells → List Cells
nodes_read None rows = []
nodes_read (Some head) rows = head.columns ∷ rows

-- The columns that the head names, or the sole column of labels.
abbrev pub columns_or_label : Option Head → Cells
columns_or_label None = label ∷ []
columns_or_label (Some head) = head.columns

-- Rows of nodes, with their labels.
pub record AreNodes (head : Head) (rows : List Cells) (labels : Cells) : Type 0 where
  pub head_ok : IsHead head
  pub labels_are : labels ≡ labels_of head.columns rows

-- Nothing was read yet, or a head and such rows.
abbrev pub NodesSound : Option Head → List Cells → Cells → Type 0
NodesSound None rows labels = (rows ≡ []) × (labels ≡ [])
NodesSound (Some head) rows labels = AreNodes head rows labels

-- The rows of arcs that were read, their head among them.
abbrev pub arcs_read : Cells → Option Head → List Link → List Cells
arcs_read nodes None arcs = []
arcs_read nodes (Some head) arcs = arc_rows nodes head.columns arcs

-- The columns that the head names, or none.
abbrev pub columns_or_none : Option Head → Cells
columns_or_none None = []
columns_or_none (Some head) = head.columns

-- Arcs between nodes with these labels, with their own labels, if they have any.
pub record HoldsArcs (nodes : Cells) (head : Head) (arcs : List Link) (labels : Cells) : Type 0
  where
    pub few_nodes : length nodes ≤ MAX_NODES
    pub head_ok : IsHead head
    pub columns_ok : AreColumns head.columns
    pub links : All (IsLink nodes head.columns) arcs
    pub labels_are : is_among label head.columns ≡ true → labels ≡ arc_labels head.columns arcs

-- Nothing was read yet, or a head and such arcs.
abbrev pub ArcsSound : Cells → Option Head → List Link → Cells → Type 0
ArcsSound nodes None arcs labels = (length nodes ≤ MAX_NODES) × (arcs ≡ []) × (labels ≡ [])
ArcsSound nodes (Some head) arcs labels = HoldsArcs nodes head arcs labels

-- Attributes, with their names.
abbrev pub AttributesSound : List (List ℕ × List ℕ) → Cells → Type 0
AttributesSound attributes names = names ≡ map (λ attribute. attribute.0) attributes

-- The places of the labels that an arc has as its source and its target.
pub record IsEnds (labels cells : Cells) (from to : ℕ) : Type 0 where
  pub from_in : from < length labels
  pub to_in : to < length labels
  pub from_is : label_at labels from ≡ first_cell cells
  pub to_is : label_at labels to ≡ second_cell cells

-- Whether arcs have labels and the label of these values is one of the others.
abbrev pub is_label_among : Cells → Cells → Cells → Bool
is_label_among columns labels values =
    is_among label columns && is_among (label_in columns values) labels
