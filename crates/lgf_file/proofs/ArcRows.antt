-- A row of arcs behind others.
use Rattle.std.proofs.Common.{◌≡◌, ◌<◌, true, false, List, [], ◌∷◌, None, length, ⊎_elim}
use Rattle.std.proofs.Common.{refl, ap, ◌∙◌, arith, map, ℕ, Bool, ◌++◌, Some, sym, ◌+◌}
use Rattle.std.specs.Str.{bytes_eq}
use Rattle.std.proofs.lemmas.Bool.{or_cases, and_right}
use Rattle.std.proofs.lemmas.Slice.Eq.{bytes_eq-Decides}
use Rattle.std.specs.Prelude.{◌&&◌, if◌then◌else◌, is_some}
use Rattle.std.proofs.lemmas.List.{map_push, length-map}
use Rattle.base_items.specs.declared.limits.TheConstants.{MAX_ARCS}
use Rattle.token_text.specs.Names.{is_among, IsNoneOf}
use Rattle.token_text.proofs.NamePlaces.{test_from_none}
use Rattle.lgf_file.specs.Rows.{Cells}
use Rattle.lgf_file.specs.Documents.{dash, head_cells, link_cells, arc_rows, label, label_place}
use Rattle.lgf_file.specs.Documents.{label_in, labels_of, arc_labels}
use Rattle.lgf_file.specs.Readers.{is_label_among, IsEnds}
use Rattle.lgf_file.specs.Faults.{arc_label_fault, twice_fault, values_of, arc_row_fault}
use Rattle.lgf_file.specs.Faults.{ends_fault, width_fault, first_cell, second_cell}
use Rattle.lgf_file.specs.declared.documents.Link.{Link}
use Rattle.lgf_file.specs.declared.faults.LgfKind.TheVariants.{TwiceLabel, UnknownLabel}
use Rattle.lgf_file.proofs.NameLists.{among_at}
use Rattle.lgf_file.proofs.NodeLabels.{labelled}
use Rattle.lgf_file.proofs.RowFaults.{room_open, passed}

-- ---- the row that names the columns of arcs

-- A sole token that is - among these.
pub sole_dash : (cells : Cells) → length cells ≡ 1 → is_among dash cells ≡ true → dash ∷ [] ≡ cells
sole_dash [] one among = absurd (omega arith)
sole_dash (cell ∷ []) one among = ⊎_elim
    (λ (same : bytes_eq dash cell ≡ true). ap (λ own. own ∷ [])
    ((bytes_eq-Decides dash cell).0 same))
    (λ (other : false ≡ true). absurd (cc))
    (or_cases (bytes_eq dash cell) false among)
sole_dash (cell ∷ other ∷ cells) one among = absurd (omega arith)

-- Names of columns, if there is one, are the tokens of their row.
pub some_columns : (columns : Cells) → 0 < length columns → head_cells columns ≡ columns
some_columns [] some = absurd (omega arith)
some_columns (column ∷ columns) some = refl

-- The row of the columns is all that was read while there are no arcs.
pub head_alone : (nodes columns : Cells) (arcs : List Link) (cells : Cells) → arcs ≡ []
    → head_cells columns ≡ cells → arc_rows nodes columns arcs ≡ cells ∷ []
head_alone nodes columns arcs cells none same = rw (none, same) refl

-- ---- the column of the labels of arcs, and the label of an arc behind those of others

-- The values of arcs stand behind their sources and targets.
pub values_behind : (labels : Cells) (arcs : List Link)
    → map values_of (map (link_cells labels) arcs) ≡ map (λ arc. arc.values) arcs
values_behind labels [] = refl
values_behind labels (arc ∷ arcs) = ap (λ own. arc.values ∷ own) (values_behind labels arcs)

-- Where no column has the labels, none is named label.
pub none_labelled : (columns : Cells) → label_place columns ≡ None → is_among label columns ≡ false
none_labelled columns none = sym (labelled columns) ∙ ap is_some none

-- The label of an arc stood before where it is among the labels that were seen.
label_fault : (nodes columns : Cells) (arcs : List Link) (labels values : Cells)
    → (is_among label columns ≡ true → labels ≡ arc_labels columns arcs)
    → arc_label_fault columns (map values_of (map (link_cells nodes) arcs)) values
    ≡ (if is_label_among columns labels values then Some TwiceLabel else None)
label_fault nodes columns arcs labels values seen =
    rw (values_behind nodes arcs) (by_test (is_among label columns) seen)
  where
    by_test : (test : Bool) → (test ≡ true → labels ≡ arc_labels columns arcs)
        → (if test then twice_fault TwiceLabel (label_in columns values) (arc_labels columns arcs)
        else None)
        ≡ (if test && is_among (label_in columns values) labels then Some TwiceLabel else None)
    by_test true are = rw (are refl) refl
    by_test false are = refl

-- The labels of arcs and of one more.
pub arc_labels_push : (columns : Cells) (arcs : List Link) (arc : Link)
    → arc_labels columns (arcs ++ arc ∷ []) ≡ arc_labels columns arcs
    ++ label_in columns arc.values ∷ []
arc_labels_push columns arcs arc =
    ap (labels_of columns) (map_push (λ own. own.values) arcs arc)
    ∙ map_push (label_in columns) (map (λ own. own.values) arcs) arc.values

-- ---- an arc behind others

-- The source is no node.
pub source_unknown : (nodes cells : Cells) → IsNoneOf (first_cell cells) nodes
    → ends_fault nodes cells ≡ Some UnknownLabel
source_unknown nodes cells none = rw (test_from_none (first_cell cells) nodes none) refl

-- The target is no node.
pub target_unknown : (nodes cells : Cells) → IsNoneOf (second_cell cells) nodes
    → ends_fault nodes cells ≡ Some UnknownLabel
target_unknown nodes cells none =
    ap (λ test. if test then None else Some UnknownLabel)
    (and_right (is_among (first_cell cells) nodes) (is_among (second_cell cells) nodes)
    (test_from_none (second_cell cells) nodes none))

-- Where there is room for an arc with as many tokens as columns and with nodes as its ends, nothing
-- but its label may be at fault with its row.
pub arc_fault_is : (nodes columns : Cells) (arcs : List Link) (labels cells : Cells) (from to : ℕ)
    → (is_among label columns ≡ true → labels ≡ arc_labels columns arcs)
    → (length arcs ≡ MAX_ARCS → ⊥) → width_fault (2 + length columns) cells ≡ None
    → IsEnds nodes cells from to
    → arc_row_fault nodes columns (map (link_cells nodes) arcs) cells
    ≡ (if is_label_among columns labels (values_of cells) then Some TwiceLabel else None)
arc_fault_is nodes columns arcs labels cells from to seen room wide ends =
    let long = length-map arcs (link_cells nodes) in
    let from_among = rw ends.from_is at (among_at nodes from ends.from_in) in
    let to_among = rw ends.to_is at (among_at nodes to ends.to_in) in
    passed _ _ (room_open MAX_ARCS _ (λ full. room (sym long ∙ full))) ∙ passed _ _ wide
    ∙ passed (ends_fault nodes cells) _ (rw (from_among, to_among) refl)
    ∙ label_fault nodes columns arcs labels (values_of cells) seen
