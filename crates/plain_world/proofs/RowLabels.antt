-- The labels that rows get, and that these differ; the names of the maps that columns become.
use Rattle.std.proofs.Common.{◌≡◌, ℕ, suc, ◌+◌, ◌<◌, true, false, List, [], ◌∷◌, ◌++◌, length, take}
use Rattle.std.proofs.Common.{drop, drop-cons, Option, Some, None, refl, sym, ap, ◌∙◌, arith}
use Rattle.std.specs.Prelude.{◌^◌, slice_index_or}
use Rattle.std.specs.Str.{bytes_eq}
use Rattle.std.specs.Fmt.{decimal}
use Rattle.std.proofs.lemmas.Fmt.{decimal_injective}
use Rattle.std.proofs.lemmas.Bool.{or_parts, or_from, false_from_ne_true}
use Rattle.std.proofs.lemmas.List.{take-append-drop}
use Rattle.std.proofs.lemmas.List.Folds.{list_any_at, list_any-append}
use Rattle.std.proofs.lemmas.List.Quantifiers.{position-Some}
use Rattle.std.proofs.lemmas.Slice.Eq.{bytes_eq-Decides}
use Rattle.token_text.specs.Names.{is_among, has_twice}
use Rattle.lgf_file.specs.Rows.{Cells}
use Rattle.lgf_file.specs.Documents.{label, dash, labels_of, cell_at, AreColumns}
use Rattle.lgf_file.specs.Documents as document
use Rattle.lgf_file.proofs.NameLists.{twice_front}
use Rattle.lgf_file.proofs.ArcRows.{none_labelled}
use Rattle.plain_world.specs.Documents.{label_place, item_label, item_texts}

-- the labels of rows, of which the first is that of the item with this id
abbrev pub row_labels : Option ℕ → ℕ → List Cells → List (List ℕ)
row_labels place id [] = []
row_labels place id (cells ∷ rows) = item_label place cells id ∷ row_labels place (suc id) rows

-- a decimal is none of those of larger numbers
decimal_apart : (number id : ℕ) (rows : List Cells) → number < id → id + length rows < 2 ^ 64
    → is_among (decimal number) (row_labels None id rows) ≡ false
decimal_apart number id [] low small = refl
decimal_apart number id (cells ∷ rows) low small =
    let differ : bytes_eq (decimal number) (decimal id) ≡ false =
    false_from_ne_true (bytes_eq (decimal number) (decimal id)) (λ same.
    let equal : number ≡ id =
    decimal_injective number id (omega (arith, low, small)) (omega (arith, small))
    ((bytes_eq-Decides (decimal number) (decimal id)).0 same) in
    absurd (omega (arith, equal, low))) in
    or_from (bytes_eq (decimal number) (decimal id))
    (is_among (decimal number) (row_labels None (suc id) rows)) differ
    (decimal_apart number (suc id) rows (omega (arith, low)) (omega (arith, small)))

decimals_differ : (id : ℕ) (rows : List Cells) → id + length rows < 2 ^ 64
    → has_twice (row_labels None id rows) ≡ false
decimals_differ id [] small = refl
decimals_differ id (cells ∷ rows) small =
    or_from (is_among (decimal id) (row_labels None (suc id) rows))
    (has_twice (row_labels None (suc id) rows))
    (decimal_apart id (suc id) rows (omega arith) (omega (arith, small)))
    (decimals_differ (suc id) rows (omega (arith, small)))

-- labels in a column are those of its rows
column_labels : (columns : Cells) (place id : ℕ) (rows : List Cells)
    → Some place ≡ document.label_place columns
    → row_labels (Some place) id rows ≡ labels_of columns rows
column_labels columns place id [] is = refl
column_labels columns place id (cells ∷ rows) is =
    λ i. cell_at (is i) cells ∷ column_labels columns place (suc id) rows is i

-- where there is a column of labels, it is one of the columns
column_among : (columns : Cells) (place : ℕ) → label_place columns ≡ Some place
    → is_among label columns ≡ true
column_among columns place is =
    let at = position-Some (bytes_eq label) columns place [] is in
    list_any_at (bytes_eq label) columns place [] at.0 at.1

-- the labels of a document's rows differ, in their column or as decimals
pub labels_apart : (columns : Cells) (rows : List Cells) (place : Option ℕ)
    → label_place columns ≡ place
    → (is_among label columns ≡ true → has_twice (labels_of columns rows) ≡ false)
    → length rows < 2 ^ 64
    → has_twice (row_labels place 0 rows) ≡ false
labels_apart columns rows None is differ small = decimals_differ 0 rows (omega (arith, small))
labels_apart columns rows (Some place) is differ small =
    ap has_twice (column_labels columns place 0 rows (sym is))
    ∙ differ (column_among columns place is)

-- ---- columns

-- a name that is none of some isn't one of fewer
fewer_apart : (name : List ℕ) (front : Cells) (middle : List ℕ) (back : Cells)
    → is_among name (front ++ middle ∷ back) ≡ false → is_among name (front ++ back) ≡ false
fewer_apart name front middle back none =
    let parts = or_parts (is_among name front) (is_among name (middle ∷ back))
    (sym (list_any-append (bytes_eq name) front (middle ∷ back)) ∙ none) in
    let behind = or_parts (bytes_eq name middle) (is_among name back) parts.1 in
    list_any-append (bytes_eq name) front back
    ∙ or_from (is_among name front) (is_among name back) parts.0 behind.1

-- names that differ do so without one of them
fewer_differ : (front : Cells) (middle : List ℕ) (back : Cells)
    → has_twice (front ++ middle ∷ back) ≡ false
    → has_twice (front ++ back) ≡ false
fewer_differ [] middle back differ = (or_parts (is_among middle back) (has_twice back) differ).1
fewer_differ (first ∷ front) middle back differ =
    let parts = or_parts (is_among first (front ++ middle ∷ back))
    (has_twice (front ++ middle ∷ back)) differ in
    or_from (is_among first (front ++ back)) (has_twice (front ++ back))
    (fewer_apart first front middle back parts.0) (fewer_differ front middle back parts.1)

-- one of the names is none of the others
other_names : (front : Cells) (middle : List ℕ) (back : Cells)
    → has_twice (front ++ middle ∷ back) ≡ false
    → is_among middle (front ++ back) ≡ false
other_names front middle back differ =
    list_any-append (bytes_eq middle) front back
    ∙ or_from (is_among middle front) (is_among middle back)
    (twice_front front middle back differ) (behind front differ)
  where
    behind : (front : Cells) → has_twice (front ++ middle ∷ back) ≡ false
        → is_among middle back ≡ false
    behind [] apart = (or_parts (is_among middle back) (has_twice back) apart).0
    behind (first ∷ front) apart =
        behind front
        (or_parts (is_among first (front ++ middle ∷ back)) (has_twice (front ++ middle ∷ back))
        apart).1

-- the name `label` goes in front of the others
pub label_in_front : (columns : Cells) (place : Option ℕ) → AreColumns columns
    → label_place columns ≡ place → AreColumns (label ∷ item_texts place columns)
label_in_front columns None are is = record {
  differ = or_from (is_among label columns) (has_twice columns)
      (none_labelled columns is) are.differ;
  no_dash = or_from (bytes_eq dash label) (is_among dash columns) refl are.no_dash;
}
label_in_front columns (Some place) are is =
    let at = position-Some (bytes_eq label) columns place [] is in
    let front = take place columns in
    let back = drop (suc place) columns in
    let named : slice_index_or columns place [] ≡ label =
    sym ((bytes_eq-Decides label (slice_index_or columns place [])).0 at.1) in
    let split : columns ≡ front ++ label ∷ back =
    sym (take-append-drop place columns)
    ∙ ap (λ own. front ++ own) (drop-cons columns place [] at.0)
    ∙ ap (λ name. front ++ name ∷ back) named in
    let differ = sym (ap has_twice split) ∙ are.differ in
    record {
      differ = or_from (is_among label (front ++ back)) (has_twice (front ++ back))
          (other_names front label back differ) (fewer_differ front label back differ);
      no_dash = or_from (bytes_eq dash label) (is_among dash (front ++ back)) refl
          (fewer_apart dash front label back (sym (ap (is_among dash) split) ∙ are.no_dash));
    }
