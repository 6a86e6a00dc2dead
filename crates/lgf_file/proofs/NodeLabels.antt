-- The place of the column of labels, and the label of a node.
use Rattle.std.proofs.Common.{◌≡◌, ℕ, suc, ◌+◌, ◌<◌, Bool, true, false, cond, List, [], ◌∷◌, Some}
use Rattle.std.proofs.Common.{None, Option, length, get_or, refl, sym, ap, ◌∙◌, arith}
use Rattle.std.specs.Prelude.{IfSome, nat_lt, not, is_some, ◌||◌}
use Rattle.std.proofs.lemmas.List.Quantifiers.{position-Some}
use Rattle.std.proofs.lemmas.Bool.{lt-ltb}
use Rattle.std.specs.Str.{bytes_eq}
use Prim.Native.Nat.compare
use Rattle.std.specs.List.{list_any, position_or_len}
use Rattle.std.proofs.lemmas.List.{get_or-map}
use Rattle.token_text.specs.Names.{is_among}
use Rattle.lgf_file.specs.Rows.{Cells}
use Rattle.lgf_file.specs.Documents.{label, label_place, cell_at, label_in, label_at, node_labels}
use Rattle.lgf_file.specs.declared.documents.Table.{Table}

-- The place of the first item that passes the test is one of theirs exactly where any does.
first_within : {Item : Type 0} (test : Item → Bool) (items : List Item)
    → nat_lt (position_or_len test items) (length items) ≡ list_any test items
first_within test [] = refl
first_within test (item ∷ items) = by_test (test item) (first_within test items)
  where
    by_test : (passes : Bool)
        → nat_lt (position_or_len test items) (length items) ≡ list_any test items
        → nat_lt (cond (not passes) (1 + position_or_len test items) 0) (length (item ∷ items))
        ≡ passes || list_any test items
    by_test true rest = lt-ltb 0 (length (item ∷ items)) (omega arith)
    by_test false rest =
        let more : 1 + position_or_len test items ≡ suc (position_or_len test items) =
        omega arith in
        rw (more, compare.suc-suc) rest

-- There is a place of the labels exactly where a column is named label.
pub labelled : (columns : Cells) → is_some (label_place columns) ≡ is_among label columns
labelled columns = by_test _ _ ∙ first_within (bytes_eq label) columns
  where
    by_test : (test : Bool) (place : ℕ) → is_some (cond test (Some place) None) ≡ test
    by_test true place = refl
    by_test false place = refl

-- The place of the labels is that of a column.
pub place_within : (columns : Cells) (place : ℕ) → label_place columns ≡ Some place
    → place < length columns
place_within columns place is = (position-Some (bytes_eq label) columns place [] is).0

-- If there is one, it is that of a token of each row with as many.
pub place_in_cells : (columns cells : Cells) (found : Option ℕ) → found ≡ label_place columns
    → length cells ≡ length columns → IfSome found (λ place. place < length cells)
place_in_cells columns cells None is wide = tt
place_in_cells columns cells (Some place) is wide =
    omega (arith, place_within columns place (sym is), wide)

-- Where no column has the labels, they are empty.
pub no_label_of_row : (table : Table) (row : ℕ) → None ≡ label_place table.columns
    → row < length table.rows → [] ≡ label_at (node_labels table) row
no_label_of_row table row none within =
    ap (λ own. cell_at own (get_or table.rows row [])) none
    ∙ sym (get_or-map (label_in table.columns) table.rows row [] [] within)
