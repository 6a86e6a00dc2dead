-- Rows and names with a fault and without.
use Rattle.std.proofs.Common.{◌≡◌, ℕ, ◌<◌, Bool, true, false, List, [], length, Some, None, Option}
use Rattle.std.proofs.Common.{refl, sym, ◌∙◌, arith}
use Rattle.std.specs.Prelude.{if◌then◌else◌}
use Rattle.std.specs.Str.{bytes_eq}
use Rattle.std.proofs.lemmas.List.{get_or_default}
use Rattle.std.proofs.lemmas.List.Folds.{Any-from_list_any}
use Rattle.std.proofs.lemmas.Slice.Eq.{bytes_eq-Decides}
use Rattle.token_text.specs.Names.{is_among}
use Rattle.lgf_file.specs.Rows.{Cells}
use Rattle.lgf_file.specs.Documents.{AreColumns, label_at}
use Rattle.lgf_file.specs.Faults.{or_else, columns_fault, room_fault, width_fault}
use Rattle.lgf_file.specs.declared.faults.LgfKind.{LgfKind}

-- There isn't the first of two faults.
pub passed : (one other : Option LgfKind) → one ≡ None → or_else one other ≡ other
passed one other none = rw none refl

-- Nor either of them.
pub neither : (one other : Option LgfKind) → one ≡ None → other ≡ None → or_else one other ≡ None
neither one other none other_none = passed one other none ∙ other_none

pub both_none : (one other : Option LgfKind) → or_else one other ≡ None
    → (one ≡ None) × (other ≡ None)
both_none None other none = (refl, none)
both_none (Some kind) other none = absurd (cc)

-- A test whose success is a fault failed.
pub untold : (kind : LgfKind) (test : Bool) → (if test then Some kind else None) ≡ None
    → test ≡ false
untold kind true none = absurd (cc)
untold kind false none = refl

-- A test whose failure is a fault succeeded.
pub held : (kind : LgfKind) (test : Bool) → (if test then None else Some kind) ≡ None → test ≡ true
held kind true none = refl
held kind false none = absurd (cc)

-- A test whose success is a fault failed, if another succeeded, behind which alone it counts.
pub if_untold : (kind : LgfKind) (test other : Bool)
    → (if test then (if other then Some kind else None) else None) ≡ None → test ≡ true
    → other ≡ false
if_untold kind true other none is = untold kind other none
if_untold kind false other none is = absurd (cc)

pub if_not : (kind : LgfKind) (test other : Bool) → (test ≡ true → other ≡ false)
    → (if test then (if other then Some kind else None) else None) ≡ None
if_not kind true other none = rw (none refl) refl
if_not kind false other none = refl

-- There are other than as many rows as there may be.
pub room_open : (most : ℕ) (rows : List Cells) → (length rows ≡ most → ⊥)
    → room_fault most rows ≡ None
room_open most rows other = grind arith

pub room_is : (most : ℕ) (rows : List Cells) → room_fault most rows ≡ None → length rows ≡ most → ⊥
room_is most rows none full = grind arith

-- The row has as many tokens as are wanted.
pub width_right : (wanted : ℕ) (cells : Cells) → length cells ≡ wanted
    → width_fault wanted cells ≡ None
width_right wanted cells wide = grind arith

pub width_is : (wanted : ℕ) (cells : Cells) → width_fault wanted cells ≡ None
    → length cells ≡ wanted
width_is wanted cells none = grind arith

-- Names of columns are without a fault.
pub columns_right : (columns : Cells) → AreColumns columns → columns_fault columns ≡ None
columns_right columns right = rw (right.no_dash, right.differ) refl

pub columns_are : (columns : Cells) → columns_fault columns ≡ None → AreColumns columns
columns_are columns none = record { differ = grind arith; no_dash = grind arith }

-- A name that is among others stands at a place.
pub record Stands (name : List ℕ) (names : Cells) : Type 0 where
  pub place : ℕ
  pub within : place < length names
  pub is : label_at names place ≡ name

pub among_place : (name : List ℕ) (names : Cells) → is_among name names ≡ true → Stands name names
among_place name names among =
    let found = Any-from_list_any (bytes_eq name) names among in
    record {
      place = found.0;
      within = found.2;
      is = get_or_default names found.0 [] found.1 found.2 ∙ found.3
          ∙ sym ((bytes_eq-Decides name found.1).0 found.4);
    }
