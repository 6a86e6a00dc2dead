-- Attributes: rows in order are those of one list.
use Rattle.std.proofs.Common.{◌≡◌, ℕ, List, [], ◌∷◌, ◌++◌, None, refl, sym, ap, subst, map}
use Rattle.std.proofs.Common.{◌∙◌, arith, Bool, Some, length, ◌<◌, take, get_or}
use Rattle.std.specs.Prelude.{if◌then◌else◌, slice_index_or}
use Rattle.std.proofs.lemmas.List.{length-map, get_or-map, take-map, map_push, get_or_default}
use Rattle.token_text.specs.Names.{is_among}
use Rattle.lgf_file.specs.Documents.{AreAttributes, attribute_cells, AttributesSpell}
use Rattle.lgf_file.specs.Reading.{InOrder, AllRead}
use Rattle.lgf_file.specs.Faults.{attribute_fault, twice_fault, first_cell, width_fault}
use Rattle.lgf_file.specs.Faults.{second_cell}
use Rattle.lgf_file.specs.Rows.{Cells, Rows}
use Rattle.lgf_file.specs.Readers.{AttributesSound}
use Rattle.lgf_file.specs.Sections.{Line}
use Rattle.lgf_file.specs.declared.faults.LgfKind.TheVariants.{TwiceAttribute}
use Rattle.lgf_file.proofs.InOrderRows.{in_order_at, in_order_from, names_differ, name_apart}
use Rattle.lgf_file.proofs.RowFaults.{passed, width_is, both_none, untold}
use Rattle.lgf_file.proofs.Readings.{rows_one}

-- ---- the rows of valid attributes are in order, and rows in order are those of valid attributes

-- Names and values.
abbrev Attributes : Type 0
Attributes = List (List ℕ × List ℕ)

-- The names of attributes stand first.
pub names_first : (attributes : Attributes)
    → map first_cell (map attribute_cells attributes) ≡ map (λ attribute. attribute.0) attributes
names_first [] = refl
names_first (attribute ∷ attributes) = ap (λ own. attribute.0 ∷ own) (names_first attributes)

module _ (attributes : Attributes) where
  -- The fault of a row by its place.
  fault_at : (k : ℕ) → k < length attributes
      → attribute_fault (take k (map attribute_cells attributes))
      (get_or (map attribute_cells attributes) k [])
      ≡ twice_fault TwiceAttribute (get_or attributes k ([], [])).0
      (map (λ attribute. attribute.0) (take k attributes))
  fault_at k within = simp (
    take-map attribute_cells k attributes,
    get_or-map attribute_cells attributes k ([], []) [] within,
    names_first,
  )

  pub attributes_fine : AreAttributes attributes
      → InOrder attribute_fault [] (map attribute_cells attributes)
  attributes_fine right = in_order_from attribute_fault [] _ (λ k within.
      let inner = rw length-map at within in
      fault_at k inner
      ∙ rw (name_apart (λ attribute. attribute.0) attributes ([], []) right k inner) refl)

  pub attributes_right : InOrder attribute_fault [] (map attribute_cells attributes)
      → AreAttributes attributes
  attributes_right order =
      names_differ (λ attribute. attribute.0) attributes ([], []) (λ k within.
      untold TwiceAttribute _ (sym (fault_at k within)
      ∙ in_order_at attribute_fault [] _ order k (rw length-map within)))

-- ---- an attribute behind others

-- The names of attributes, and the two tokens of a row, of which the first is the name.
module _ (attributes : Attributes) (cells : Cells) (wide : width_fault 2 cells ≡ None)
    (name other : List ℕ) (is : name ≡ slice_index_or cells 0 other) where
  first_is : name ≡ first_cell cells
  first_is = is ∙ get_or_default cells 0 other [] (omega (arith, width_is 2 cells wide))

  -- Nothing but its name may be at fault with the row.
  pub attribute_fault_is : (twice : Bool) (names : Cells) → AttributesSound attributes names
      → is_among name names ≡ twice
      → attribute_fault (map attribute_cells attributes) cells
      ≡ (if twice then Some TwiceAttribute else None)
  attribute_fault_is twice names names_are twice_is =
      passed _ _ wide ∙ rw (names_first attributes, ← names_are, ← first_is, twice_is) refl

  -- The names with that of the attribute.
  pub names_push : (attribute : List ℕ × List ℕ) → cells ≡ attribute_cells attribute
      → map (λ one. one.0) attributes ++ name ∷ []
      ≡ map (λ one. one.0) (attributes ++ attribute ∷ [])
  names_push attribute cells_are =
      rw (map_push (λ one. one.0) attributes attribute, first_is ∙ ap first_cell cells_are) refl

-- ---- rows of attributes that are in order are those of attributes

-- The tokens of a row of two.
pair_of : (cells : Cells) → length cells ≡ 2
    → attribute_cells (first_cell cells, second_cell cells) ≡ cells
pair_of [] two = absurd (omega arith)
pair_of (cell ∷ []) two = absurd (omega arith)
pair_of (cell ∷ other ∷ []) two = refl
pair_of (cell ∷ other ∷ third ∷ cells) two = absurd (omega arith)

pairs_of : (before rows : List Cells) → InOrder attribute_fault before rows
    → (attributes : Attributes) × (map attribute_cells attributes ≡ rows)
pairs_of before [] order = ([], refl)
pairs_of before (cells ∷ rows) order =
    let wide = width_is 2 cells (both_none (width_fault 2 cells) _ order.0).0 in
    let rest = pairs_of (before ++ cells ∷ []) rows order.1 in
    ((first_cell cells, second_cell cells) ∷ rest.0, λ i. pair_of cells wide i ∷ rest.1 i)

-- The attributes that the lines say.
pub record AttributesSaid (lines : List Line) : Type 0 where
  pub attributes : Attributes
  pub right : AreAttributes attributes
  pub spells : AttributesSpell lines attributes

pub attributes_said : (lines : List Line) (read : List Cells)
    → AllRead attribute_fault [] lines read → AttributesSaid lines
attributes_said lines read all =
    let made = pairs_of [] read all.fine in
    record {
      attributes = made.0;
      right = attributes_right made.0 (rw made.1 all.fine);
      spells = subst (Rows lines) (sym made.1) all.read_is;
    }

-- ---- lines are those of one list of attributes alone

-- Attributes are determined by their tokens.
pairs_back : (attributes : Attributes)
    → map (λ cells. (first_cell cells, second_cell cells)) (map attribute_cells attributes)
    ≡ attributes
pairs_back [] = refl
pairs_back (attribute ∷ attributes) = ap (λ rest. attribute ∷ rest) (pairs_back attributes)

-- Lines are those of one list of attributes at most.
pub attributes_one : (lines : List Line) (attributes others : Attributes)
    → AttributesSpell lines attributes → AttributesSpell lines others → attributes ≡ others
attributes_one lines attributes others spells other_spells =
    sym (pairs_back attributes)
    ∙ ap (map (λ cells. (first_cell cells, second_cell cells)))
    (rows_one lines _ _ spells other_spells)
    ∙ pairs_back others
