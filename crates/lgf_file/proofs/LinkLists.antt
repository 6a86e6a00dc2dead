-- Arcs: rows in order are those of one list.
use Rattle.std.proofs.Common.{◌≡◌, ℕ, ◌+◌, Bool, true, false, List, [], ◌∷◌, length, None, Some}
use Rattle.std.proofs.Common.{refl, sym, ap, ◌∙◌, ◌++◌, subst, arith, map, take, get_or, ◌≤◌, ◌<◌}
use Rattle.std.proofs.Common.{Option}
use Rattle.std.specs.Prelude.{All, if◌then◌else◌}
use Rattle.std.proofs.lemmas.Bool.{and_parts}
use Rattle.std.proofs.lemmas.List.{length-map, length-take-le, get_or-map, take-map}
use Rattle.std.proofs.lemmas.List.Elements.{All-head, All-tail, All-cons, All-nil}
use Rattle.base_items.specs.declared.limits.TheConstants.{MAX_ARCS}
use Rattle.token_text.specs.Names.{is_among, has_twice}
use Rattle.lgf_file.specs.Rows.{Cells, Words, Rows}
use Rattle.lgf_file.specs.Documents.{label, dash, label_in, labels_of, link_cells}
use Rattle.lgf_file.specs.Documents.{head_cells, arc_rows, IsLink, AreArcs, ArcsSpell, AreColumns}
use Rattle.lgf_file.specs.Reading.{InOrder, AllRead}
use Rattle.lgf_file.specs.Faults.{columns_named, arc_row_fault, arc_fault, ends_fault, values_of}
use Rattle.lgf_file.specs.Faults.{room_fault, width_fault, first_cell, second_cell}
use Rattle.lgf_file.specs.Sections.{Line}
use Rattle.lgf_file.specs.Readers.{ArcsSound, arcs_read, columns_or_none}
use Rattle.lgf_file.specs.declared.documents.Link.{Link}
use Rattle.lgf_file.specs.declared.faults.LgfKind.TheVariants.{UnknownLabel, TwiceLabel}
use Rattle.lgf_file.specs.declared.heads.Head.{Head}
use Rattle.lgf_file.proofs.ArcRows.{values_behind, sole_dash}
use Rattle.lgf_file.proofs.NameLists.{among_at, one_place}
use Rattle.lgf_file.proofs.InOrderRows.{in_order_at, in_order_from, few_rows, names_differ}
use Rattle.lgf_file.proofs.InOrderRows.{name_apart}
use Rattle.lgf_file.proofs.RowFaults.{neither, room_open, width_right, columns_right, if_not}
use Rattle.lgf_file.proofs.RowFaults.{width_is, both_none, if_untold, held, room_is, columns_are}
use Rattle.lgf_file.proofs.RowFaults.{among_place}
use Rattle.lgf_file.proofs.Readings.{rows_one}

-- ---- the first line

-- The first line of the arcs names their columns.
pub named_head : (columns : Cells) → is_among dash columns ≡ false
    → columns_named (head_cells columns) ≡ columns
named_head [] no_dash = refl
named_head (column ∷ []) no_dash = ap (λ test. if test then [] else column ∷ []) no_dash
named_head (column ∷ other ∷ columns) no_dash = refl

-- A line with a token is the first one of arcs with the columns that it names.
head_named : (first : Cells) → 0 < length first → head_cells (columns_named first) ≡ first
head_named [] some = absurd (omega arith)
head_named (column ∷ []) some = by_test (is_among dash (column ∷ [])) refl
  where
    by_test : (dashed : Bool) → is_among dash (column ∷ []) ≡ dashed
        → head_cells (if dashed then [] else column ∷ []) ≡ column ∷ []
    by_test true is = sole_dash (column ∷ []) refl is
    by_test false is = refl
head_named (column ∷ other ∷ columns) some = refl

-- ---- arcs behind the first line

-- What holds of the row of an arc that isn't at fault.
pub record FineArc (labels columns : Cells) (rows : List Cells) (cells : Cells) : Type 0 where
  pub room : length rows ≡ MAX_ARCS → ⊥
  pub wide : length cells ≡ 2 + length columns
  pub ends : ends_fault labels cells ≡ None
  pub apart : is_among label columns ≡ true
      → is_among (label_in columns (values_of cells)) (labels_of columns (map values_of rows))
      ≡ false

module _ (labels columns : Cells) (rows : List Cells) (cells : Cells) where
  fine_arc : arc_row_fault labels columns rows cells ≡ None → FineArc labels columns rows cells
  fine_arc none =
      let room = both_none (room_fault MAX_ARCS rows) _ none in
      let width = both_none (width_fault (2 + length columns) cells) _ room.1 in
      let rest = both_none (ends_fault labels cells) _ width.1 in
      record {
        room = room_is MAX_ARCS rows room.0;
        wide = width_is _ cells width.0;
        ends = rest.0;
        apart = if_untold TwiceLabel (is_among label columns) _ rest.1;
      }

  arc_right : FineArc labels columns rows cells → arc_row_fault labels columns rows cells ≡ None
  arc_right fine =
      neither _ _ (room_open MAX_ARCS rows fine.room)
      (neither _ _ (width_right (2 + length columns) cells fine.wide)
      (neither _ _ fine.ends (if_not TwiceLabel (is_among label columns) _ fine.apart)))

module _ (labels columns : Cells) (arcs : List Link) where
  -- The tokens of the arcs, and what stands for an arc where there is none.
  abbrev own : List Cells
  own = map (link_cells labels) arcs

  abbrev no_arc : Link
  no_arc = record { from = 0; to = 0; values = [] }

  -- The lines of valid arcs are in order.
  pub arcs_fine : AreArcs labels columns arcs
      → InOrder (arc_fault labels) [] (arc_rows labels columns arcs)
  arcs_fine right =
      let named = named_head columns right.columns_ok.no_dash in (
        rw named (columns_right columns right.columns_ok),
        in_order_from (arc_fault labels) (head_cells columns ∷ []) own (λ k within.
            rw named (arc_right labels columns (take k own) (get_or own k []) (fine k within))),
      )
    where
      fine : (k : ℕ) → k < length own → FineArc labels columns (take k own) (get_or own k [])
      fine k within =
          let long = length-map arcs (link_cells labels) in
          let row = get_or-map (link_cells labels) arcs k no_arc [] (omega arith) in
          let link = right.links k no_arc (omega arith) in
          record {
            room = λ full. omega (arith, right.few, length-take-le k own (omega arith));
            wide = rw row (omega (arith, link.2));
            ends = rw (row, among_at labels _ link.0, among_at labels _ link.1) refl;
            apart = λ labelled.
                simp (get_or-map values_of own k [] [] within, take-map values_of k own) at
                (name_apart (label_in columns) (map values_of own) []
                (rw (values_behind labels arcs) (right.labels_differ labelled)) k
                (rw length-map within));
          }

  -- Rows that are in order are those of valid arcs.
  pub arcs_right : AreColumns columns → All (IsLink labels columns) arcs
      → InOrder (arc_fault labels) [] (arc_rows labels columns arcs) → AreArcs labels columns arcs
  arcs_right columns_ok links order = record {
    columns_ok = columns_ok;
    links = links;
    labels_differ = λ labelled.
        rw (← values_behind labels arcs)
        (names_differ (label_in columns) (map values_of own) [] (λ k within.
        let inner = rw length-map at within in
        rw (get_or-map values_of own k [] [] inner, take-map values_of k own)
        ((fine k inner).apart labelled)));
    few = rw length-map at (few_rows MAX_ARCS own (λ k within. (fine k within).room));
  }
    where
      fine : (k : ℕ) → k < length own → FineArc labels columns (take k own) (get_or own k [])
      fine k within = fine_arc labels columns (take k own) (get_or own k [])
          (rw (named_head columns columns_ok.no_dash) at
          (in_order_at (arc_fault labels) (head_cells columns ∷ []) own order.1 k within))

-- No arcs are valid.
pub none_right : (nodes : Cells) (arcs : List Link) → arcs ≡ [] → AreArcs nodes [] arcs
none_right nodes arcs none =
    rw none (arcs_right nodes [] [] (columns_are [] refl) (All-nil (IsLink nodes [])) (refl, tt))

-- The arcs that were read are valid, if their rows are in order.
pub arcs_read_right : (nodes : Cells) (head : Option Head) (arcs : List Link) (labels : Cells)
    → ArcsSound nodes head arcs labels → InOrder (arc_fault nodes) [] (arcs_read nodes head arcs)
    → AreArcs nodes (columns_or_none head) arcs
arcs_read_right nodes None arcs labels sound order = none_right nodes arcs sound.1
arcs_read_right nodes (Some head) arcs labels sound order =
    arcs_right nodes head.columns arcs sound.columns_ok sound.links order

-- ---- rows of arcs that are in order are those of columns and arcs

-- The tokens of a row of two or more.
cells_are : (cells : Cells) → 2 ≤ length cells
    → first_cell cells ∷ second_cell cells ∷ values_of cells ≡ cells
cells_are [] two = absurd (omega arith)
cells_are (cell ∷ []) two = absurd (omega arith)
cells_are (cell ∷ other ∷ cells) two = refl

module _ (nodes columns : Cells) where
  -- A row that isn't at fault is that of an arc.
  link_said : (rows : List Cells) (cells : Cells) → FineArc nodes columns rows cells
      → (arc : Link) × (link_cells nodes arc ≡ cells) × IsLink nodes columns arc
  link_said rows cells fine =
      let among = and_parts (is_among (first_cell cells) nodes) (is_among (second_cell cells) nodes)
      (held UnknownLabel _ fine.ends) in
      let from = among_place (first_cell cells) nodes among.0 in
      let to = among_place (second_cell cells) nodes among.1 in
      let tokens = cells_are cells (omega (arith, fine.wide)) in
      let arc : Link = record { from = from.place; to = to.place; values = values_of cells } in (
        arc,
        rw (from.is, to.is) tokens,
        (from.within, to.within, omega (arith, fine.wide, ap length tokens)),
      )

  links_said : (first : Cells) → columns_named first ≡ columns → (before rows : List Cells)
      → InOrder (arc_fault nodes) (first ∷ before) rows
      → (arcs : List Link) × (map (link_cells nodes) arcs ≡ rows) × All (IsLink nodes columns) arcs
  links_said first named before [] order = ([], refl, All-nil (IsLink nodes columns))
  links_said first named before (cells ∷ rows) order =
      let fine = fine_arc nodes columns before cells (rw named at order.0) in
      let own = link_said before cells fine in
      let rest = links_said first named (before ++ cells ∷ []) rows order.1 in (
        own.0 ∷ rest.0,
        (λ i. own.1 i ∷ rest.1 i),
        All-cons (IsLink nodes columns) own.0 rest.0 own.2 rest.2,
      )

-- The arcs that the lines say.
pub record ArcsSaid (lines : List Line) (nodes : Cells) : Type 0 where
  pub columns : Cells
  pub arcs : List Link
  pub right : AreArcs nodes columns arcs
  pub spells : ArcsSpell lines nodes columns arcs

pub arcs_said : (nodes : Cells) (lines : List Line) (read : List Cells)
    → ((line : Line) (more : List Line) (cells : Cells) → lines ≡ line ∷ more → Words line.1 cells
    → 0 < length cells)
    → AllRead (arc_fault nodes) [] lines read → ArcsSaid lines nodes
arcs_said nodes [] [] some all = record {
  columns = [];
  arcs = [];
  right = none_right nodes [] refl;
  spells = (refl, refl);
}
arcs_said nodes [] (cells ∷ read) some all = absurd all.read_is
arcs_said nodes (line ∷ lines) [] some all = absurd all.read_is
arcs_said nodes (line ∷ lines) (first ∷ rows) some all =
    let columns = columns_named first in
    let made = links_said nodes columns first refl [] rows all.fine.1 in
    let own : arc_rows nodes columns made.0 ≡ first ∷ rows =
    (λ i. head_named first (some line lines first refl all.read_is.0) i ∷ made.1 i) in
    record {
      columns = columns;
      arcs = made.0;
      right = arcs_right nodes columns made.0 (columns_are columns all.fine.0) made.2
          (subst (InOrder (arc_fault nodes) []) (sym own) all.fine);
      spells = subst (Rows (line ∷ lines)) (sym own) all.read_is;
    }

-- ---- lines are those of one list of arcs alone

-- Where the labels of nodes differ, arcs are determined by their tokens.
pub links_one : (labels : Cells) → has_twice labels ≡ false → (columns other_columns : Cells)
    (arcs others : List Link) → All (IsLink labels columns) arcs
    → All (IsLink labels other_columns) others
    → map (link_cells labels) arcs ≡ map (link_cells labels) others → arcs ≡ others
links_one labels differ columns other_columns [] [] links other_links same = refl
links_one labels differ columns other_columns [] (other ∷ others) links other_links same =
    absurd (cc)
links_one labels differ columns other_columns (arc ∷ arcs) [] links other_links same = absurd (cc)
links_one labels differ columns other_columns (arc ∷ arcs) (other ∷ others) links other_links same =
    let link = All-head (IsLink labels columns) arc arcs links in
    let other_link = All-head (IsLink labels other_columns) other others other_links in
    let from = one_place labels arc.from other.from differ link.0 other_link.0 (cc) in
    let to = one_place labels arc.to other.to differ link.1 other_link.1 (cc) in
    let values : arc.values ≡ other.values = cc in
    let rest = links_one labels differ columns other_columns arcs others
    (All-tail (IsLink labels columns) arc arcs links)
    (All-tail (IsLink labels other_columns) other others other_links) (cc) in
    λ i. record { from = from i; to = to i; values = values i } ∷ rest i

-- Lines are those of valid arcs with one list of columns at most, and of one list of arcs.
pub arcs_one : (lines : List Line) (labels columns other_columns : Cells) (arcs others : List Link)
    → has_twice labels ≡ false → AreArcs labels columns arcs → AreArcs labels other_columns others
    → ArcsSpell lines labels columns arcs → ArcsSpell lines labels other_columns others
    → (columns ≡ other_columns) × (arcs ≡ others)
arcs_one [] labels columns other_columns arcs others differ right other_right spells other_spells =
    (spells.0 ∙ sym other_spells.0, spells.1 ∙ sym other_spells.1)
arcs_one (line ∷ lines) labels columns other_columns arcs others differ right other_right spells
    other_spells =
    let same = rows_one (line ∷ lines) (arc_rows labels columns arcs)
    (arc_rows labels other_columns others) spells other_spells in
    let heads : head_cells columns ≡ head_cells other_columns = cc in
    let tails : map (link_cells labels) arcs ≡ map (link_cells labels) others = cc in
    let named = named_head columns right.columns_ok.no_dash in
    let other_named = named_head other_columns other_right.columns_ok.no_dash in (
      sym named ∙ ap columns_named heads ∙ other_named,
      links_one labels differ columns other_columns arcs others right.links other_right.links tails,
    )
