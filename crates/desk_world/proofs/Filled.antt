-- Rows that are as wide as their columns, and the maps of blank worlds.
use Rattle.std.proofs.Common.{◌≡◌, ℕ, ◌<◌, false, List, [], ◌∷◌, map, length, Option, Some, None}
use Rattle.std.proofs.Common.{All, refl, ap, sym, ◌∙◌, subst, arith}
use Rattle.std.specs.Ordering.{nat_cmp}
use Rattle.std.specs.FinMap as fin
use Rattle.std.specs.Str.{bytes_eq}
use Rattle.std.proofs.lemmas.Bool.{or_parts}
use Rattle.std.proofs.lemmas.List.Edits.{length-remove}
use Rattle.std.proofs.lemmas.List.Elements.{All-head, All-tail}
use Rattle.std.proofs.lemmas.List.Quantifiers.{position-Some}
use Rattle.base_items.specs.declared.items.ItemSort.{ItemSort}
use Rattle.token_text.specs.Names.{is_among, has_twice}
use Rattle.lgf_file.specs.Rows.{Cells}
use Rattle.lgf_file.specs.Documents.{label as label_column, AreColumns, IsLink}
use Rattle.lgf_file.specs.declared.documents.Link.{Link}
use Rattle.plain_digraph.specs.Lists.{AllOf}
use Rattle.plain_world.specs.World.{World, Column, attached}
use Rattle.plain_world.specs.Documents.{label_place, item_texts}
use Rattle.plain_world.proofs.RowLabels.{label_in_front}
use Rattle.desk_world.specs.Blank.{blanks, own_columns}
use Rattle.desk_world.specs.Describing.{AreTexts, HasColumns, AreReady}
use Rattle.desk_world.specs.Loading.{values_of}
use Rattle.desk_world.proofs.Readied.{Fills}

-- ---- rows that are as wide as their columns

fills : (columns : Cells) (place : Option ℕ) → label_place columns ≡ place → (cells : Cells)
    → length cells ≡ length columns → Fills place (item_texts place columns) cells
fills columns None is cells size = (tt, size)
fills columns (Some place) is cells size =
    let at = position-Some (bytes_eq label_column) columns place [] is in
    let below = at.0 in
    let within : place < length cells = omega (arith, below, size) in
    let fewer = length-remove cells place within in
    let also = length-remove columns place below in
    (within, omega (arith, fewer, also, size))

pub rows_fill : (columns : Cells) (rows : List Cells)
    → All (λ cells. length cells ≡ length columns) rows
    → AllOf (Fills (label_place columns) (own_columns columns)) rows
rows_fill columns [] wide = tt
rows_fill columns (cells ∷ rows) wide =
    let P : Cells → Type 0 = λ own. length own ≡ length columns in (
      fills columns (label_place columns) refl cells (All-head P cells rows wide),
      rows_fill columns rows (All-tail P cells rows wide),
    )

pub links_fill : (labels columns : Cells) (links : List Link) → All (IsLink labels columns) links
    → AllOf (Fills (label_place columns) (own_columns columns)) (values_of links)
links_fill labels columns [] are = tt
links_fill labels columns (link ∷ links) are =
    let is = All-head (IsLink labels columns) link links are in (
      fills columns (label_place columns) refl link.values is.2,
      links_fill labels columns links (All-tail (IsLink labels columns) link links are),
    )

pub own_differ : (columns : Cells) → AreColumns columns → has_twice (own_columns columns) ≡ false
own_differ columns are =
    let own = own_columns columns in
    let labelled = label_in_front columns (label_place columns) are refl in
    (or_parts (is_among label_column own) (has_twice own) labelled.differ).1

-- ---- blank worlds

blank_names : (names : Cells) (m : Column (List ℕ)) → map (λ e. e.name) (blanks names m) ≡ names
blank_names [] m = refl
blank_names (name ∷ names) m = ap (λ more. name ∷ more) (blank_names names m)

blank_texts : (names : Cells) (m : Column (List ℕ)) → AreTexts (blanks names m)
blank_texts [] m = tt
blank_texts (name ∷ names) m = ((m, refl), blank_texts names m)

pub maps_have : (world : World) (sort : ItemSort) (names : Cells) (m : Column (List ℕ))
    → (attached world sort).maps ≡ blanks names m → has_twice names ≡ false
    → HasColumns world sort names
maps_have world sort names m are differ = record {
  names = ap (map (λ e. e.name)) are ∙ blank_names names m;
  texts = subst AreTexts (sym are) (blank_texts names m);
  differ = differ;
}

pub no_label : (labels : Column (List ℕ)) → labels ≡ fin.empty → (k : ℕ) → fin.get labels k ≡ None
no_label labels are k = ap (λ m. fin.get m k) are ∙ fin.get-empty nat_cmp k

-- where the place and the columns are the same
pub ready_alike : (sort : ItemSort) (place own : Option ℕ) (columns names : Cells) (world : World)
    (id : ℕ) (rows : List Cells) → own ≡ place → names ≡ columns
    → AreReady sort place columns world id rows → AreReady sort own names world id rows
ready_alike sort place own columns names world id rows at are ready =
    subst (λ p. AreReady sort p names world id rows) (sym at)
    (subst (λ all. AreReady sort place all world id rows) (sym are) ready)
