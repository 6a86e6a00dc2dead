-- The rows of a document find the world ready, where the labels that they lead to are whole and
-- differ.
use Rattle.std.proofs.Common.{◌≡◌, ℕ, zero, suc, ◌+◌, ◌<◌, ◌≤◌, true, List, [], ◌∷◌, map, length}
use Rattle.std.proofs.Common.{Option, Some, None, is_some, refl, sym, ap, ◌∙◌, subst, inl, inr}
use Rattle.std.proofs.Common.{arith}
use Rattle.std.specs.FinMap as fin
use Rattle.std.proofs.lemmas.Bool.{cases_lt}
use Rattle.std.proofs.lemmas.Option.{none-some}
use Rattle.base_items.specs.declared.items.ItemSort.{ItemSort}
use Rattle.base_items.specs.declared.items.ItemSort.TheVariants.{Node, Arc}
use Rattle.lgf_file.specs.Rows.{Cells}
use Rattle.plain_digraph.specs.Lists.{AllOf}
use Rattle.plain_digraph.proofs.Keys.{get_new, get_other}
use Rattle.plain_world.specs.Tables.{Name}
use Rattle.plain_world.specs.World.{World, Column, attached}
use Rattle.plain_world.specs.Documents.{described, item_label, item_texts, with_texts}
use Rattle.plain_world.specs.Valid.{IsWhole, LabelsDiffer}
use Rattle.desk_world.specs.Loading.{all_described}
use Rattle.desk_world.specs.Describing.{AreTexts, HasColumns, IsWithin, AreReady}
use Rattle.desk_world.proofs.Described.{names_stay, texts_stay}

-- ---- one row

graph_here : (sort : ItemSort) (world : World) (id : ℕ) (place : Option ℕ) (cells : Cells)
    → ((described world sort id place cells).graph ≡ world.graph)
graph_here Node world id place cells = refl
graph_here Arc world id place cells = refl

labels_here : (sort : ItemSort) (world : World) (id : ℕ) (place : Option ℕ) (cells : Cells)
    → (attached (described world sort id place cells) sort).labels
    ≡ fin.insert (attached world sort).labels id (item_label place cells id)
labels_here Node world id place cells = refl
labels_here Arc world id place cells = refl

maps_here : (sort : ItemSort) (world : World) (id : ℕ) (place : Option ℕ) (cells : Cells)
    → (attached (described world sort id place cells) sort).maps
    ≡ with_texts (attached world sort).maps id (item_texts place cells)
maps_here Node world id place cells = refl
maps_here Arc world id place cells = refl

-- the row has a cell for its label, and a text for each of the columns
abbrev pub Fills : Option ℕ → Cells → Cells → Type 0
Fills place columns cells =
    IsWithin place cells × (length (item_texts place cells) ≡ length columns)

-- ---- rows

module _ (sort : ItemSort) (place : Option ℕ) where
  abbrev pub labels_at : World → Column Name
  labels_at world = (attached world sort).labels

  abbrev after : World → ℕ → List Cells → World
  after world id rows = all_described sort place world id rows

  pub graph_stays : (rows : List Cells) (world : World) (id : ℕ)
      → ((after world id rows).graph ≡ world.graph)
  graph_stays [] world id = refl
  graph_stays (cells ∷ rows) world id =
      graph_stays rows (described world sort id place cells) (id + 1)
      ∙ graph_here sort world id place cells

  -- the labels of items below stay
  label_stays : (rows : List Cells) (world : World) (id k : ℕ) → k < id
      → fin.get (labels_at (after world id rows)) k ≡ fin.get (labels_at world) k
  label_stays [] world id k below = refl
  label_stays (cells ∷ rows) world id k below =
      label_stays rows (described world sort id place cells) (id + 1) k (omega (arith, below))
      ∙ ap (λ m. fin.get m k) (labels_here sort world id place cells)
      ∙ get_other (labels_at world) id (item_label place cells id) k
      (λ is. omega (arith, is, below))

  label_put : (cells : Cells) (rows : List Cells) (world : World) (id : ℕ)
      → fin.get (labels_at (after world id (cells ∷ rows))) id
      ≡ Some (item_label place cells id)
  label_put cells rows world id =
      label_stays rows (described world sort id place cells) (id + 1) id (omega arith)
      ∙ ap (λ m. fin.get m id) (labels_here sort world id place cells)
      ∙ get_new (labels_at world) id (item_label place cells id)

  -- each row's item has a label afterwards
  pub labels_there : (rows : List Cells) (world : World) (id k : ℕ) → k < length rows
      → is_some (fin.get (labels_at (after world id rows)) (id + k)) ≡ true
  labels_there [] world id k below = absurd (omega (arith, below))
  labels_there (cells ∷ rows) world id zero below =
      ap (λ n. is_some (fin.get (labels_at (after world id (cells ∷ rows))) n)) (plus id)
      ∙ ap is_some (label_put cells rows world id)
    where
      plus : (n : ℕ) → n + 0 ≡ n
      plus n = omega arith
  labels_there (cells ∷ rows) world id (suc k) below =
      ap (λ n. is_some (fin.get (labels_at (after world id (cells ∷ rows))) n)) (further id k)
      ∙ labels_there rows (described world sort id place cells) (id + 1) k (omega (arith, below))
    where
      further : (n k : ℕ) → n + suc k ≡ n + 1 + k
      further n k = omega arith

  columns_stay : (columns : Cells) (world : World) (id : ℕ) (cells : Cells)
      → HasColumns world sort columns
      → HasColumns (described world sort id place cells) sort columns
  columns_stay columns world id cells has =
      let maps = maps_here sort world id place cells in
      let was = (attached world sort).maps in
      let texts = item_texts place cells in
      record {
        names = ap (map (λ e. e.name)) maps ∙ names_stay was id texts ∙ has.names;
        texts = subst AreTexts (sym maps) (texts_stay was id texts has.texts);
        differ = has.differ;
      }

  -- the world is ready for the rows
  pub are_ready : (columns : Cells) (rows : List Cells) (world : World) (id : ℕ)
      → HasColumns world sort columns → AllOf (Fills place columns) rows
      → ((k : ℕ) → id ≤ k → fin.get (labels_at world) k ≡ None)
      → IsWhole world.graph sort (labels_at (after world id rows))
      → LabelsDiffer (labels_at (after world id rows))
      → AreReady sort place columns world id rows
  are_ready columns [] world id has fill none whole differ = tt
  are_ready columns (cells ∷ rows) world id has fill none whole differ =
      let name = item_label place cells id in
      let next = described world sort id place cells in
      let last = labels_at (after world id (cells ∷ rows)) in
      let put : fin.get last id ≡ Some name = label_put cells rows world id in
      let unused : (other : ℕ) → fin.get (labels_at world) other ≡ Some name → ⊥ =
      λ other at. elim (cases_lt other id) [
        | inl below ↦
            let stays : fin.get last other ≡ Some name =
            label_stays (cells ∷ rows) world id other below ∙ at in
            let same = differ other id name stays put in
            omega (arith, same, below)
        | inr above ↦ none-some name (sym (none other above) ∙ at)
      ] in
      let none_next : (k : ℕ) → id + 1 ≤ k → fin.get (labels_at next) k ≡ None = λ k above.
      ap (λ m. fin.get m k) (labels_here sort world id place cells)
      ∙ get_other (labels_at world) id name k (λ is. omega (arith, is, above))
      ∙ none k (omega (arith, above)) in
      let whole_next : IsWhole next.graph sort last =
      subst (λ g. IsWhole g sort last) (sym (graph_here sort world id place cells)) whole in (
        record {
          columns_are = has;
          within = fill.0.0;
          wide = fill.0.1;
          live = (whole id).1 (ap is_some put);
          unlabelled = none id (omega arith);
          unused = unused;
        },
        are_ready columns rows next (id + 1) (columns_stay columns world id cells has) fill.1
            none_next whole_next differ,
      )
