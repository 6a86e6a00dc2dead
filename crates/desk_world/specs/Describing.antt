-- That a world is ready for what the rows of a document say of its items.
use Rattle.std.specs.Prelude.{◌≡◌, ℕ, ◌+◌, ◌<◌, false, List, [], ◌∷◌, map, length, Option, None}
use Rattle.std.specs.Prelude.{Some}
use Rattle.std.specs.FinMap as fin
use Rattle.base_items.specs.declared.items.ItemSort.{ItemSort}
use Rattle.token_text.specs.Names.{has_twice}
use Rattle.lgf_file.specs.Rows.{Cells}
use Rattle.script_words.specs.declared.commands.MapType.TheVariants.{Texts as TextType}
use Rattle.plain_digraph.specs.Items.{IsLive}
use Rattle.plain_digraph.specs.Lists.{AllOf}
use Rattle.plain_world.specs.Tables.{Named, under}
use Rattle.plain_world.specs.World.{World, Column, Held, Texts, attached}
use Rattle.plain_world.specs.Documents.{described, item_label, item_texts}
use Rattle.plain_world.specs.Effects.{new_map}

-- a new map of texts for each of the names
abbrev pub new_maps : World → ItemSort → Cells → List (Named Held)
new_maps world sort names = map (λ name. under name (new_map world sort TextType)) names

-- all maps are maps of texts
abbrev pub AreTexts : List (Named Held) → Type 0
AreTexts maps = AllOf (λ e. (m : Column (List ℕ)) × (e.value ≡ Texts m)) maps

-- the maps of the sort are maps of texts with these names, which differ
pub record HasColumns (world : World) (sort : ItemSort) (columns : Cells) : Type 0 where
  pub names : map (λ e. e.name) (attached world sort).maps ≡ columns
  pub texts : AreTexts (attached world sort).maps
  pub differ : has_twice columns ≡ false

-- the place is that of a cell
abbrev pub IsWithin : Option ℕ → Cells → Type 0
IsWithin None cells = Unit {0}
IsWithin (Some place) cells = place < length cells

-- the row has a text for each of the maps, and the item is live, without a label yet; no item has
-- its label
pub record IsReady (sort : ItemSort) (place : Option ℕ) (columns : Cells) (world : World) (id : ℕ)
    (cells : Cells) : Type 0 where
  pub columns_are : HasColumns world sort columns
  pub within : IsWithin place cells
  pub wide : length (item_texts place cells) ≡ length columns
  pub live : IsLive world.graph sort id
  pub unlabelled : fin.get (attached world sort).labels id ≡ None
  pub unused : (other : ℕ)
      → fin.get (attached world sort).labels other ≡ Some (item_label place cells id) → ⊥

-- and so for each of the rows in turn, from this item on
abbrev pub AreReady : ItemSort → Option ℕ → Cells → World → ℕ → List Cells → Type 0
AreReady sort place columns world id [] = Unit {0}
AreReady sort place columns world id (cells ∷ rows) =
    IsReady sort place columns world id cells
    × AreReady sort place columns (described world sort id place cells) (id + 1) rows
