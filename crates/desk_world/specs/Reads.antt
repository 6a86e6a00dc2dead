-- What the seats of maps and of indexes have, item by item.
use Rattle.std.specs.Prelude.{◌≡◌, ℕ, Bool, true, false, ◌&&◌, nat_le, cond, List, [], ◌∷◌, map}
use Rattle.std.specs.Prelude.{Option}
use Rattle.std.specs.Option.{option_map_or}
use Rattle.std.specs.Str.{bytes_eq}
use Rattle.base_items.specs.declared.items.ItemSort.{ItemSort}
use Rattle.script_words.specs.declared.commands.MapType.{MapType}
use Rattle.script_words.specs.declared.commands.MapType.TheVariants as types
use Rattle.plain_digraph.specs.Items.{rising}
use Rattle.observe_core.specs.Held.{Entry}
use Rattle.observe_core.specs.Seen.{Seen}
use Rattle.columns.specs.Views.{entry}
use Rattle.plain_world.specs.Tables.{Name}
use Rattle.plain_world.specs.World.{World}
use Rattle.plain_world.specs.Replies.{int_value, is_true, is_item}
use Rattle.plain_world.specs.Values.{text_at}
use Rattle.plain_world.specs.Views.{map_of}
use Rattle.desk_world.specs.declared.tables.MapKind.{MapKind}
use Rattle.desk_world.specs.declared.tables.MapKind.TheVariants as maps
use Rattle.desk_seats.specs.Contents.{ints_in, bools_in, texts_in, trues_in}
use Rattle.desk_seats.specs.Forms.{ints_form, bools_form, texts_form, trues_form}

-- each live item of the sort with its value, by rising id
abbrev pub by_item : {X : Type 0} → World → ItemSort → (ℕ → X) → List (Entry X)
by_item world sort value = map (λ id. entry id (value id)) (rising world.graph sort)

-- the text that a map of texts has at an item
abbrev pub text_value : World → ItemSort → Name → ℕ → List ℕ
text_value world sort map id = option_map_or (λ held. text_at held id) (map_of world sort map) []

-- a seat of this form holds each live item of the sort with its value
pub record Holds {X : Type 0} (own : ℕ) (read : Seen → List (Entry X)) (world : World)
    (sort : ItemSort) (value : ℕ → X) (s : Seen) : Type 0 where
  pub form : s.form ≡ own
  pub items : read s ≡ by_item world sort value

-- the values of the map of this name, whose type this is
abbrev pub HoldsMap : World → ItemSort → Name → MapType → Seen → Type 0
HoldsMap world sort map types.Ints s =
    Holds ints_form ints_in world sort (int_value world sort map) s
HoldsMap world sort map types.Bools s =
    Holds bools_form bools_in world sort (is_true world sort map) s
HoldsMap world sort map types.Texts s =
    Holds texts_form texts_in world sort (text_value world sort map) s

-- whether each item is one of the index of this name
abbrev pub HoldsIndex : World → ItemSort → Name → Seen → Type 0
HoldsIndex world sort index s = Holds trues_form trues_in world sort (is_item world sort index) s

-- ---- indexes of maps

abbrev pub is_index : MapKind → Bool
is_index (maps.Trues map) = true
is_index _ = false

-- ---- who reads a map

-- whether a filter is there and is the map of the name
abbrev pub names_map : Name → Option Name → Bool
names_map name filter = option_map_or (bytes_eq name) filter false

-- ---- the true items of an index

-- those from an id on
abbrev pub trues_from : ℕ → List (Entry Bool) → List ℕ
trues_from low [] = []
trues_from low (e ∷ es) =
    cond (nat_le low e.id && e.value) (e.id ∷ trues_from low es) (trues_from low es)
