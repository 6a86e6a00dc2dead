-- Values as the code has them, and the texts that spell them.
use Rattle.std.specs.Prelude.{◌≡◌, ℕ, IsTrue, List, Option, Some, None, option_and_then}
use Rattle.std.specs.FinMap as fin
use Rattle.base_items.specs.declared.items.ItemSort.{ItemSort}
use Rattle.base_items.specs.declared.items.ItemSort.TheVariants as sorts
use Rattle.script_words.specs.declared.commands.Command.{Command}
use Rattle.script_words.specs.declared.commands.Command.TheVariants as command
use Rattle.script_words.specs.declared.commands.MapType.{MapType}
use Rattle.script_words.specs.declared.commands.MapType.TheVariants as types
use Rattle.plain_digraph.specs.Rising.{swapped}
use Rattle.observe_core.specs.Held as held
use Rattle.observe_core.specs.Held.{entry_id}
use Rattle.observe_core.specs.Items.{has_id}
use Rattle.observe_core.specs.Seen.{Seen}
use Rattle.columns.specs.Views.{entry}
use Rattle.plain_world.specs.Tables.{Name}
use Rattle.plain_world.specs.World as plain
use Rattle.plain_world.specs.World.{World}
use Rattle.plain_world.specs.Values.{int_of, bool_of, type_of}
use Rattle.plain_world.specs.Views.{map_of}
use Rattle.desk_seats.specs.Contents.{ints_in, bools_in, texts_in}
use Rattle.desk_world.specs.declared.tables.MapKind.{MapKind}
use Rattle.desk_world.specs.declared.tables.MapKind.TheVariants as maps
use Rattle.desk_world.specs.declared.values.Value.{Value}
use Rattle.desk_world.specs.declared.values.Value.TheVariants as values

-- what a map of the type is
abbrev pub kind_for : MapType → MapKind
kind_for types.Ints = maps.Ints
kind_for types.Bools = maps.Bools
kind_for types.Texts = maps.Texts

-- the type of a map's values, if it has values of its own
abbrev pub type_by : MapKind → Option MapType
type_by maps.Ints = Some types.Ints
type_by maps.Bools = Some types.Bools
type_by maps.Texts = Some types.Texts
type_by (maps.Degrees way) = None
type_by (maps.Trues map) = None

-- the type of a value
abbrev pub type_for : Value → MapType
type_for (values.Int value) = types.Ints
type_for (values.Bool value) = types.Bools
type_for (values.Text value) = types.Texts

-- the text spells the value
abbrev pub Spells : List ℕ → Value → Type 0
Spells text (values.Int value) = int_of text ≡ Some value
Spells text (values.Bool value) = bool_of text ≡ Some value
Spells text (values.Text value) = value ≡ text

-- the map of the name has values of the type
abbrev pub HasType : World → ItemSort → Name → MapType → Type 0
HasType world sort map type = option_and_then type_of (map_of world sort map) ≡ Some type

-- ---- a value is written

-- the map with the value at the item
abbrev pub put_at : Value → ℕ → plain.Held → plain.Held
put_at (values.Int value) id (plain.Ints column) = plain.Ints (fin.insert column id value)
put_at (values.Bool value) id (plain.Bools column) = plain.Bools (fin.insert column id value)
put_at (values.Text value) id (plain.Texts column) = plain.Texts (fin.insert column id value)
put_at _ id held = held

-- the observer has a value of the type for the item
abbrev pub HasItem : Value → ℕ → Seen → Type 0
HasItem (values.Int value) id s = IsTrue (has_id entry_id id (ints_in s))
HasItem (values.Bool value) id s = IsTrue (has_id entry_id id (bools_in s))
HasItem (values.Text value) id s = IsTrue (has_id entry_id id (texts_in s))

-- what it holds with the value at the item
abbrev pub held_with : Value → ℕ → Seen → held.Held
held_with (values.Int value) id s =
    held.Values held.Ints (swapped entry_id (entry id value) (ints_in s))
held_with (values.Bool value) id s =
    held.Values held.Bools (swapped entry_id (entry id value) (bools_in s))
held_with (values.Text value) id s =
    held.Values held.Texts (swapped entry_id (entry id value) (texts_in s))

-- ---- commands

-- the command that makes a map
abbrev pub new_map_command : ItemSort → Name → MapType → Command
new_map_command sorts.Node name type = command.NodeMap name type
new_map_command sorts.Arc name type = command.ArcMap name type
