-- Values of maps, and the texts that spell them.
use Rattle.std.specs.Prelude.{ℕ, ℤ, pos, negsuc, Bool, true, false, ◌&&◌, ◌||◌, cond, nat_le}
use Rattle.std.specs.Prelude.{int_le, codes, List, [], map, length, Option, None, Some, unwrap_or}
use Rattle.std.specs.Prelude.{is_some}
use Rattle.std.specs.List.{list_all}
use Rattle.std.specs.Str.{bytes_eq}
use Rattle.std.specs.Str.Parse.{without_leading_sign, signed_digits_value}
use Rattle.std.specs.Fmt.{signed_decimal}
use Rattle.std.specs.FinMap as fin
use Rattle.script_words.specs.declared.commands.MapType.{MapType}
use Rattle.script_words.specs.declared.commands.MapType.TheVariants as types
use Rattle.script_words.specs.Slots.{is_digit}
use Rattle.plain_world.specs.World.{Column, Held, Ints, Bools, Texts}

-- ---- texts of ints and bools

-- whether the number fits 64 bits
abbrev pub fits_64 : ℤ → Bool
fits_64 value = int_le (negsuc 9223372036854775807) value && int_le value (pos 9223372036854775807)

-- the int that the bytes spell: a sign or none, and one or more digits
abbrev pub int_of : List ℕ → Option ℤ
int_of bytes =
    let digits = without_leading_sign bytes in
    let value = signed_digits_value 10 bytes in
    cond (nat_le 1 (length digits) && list_all is_digit digits && fits_64 value) (Some value) None

abbrev pub bool_of : List ℕ → Option Bool
bool_of bytes =
    cond (bytes_eq bytes (codes "0") || bytes_eq bytes (codes "false")) (Some false)
    (cond (bytes_eq bytes (codes "1") || bytes_eq bytes (codes "true")) (Some true) None)

abbrev pub bool_text : Bool → List ℕ
bool_text false = codes "0"
bool_text true = codes "1"

-- whether the bytes spell a value of the type
abbrev pub spells : MapType → List ℕ → Bool
spells types.Ints text = is_some (int_of text)
spells types.Bools text = is_some (bool_of text)
spells types.Texts text = true

-- the text of a new item's value
abbrev pub default_text : MapType → List ℕ
default_text types.Ints = codes "0"
default_text types.Bools = codes "0"
default_text types.Texts = []

-- ---- values

abbrev pub type_of : Held → Option MapType
type_of (Ints column) = Some types.Ints
type_of (Bools column) = Some types.Bools
type_of (Texts column) = Some types.Texts
type_of _ = None

abbrev pub int_at : Held → ℕ → ℤ
int_at (Ints column) id = unwrap_or (fin.get column id) (pos 0)
int_at _ id = pos 0

abbrev pub bool_at : Held → ℕ → Bool
bool_at (Bools column) id = unwrap_or (fin.get column id) false
bool_at _ id = false

-- the value as text
abbrev pub text_at : Held → ℕ → List ℕ
text_at (Ints column) id = signed_decimal (unwrap_or (fin.get column id) (pos 0))
text_at (Bools column) id = bool_text (unwrap_or (fin.get column id) false)
text_at (Texts column) id = unwrap_or (fin.get column id) []
text_at _ id = []

-- the item has the value that the text spells
abbrev pub written_at : Held → ℕ → List ℕ → Held
written_at (Ints column) id text = Ints (fin.insert column id (unwrap_or (int_of text) (pos 0)))
written_at (Bools column) id text = Bools (fin.insert column id (unwrap_or (bool_of text) false))
written_at (Texts column) id text = Texts (fin.insert column id text)
written_at held id text = held

-- these items, each with a value
abbrev pub column_of : {X : Type 0} → List ℕ → (ℕ → X) → Column X
column_of items value = fin.from_entries (map (λ id. (id, value id)) items)

-- the map of the type with the values that these texts spell
abbrev pub spelled : MapType → List ℕ → (ℕ → List ℕ) → Held
spelled types.Ints items text = Ints (column_of items (λ id. unwrap_or (int_of (text id)) (pos 0)))
spelled types.Bools items text = Bools (column_of items (λ id. unwrap_or (bool_of (text id)) false))
spelled types.Texts items text = Texts (column_of items text)
