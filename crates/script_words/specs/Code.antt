-- How the code lays out the table. No public clause cites this file.
use Rattle.std.specs.Prelude.{ℕ, ◌+◌, ◌&&◌, Bool, nat_eq, cond, List, [], ◌∷◌, length}
use Rattle.token_text.specs.declared.tokens.Token.{Token}
use Rattle.script_words.specs.declared.forms.Place.{Place}
use Rattle.script_words.specs.declared.forms.Place.TheVariants as place
use Rattle.script_words.specs.Slots.{Slot, Word, Name, NewMap, MapOrDash, Sort, TypeName, InOrOut}
use Rattle.script_words.specs.Slots.{Amount, fits}

-- What may stand at a place of the code's table.
abbrev pub slot_of : Place → Slot
slot_of (place.Word word) = Word word.now
slot_of place.Name = Name
slot_of place.NewMap = NewMap
slot_of place.MapOrDash = MapOrDash
slot_of place.Sort = Sort
slot_of place.TypeName = TypeName
slot_of place.InOrOut = InOrOut
slot_of (place.Amount low high) = Amount low high

-- How many of the first tokens go on in a form with these places.
abbrev pub reach : List Slot → List Token → ℕ
reach [] tokens = 0
reach (slot ∷ slots) [] = 0
reach (slot ∷ slots) (token ∷ tokens) = cond (fits slot token.bytes) (reach slots tokens + 1) 0

-- Whether all the tokens go on, and are as many as the places.
abbrev pub is_whole : List Slot → List Token → Bool
is_whole slots tokens =
    nat_eq (length slots) (length tokens) && nat_eq (reach slots tokens) (length tokens)
