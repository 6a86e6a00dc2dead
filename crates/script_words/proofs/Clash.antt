-- When no tokens can be two forms.
use Rattle.std.proofs.Common.{Bool, true, false, not, ◌||◌, List, [], ◌∷◌}
use Rattle.std.specs.Str.{bytes_eq}
use Rattle.script_words.specs.Slots.{Slot, Word}

-- Whether these are two different words.
abbrev pub differ : Slot → Slot → Bool
differ (Word v) (Word w) = not (bytes_eq v w)
differ a b = false

-- Whether two forms have other lengths, or other words at one place.
abbrev pub clash : List Slot → List Slot → Bool
clash [] [] = false
clash [] (b ∷ ys) = true
clash (a ∷ xs) [] = true
clash (a ∷ xs) (b ∷ ys) = differ a b || clash xs ys
