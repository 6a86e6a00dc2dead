-- A map that tracks nothing has no entries.
use Rattle.std.proofs.Common.{◌≡◌, Bool, true, false, List, [], ◌∷◌, refl, ap}
use Rattle.observe_core.specs.Held.{Held, Nothing, Values, Degree, Half, Kept, Ties, MapType}
use Rattle.observe_core.specs.Held.{ValueOf, Entry}

abbrev is_bare : {X : Type 0} → List X → Bool
is_bare [] = true
is_bare (x ∷ xs) = false

abbrev holds_none : Held → Bool
holds_none Nothing = true
holds_none (Values t es) = is_bare es
holds_none (Degree out ends) = true
holds_none (Half added others kept valid) = true
holds_none (Kept role all items) = true
holds_none (Ties ties) = true

pub no_values : (t : MapType) (es : List (Entry (ValueOf t))) → Values t es ≡ Values t [] → es ≡ []
no_values t es h = bare es (ap holds_none h)
  where
    bare : {X : Type 0} (xs : List X) → is_bare xs ≡ true → xs ≡ []
    bare [] e = refl
    bare (x ∷ xs) e = cc
