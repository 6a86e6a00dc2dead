-- A walk that has no first item is that of no items.
use Rattle.std.proofs.Common.{◌≡◌, List, [], ◌∷◌, None, refl}
use Rattle.plain_digraph.specs.Lists.{first}

pub none_first : {X : Type 0} (xs : List X) → first xs ≡ None → xs ≡ []
none_first [] is = refl
none_first (x ∷ xs) is = absurd (cc)
