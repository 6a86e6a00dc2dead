-- What contracts see of a set of places.
use Rattle.std.specs.Prelude.{ℕ, Bool, vec_len}
use Rattle.index_maps.specs.declared.bits.Bits.{Bits}
use Rattle.index_maps.specs.Bits.{bit_in}

-- whether a place is in the set
abbrev pub is_marked : Bits → ℕ → Bool
is_marked b k = bit_in b.items.items k

-- how many words there are for places
abbrev pub words_of : Bits → ℕ
words_of b = vec_len b.items
