-- The one written spelling of a list of bytes.
use Rattle.std.specs.Prelude.{ℕ, ◌+◌, ◌/◌, ◌%◌, ◌==◌, ◌&&◌, ◌||◌, Bool, false, not, nat_le}
use Rattle.std.specs.Prelude.{if◌then◌else◌, List, [], ◌∷◌, ◌++◌}
use Rattle.std.specs.List.{list_all, flat_map}

-- A byte that may stand in a token without quotes: above 32, and neither 127, a double quote nor a
-- backslash.
abbrev pub is_bare_byte : ℕ → Bool
is_bare_byte byte = nat_le 33 byte && not (byte == 127) && not (byte == 34) && not (byte == 92)

-- There is a first byte, and it is neither # nor @.
abbrev pub starts_bare : List ℕ → Bool
starts_bare [] = false
starts_bare (byte ∷ bytes) = not (byte == 35) && not (byte == 64)

-- The bytes need no quotes.
abbrev pub is_bare : List ℕ → Bool
is_bare bytes = starts_bare bytes && list_all is_bare_byte bytes

-- The three octal digits of a byte.
abbrev pub octal_digits : ℕ → List ℕ
octal_digits byte = (48 + byte / 64) ∷ (48 + byte / 8 % 8) ∷ (48 + byte % 8) ∷ []

-- How a byte is written in quotes.
abbrev pub spelled : ℕ → List ℕ
spelled byte =
    if byte == 34 || byte == 92 then 92 ∷ byte ∷ []
    else (if byte == 7 then 92 ∷ 97 ∷ []
    else (if byte == 8 then 92 ∷ 98 ∷ []
    else (if byte == 9 then 92 ∷ 116 ∷ []
    else (if byte == 10 then 92 ∷ 110 ∷ []
    else (if byte == 11 then 92 ∷ 118 ∷ []
    else (if byte == 12 then 92 ∷ 102 ∷ []
    else (if byte == 13 then 92 ∷ 114 ∷ []
    else (if nat_le byte 31 || byte == 127 then 92 ∷ octal_digits byte
    else byte ∷ []))))))))

-- The bytes in quotes.
abbrev pub quoted : List ℕ → List ℕ
quoted bytes = 34 ∷ flat_map spelled bytes ++ 34 ∷ []

-- How the bytes are written: as they are where they need no quotes, and else in quotes.
abbrev pub written : List ℕ → List ℕ
written bytes = if is_bare bytes then bytes else quoted bytes
