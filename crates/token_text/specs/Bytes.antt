-- What single bytes are in the grammar of tokens.
use Rattle.std.specs.Prelude.{ℕ, ◌-◌, ◌==◌, ◌&&◌, ◌||◌, Bool, not, nat_le, if◌then◌else◌, Some}
use Rattle.std.specs.Prelude.{None, Option}

-- A blank: one of the bytes 9, 11, 12, 13 and 32.
abbrev pub is_blank : ℕ → Bool
is_blank byte = (nat_le 9 byte && nat_le byte 13 && not (byte == 10)) || byte == 32

-- A byte that is no blank.
abbrev pub is_visible : ℕ → Bool
is_visible byte = not (is_blank byte)

-- Behind a backslash a backslash, a double quote, a single quote and a question mark stand for
-- themselves.
abbrev pub is_itself : ℕ → Bool
is_itself byte = byte == 92 || byte == 34 || byte == 39 || byte == 63

-- Behind a backslash the letters a, b, t, n, v, f and r stand for the bytes 7 to 13.
abbrev pub letter_byte : ℕ → Option ℕ
letter_byte byte =
    if byte == 97 then Some 7
    else (if byte == 98 then Some 8
    else (if byte == 116 then Some 9
    else (if byte == 110 then Some 10
    else (if byte == 118 then Some 11
    else (if byte == 102 then Some 12
    else (if byte == 114 then Some 13
    else None))))))

-- What a hexadecimal digit is worth: 0 to 9, a to f or A to F.
abbrev pub hex_value : ℕ → Option ℕ
hex_value byte =
    if nat_le 48 byte && nat_le byte 57 then Some (byte - 48)
    else (if nat_le 97 byte && nat_le byte 102 then Some (byte - 87)
    else (if nat_le 65 byte && nat_le byte 70 then Some (byte - 55)
    else None))

-- What an octal digit is worth: 0 to 7.
abbrev pub octal_value : ℕ → Option ℕ
octal_value byte = if nat_le 48 byte && nat_le byte 55 then Some (byte - 48) else None
