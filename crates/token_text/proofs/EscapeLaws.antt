-- The functions that read an escape give just what the grammar says.
use Rattle.std.proofs.Common.{◌≡◌, ℕ, ◌+◌, ◌*◌, ◌≤◌, Bool, true, false, cond, List, [], ◌∷◌, Some}
use Rattle.std.proofs.Common.{None, Option, refl, sym, ap, ◌∙◌, arith}
use Rattle.std.specs.Prelude.{◌==◌, option_map}
use Rattle.std.proofs.lemmas.Bool.{eq-eqb, ne_eqb, eqb-true, cond-true, cond-false}
use Rattle.token_text.specs.Bytes.{is_itself, letter_byte, hex_value, octal_value}
use Rattle.token_text.specs.Grammar.{digit_at, Digit, Escape, itself, letter, hex_1, hex_2, octal_1}
use Rattle.token_text.specs.Grammar.{octal_2, octal_3, QuotedByte, plain, escaped}
use Rattle.token_text.specs.Scan.{ByteAndRest, or_then, hex, hex_pair, after_hex, octal, after_one}
use Rattle.token_text.specs.Scan.{after_two, after_three, at_most_a_byte, letter_or_octal, escape}
use Rattle.token_text.specs.Scan.{quoted_byte}

none_then : {A B : Type 0} (found : Option A) (none : B) (some : A → B) → found ≡ None
    → or_then found none some ≡ none
none_then None none some is = refl
none_then (Some value) none some is = absurd (cc)

some_then : {A B : Type 0} (found : Option A) (none : B) (some : A → B) (value : A)
    → found ≡ Some value
    → or_then found none some ≡ some value
some_then None none some value is = absurd (cc)
some_then (Some other) none some value is = cc

-- What the functions read is in the grammar.
module _ (text : List ℕ) (byte : ℕ) (rest : List ℕ) where
  hex_from : (more : List ℕ) → text ≡ 120 ∷ more → (found : ByteAndRest)
      → digit_at hex_value more ≡ found
      → or_then found None after_hex ≡ Some (byte, rest) → Escape text byte rest
  hex_from more is None first given = absurd (cc)
  hex_from more is (Some high) first given = second (digit_at hex_value high.1) refl given
    where
      second : (found : ByteAndRest) → digit_at hex_value high.1 ≡ found
          → or_then found (Some high) (hex_pair high) ≡ Some (byte, rest) → Escape text byte rest
      second None none given =
          let same : high ≡ (byte, rest) = cc in
          hex_1 more is (first ∙ given) (ap (λ pair. digit_at hex_value pair.1) (sym same) ∙ none)
      second (Some low) next given =
          let same : ◌≡◌ {A = ℕ × List ℕ} (16 * high.0 + low.0, low.1) (byte, rest) = cc in
          hex_2 more high.1 high.0 low.0 is first (next ∙ ap (λ pair. Some (low.0, pair.1)) same)
          (sym (ap (λ pair. pair.0) same))

  small_enough : (value : ℕ) (after : List ℕ) → at_most_a_byte value after ≡ Some (byte, rest)
      → (value ≡ byte) × (after ≡ rest) × (byte ≤ 255)
  small_enough value after given = grind arith

  octal_from : (found : ByteAndRest) → digit_at octal_value text ≡ found
      → or_then found None after_one ≡ Some (byte, rest) → Escape text byte rest
  octal_from None first given = absurd (cc)
  octal_from (Some high) first given = second (digit_at octal_value high.1) refl given
    where
      third : (middle : ℕ × List ℕ) → digit_at octal_value high.1 ≡ Some middle
          → (found : ByteAndRest) → digit_at octal_value middle.1 ≡ found
          → or_then found (Some (8 * high.0 + middle.0, middle.1)) (after_three high middle)
          ≡ Some (byte, rest)
          → Escape text byte rest
      third middle next None none given =
          let same : ◌≡◌ {A = ℕ × List ℕ} (8 * high.0 + middle.0, middle.1) (byte, rest) = cc in
          octal_2 high.1 high.0 middle.0 first (next ∙ ap (λ pair. Some (middle.0, pair.1)) same)
          (ap (λ pair. digit_at octal_value pair.1) (sym same)
          ∙ none) (sym (ap (λ pair. pair.0) same))
      third middle next (Some low) last given =
          let parts = small_enough (64 * high.0 + 8 * middle.0 + low.0) low.1 given in
          octal_3 high.1 middle.1 high.0 middle.0 low.0 first next
          (last ∙ ap (λ after. Some (low.0, after)) parts.1)
          (sym parts.0) parts.2

      second : (found : ByteAndRest) → digit_at octal_value high.1 ≡ found
          → or_then found (Some high) (after_two high) ≡ Some (byte, rest) → Escape text byte rest
      second None none given =
          let same : high ≡ (byte, rest) = cc in
          octal_1 (first ∙ given) (ap (λ pair. digit_at octal_value pair.1) (sym same) ∙ none)
      second (Some middle) next given = third middle next (digit_at octal_value middle.1) refl given

pub escape_from : (text : List ℕ) (byte : ℕ) (rest : List ℕ) → escape text ≡ Some (byte, rest)
    → Escape text byte rest
escape_from [] byte rest given = absurd (cc)
escape_from (name ∷ more) byte rest given = first (is_itself name) refl given
  where
    last : (found : Option ℕ) → letter_byte name ≡ found
        → or_then found (octal (name ∷ more)) (λ value. Some (value, more)) ≡ Some (byte, rest)
        → Escape (name ∷ more) byte rest
    last None none given =
        octal_from (name ∷ more) byte rest (digit_at octal_value (name ∷ more)) refl given
    last (Some value) is given =
        let same : ◌≡◌ {A = ℕ × List ℕ} (value, more) (byte, rest) = cc in
        letter name (ap (λ pair. name ∷ pair.1) same) (is ∙ ap (λ pair. Some pair.0) same)

    second : (test : Bool) → (name == 120) ≡ test
        → cond test (hex more) (letter_or_octal name more) ≡ Some (byte, rest)
        → Escape (name ∷ more) byte rest
    second true is given =
        hex_from (name ∷ more) byte rest more (ap (λ other. other ∷ more) (eqb-true name 120 is))
        (digit_at hex_value more) refl given
    second false is given = last (letter_byte name) refl given

    first : (test : Bool) → is_itself name ≡ test
        → cond test (Some (name, more)) (cond (name == 120) (hex more) (letter_or_octal name more))
        ≡ Some (byte, rest)
        → Escape (name ∷ more) byte rest
    first true is given =
        let same : ◌≡◌ {A = ℕ × List ℕ} (name, more) (byte, rest) = cc in
        itself (ap (λ pair. pair.0 ∷ pair.1) same) (ap (λ pair. is_itself pair.0) (sym same) ∙ is)
    first false is given = second (name == 120) refl given

differs : (byte other : ℕ) → (byte == other) ≡ false → byte ≡ other → ⊥
differs byte other tested is = absurd (cc (sym (eq-eqb byte other is) ∙ tested))

pub quoted_byte_from : (text : List ℕ) (byte : ℕ) (rest : List ℕ)
    → quoted_byte text ≡ Some (byte, rest)
    → QuotedByte text byte rest
quoted_byte_from [] byte rest given = absurd (cc)
quoted_byte_from (head ∷ more) byte rest given = first (head == 34) refl given
  where
    second : (test : Bool) → (head == 92) ≡ test → (head ≡ 34 → ⊥)
        → cond test (escape more) (Some (head, more)) ≡ Some (byte, rest)
        → QuotedByte (head ∷ more) byte rest
    second true is no_quote given =
        escaped more (ap (λ other. other ∷ more) (eqb-true head 92 is))
        (escape_from more byte rest given)
    second false is no_quote given =
        let same : ◌≡◌ {A = ℕ × List ℕ} (head, more) (byte, rest) = cc in
        let heads : head ≡ byte = ap (λ pair. pair.0) same in
        plain (ap (λ pair. pair.0 ∷ pair.1) same) (λ quote. no_quote (heads ∙ quote))
        (λ slash. differs head 92 is (heads ∙ slash))

    first : (test : Bool) → (head == 34) ≡ test
        → cond test None (cond (head == 92) (escape more) (Some (head, more))) ≡ Some (byte, rest)
        → QuotedByte (head ∷ more) byte rest
    first true is given = absurd (cc)
    first false is given = second (head == 92) refl (differs head 34 is) given

-- Letters, octal digits, the letter x and the bytes that stand for themselves differ.
letter_not_itself : (name byte : ℕ) → letter_byte name ≡ Some byte → is_itself name ≡ false
letter_not_itself name byte is = grind arith

letter_not_x : (name byte : ℕ) → letter_byte name ≡ Some byte → (name == 120) ≡ false
letter_not_x name byte is = grind arith

octal_not_itself : (digit value : ℕ) → octal_value digit ≡ Some value → is_itself digit ≡ false
octal_not_itself digit value is = grind arith

octal_not_x : (digit value : ℕ) → octal_value digit ≡ Some value → (digit == 120) ≡ false
octal_not_x digit value is = grind arith

octal_no_letter : (digit value : ℕ) → octal_value digit ≡ Some value → letter_byte digit ≡ None
octal_no_letter digit value is = grind arith

digit_head : (found : Option ℕ) (more rest : List ℕ) (value : ℕ)
    → option_map {U = ℕ × List ℕ} (λ worth. (worth, more)) found ≡ Some (value, rest)
    → found ≡ Some value
digit_head None more rest value is = absurd (cc)
digit_head (Some worth) more rest value is =
    let same : ◌≡◌ {A = ℕ × List ℕ} (worth, more) (value, rest) = cc in
    ap (λ pair. Some pair.0) same

-- Where the head is no byte that stands for itself and no x, a letter or octal digits are read.
escape_last : (head : ℕ) (more : List ℕ) → is_itself head ≡ false → (head == 120) ≡ false
    → escape (head ∷ more) ≡ letter_or_octal head more
escape_last head more no_itself no_x =
    cond-false (is_itself head) (Some (head, more))
    (cond (head == 120) (hex more) (letter_or_octal head more))
    no_itself
    ∙ cond-false (head == 120) (hex more) (letter_or_octal head more) no_x

escape_octal : (text : List ℕ) (value : ℕ) (rest : List ℕ) → Digit octal_value text value rest
    → escape text ≡ octal text
escape_octal [] value rest digit = absurd (cc)
escape_octal (head ∷ more) value rest digit =
    let is = digit_head (octal_value head) more rest value digit in
    escape_last head more (octal_not_itself head value is) (octal_not_x head value is)
    ∙ none_then (letter_byte head) (octal (head ∷ more)) (λ byte. Some (byte, more))
    (octal_no_letter head value is)

escape_letter : (name byte : ℕ) (rest : List ℕ) → letter_byte name ≡ Some byte
    → escape (name ∷ rest) ≡ Some (byte, rest)
escape_letter name byte rest is =
    escape_last name rest (letter_not_itself name byte is) (letter_not_x name byte is)
    ∙ some_then (letter_byte name) (octal (name ∷ rest)) (λ value. Some (value, rest)) byte is

fits : (value byte : ℕ) (rest : List ℕ) → byte ≡ value → byte ≤ 255
    → at_most_a_byte value rest ≡ Some (byte, rest)
fits value byte rest is few = grind arith

-- What is in the grammar is read by the functions.
pub escape_is : (text : List ℕ) (byte : ℕ) (rest : List ℕ) → Escape text byte rest
    → escape text ≡ Some (byte, rest)
escape_is text byte rest (itself is own) =
    ap escape is
    ∙ cond-true (is_itself byte) (Some (byte, rest))
    (cond (byte == 120) (hex rest) (letter_or_octal byte rest)) own
escape_is text byte rest (letter name is own) = ap escape is ∙ escape_letter name byte rest own
escape_is text byte rest (hex_1 more is first none) =
    ap escape is
    ∙ some_then (digit_at hex_value more) None after_hex (byte, rest) first
    ∙ none_then (digit_at hex_value rest) (Some (byte, rest)) (hex_pair (byte, rest)) none
escape_is text byte rest (hex_2 more after high low is first next value) =
    ap escape is
    ∙ some_then (digit_at hex_value more) None after_hex (high, after) first
    ∙ some_then (digit_at hex_value after) (Some (high, after)) (hex_pair (high, after)) (low, rest)
    next
    ∙ ap (λ number. Some (number, rest)) (sym value)
escape_is text byte rest (octal_1 first none) =
    escape_octal text byte rest first
    ∙ some_then (digit_at octal_value text) None after_one (byte, rest) first
    ∙ none_then (digit_at octal_value rest) (Some (byte, rest)) (after_two (byte, rest)) none
escape_is text byte rest (octal_2 after high low first next none value) =
    escape_octal text high after first
    ∙ some_then (digit_at octal_value text) None after_one (high, after) first
    ∙ some_then (digit_at octal_value after) (Some (high, after)) (after_two (high, after))
    (low, rest) next
    ∙ none_then (digit_at octal_value rest) (Some (8 * high + low, rest))
    (after_three (high, after) (low, rest)) none
    ∙ ap (λ number. Some (number, rest)) (sym value)
escape_is text byte rest (octal_3 after last high middle low first next third value few) =
    escape_octal text high after first
    ∙ some_then (digit_at octal_value text) None after_one (high, after) first
    ∙ some_then (digit_at octal_value after) (Some (high, after)) (after_two (high, after))
    (middle, last) next
    ∙ some_then (digit_at octal_value last) (Some (8 * high + middle, last))
    (after_three (high, after) (middle, last)) (low, rest) third
    ∙ fits (64 * high + 8 * middle + low) byte rest value few

pub quoted_byte_is : (text : List ℕ) (byte : ℕ) (rest : List ℕ) → QuotedByte text byte rest
    → quoted_byte text ≡ Some (byte, rest)
quoted_byte_is text byte rest (plain is no_quote no_slash) =
    ap quoted_byte is
    ∙ cond-false (byte == 34) None (cond (byte == 92) (escape rest) (Some (byte, rest)))
    (ne_eqb byte 34 no_quote)
    ∙ cond-false (byte == 92) (escape rest) (Some (byte, rest)) (ne_eqb byte 92 no_slash)
quoted_byte_is text byte rest (escaped more is own) =
    ap quoted_byte is ∙ escape_is more byte rest own
