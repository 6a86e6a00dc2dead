-- What stands at the end of a text, and where.
use Rattle.std.proofs.Common.{◌≡◌, ℕ, zero, suc, ◌+◌, ◌≤◌, ◌<◌, Bool, true, false, cond, List, []}
use Rattle.std.proofs.Common.{◌∷◌, ◌++◌, length, drop, Some, None, Option, refl, sym, ap, ◌∙◌}
use Rattle.std.proofs.Common.{arith, append_assoc, length-append, length-drop}
use Rattle.std.specs.Prelude.{option_map}
use Rattle.token_text.specs.Bytes.{is_blank}
use Rattle.token_text.specs.Grammar.{Digit, Escape, itself, letter, hex_1, hex_2, octal_1, octal_2}
use Rattle.token_text.specs.Grammar.{octal_3, QuotedByte, plain, escaped, QuotedBytes, Word}
use Rattle.token_text.specs.Grammar.{plain_word, quoted_word, Reads, after_blanks}

-- The text ends with the rest.
pub record Ends (text rest : List ℕ) : Type 0 where
  pub front : List ℕ
  pub is : text ≡ front ++ rest

pub ends_here : (text rest : List ℕ) → text ≡ rest → Ends text rest
ends_here text rest is = record { front = []; is = is }

pub ends_behind : (text front rest : List ℕ) → text ≡ front ++ rest → Ends text rest
ends_behind text front rest is = record { front = front; is = is }

pub ends_tail : (text rest : List ℕ) (byte : ℕ) → text ≡ byte ∷ rest → Ends text rest
ends_tail text rest byte is = ends_behind text (byte ∷ []) rest is

pub ends_step : (text more rest : List ℕ) (byte : ℕ) → text ≡ byte ∷ more → Ends more rest
    → Ends text rest
ends_step text more rest byte is ends =
    record { front = byte ∷ ends.front; is = is ∙ ap (λ tail. byte ∷ tail) ends.is }

pub ends_on : (text more rest : List ℕ) → Ends text more → Ends more rest → Ends text rest
ends_on text more rest outer inner = record {
  front = outer.front ++ inner.front;
  is = outer.is ∙ ap (λ tail. outer.front ++ tail) inner.is
      ∙ sym (append_assoc outer.front inner.front rest);
}

pub ends_length : (text rest : List ℕ) → Ends text rest → length rest ≤ length text
ends_length text rest ends = omega (arith, ap length ends.is, length-append ends.front rest)

pub drop_front : (front rest : List ℕ) → drop (length front) (front ++ rest) ≡ rest
drop_front [] rest = refl
drop_front (byte ∷ front) rest = drop_front front rest

pub ends_drop : (text rest : List ℕ) (place : ℕ) → Ends text rest
    → place + length rest ≡ length text
    → drop place text ≡ rest
ends_drop text rest place ends sum =
    let same : place ≡ length ends.front =
    omega (arith, ap length ends.is, length-append ends.front rest) in
    ap (λ count. drop count text) same ∙ ap (drop (length ends.front)) ends.is
    ∙ drop_front ends.front rest

pub drop_ends : (text : List ℕ) (place : ℕ) → Ends text (drop place text)
drop_ends text zero = ends_here text text refl
drop_ends [] (suc place) = ends_here [] [] refl
drop_ends (byte ∷ text) (suc place) =
    ends_step (byte ∷ text) text (drop place text) byte refl (drop_ends text place)

digit_ends : (value : ℕ → Option ℕ) (text : List ℕ) (worth : ℕ) (rest : List ℕ)
    → Digit value text worth rest
    → Ends text rest
digit_ends value [] worth rest digit = absurd (cc)
digit_ends value (byte ∷ text) worth rest digit = by_value (value byte) digit
  where
    by_value : (found : Option ℕ)
        → option_map {U = ℕ × List ℕ} (λ own. (own, text)) found ≡ Some (worth, rest)
        → Ends (byte ∷ text) rest
    by_value None is = absurd (cc)
    by_value (Some own) is =
        let same : ◌≡◌ {A = ℕ × List ℕ} (own, text) (worth, rest) = cc in
        record { front = byte ∷ []; is = ap (λ pair. byte ∷ pair.1) same }

escape_ends : (text : List ℕ) (byte : ℕ) (rest : List ℕ) → Escape text byte rest → Ends text rest
escape_ends text byte rest (itself is own) = ends_tail text rest byte is
escape_ends text byte rest (letter name is own) = ends_tail text rest name is
escape_ends text byte rest (hex_1 more is first none) =
    ends_step text more rest 120 is (digit_ends _ more byte rest first)
escape_ends text byte rest (hex_2 more after high low is first next value) =
    ends_step text more rest 120 is
    (ends_on more after rest (digit_ends _ more high after first)
    (digit_ends _ after low rest next))
escape_ends text byte rest (octal_1 first none) = digit_ends _ text byte rest first
escape_ends text byte rest (octal_2 after high low first next none value) =
    ends_on text after rest (digit_ends _ text high after first) (digit_ends _ after low rest next)
escape_ends text byte rest (octal_3 after last high middle low first next third value few) =
    let front = ends_on text after last
    (digit_ends _ text high after first) (digit_ends _ after middle last next) in
    ends_on text last rest front (digit_ends _ last low rest third)

-- A byte in quotes takes one byte at least.
pub quoted_byte_ends : (text : List ℕ) (byte : ℕ) (rest : List ℕ) → QuotedByte text byte rest
    → Ends text rest × (length rest < length text)
quoted_byte_ends text byte rest (plain is no_quote no_slash) =
    (ends_tail text rest byte is, omega (arith, ap length is))
quoted_byte_ends text byte rest (escaped more is own) =
    let tail = escape_ends more byte rest own in
    (ends_step text more rest 92 is tail, omega (arith, ap length is, ends_length more rest tail))

pub quoted_ends : (text bytes rest : List ℕ) → QuotedBytes text bytes rest → Ends text rest
quoted_ends text [] rest is = ends_here text rest is
quoted_ends text (byte ∷ bytes) rest read =
    ends_on text read.0 rest (quoted_byte_ends text byte read.0 read.1).0
    (quoted_ends read.0 bytes rest read.2)

-- One more byte in quotes behind others.
pub quoted_push : (text bytes rest : List ℕ) (byte : ℕ) (more : List ℕ)
    → QuotedBytes text bytes rest → QuotedByte rest byte more
    → QuotedBytes text (bytes ++ byte ∷ []) more
quoted_push text [] rest byte more is quoted_byte =
    (more, rw is quoted_byte, refl)
quoted_push text (first ∷ bytes) rest byte more read quoted_byte =
    (read.0, read.1, quoted_push read.0 bytes rest byte more read.2 quoted_byte)

pub blanks_end : (text : List ℕ) → Ends text (after_blanks text)
blanks_end [] = ends_here [] [] refl
blanks_end (byte ∷ text) = by_test (is_blank byte) (blanks_end text)
  where
    by_test : (test : Bool) → Ends text (after_blanks text)
        → Ends (byte ∷ text) (cond test (after_blanks text) (byte ∷ text))
    by_test true ends = ends_step (byte ∷ text) text (after_blanks text) byte refl ends
    by_test false ends = ends_here (byte ∷ text) (byte ∷ text) refl

-- What is left behind the blanks begins with no blank.
pub first_visible : (text : List ℕ) (first : ℕ) (rest : List ℕ) → after_blanks text ≡ first ∷ rest
    → is_blank first ≡ false
first_visible [] first rest is = absurd (cc)
first_visible (byte ∷ text) first rest is =
    by_test (is_blank byte) refl (first_visible text first rest) is
  where
    by_test : (test : Bool) → is_blank byte ≡ test
        → (after_blanks text ≡ first ∷ rest → is_blank first ≡ false)
        → cond test (after_blanks text) (byte ∷ text) ≡ first ∷ rest
        → is_blank first ≡ false
    by_test true tested later left = later left
    by_test false tested later left =
        let heads : byte ≡ first = cc in
        ap is_blank (sym heads) ∙ tested

-- A token has a first byte, so less is left behind it.
pub word_shorter : (text bytes rest : List ℕ) → Word text bytes rest → length rest < length text
word_shorter text [] rest (plain_word is bare stop) = absurd bare
word_shorter text (byte ∷ bytes) rest (plain_word is bare stop) =
    omega (arith, ap length is, length-append (byte ∷ bytes) rest)
word_shorter text bytes rest (quoted_word more is read) =
    omega (
      arith,
      ap length is,
      ends_length more (34 ∷ rest)
          (quoted_ends more bytes (34 ∷ rest) read),
    )

-- The next token ends further on.
pub reads_on : (line : List ℕ) (at start end : ℕ) (bytes : List ℕ) → Reads line at start end bytes
    → at < end
reads_on line at start end bytes reads =
    omega (
      arith,
      word_shorter _ _ _ reads.word,
      ends_length _ _ (blanks_end (drop at line)),
      reads.end_in,
      length-drop at line,
      length-drop end line,
    )
