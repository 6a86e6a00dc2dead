-- From each place of a line on something stands, and so each line has tokens.
use Rattle.std.proofs.Common.{◌≡◌, ℕ, zero, suc, ◌-◌, ◌<◌, Bool, true, false, List, [], ◌∷◌, ◌++◌}
use Rattle.std.proofs.Common.{length, take, drop, Option, Some, None, inl, inr, refl, sym, ap, ◌∙◌}
use Rattle.std.proofs.Common.{arith}
use Rattle.std.specs.Prelude.{◌==◌, not, ◌&&◌}
use Rattle.std.proofs.lemmas.Bool.{eqb-true, eqb-false}
use Rattle.token_text.specs.Bytes.{is_blank}
use Rattle.token_text.specs.Grammar.{QuotedBytes, IsStop, after_blanks, is_word_bytes}
use Rattle.token_text.specs.Scan.{quoted_byte}
use Rattle.token_text.specs.Laws.{Stands, token, nothing, bad_backslash, open_quote, Meets}
use Rattle.token_text.specs.LineTokens.{HasTokens}
use Rattle.token_text.specs.declared.tokens.Token.{Token}
use Rattle.token_text.proofs.EscapeLaws.{quoted_byte_from}
use Rattle.token_text.proofs.Places.{quoted_byte_ends, reads_on}
use Rattle.token_text.proofs.Outcomes.{found, reads_plain, reads_quoted, stays_open, goes_bad}

-- The bytes up to the next blank, and what follows them.
record Split (text : List ℕ) : Type 0 where
  word : List ℕ
  rest : List ℕ
  split : text ≡ word ++ rest
  visible : is_word_bytes word ≡ true
  stop : IsStop rest

split_word : (text : List ℕ) → Split text
split_word [] = record { word = []; rest = []; split = refl; visible = refl; stop = tt }
split_word (byte ∷ text) = by_test (split_word text) (is_blank byte) refl
  where
    by_test : Split text → (test : Bool) → is_blank byte ≡ test → Split (byte ∷ text)
    by_test more true tested = record {
      word = [];
      rest = byte ∷ text;
      split = refl;
      visible = refl;
      stop = tested;
    }
    by_test more false tested = record {
      word = byte ∷ more.word;
      rest = more.rest;
      split = ap (λ tail. byte ∷ tail) more.split;
      visible = ap (λ test. not test && is_word_bytes more.word) tested ∙ more.visible;
      stop = more.stop;
    }

-- The bytes in quotes as far as they can be read, and what follows them.
record Quoted (text : List ℕ) : Type 0 where
  bytes : List ℕ
  rest : List ℕ
  read : QuotedBytes text bytes rest
  stops : quoted_byte rest ≡ None

quoted_of : (most : ℕ) (text : List ℕ) → length text < most → Quoted text
quoted_of zero text few = absurd (omega arith)
quoted_of (suc most) text few = by_byte (quoted_of most) (quoted_byte text) refl
  where
    by_byte : ((rest : List ℕ) → length rest < most → Quoted rest) → (found : Option (ℕ × List ℕ))
        → quoted_byte text ≡ found → Quoted text
    by_byte next None is = record { bytes = []; rest = text; read = refl; stops = is }
    by_byte next (Some pair) is =
        let byte = quoted_byte_from text pair.0 pair.1 is in
        let more = next pair.1 (omega (arith, (quoted_byte_ends text pair.0 pair.1 byte).1)) in
        record {
          bytes = pair.0 ∷ more.bytes;
          rest = more.rest;
          read = (pair.1, byte, more.read);
          stops = more.stops;
        }

module _ (line : List ℕ) (at : ℕ) where
  abbrev text_left : List ℕ
  text_left = after_blanks (take (length line - at) (drop at line))

  abbrev Reading : Type 0
  Reading = (stands : Stands) × Meets line at stands

  plain_reading : (byte : ℕ) (inner : List ℕ) → text_left ≡ byte ∷ inner → (byte ≡ 34 → ⊥) → Reading
  plain_reading byte inner is no_quote =
      let parts = split_word text_left in
      let start = length line - length text_left in
      let end = length line - length parts.rest in (
        token start end parts.word,
        reads_plain line at text_left refl start end byte inner parts.word parts.rest is no_quote
            parts.split parts.visible parts.stop refl refl,
      )

  quoted_reading : (inner : List ℕ) → text_left ≡ 34 ∷ inner → Reading
  quoted_reading inner is = by_rest quoted.rest refl
    where
      quoted : Quoted inner
      quoted = quoted_of (suc (length inner)) inner (omega arith)

      start : ℕ
      start = length line - length text_left

      by_test : (byte : ℕ) (after : List ℕ) → quoted.rest ≡ byte ∷ after → (test : Bool)
          → (byte == 34) ≡ test
          → Reading
      by_test byte after rest_is true tested =
          let end = length line - length after in (
            token start end quoted.bytes,
            reads_quoted line at text_left refl start end inner quoted.bytes after quoted.rest is
                quoted.read
                (rest_is ∙ ap (λ first. first ∷ after) (eqb-true byte 34 tested)) refl refl,
          )
      by_test byte after rest_is false tested =
          let place = length line - length quoted.rest in (
            bad_backslash place,
            goes_bad line at text_left refl place inner quoted.bytes quoted.rest after byte is
                quoted.read
                quoted.stops rest_is (eqb-false byte 34 tested) refl,
          )

      by_rest : (rest : List ℕ) → quoted.rest ≡ rest → Reading
      by_rest [] rest_is = (
        open_quote start,
        stays_open line at text_left refl start inner quoted.bytes quoted.rest is quoted.read
            (ap length rest_is) refl,
      )
      by_rest (byte ∷ after) rest_is = by_test byte after rest_is (byte == 34) refl

  pub some_reading : (stands : Stands) × Meets line at stands
  some_reading = by_text text_left refl
    where
      by_first : (byte : ℕ) (inner : List ℕ) → text_left ≡ byte ∷ inner → (test : Bool)
          → (byte == 34) ≡ test
          → Reading
      by_first byte inner is true tested =
          quoted_reading inner (is ∙ ap (λ first. first ∷ inner) (eqb-true byte 34 tested))
      by_first byte inner is false tested = plain_reading byte inner is (eqb-false byte 34 tested)

      by_text : (text : List ℕ) → text_left ≡ text → Reading
      by_text [] is = (nothing, sym (found line at text_left refl) ∙ is)
      by_text (byte ∷ inner) is = by_first byte inner is (byte == 34) refl

-- From the place on stand some tokens.
abbrev pub TokensFrom : List ℕ → ℕ → Type 0
TokensFrom line at = (tokens : List Token) × (fault : Option ℕ) × HasTokens line at tokens fault

tokens_from : (most : ℕ) (line : List ℕ) (at : ℕ) → length line - at < most → TokensFrom line at
tokens_from zero line at few = absurd (omega arith)
tokens_from (suc most) line at few = by_reading (tokens_from most line) (some_reading line at)
  where
    by_reading : ((end : ℕ) → length line - end < most → TokensFrom line end)
        → (stands : Stands) × Meets line at stands → TokensFrom line at
    by_reading next (nothing, none) = ([], None, none)
    by_reading next (bad_backslash place, bad) = ([], Some place, inl bad)
    by_reading next (open_quote place, unclosed) = ([], Some place, inr unclosed)
    by_reading next (token start end bytes, reads) =
        let more = next end (omega (arith, reads_on line at start end bytes reads, reads.end_in)) in
        (record { start = start; end = end; bytes = bytes } ∷ more.0, more.1, (reads, more.2))

pub some_tokens : (line : List ℕ) → TokensFrom line 0
some_tokens line = tokens_from (suc (length line)) line 0 (omega arith)
