-- What is written reads as itself, and has no line end.
use Rattle.std.proofs.Common.{◌≡◌, ℕ, ◌+◌, ◌*◌, ◌/◌, ◌%◌, ◌≤◌, ◌<◌, Bool, true, false, cond, eqb}
use Rattle.std.proofs.Common.{◌≢◌, List, [], ◌∷◌, ◌++◌, Some, ◌⊎◌, inl, inr, ⊎_elim, refl, sym, ap}
use Rattle.std.proofs.Common.{◌∙◌, subst, arith, append_assoc, length, length-append}
use Rattle.std.specs.Prelude.{◌&&◌, not, IsTrue, option_map}
use Rattle.std.specs.List.{list_all, flat_map}
use Rattle.std.proofs.lemmas.Bool.{and_parts}
use Rattle.std.proofs.lemmas.Bool.Decides.{eqb_tells, leb_tells}
use Rattle.token_text.specs.Bytes.{is_blank, is_itself, letter_byte, octal_value}
use Rattle.token_text.specs.Grammar.{Digit, Escape, itself, letter, octal_3, QuotedByte, plain}
use Rattle.token_text.specs.Grammar.{escaped, QuotedBytes, IsPlain, IsStop, is_word_bytes, Reads}
use Rattle.token_text.specs.Grammar.{Word, plain_word, quoted_word, after_blanks, Next}
use Rattle.token_text.specs.Written.{is_bare_byte, starts_bare, is_bare, octal_digits, spelled}
use Rattle.token_text.specs.Written.{quoted, written}
use Rattle.token_text.specs.Lines.{IsInside}
use Rattle.token_text.proofs.Places.{drop_front, ends_behind, ends_drop}

-- The four ways in which a byte is written in quotes.
data Spelling (byte : ℕ) : Type 0 where
  by_itself : IsTrue (is_itself byte) → spelled byte ≡ 92 ∷ byte ∷ [] → (byte ≡ 10 → ⊥)
      → Spelling byte
  by_letter : (name : ℕ) → letter_byte name ≡ Some byte → spelled byte ≡ 92 ∷ name ∷ []
      → (name ≡ 10 → ⊥)
      → Spelling byte
  by_octal : byte ≤ 127 → spelled byte ≡ 92 ∷ octal_digits byte → Spelling byte
  as_it_is : (byte ≡ 34 → ⊥) → (byte ≡ 92 → ⊥) → spelled byte ≡ byte ∷ [] → (byte ≡ 10 → ⊥)
      → Spelling byte

spelled_as_is : (byte : ℕ) → 32 ≤ byte → (byte ≡ 127 → ⊥) → (byte ≡ 34 → ⊥) → (byte ≡ 92 → ⊥)
    → spelled byte ≡ byte ∷ []
spelled_as_is byte high no_delete no_quote no_slash = grind arith

spelled_octal : (byte : ℕ) → ((byte ≤ 6) ⊎ ((14 ≤ byte) × (byte ≤ 31))) ⊎ (byte ≡ 127)
    → spelled byte ≡ 92 ∷ octal_digits byte
spelled_octal byte range = grind arith

module _ (byte : ℕ) where
  -- By cases: the byte is this number or not, and at most this number or above it.
  by_equal : (number : ℕ) → (byte ≡ number → Spelling byte) → ((byte ≡ number → ⊥) → Spelling byte)
      → Spelling byte
  by_equal number same other =
      let on : (eqb byte number ≡ true) × (byte ≡ number) → Spelling byte = λ tells. same tells.1 in
      let off : (eqb byte number ≡ false) × (byte ≢ number) → Spelling byte =
      λ tells. other tells.1 in
      ⊎_elim on off (eqb_tells byte number)

  by_most : (number : ℕ) → (byte ≤ number → Spelling byte) → (number < byte → Spelling byte)
      → Spelling byte
  by_most number low high =
      ⊎_elim (λ tells. low tells.1) (λ tells. high tells.1) (leb_tells byte number)

  at_letter : (value name : ℕ) → letter_byte name ≡ Some value → spelled value ≡ 92 ∷ name ∷ []
      → (name ≡ 10 → ⊥) → byte ≡ value → Spelling byte
  at_letter value name letters spells no_end same =
      subst Spelling (sym same) (by_letter name letters spells no_end)

  at_quote : byte ≡ 34 → Spelling byte
  at_quote same = subst Spelling (sym same) (by_itself refl refl (λ end. omega arith))

  at_slash : byte ≡ 92 → Spelling byte
  at_slash same = subst Spelling (sym same) (by_itself refl refl (λ end. omega arith))

  above_letters : 13 < byte → Spelling byte
  above_letters above =
      by_most 31 (λ low. by_octal (omega arith) (spelled_octal byte (inl (inr (above, low)))))
      (λ high.
      by_equal 127 (λ same. by_octal (omega arith) (spelled_octal byte (inr same))) (λ no_delete.
      by_equal 34 at_quote (λ no_quote.
      by_equal 92 at_slash (λ no_slash.
      let is = spelled_as_is byte high no_delete no_quote no_slash in
      as_it_is no_quote no_slash is (λ end. omega arith)))))

  spelling_of : Spelling byte
  spelling_of =
      by_most 6 (λ low. by_octal (omega arith) (spelled_octal byte (inl (inl low)))) (λ above_6.
      by_equal 7 (at_letter 7 97 refl refl (λ end. omega arith)) (λ no_7.
      by_equal 8 (at_letter 8 98 refl refl (λ end. omega arith)) (λ no_8.
      by_equal 9 (at_letter 9 116 refl refl (λ end. omega arith)) (λ no_9.
      by_equal 10 (at_letter 10 110 refl refl (λ end. omega arith)) (λ no_10.
      by_equal 11 (at_letter 11 118 refl refl (λ end. omega arith)) (λ no_11.
      by_equal 12 (at_letter 12 102 refl refl (λ end. omega arith)) (λ no_12.
      by_equal 13 (at_letter 13 114 refl refl (λ end. omega arith)) (λ no_13.
      above_letters (omega arith)))))))))

octal_value_of : (digit value : ℕ) → digit ≡ 48 + value → value ≤ 7 → octal_value digit ≡ Some value
octal_value_of digit value is low = grind arith

octal_digit : (value : ℕ) (rest : List ℕ) → value ≤ 7
    → Digit octal_value ((48 + value) ∷ rest) value rest
octal_digit value rest low =
    ap (option_map {U = ℕ × List ℕ} (λ worth. (worth, rest)))
    (octal_value_of (48 + value) value refl low)

sum_of : (byte : ℕ) → byte ≤ 127 → byte ≡ 64 * (byte / 64) + 8 * (byte / 8 % 8) + byte % 8
sum_of byte low = omega arith

octal_escape : (byte : ℕ) (rest : List ℕ) → byte ≤ 127
    → Escape (octal_digits byte ++ rest) byte rest
octal_escape byte rest low =
    let last = (48 + byte % 8) ∷ rest in
    let after = (48 + byte / 8 % 8) ∷ last in
    octal_3 after last (byte / 64) (byte / 8 % 8) (byte % 8)
    (octal_digit (byte / 64) after (omega arith))
    (octal_digit (byte / 8 % 8) last (omega arith))
    (octal_digit (byte % 8) rest (omega arith))
    (sum_of byte low) (omega arith)

spelled_byte : (byte : ℕ) (rest : List ℕ) → Spelling byte
    → QuotedByte (spelled byte ++ rest) byte rest
spelled_byte byte rest (by_itself own is no_end) =
    rw is (escaped (byte ∷ rest) refl (itself refl own))
spelled_byte byte rest (by_letter name own is no_end) =
    rw is (escaped (name ∷ rest) refl (letter name refl own))
spelled_byte byte rest (by_octal low is) =
    rw is (escaped (octal_digits byte ++ rest) refl (octal_escape byte rest low))
spelled_byte byte rest (as_it_is no_quote no_slash is no_end) =
    rw is (plain refl no_quote no_slash)

spelled_quoted : (bytes rest : List ℕ)
    → QuotedBytes ((flat_map spelled bytes ++ 34 ∷ []) ++ rest) bytes (34 ∷ rest)
spelled_quoted [] rest = refl
spelled_quoted (byte ∷ bytes) rest =
    let more = (flat_map spelled bytes ++ 34 ∷ []) ++ rest in
    let text : (flat_map spelled (byte ∷ bytes) ++ 34 ∷ []) ++ rest ≡ spelled byte ++ more =
    simp append_assoc in
    let first = spelled_byte byte more (spelling_of byte) in
    (more, rw text first, spelled_quoted bytes rest)

bare_visible : (byte : ℕ) → is_bare_byte byte ≡ true → is_blank byte ≡ false
bare_visible byte bare = grind arith

bare_word : (bytes : List ℕ) → list_all is_bare_byte bytes ≡ true → is_word_bytes bytes ≡ true
bare_word [] bare = refl
bare_word (byte ∷ bytes) bare =
    let parts = and_parts (is_bare_byte byte) (list_all is_bare_byte bytes) bare in
    ap (λ blank. not blank && is_word_bytes bytes) (bare_visible byte parts.0)
    ∙ bare_word bytes parts.1

-- Where they need no quotes, the bytes begin with no blank.
bare_starts : (bytes rest : List ℕ) → is_bare bytes ≡ true
    → after_blanks (bytes ++ rest) ≡ bytes ++ rest
bare_starts [] rest bare = absurd (cc)
bare_starts (byte ∷ bytes) rest bare =
    let all =
    (and_parts (starts_bare (byte ∷ bytes)) (list_all is_bare_byte (byte ∷ bytes)) bare).1 in
    let first =
    bare_visible byte (and_parts (is_bare_byte byte) (list_all is_bare_byte bytes) all).0 in
    ap (λ blank. cond blank (after_blanks (bytes ++ rest)) (byte ∷ bytes ++ rest)) first

bare_plain : (bytes : List ℕ) → is_bare bytes ≡ true → IsPlain bytes
bare_plain [] bare = absurd (cc)
bare_plain (byte ∷ bytes) bare =
    let all =
    (and_parts (starts_bare (byte ∷ bytes)) (list_all is_bare_byte (byte ∷ bytes)) bare).1 in
    let first = (and_parts (is_bare_byte byte) (list_all is_bare_byte bytes) all).0 in (
      (λ quote. absurd (cc (sym first ∙ ap is_bare_byte quote))),
      bare_word (byte ∷ bytes) all,
    )

bare_reads : (bytes rest : List ℕ) → is_bare bytes ≡ true → IsStop rest
    → Next (bytes ++ rest) bytes rest
bare_reads bytes rest bare stop =
    let word : Word (bytes ++ rest) bytes rest = plain_word refl (bare_plain bytes bare) stop in
    rw (bare_starts bytes rest bare) word

pub written_reads : (bytes rest : List ℕ) → IsStop rest → Next (written bytes ++ rest) bytes rest
written_reads bytes rest stop = by_test (is_bare bytes) refl
  where
    by_test : (test : Bool) → is_bare bytes ≡ test
        → Next (cond test bytes (quoted bytes) ++ rest) bytes rest
    by_test true bare = bare_reads bytes rest bare stop
    by_test false bare =
        quoted_word ((flat_map spelled bytes ++ 34 ∷ []) ++ rest) refl (spelled_quoted bytes rest)

written_starts : (bytes rest : List ℕ)
    → after_blanks (written bytes ++ rest) ≡ written bytes ++ rest
written_starts bytes rest = by_test (is_bare bytes) refl
  where
    by_test : (test : Bool) → is_bare bytes ≡ test
        → after_blanks (cond test bytes (quoted bytes) ++ rest) ≡ cond test bytes (quoted bytes)
        ++ rest
    by_test true bare = bare_starts bytes rest bare
    by_test false bare = refl

pub written_stands : (front bytes rest : List ℕ) → IsStop rest
    → Reads (front ++ (written bytes ++ rest)) (length front) (length front)
    (length front + length (written bytes)) bytes
written_stands front bytes rest stop =
    let text = written bytes ++ rest in
    let line = front ++ text in
    let whole = length-append front text in
    let parts = length-append (written bytes) rest in
    let start = drop_front front text in
    let split = sym (append_assoc front (written bytes) rest) in
    let ends = ends_behind line (front ++ written bytes) rest split in
    let end = ends_drop line rest (length front + length (written bytes)) ends (omega arith) in
    let next = written_reads bytes rest stop in
    record {
      word = rw end (rw start next);
      start_is = omega (arith, ap length (ap after_blanks start ∙ written_starts bytes rest));
      end_in = omega arith;
    }

-- A backslash and what follows it hold no line end.
inside_two : (name : ℕ) → (name ≡ 10 → ⊥) → IsInside (92 ∷ name ∷ [])
inside_two name no_end = ((λ end. omega arith), (no_end, tt))

inside_octal : (byte : ℕ) → IsInside (92 ∷ octal_digits byte)
inside_octal byte = (
  (λ end. omega arith),
  (
    (λ end. omega arith),
    ((λ end. omega arith), ((λ end. omega arith), tt)),
  ),
)

spelled_inside : (byte : ℕ) → Spelling byte → IsInside (spelled byte)
spelled_inside byte (by_itself own is no_end) = subst IsInside (sym is) (inside_two byte no_end)
spelled_inside byte (by_letter name own is no_end) =
    subst IsInside (sym is) (inside_two name no_end)
spelled_inside byte (by_octal low is) = subst IsInside (sym is) (inside_octal byte)
spelled_inside byte (as_it_is no_quote no_slash is no_end) = subst IsInside (sym is) (no_end, tt)

inside_append : (front rest : List ℕ) → IsInside front → IsInside rest → IsInside (front ++ rest)
inside_append [] rest front_inside rest_inside = rest_inside
inside_append (byte ∷ front) rest front_inside rest_inside =
    (front_inside.0, inside_append front rest front_inside.1 rest_inside)

all_inside : (bytes : List ℕ) → IsInside (flat_map spelled bytes)
all_inside [] = tt
all_inside (byte ∷ bytes) =
    inside_append (spelled byte) (flat_map spelled bytes)
    (spelled_inside byte (spelling_of byte)) (all_inside bytes)

bare_no_end : (byte : ℕ) → is_bare_byte byte ≡ true → byte ≡ 10 → ⊥
bare_no_end byte bare end = absurd (cc (sym bare ∙ ap is_bare_byte end))

bare_inside : (bytes : List ℕ) → list_all is_bare_byte bytes ≡ true → IsInside bytes
bare_inside [] bare = tt
bare_inside (byte ∷ bytes) bare =
    let parts = and_parts (is_bare_byte byte) (list_all is_bare_byte bytes) bare in
    (bare_no_end byte parts.0, bare_inside bytes parts.1)

pub written_inside : (bytes : List ℕ) → IsInside (written bytes)
written_inside bytes = by_test (is_bare bytes) refl
  where
    by_test : (test : Bool) → is_bare bytes ≡ test → IsInside (cond test bytes (quoted bytes))
    by_test true bare =
        bare_inside bytes (and_parts (starts_bare bytes) (list_all is_bare_byte bytes) bare).1
    by_test false bare =
        let closing =
        inside_append (flat_map spelled bytes) (34 ∷ []) (all_inside bytes)
        ((λ end. omega arith), tt) in
        ((λ end. omega arith), closing)
