-- What `read_token` found, told over plain lists.
use Rattle.std.proofs.Common.{◌≡◌, ℕ, ◌-◌, Bool, true, false, List, [], ◌∷◌, ◌++◌, length, take}
use Rattle.std.proofs.Common.{drop, cond, length-drop, Some, None, refl, sym, ap, ◌∙◌, subst, arith}
use Rattle.std.specs.Prelude.{◌==◌}
use Rattle.std.proofs.lemmas.Bool.{ne_eqb, eqb-true, cond-false}
use Rattle.std.proofs.lemmas.List.{take_all}
use Rattle.token_text.specs.Bytes.{is_blank}
use Rattle.token_text.specs.Grammar.{QuotedBytes, after_blanks, is_word_bytes, IsPlain, IsStop}
use Rattle.token_text.specs.Grammar.{Word, plain_word, quoted_word, Reads, BadBackslash, NoClose}
use Rattle.token_text.specs.Scan.{quoted_byte, escape}
use Rattle.token_text.proofs.EscapeLaws.{escape_is}
use Rattle.token_text.proofs.Places.{Ends, ends_behind, ends_tail, ends_step, ends_on, ends_length}
use Rattle.token_text.proofs.Places.{ends_drop, drop_ends, quoted_ends, blanks_end, first_visible}

-- Where nothing more can be read but no quote stands, there is a backslash, and behind it no
-- escape.
no_escape : (byte : ℕ) (tail : List ℕ) → quoted_byte (byte ∷ tail) ≡ None → (byte ≡ 34 → ⊥)
    → (byte ≡ 92) × (escape tail ≡ None)
no_escape byte tail stops no_quote =
    by_test (byte == 92) refl
    (sym (cond-false (byte == 34) None (cond (byte == 92) (escape tail) (Some (byte, tail)))
    (ne_eqb byte 34 no_quote))
    ∙ stops)
  where
    by_test : (test : Bool) → (byte == 92) ≡ test
        → cond test (escape tail) (Some (byte, tail)) ≡ None
        → (byte ≡ 92) × (escape tail ≡ None)
    by_test true tested none = (eqb-true byte 92 tested, none)
    by_test false tested none = absurd (cc)

-- The text is what is left of the line from a place on, behind the blanks.
module _ (line : List ℕ) (at : ℕ) (text : List ℕ)
    (left : text ≡ after_blanks (take (length line - at) (drop at line))) where
  pub found : text ≡ after_blanks (drop at line)
  found =
      left
      ∙ ap after_blanks (take_all (length line - at) (drop at line)
      (omega (arith, length-drop at line)))

  pub text_ends : Ends line text
  text_ends =
      ends_on line (drop at line) text (drop_ends line at)
      (subst (Ends (drop at line)) (sym found) (blanks_end (drop at line)))

  pub inside_ends : (byte : ℕ) (inner rest : List ℕ) → text ≡ byte ∷ inner → Ends inner rest
      → Ends line rest
  inside_ends byte inner rest is ends =
      ends_on line text rest text_ends (ends_step text inner rest byte is ends)

  reads : (start end : ℕ) (bytes rest : List ℕ) → Word text bytes rest → Ends line rest
      → start ≡ length line - length text → end ≡ length line - length rest
      → Reads line at start end bytes
  reads start end bytes rest word ends start_at end_at =
      let behind = ends_drop line rest end ends (omega (arith, ends_length line rest ends)) in
      record {
        word = rw behind (rw (← found) word);
        start_is = omega (arith, ap length found, ends_length line text text_ends);
        end_in = omega (arith, ends_length line rest ends);
      }

  is_plain : (byte : ℕ) (inner word rest : List ℕ) → text ≡ byte ∷ inner → (byte ≡ 34 → ⊥)
      → text ≡ word ++ rest → is_word_bytes word ≡ true → IsStop rest
      → IsPlain word
  is_plain byte inner [] rest is no_quote split visible stop =
      let same : rest ≡ byte ∷ inner = sym split ∙ is in
      let blank : is_blank byte ≡ true = subst IsStop same stop in
      absurd (cc (sym blank ∙ first_visible (drop at line) byte inner (sym found ∙ is)))
  is_plain byte inner (first ∷ word) rest is no_quote split visible stop =
      let heads : first ≡ byte = cc in
      ((λ quote. no_quote (sym heads ∙ quote)), visible)

  -- A word up to a stop is a plain token.
  pub reads_plain : (start end byte : ℕ) (inner word rest : List ℕ) → text ≡ byte ∷ inner
      → (byte ≡ 34 → ⊥)
      → text ≡ word ++ rest → is_word_bytes word ≡ true → IsStop rest
      → start ≡ length line - length text → end ≡ length line - length rest
      → Reads line at start end word
  reads_plain start end byte inner word rest is no_quote split visible stop start_at end_at =
      let plain = is_plain byte inner word rest is no_quote split visible stop in
      reads start end word rest (plain_word split plain stop)
      (ends_on line text rest text_ends (ends_behind text word rest split)) start_at end_at

  -- Bytes in quotes up to a quote are a quoted token.
  pub reads_quoted : (start end : ℕ) (inner bytes after rest : List ℕ) → text ≡ 34 ∷ inner
      → QuotedBytes inner bytes rest → rest ≡ 34 ∷ after
      → start ≡ length line - length text → end ≡ length line - length after
      → Reads line at start end bytes
  reads_quoted start end inner bytes after rest is read closing start_at end_at =
      let closed = subst (QuotedBytes inner bytes) closing read in
      let ends = ends_on inner (34 ∷ after) after (quoted_ends inner bytes (34 ∷ after) closed)
      (ends_tail (34 ∷ after) after 34 refl) in
      reads start end bytes after (quoted_word inner is closed)
      (inside_ends 34 inner after is ends) start_at end_at

  -- Bytes in quotes up to the end leave the quote open.
  pub stays_open : (start : ℕ) (inner bytes rest : List ℕ) → text ≡ 34 ∷ inner
      → QuotedBytes inner bytes rest
      → length rest ≡ 0 → start ≡ length line - length text
      → NoClose line at start
  stays_open start inner bytes [] is read none start_at = record {
    more = inner;
    quoted = sym found ∙ is;
    bytes = bytes;
    read = read;
    place_is = omega (arith, ap length is, ends_length line text text_ends);
  }
  stays_open start inner bytes (byte ∷ rest) is read none start_at = absurd (omega arith)

  -- Bytes in quotes up to neither a quote nor the end lead to a bad backslash.
  pub goes_bad : (place : ℕ) (inner bytes rest tail : List ℕ) (byte : ℕ) → text ≡ 34 ∷ inner
      → QuotedBytes inner bytes rest → quoted_byte rest ≡ None → rest ≡ byte ∷ tail
      → (byte ≡ 34 → ⊥)
      → place ≡ length line - length rest
      → BadBackslash line at place
  goes_bad place inner bytes rest tail byte is read stops split no_quote place_at =
      let bad = no_escape byte tail (ap quoted_byte (sym split) ∙ stops) no_quote in
      let slash : rest ≡ 92 ∷ tail = split ∙ ap (λ first. first ∷ tail) bad.0 in
      let ends = inside_ends 34 inner rest is (quoted_ends inner bytes rest read) in
      record {
        more = inner;
        quoted = sym found ∙ is;
        bytes = bytes;
        tail = tail;
        read = subst (QuotedBytes inner bytes) slash read;
        bad = λ value after own.
            absurd (cc (sym bad.1 ∙ escape_is tail value after own));
        place_is = omega (arith, ap length slash, ends_length line rest ends);
      }
