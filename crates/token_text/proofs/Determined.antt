-- From a place of a line on stands one thing alone.
use Rattle.std.proofs.Common.{◌≡◌, ℕ, true, List, [], ◌∷◌, ◌++◌, length, drop, Some, None, Option}
use Rattle.std.proofs.Common.{refl, sym, ap, ◌∙◌, subst, arith, length-drop}
use Rattle.std.specs.Prelude.{not}
use Rattle.std.proofs.lemmas.Bool.{and_parts}
use Rattle.token_text.specs.Bytes.{is_blank}
use Rattle.token_text.specs.Grammar.{Escape, QuotedBytes, IsPlain, IsStop, is_word_bytes, Word}
use Rattle.token_text.specs.Grammar.{plain_word, quoted_word, after_blanks, Reads, NoToken}
use Rattle.token_text.specs.Grammar.{BadBackslash, NoClose}
use Rattle.token_text.specs.Scan.{escape, quoted_byte}
use Rattle.token_text.specs.Laws.{Stands, token, nothing, bad_backslash, open_quote, Meets}
use Rattle.token_text.proofs.EscapeLaws.{quoted_byte_is, escape_from}

-- Where nothing more can be read behind them, the bytes of a text in quotes are determined.
quoted_one : (text bytes others end other_end : List ℕ) → QuotedBytes text bytes end
    → QuotedBytes text others other_end
    → quoted_byte end ≡ None → quoted_byte other_end ≡ None → (bytes ≡ others) × (end ≡ other_end)
quoted_one text [] [] end other_end read other_read stops other_stops =
    (refl, sym read ∙ other_read)
quoted_one text [] (other ∷ others) end other_end read other_read stops other_stops =
    let goes_on = quoted_byte_is text other other_read.0 other_read.1 in
    absurd (cc (sym stops ∙ ap quoted_byte (sym read) ∙ goes_on))
quoted_one text (byte ∷ bytes) [] end other_end read other_read stops other_stops =
    let goes_on = quoted_byte_is text byte read.0 read.1 in
    absurd (cc (sym other_stops ∙ ap quoted_byte (sym other_read) ∙ goes_on))
quoted_one text (byte ∷ bytes) (other ∷ others) end other_end read other_read stops other_stops =
    let same : ◌≡◌ {A = Option (ℕ × List ℕ)} (Some (byte, read.0)) (Some (other, other_read.0)) =
    sym (quoted_byte_is text byte read.0 read.1)
    ∙ quoted_byte_is text other other_read.0 other_read.1 in
    let heads : ◌≡◌ {A = ℕ × List ℕ} (byte, read.0) (other, other_read.0) = cc in
    let tail = subst (λ more. QuotedBytes more bytes end) (ap (λ pair. pair.1) heads) read.2 in
    let tails =
    quoted_one other_read.0 bytes others end other_end tail other_read.2 stops other_stops in
    ((λ i. (heads i).0 ∷ tails.0 i), tails.1)

-- A visible byte is no stop.
no_stop : (byte : ℕ) (word : List ℕ) → is_word_bytes (byte ∷ word) ≡ true → is_blank byte ≡ true → ⊥
no_stop byte word visible blank =
    let seen = (and_parts (not (is_blank byte)) (is_word_bytes word) visible).0 in
    absurd (cc (ap not (sym blank) ∙ seen))

-- The visible bytes up to a stop are determined.
word_one : (word other end other_end : List ℕ) → is_word_bytes word ≡ true
    → is_word_bytes other ≡ true
    → IsStop end → IsStop other_end → word ++ end ≡ other ++ other_end
    → (word ≡ other) × (end ≡ other_end)
word_one [] [] end other_end visible other_visible stop other_stop same = (refl, same)
word_one [] (first ∷ other) end other_end visible other_visible stop other_stop same =
    absurd (no_stop first other other_visible (subst IsStop same stop))
word_one (byte ∷ word) [] end other_end visible other_visible stop other_stop same =
    absurd (no_stop byte word visible (subst IsStop (sym same) other_stop))
word_one (byte ∷ word) (first ∷ other) end other_end visible other_visible stop other_stop same =
    let tails : word ++ end ≡ other ++ other_end = cc in
    let heads : byte ≡ first = cc in
    let rest = word_one word other end other_end
    (and_parts (not (is_blank byte)) (is_word_bytes word) visible).1
    (and_parts (not (is_blank first)) (is_word_bytes other) other_visible).1 stop other_stop tails
    in
    ((λ i. heads i ∷ rest.0 i), rest.1)

plain_visible : (word : List ℕ) → IsPlain word → is_word_bytes word ≡ true
plain_visible [] plain = absurd plain
plain_visible (byte ∷ word) plain = plain.1

-- A plain token begins with no quote.
plain_no_quote : (word rest more : List ℕ) → IsPlain word → word ++ rest ≡ 34 ∷ more → ⊥
plain_no_quote [] rest more plain is = plain
plain_no_quote (byte ∷ word) rest more plain is = plain.0 (cc)

-- A token and what follows it are determined.
pub token_one : (text bytes others end other_end : List ℕ) → Word text bytes end
    → Word text others other_end
    → (bytes ≡ others) × (end ≡ other_end)
token_one text bytes others end other_end (plain_word is plain stop)
    (plain_word other_is other_plain other_stop) =
    word_one bytes others end other_end (plain_visible bytes plain)
    (plain_visible others other_plain) stop other_stop
    (sym is ∙ other_is)
token_one text bytes others end other_end (plain_word is plain stop) (quoted_word more quote read) =
    absurd (plain_no_quote bytes end more plain (sym is ∙ quote))
token_one text bytes others end other_end (quoted_word more quote read) (plain_word is plain stop) =
    absurd (plain_no_quote others other_end more plain (sym is ∙ quote))
token_one text bytes others end other_end (quoted_word more quote read)
    (quoted_word other other_quote other_read) =
    let mores : more ≡ other = cc in
    let moved = subst (λ inner. QuotedBytes inner bytes (34 ∷ end)) mores read in
    let ends =
    quoted_one other bytes others (34 ∷ end) (34 ∷ other_end) moved other_read refl refl in
    let tails : end ≡ other_end = cc in
    (ends.0, tails)

-- A token that begins with a quote is quoted.
closed : (text bytes end more : List ℕ) → Word text bytes end → text ≡ 34 ∷ more
    → QuotedBytes more bytes (34 ∷ end)
closed text bytes end more (plain_word is plain stop) quote =
    absurd (plain_no_quote bytes end more plain (sym is ∙ quote))
closed text bytes end more (quoted_word inner is read) quote =
    let mores : inner ≡ more = cc in
    rw (← mores) read

-- No token stands where nothing is left.
pub no_word : (text bytes end : List ℕ) → Word text bytes end → text ≡ [] → ⊥
no_word text [] end (plain_word is plain stop) none = plain
no_word text (byte ∷ bytes) end (plain_word is plain stop) none = absurd (cc)
no_word text bytes end (quoted_word more is read) none = absurd (cc)

bad_stops : (tail : List ℕ) → ((byte : ℕ) (rest : List ℕ) → Escape tail byte rest → ⊥)
    → quoted_byte (92 ∷ tail) ≡ None
bad_stops tail bad = by_escape (escape tail) refl
  where
    by_escape : (found : Option (ℕ × List ℕ)) → escape tail ≡ found → found ≡ None
    by_escape None is = refl
    by_escape (Some pair) is = absurd (bad pair.0 pair.1 (escape_from tail pair.0 pair.1 is))

module _ (line : List ℕ) (at : ℕ) where
  -- No token can be read up to a bad backslash.
  pub bad_no_word : (place : ℕ) (bytes rest : List ℕ) → BadBackslash line at place
      → Word (after_blanks (drop at line)) bytes rest → ⊥
  bad_no_word place bytes rest bad word =
      let read = closed _ _ _ _ word bad.quoted in
      let stops = bad_stops bad.tail bad.bad in
      absurd (cc ((quoted_one bad.more bytes bad.bytes (34 ∷ rest) (92 ∷ bad.tail) read bad.read
      refl stops).1))

  -- No token can be read where no quote closes it.
  pub open_no_word : (place : ℕ) (bytes rest : List ℕ) → NoClose line at place
      → Word (after_blanks (drop at line)) bytes rest → ⊥
  open_no_word place bytes rest unclosed word =
      let read = closed _ _ _ _ word unclosed.quoted in
      absurd (cc ((quoted_one unclosed.more bytes unclosed.bytes (34 ∷ rest) [] read unclosed.read
      refl refl).1))

-- The next token is quoted, and of its bytes no more can be read than up to this end.
record StopsAt (line : List ℕ) (at : ℕ) (end : List ℕ) : Type 0 where
  more : List ℕ
  quoted : after_blanks (drop at line) ≡ 34 ∷ more
  bytes : List ℕ
  read : QuotedBytes more bytes end
  stops : quoted_byte end ≡ None

stops_bad : (line : List ℕ) (at place : ℕ) (bad : BadBackslash line at place)
    → StopsAt line at (92 ∷ bad.tail)
stops_bad line at place bad = record {
  more = bad.more;
  quoted = bad.quoted;
  bytes = bad.bytes;
  read = bad.read;
  stops = bad_stops bad.tail bad.bad;
}

stops_open : (line : List ℕ) (at place : ℕ) → NoClose line at place → StopsAt line at []
stops_open line at place unclosed = record {
  more = unclosed.more;
  quoted = unclosed.quoted;
  bytes = unclosed.bytes;
  read = unclosed.read;
  stops = refl;
}

stop_one : (line : List ℕ) (at : ℕ) (end other : List ℕ)
    → StopsAt line at end → StopsAt line at other → end ≡ other
stop_one line at end other one two =
    let mores : one.more ≡ two.more = cc in
    let moved = subst (λ inner. QuotedBytes inner one.bytes end) mores one.read in
    (quoted_one two.more one.bytes two.bytes end other moved two.read one.stops two.stops).1

module _ (line : List ℕ) (at : ℕ) where
  token_not_bad : (start end : ℕ) (bytes : List ℕ) (place : ℕ) → Reads line at start end bytes
      → BadBackslash line at place → ⊥
  token_not_bad start end bytes place reads bad =
      bad_no_word line at place bytes (drop end line) bad reads.word

  token_not_open : (start end : ℕ) (bytes : List ℕ) (place : ℕ) → Reads line at start end bytes
      → NoClose line at place → ⊥
  token_not_open start end bytes place reads unclosed =
      open_no_word line at place bytes (drop end line) unclosed reads.word

  bad_not_open : (place other : ℕ) → BadBackslash line at place → NoClose line at other → ⊥
  bad_not_open place other bad unclosed =
      absurd (cc (stop_one line at (92 ∷ bad.tail) [] (stops_bad line at place bad)
      (stops_open line at other unclosed)))

  token_not_none : (start end : ℕ) (bytes : List ℕ) → Reads line at start end bytes
      → NoToken line at → ⊥
  token_not_none start end bytes reads none = no_word _ _ _ reads.word none

  quote_not_none : (more : List ℕ) → after_blanks (drop at line) ≡ 34 ∷ more → NoToken line at → ⊥
  quote_not_none more quoted none = absurd (cc (sym none ∙ quoted))

  pub one_reading : (one other : Stands) → Meets line at one → Meets line at other → one ≡ other
  one_reading (token start end bytes) (token start' end' bytes') reads reads' =
      let same = token_one _ bytes bytes' _ _ reads.word reads'.word in
      let tails = ap length same.1 in
      let ends : end ≡ end' =
      omega (arith, reads.end_in, reads'.end_in, tails, length-drop end line, length-drop end' line)
      in
      let starts : start ≡ start' = omega (arith, reads.start_is, reads'.start_is) in
      (λ i. token (starts i) (ends i) (same.0 i))
  one_reading (token start end bytes) nothing reads none =
      absurd (token_not_none start end bytes reads none)
  one_reading (token start end bytes) (bad_backslash place) reads bad =
      absurd (token_not_bad start end bytes place reads bad)
  one_reading (token start end bytes) (open_quote place) reads unclosed =
      absurd (token_not_open start end bytes place reads unclosed)
  one_reading nothing (token start end bytes) none reads =
      absurd (token_not_none start end bytes reads none)
  one_reading nothing nothing none none' = refl
  one_reading nothing (bad_backslash place) none bad =
      absurd (quote_not_none bad.more bad.quoted none)
  one_reading nothing (open_quote place) none unclosed =
      absurd (quote_not_none unclosed.more unclosed.quoted none)
  one_reading (bad_backslash place) (token start end bytes) bad reads =
      absurd (token_not_bad start end bytes place reads bad)
  one_reading (bad_backslash place) nothing bad none =
      absurd (quote_not_none bad.more bad.quoted none)
  one_reading (bad_backslash place) (bad_backslash other) bad bad' =
      let same : ◌≡◌ {A = List ℕ} (92 ∷ bad.tail) (92 ∷ bad'.tail) =
      stop_one line at (92 ∷ bad.tail) (92 ∷ bad'.tail)
      (stops_bad line at place bad) (stops_bad line at other bad') in
      ap bad_backslash (omega (arith, ap length same, bad.place_is, bad'.place_is))
  one_reading (bad_backslash place) (open_quote other) bad unclosed =
      absurd (bad_not_open place other bad unclosed)
  one_reading (open_quote place) (token start end bytes) unclosed reads =
      absurd (token_not_open start end bytes place reads unclosed)
  one_reading (open_quote place) nothing unclosed none =
      absurd (quote_not_none unclosed.more unclosed.quoted none)
  one_reading (open_quote place) (bad_backslash other) unclosed bad =
      absurd (bad_not_open other place bad unclosed)
  one_reading (open_quote place) (open_quote other) unclosed unclosed' =
      let same = ap length (sym unclosed.quoted ∙ unclosed'.quoted) in
      ap open_quote (omega (arith, unclosed.place_is, unclosed'.place_is, same))
