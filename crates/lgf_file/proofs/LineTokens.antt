-- The tokens of a line.
use Rattle.std.proofs.Common.{◌≡◌, ℕ, List, [], ◌∷◌, refl, subst, Option, Some, None}
use Rattle.std.proofs.Common.{inl, inr, drop, sym, ◌≤◌, ◌++◌, length, append_assoc, ◌+◌, ◌<◌, cond}
use Rattle.std.proofs.Common.{ap, ◌∙◌, arith}
use Rattle.std.specs.Prelude.{map}
use Rattle.std.proofs.lemmas.List.{append-nil}
use Rattle.token_text.specs.Grammar.{after_blanks, Reads, NoToken}
use Rattle.token_text.proofs.Determined.{token_one, no_word, bad_no_word, open_no_word}
use Rattle.token_text.specs.LineTokens.{HasTokens, Stops}
use Rattle.token_text.specs.declared.tokens.Token.{Token}
use Rattle.token_text.proofs.TokensAlone.{stop_alone}
use Rattle.token_text.specs.Lines.{is_comment}
use Rattle.lgf_file.specs.Rows.{Cells, Words}
use Rattle.lgf_file.specs.Sections.{Line, kind_of, kind_from, with_line, rows_of}
use Rattle.lgf_file.specs.declared.sections.LineKind.{LineKind}
use Rattle.lgf_file.specs.declared.sections.LineKind.TheVariants.{Passed, Opens, Row}

-- ---- a line has one list of tokens alone

-- A line has one list of tokens at most.
pub words_one : (text : List ℕ) (one other : Cells) → Words text one → Words text other
    → one ≡ other
words_one text [] [] ends other_ends = refl
words_one text [] (cell ∷ cells) ends words = absurd (no_word _ _ _ words.1 ends)
words_one text (cell ∷ cells) [] words ends = absurd (no_word _ _ _ words.1 ends)
words_one text (cell ∷ cells) (other ∷ others) words other_words =
    let same =
    token_one (after_blanks text) cell other words.0 other_words.0 words.1 other_words.1 in
    let moved = subst (λ rest. Words rest cells) same.1 words.2 in
    let tails = words_one other_words.0 cells others moved other_words.2 in
    (λ i. same.0 i ∷ tails i)

-- ---- the tokens of a line by their places, and by what is left of the line

-- What the tokens stand for.
abbrev pub cells_of : List Token → Cells
cells_of tokens = map (λ (token : Token). token.bytes) tokens

-- A line whose tokens can all be read has these and no other.
pub has_words : (line : List ℕ) (at : ℕ) (tokens : List Token) → HasTokens line at tokens None
    → Words (drop at line) (cells_of tokens)
has_words line at [] none = none
has_words line at (token ∷ tokens) has =
    (drop token.end line, has.0.word, has_words line token.end tokens has.1)

-- A line with a token that can't be read has no list of tokens.
pub no_words : (line : List ℕ) (at : ℕ) (tokens : List Token) (place : ℕ)
    → HasTokens line at tokens (Some place) → (cells : Cells) → Words (drop at line) cells → ⊥
no_words line at [] place stops [] words =
    let same : Some place ≡ None = stop_alone line at (Some place) None stops words in absurd (cc)
no_words line at [] place (inl bad) (cell ∷ cells) words =
    bad_no_word line at place cell words.0 bad words.1
no_words line at [] place (inr unclosed) (cell ∷ cells) words =
    open_no_word line at place cell words.0 unclosed words.1
no_words line at (token ∷ tokens) place has [] words = no_word _ _ _ has.0.word words
no_words line at (token ∷ tokens) place has (cell ∷ cells) words =
    let same = token_one _ _ _ _ _ has.0.word words.1 in
    no_words line token.end tokens place has.1 cells
    (subst (λ rest. Words rest cells) (sym same.1) words.2)

-- ---- the tokens of a line as far as it was read

-- Whatever tokens follow from the place on, the line has ones for those so far and them.
pub record WordsSoFar (line : List ℕ) (at : ℕ) (cells : Cells) : Type 0 where
  pub within : at ≤ length line
  pub before : (rest : List Token) (fault : Option ℕ) → HasTokens line at rest fault
      → (all : List Token) × HasTokens line 0 all fault × (cells_of all ≡ cells ++ cells_of rest)

-- Nothing has been read yet.
pub words_none : (line : List ℕ) → WordsSoFar line 0 []
words_none line = record { within = omega arith; before = λ rest fault has. (rest, has, refl) }

-- The line has been read up to the end of one more token.
pub words_more : (line : List ℕ) (at start end : ℕ) (cells : Cells) (bytes : List ℕ)
    → WordsSoFar line at cells → Reads line at start end bytes
    → WordsSoFar line end (cells ++ bytes ∷ [])
words_more line at start end cells bytes so_far reads = record {
  within = reads.end_in;
  before = λ rest fault has.
      let token : Token = record { start = start; end = end; bytes = bytes } in
      let whole = so_far.before (token ∷ rest) fault (reads, has) in
      (whole.0, whole.1, whole.2 ∙ sym (append_assoc cells (bytes ∷ []) (cells_of rest)));
}

-- Where nothing follows, the ones so far are all of them.
pub words_end : (line : List ℕ) (at : ℕ) (cells : Cells) → WordsSoFar line at cells
    → NoToken line at → Words line cells
words_end line at cells so_far none =
    let all = so_far.before [] None none in
    subst (Words line) (all.2 ∙ append-nil cells) (has_words line 0 all.0 all.1)

-- Where a token can't be read, the line has no list of tokens.
pub words_stop : (line : List ℕ) (at place : ℕ) (cells : Cells) → WordsSoFar line at cells
    → Stops line at (Some place) → (all : Cells) → Words line all → ⊥
words_stop line at place cells so_far stops =
    let read = so_far.before [] (Some place) stops in
    no_words line 0 read.0 place read.1

-- ---- the tokens of the first row of a section

-- One line more: it is such a row, or the first row is among the others.
line_first : (kind : LineKind) (line row : Line) (later rows : List Line) → kind_of line.1 ≡ kind
    → (later ≡ row ∷ rows → kind_of row.1 ≡ Row) → with_line kind line later ≡ row ∷ rows
    → kind_of row.1 ≡ Row
line_first Passed line row later rows is behind same = behind same
line_first (Opens section) line row later rows is behind same = absurd (cc)
line_first Row line row later rows is behind same =
    let first : line ≡ row = cc in
    ap (λ own. kind_of own.1) (sym first) ∙ is

-- The first row of a section is a line of that kind.
first_is_row : (number : ℕ) (lines : List (List ℕ)) (row : Line) (rows : List Line)
    → rows_of number lines ≡ row ∷ rows → kind_of row.1 ≡ Row
first_is_row number [] row rows same = absurd (cc)
first_is_row number (line ∷ lines) row rows same =
    line_first (kind_of line) (number, line) row (rows_of (number + 1) lines) rows refl
    (first_is_row (number + 1) lines row rows) same

-- So it has a token.
pub first_has_token : (number : ℕ) (lines : List (List ℕ)) (row : Line) (rows : List Line)
    (cells : Cells) → rows_of number lines ≡ row ∷ rows → Words row.1 cells → 0 < length cells
first_has_token number lines row rows [] same words =
    let passed = ap (λ left. cond (is_comment left) Passed (kind_from left)) words in
    let row_kind = first_is_row number lines row rows same in
    absurd (cc)
first_has_token number lines row rows (cell ∷ cells) same words = omega arith
