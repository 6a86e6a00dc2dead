-- The tokens of a line as far as it has been read.
use Rattle.std.proofs.Common.{ℕ, ◌<◌, ◌≤◌, List, [], ◌∷◌, ◌++◌, length, Option, All, arith}
use Rattle.std.proofs.Common.{append_assoc}
use Rattle.std.proofs.lemmas.List.{append-nil}
use Rattle.std.proofs.lemmas.List.Elements.{All-push}
use Rattle.token_text.specs.Grammar.{Reads}
use Rattle.token_text.specs.declared.tokens.Token.{Token}
use Rattle.token_text.proofs.Places.{word_shorter}
use Rattle.token_text.specs.LineTokens.{HasTokens, Stops}

-- Whatever tokens follow from the place on, the line has the ones so far and them.
abbrev pub Before : List ℕ → ℕ → List Token → Type 0
Before line at tokens =
    (rest : List Token) (fault : Option ℕ) → HasTokens line at rest fault
    → HasTokens line 0 (tokens ++ rest) fault

-- What is known where the line has been read up to the place.
pub record Reading (line : List ℕ) (at : ℕ) (tokens : List Token) : Type 0 where
  pub within : at ≤ length line
  pub starts : All (λ token. token.start < length line) tokens
  pub before : Before line at tokens

-- A token begins in the line.
pub token_starts : (line : List ℕ) (at start end : ℕ) (bytes : List ℕ)
    → Reads line at start end bytes
    → start < length line
token_starts line at start end bytes reads =
    omega (arith, word_shorter _ _ _ reads.word, reads.start_is)

-- What is known of the tokens so far is known of them and one more.
pub before_more : (line : List ℕ) (at : ℕ) (tokens : List Token) (token : Token)
    → Before line at tokens
    → Reads line at token.start token.end token.bytes → Before line token.end (tokens ++ token ∷ [])
before_more line at tokens token before reads = λ rest fault has.
    rw append_assoc (before (token ∷ rest) fault (reads, has))

-- The line has been read up to the end of one more token.
pub reading_more : (line : List ℕ) (at : ℕ) (tokens : List Token) (token : Token)
    → Reading line at tokens → Reads line at token.start token.end token.bytes
    → Reading line token.end (tokens ++ token ∷ [])
reading_more line at tokens token reading reads =
    let starts = λ (own : Token). own.start < length line in
    let start = token_starts line at token.start token.end token.bytes reads in
    record {
      within = reads.end_in;
      starts = All-push starts tokens token reading.starts start;
      before = before_more line at tokens token reading.before reads;
    }

-- Where no more tokens can be read, the ones so far are all of them.
pub before_stop : (line : List ℕ) (at : ℕ) (tokens : List Token) (fault : Option ℕ)
    → Before line at tokens → Stops line at fault → HasTokens line 0 tokens fault
before_stop line at tokens fault before stops =
    rw (← append-nil tokens) (before [] fault stops)
