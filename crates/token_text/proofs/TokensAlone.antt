-- A line has one list of tokens and one fault alone.
use Rattle.std.proofs.Common.{◌≡◌, ℕ, List, [], ◌∷◌, Option, Some, None, inl, inr, refl, sym, subst}
use Rattle.token_text.specs.Grammar.{Reads}
use Rattle.token_text.specs.Laws.{token, nothing, bad_backslash, open_quote}
use Rattle.token_text.specs.declared.tokens.Token.{Token}
use Rattle.token_text.proofs.Determined.{one_reading}
use Rattle.token_text.specs.LineTokens.{HasTokens, Stops}

-- These are the same tokens, with the same fault behind them.
pub record Same (ones others : List Token) (one_fault other_fault : Option ℕ) : Type 0 where
  pub tokens : ones ≡ others
  pub fault : one_fault ≡ other_fault

module _ (line : List ℕ) (at : ℕ) where
  -- Where a token stands, the tokens don't stop.
  stop_no_token : (fault : Option ℕ) (start end : ℕ) (bytes : List ℕ) → Stops line at fault
      → Reads line at start end bytes → ⊥
  stop_no_token None start end bytes none reads =
      cc (one_reading line at nothing (token start end bytes) none reads)
  stop_no_token (Some place) start end bytes (inl bad) reads =
      cc (one_reading line at (bad_backslash place) (token start end bytes) bad reads)
  stop_no_token (Some place) start end bytes (inr unclosed) reads =
      cc (one_reading line at (open_quote place) (token start end bytes) unclosed reads)

  -- The tokens stop with one fault alone.
  pub stop_alone : (one other : Option ℕ) → Stops line at one → Stops line at other → one ≡ other
  stop_alone None None none none' = refl
  stop_alone None (Some place) none (inl bad) =
      cc (one_reading line at nothing (bad_backslash place) none bad)
  stop_alone None (Some place) none (inr unclosed) =
      cc (one_reading line at nothing (open_quote place) none unclosed)
  stop_alone (Some place) None (inl bad) none =
      cc (one_reading line at (bad_backslash place) nothing bad none)
  stop_alone (Some place) None (inr unclosed) none =
      cc (one_reading line at (open_quote place) nothing unclosed none)
  stop_alone (Some place) (Some other) (inl bad) (inl bad') =
      cc (one_reading line at (bad_backslash place) (bad_backslash other) bad bad')
  stop_alone (Some place) (Some other) (inl bad) (inr unclosed) =
      cc (one_reading line at (bad_backslash place) (open_quote other) bad unclosed)
  stop_alone (Some place) (Some other) (inr unclosed) (inl bad) =
      cc (one_reading line at (open_quote place) (bad_backslash other) unclosed bad)
  stop_alone (Some place) (Some other) (inr unclosed) (inr unclosed') =
      cc (one_reading line at (open_quote place) (open_quote other) unclosed unclosed')

  -- One token alone stands next.
  token_alone : (one other : Token) → Reads line at one.start one.end one.bytes
      → Reads line at other.start other.end other.bytes → one ≡ other
  token_alone one other reads reads' =
      let same : token one.start one.end one.bytes ≡ token other.start other.end other.bytes =
      one_reading line at _ _ reads reads' in
      let starts : one.start ≡ other.start = cc in
      let ends : one.end ≡ other.end = cc in
      let texts : one.bytes ≡ other.bytes = cc in
      (λ i. record { start = starts i; end = ends i; bytes = texts i })

-- From a place of a line on stand one list of tokens and one fault alone.
pub tokens_alone : (line : List ℕ) (at : ℕ) (ones others : List Token)
    (fault other_fault : Option ℕ)
    → HasTokens line at ones fault → HasTokens line at others other_fault
    → Same ones others fault other_fault
tokens_alone line at [] [] fault other_fault stops stops' =
    record { tokens = refl; fault = stop_alone line at fault other_fault stops stops' }
tokens_alone line at [] (other ∷ others) fault other_fault stops reads =
    absurd (stop_no_token line at fault _ _ _ stops reads.0)
tokens_alone line at (one ∷ ones) [] fault other_fault reads stops =
    absurd (stop_no_token line at other_fault _ _ _ stops reads.0)
tokens_alone line at (one ∷ ones) (other ∷ others) fault other_fault reads reads' =
    let heads : one ≡ other = token_alone line at one other reads.0 reads'.0 in
    let behind =
    subst (λ (token : Token). HasTokens line token.end others other_fault) (sym heads) reads'.1 in
    let rest = tokens_alone line one.end ones others fault other_fault reads.1 behind in
    record { tokens = (λ i. heads i ∷ rest.tokens i); fault = rest.fault }
