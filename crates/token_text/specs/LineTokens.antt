-- The tokens of a line, one behind the other.
use Rattle.std.specs.Prelude.{ℕ, ◌⊎◌, List, [], ◌∷◌, Some, None, Option}
use Rattle.token_text.specs.Grammar.{Reads, NoToken, BadBackslash, NoClose}
use Rattle.token_text.specs.declared.tokens.Token.{Token}

-- From the place on there is nothing more, or a token that can't be read: its first bad backslash,
-- or its quote where that isn't closed, stands at this place.
abbrev pub Stops : List ℕ → ℕ → Option ℕ → Type 0
Stops line at None = NoToken line at
Stops line at (Some place) = BadBackslash line at place ⊎ NoClose line at place

-- From the place on stand these tokens, up to the end of the line or to one that can't be read.
abbrev pub HasTokens : List ℕ → ℕ → List Token → Option ℕ → Type 0
HasTokens line at [] fault = Stops line at fault
HasTokens line at (token ∷ tokens) fault =
    Reads line at token.start token.end token.bytes × HasTokens line token.end tokens fault
