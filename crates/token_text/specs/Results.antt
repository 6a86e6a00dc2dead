-- What the answers of `read_token` say.
use Rattle.std.specs.Prelude.{◌≡◌, ℕ, List, Some, None, Option, Ok, Err, Result, ⊤}
use Rattle.token_text.specs.Grammar.{Reads, NoToken, BadBackslash, NoClose}
use Rattle.token_text.specs.Laws.{Stands, token, nothing, bad_backslash, open_quote}
use Rattle.token_text.specs.declared.tokens.Token.{Token}
use Rattle.token_text.specs.declared.tokens.TokenFault.{TokenFault}
use Rattle.token_text.specs.declared.tokens.TokenFault.TheVariants as faults

-- A token that was found is the next one, and none was found where only blanks follow.
abbrev pub Found : List ℕ → ℕ → Option Token → Type 0
Found line at None = NoToken line at
Found line at (Some found) = Reads line at found.start found.end found.bytes

-- A fault's place is that of the first bad backslash, or of a quote that nothing closes.
abbrev pub Faults : List ℕ → ℕ → TokenFault → Type 0
Faults line at (faults.BadEscape place) = BadBackslash line at place
Faults line at (faults.OpenQuote place) = NoClose line at place
Faults line at faults.Memory = ⊤

-- The answer tells that this stands next, or that memory ran out.
abbrev pub Tells : Stands → Result (Option Token) TokenFault → Type 0
Tells stands (Ok None) = stands ≡ nothing
Tells stands (Ok (Some found)) = stands ≡ token found.start found.end found.bytes
Tells stands (Err (faults.BadEscape place)) = stands ≡ bad_backslash place
Tells stands (Err (faults.OpenQuote place)) = stands ≡ open_quote place
Tells stands (Err faults.Memory) = ⊤
