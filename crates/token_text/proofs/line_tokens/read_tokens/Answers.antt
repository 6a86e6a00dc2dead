use Rattle.std.proofs.Common.{◌≡◌, [], ◌∷◌, ◌++◌, None, inl, inr, sym, subst, arith}
use Rattle.std.proofs.lemmas.Grind.{common_steps}
use Rattle.token_text.specs.Grammar.{Reads}
use Rattle.token_text.specs.Results.{Found, Faults}
use Rattle.token_text.proofs.Places.{reads_on}
use Rattle.token_text.proofs.TokensSoFar.{Reading, before_stop, reading_more}
use Rattle.token_text.proofs.line_tokens.read_tokens.Goals as goal

pub tokens-smaller : goal.tokens-smaller
tokens-smaller c =
    let line = c.args.line.now in
    let token = c.in-Ok-Some.token in
    let found : Reads line c.tokens.at token.start token.end token.bytes =
    subst (Found line c.tokens.at) c.in-Ok-Some.field-0-is c.in-Ok-Some.ensures.found in
    omega (arith, reads_on line c.tokens.at token.start token.end token.bytes found, found.end_in)

pub tokens-preserved : goal.tokens-preserved
tokens-preserved c =
    let line = c.args.line.now in
    let token = c.in-Ok-Some.token in
    let found : Reads line c.tokens.at token.start token.end token.bytes =
    subst (Found line c.tokens.at) c.in-Ok-Some.field-0-is c.in-Ok-Some.ensures.found in
    let items = c.tokens.tokens.items in
    let pushed : c.push.new.self.items ≡ items ++ token ∷ [] = grind (arith, common_steps) in
    subst (Reading line token.end) (sym pushed)
    (reading_more line c.tokens.at items token c.tokens.invariant found)

pub returns-in-Ok-None-clause-tokens : goal.returns-in-Ok-None-clause-tokens
returns-in-Ok-None-clause-tokens c =
    let line = c.args.line.now in
    let none = subst (Found line c.tokens.at) c.in-Ok-None.field-0-is c.in-Ok-None.ensures.found in
    before_stop line c.tokens.at c.tokens.tokens.items None c.tokens.invariant.before none

pub returns-in-Err-BadEscape-clause-tokens : goal.returns-in-Err-BadEscape-clause-tokens
returns-in-Err-BadEscape-clause-tokens c =
    let line = c.args.line.now in
    let at = c.tokens.at in
    let bad =
    subst (Faults line at) c.in-Err-BadEscape.field-0-is c.in-Err-BadEscape.ensures.faults in
    rw c.in-Err-BadEscape.place-is
    (before_stop line at c.tokens.tokens.items _ c.tokens.invariant.before (inl bad))

pub returns-in-Err-OpenQuote-clause-tokens : goal.returns-in-Err-OpenQuote-clause-tokens
returns-in-Err-OpenQuote-clause-tokens c =
    let line = c.args.line.now in
    let at = c.tokens.at in
    let unclosed =
    subst (Faults line at) c.in-Err-OpenQuote.field-0-is c.in-Err-OpenQuote.ensures.faults in
    rw c.in-Err-OpenQuote.place-is
    (before_stop line at c.tokens.tokens.items _ c.tokens.invariant.before (inr unclosed))
