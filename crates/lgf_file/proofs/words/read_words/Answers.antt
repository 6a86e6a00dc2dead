use Rattle.std.proofs.Common.{inl, inr, arith}
use Rattle.token_text.proofs.Places.{reads_on}
use Rattle.lgf_file.proofs.LineTokens.{words_more, words_end, words_stop}
use Rattle.lgf_file.proofs.words.read_words.Goals as goal

pub tokens-smaller : goal.tokens-smaller
tokens-smaller c =
    let found = rw c.in-Ok-Some.field-0-is at c.in-Ok-Some.ensures.found in
    omega (arith, reads_on c.args.line.now c.tokens.at _ _ _ found, found.end_in)

pub tokens-preserved : goal.tokens-preserved
tokens-preserved c =
    rw c.in_ok-push-in-Ok-Some.ensures.items
    (words_more c.args.line.now c.tokens.at _ _ c.tokens.cells.items _ c.tokens.invariant
    (rw c.in-Ok-Some.field-0-is at c.in-Ok-Some.ensures.found))

pub returns-in-Ok-None-clause-found : goal.returns-in-Ok-None-clause-found
returns-in-Ok-None-clause-found c =
    words_end c.args.line.now c.tokens.at c.tokens.cells.items c.tokens.invariant
    (rw c.in-Ok-None.field-0-is at c.in-Ok-None.ensures.found)

pub returns-in-Err-BadEscape-clause-none : goal.returns-in-Err-BadEscape-clause-none
returns-in-Err-BadEscape-clause-none c =
    words_stop c.args.line.now c.tokens.at _ c.tokens.cells.items c.tokens.invariant
    (inl (rw c.in-Err-BadEscape.field-0-is at c.in-Err-BadEscape.ensures.faults))

pub returns-in-Err-OpenQuote-clause-none : goal.returns-in-Err-OpenQuote-clause-none
returns-in-Err-OpenQuote-clause-none c =
    words_stop c.args.line.now c.tokens.at _ c.tokens.cells.items c.tokens.invariant
    (inr (rw c.in-Err-OpenQuote.field-0-is at c.in-Err-OpenQuote.ensures.faults))
