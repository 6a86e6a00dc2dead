use Rattle.std.proofs.Common.{length, sym, ap, ◌∙◌, ◌-◌, ◌∷◌, subst, refl}
use Rattle.token_text.specs.Grammar.{Reads}
use Rattle.token_text.specs.Laws.{token, bad_backslash, open_quote}
use Rattle.token_text.proofs.Places.{ends_on, ends_behind, ends_length, ends_tail, quoted_ends}
use Rattle.token_text.proofs.Determined.{one_reading}
use Rattle.token_text.proofs.Outcomes.{text_ends, inside_ends, reads_plain, reads_quoted}
use Rattle.token_text.proofs.Outcomes.{stays_open, goes_bad}
use Rattle.token_text.proofs.tokens.read_token.Goals as goal

pub overflow_sub-start : goal.overflow_sub-start
overflow_sub-start c =
    ends_length _ _ (text_ends _ c.args.at _ c.after_blanks-text.ensures)

pub overflow_sub-end : goal.overflow_sub-end
overflow_sub-end c =
    let text = text_ends _ c.args.at _ c.after_blanks-text.ensures in
    ends_length _ _ (ends_on _ _ _ text (ends_behind _ _ _ c.split_word.ensures.split))

pub returns-then-first-ne34-clause-found : goal.returns-then-first-ne34-clause-found
returns-then-first-ne34-clause-found c =
    let line = c.args.line.now in
    let start = length line - length c.after_blanks-text.result.now in
    let end = length line - length c.split_word.result.1.now in
    let word = c.split_word.ensures in
    let first = c.in-Some.ensures.cases.0 in
    subst (Reads line c.args.at start end) (sym c.in_ok-bytes.ensures)
    (reads_plain _ c.args.at _ c.after_blanks-text.ensures _ _ _ _ _ _ first c.if-first-ne34.true
    word.split
    word.visible word.stop refl refl)

pub returns-then-first-ne34-clause-exact : goal.returns-then-first-ne34-clause-exact
returns-then-first-ne34-clause-exact c = λ stands meets.
    one_reading _ _ stands (token _ _ _) meets (returns-then-first-ne34-clause-found c)

pub overflow_sub-end-2 : goal.overflow_sub-end-2
overflow_sub-end-2 c =
    let first = c.in-Some.ensures.cases.0 in
    let last = ends_tail _ _ _ c.in-Some-split_first.ensures.cases.0 in
    let after = ends_on _ _ _ (quoted_ends _ _ _ c.in_ok-bytes-2.ensures.quoted) last in
    ends_length _ _ (inside_ends _ c.args.at _ c.after_blanks-text.ensures _ _ _ first after)

pub overflow_sub-result : goal.overflow_sub-result
overflow_sub-result c =
    let first = c.in-Some.ensures.cases.0 in
    let rest = quoted_ends _ _ _ c.in_ok-bytes-2.ensures.quoted in
    ends_length _ _ (inside_ends _ c.args.at _ c.after_blanks-text.ensures _ _ _ first rest)

pub returns-in_default-split_first-clause-faults : goal.returns-in_default-split_first-clause-faults
returns-in_default-split_first-clause-faults c =
    let quoted = c.in-Some.ensures.cases.0 ∙ ap (λ byte. byte ∷ c.in-Some.inner.now)
    c.if-first-ne34.false in
    let inside = c.in_ok-bytes-2.ensures.quoted in
    let none = c.in_default-split_first.ensures.cases in
    stays_open _ c.args.at _ c.after_blanks-text.ensures _ _ _ _ quoted inside none refl

pub returns-in_default-split_first-clause-exact : goal.returns-in_default-split_first-clause-exact
returns-in_default-split_first-clause-exact c = λ stands meets.
    one_reading _ _ stands (open_quote _) meets (returns-in_default-split_first-clause-faults c)

pub returns-then-last-ne34-clause-faults : goal.returns-then-last-ne34-clause-faults
returns-then-last-ne34-clause-faults c =
    let quoted = c.in-Some.ensures.cases.0 ∙ ap (λ byte. byte ∷ c.in-Some.inner.now)
    c.if-first-ne34.false in
    let read = c.in_ok-bytes-2.ensures in
    let first = c.in-Some-split_first.ensures.cases.0 in
    goes_bad _ c.args.at _ c.after_blanks-text.ensures _ _ _ _ _ _ quoted read.quoted read.stop
    first
    c.if-last-ne34.true refl

pub returns-then-last-ne34-clause-exact : goal.returns-then-last-ne34-clause-exact
returns-then-last-ne34-clause-exact c = λ stands meets.
    one_reading _ _ stands (bad_backslash _) meets (returns-then-last-ne34-clause-faults c)

pub returns-clause-found : goal.returns-clause-found
returns-clause-found c =
    let quoted = c.in-Some.ensures.cases.0 ∙ ap (λ byte. byte ∷ c.in-Some.inner.now)
    c.if-first-ne34.false in
    let last = ap (λ byte. byte ∷ c.in-Some-split_first.after.now) c.if-last-ne34.false in
    let closing = c.in-Some-split_first.ensures.cases.0 ∙ last in
    let inside = c.in_ok-bytes-2.ensures.quoted in
    reads_quoted _ c.args.at _ c.after_blanks-text.ensures _ _ _ _ _ _ quoted inside closing refl
    refl

pub returns-clause-exact : goal.returns-clause-exact
returns-clause-exact c = λ stands meets. one_reading _ _ stands (token _ _ _) meets
    (returns-clause-found c)
