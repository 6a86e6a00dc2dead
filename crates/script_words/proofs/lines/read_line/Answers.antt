use Rattle.std.proofs.Common.{◌≡◌, ℕ, ◌+◌, Option, List, refl, sym, ◌∙◌, subst}
use Rattle.token_text.specs.declared.tokens.Token.{Token}
use Rattle.token_text.specs.LineTokens.{HasTokens}
use Rattle.script_words.specs.Lines.{IsBad}
use Rattle.script_words.proofs.Verdicts.{all_goes, says_valid, wrong_token, unread_token}
use Rattle.script_words.proofs.Verdicts.{missing_token, one_command, one_column}
use Rattle.script_words.proofs.lines.read_line.Goals as goal

-- The line has the tokens and the fault that the code goes on with.
tokens_of : (line : List ℕ) (items tokens : List Token) (fault known : Option ℕ)
    → HasTokens line 0 items fault → tokens ≡ items → fault ≡ known → HasTokens line 0 tokens known
tokens_of line items tokens fault known has same fault_is =
    rw (same, sym fault_is) has

pub returns-then-reached-tokens-clause-refused : goal.returns-then-reached-tokens-clause-refused
returns-then-reached-tokens-clause-refused c =
    let line = c.args.line.now in
    let tokens = c.as_slice-tokens.result.now in
    let read = sym c.is_passed_over.ensures ∙ c.if-is_passed_over.false in
    let same = c.as_slice-tokens.ensures.value in
    let has = tokens_of line _ tokens _ _ c.in-Ok.ensures.tokens same refl in
    let more = c.if-reached-tokens.true in
    subst (λ (token : Token). IsBad line (token.start + 1)) c.index-tokens-reached.is
    (wrong_token line tokens read _ c.farthest-reached.result c.index-tokens-reached.result has more
    c.index-tokens-reached.is c.farthest-reached.ensures.reached
    (c.farthest-reached.ensures.stuck more))

pub returns-then-reached-tokens-clause-exact : goal.returns-then-reached-tokens-clause-exact
returns-then-reached-tokens-clause-exact c = (returns-then-reached-tokens-clause-refused c).unsaid

pub returns-then-reached-tokens-clause-exact_column :
    goal.returns-then-reached-tokens-clause-exact_column
returns-then-reached-tokens-clause-exact_column c = λ column bad.
    one_column _ _ column (returns-then-reached-tokens-clause-refused c) bad

pub returns-in-Some-clause-refused : goal.returns-in-Some-clause-refused
returns-in-Some-clause-refused c =
    let line = c.args.line.now in
    let tokens = c.as_slice-tokens.result.now in
    let read = sym c.is_passed_over.ensures ∙ c.if-is_passed_over.false in
    let same = c.as_slice-tokens.ensures.value in
    let has = tokens_of line _ tokens _ _ c.in-Ok.ensures.tokens same c.in-Some.is in
    let goes = all_goes tokens _ c.if-reached-tokens.false c.farthest-reached.ensures.reached in
    unread_token line tokens read c.in-Some.place has goes

pub returns-in-Some-clause-exact : goal.returns-in-Some-clause-exact
returns-in-Some-clause-exact c = (returns-in-Some-clause-refused c).unsaid

pub returns-in-Some-clause-exact_column :
    goal.returns-in-Some-clause-exact_column
returns-in-Some-clause-exact_column c = λ column bad.
    one_column _ _ column (returns-in-Some-clause-refused c) bad

pub returns-in_default-whole_form-clause-refused : goal.returns-in_default-whole_form-clause-refused
returns-in_default-whole_form-clause-refused c =
    let line = c.args.line.now in
    let tokens = c.as_slice-tokens.result.now in
    let read = sym c.is_passed_over.ensures ∙ c.if-is_passed_over.false in
    let same = c.as_slice-tokens.ensures.value in
    let has = tokens_of line _ tokens _ _ c.in-Ok.ensures.tokens same c.in_default-fault.is in
    let goes = all_goes tokens _ c.if-reached-tokens.false c.farthest-reached.ensures.reached in
    missing_token line tokens read has goes c.in_default-whole_form.ensures.none

pub returns-in_default-whole_form-clause-exact : goal.returns-in_default-whole_form-clause-exact
returns-in_default-whole_form-clause-exact c =
    (returns-in_default-whole_form-clause-refused c).unsaid

pub returns-in_default-whole_form-clause-exact_column :
    goal.returns-in_default-whole_form-clause-exact_column
returns-in_default-whole_form-clause-exact_column c = λ column bad.
    one_column _ _ column (returns-in_default-whole_form-clause-refused c) bad

pub returns-in-Ok-build-clause-said : goal.returns-in-Ok-build-clause-said
returns-in-Ok-build-clause-said c =
    let line = c.args.line.now in
    let tokens = c.as_slice-tokens.result.now in
    let same = c.as_slice-tokens.ensures.value in
    record {
      read = sym c.is_passed_over.ensures ∙ c.if-is_passed_over.false;
      tokens = tokens;
      tokens_are = tokens_of line _ tokens _ _ c.in-Ok.ensures.tokens same c.in_default-fault.is;
      form = c.in-Some-whole_form.form;
      matches = c.in-Some-whole_form.ensures.found;
      command_is = c.in-Ok-build.ensures;
    }

pub returns-in-Ok-build-clause-valid : goal.returns-in-Ok-build-clause-valid
returns-in-Ok-build-clause-valid c =
    says_valid c.as_slice-tokens.result.now c.in-Some-whole_form.form c.in-Ok-build.command
    c.in-Some-whole_form.ensures.found c.in-Ok-build.ensures

pub returns-in-Ok-build-clause-exact : goal.returns-in-Ok-build-clause-exact
returns-in-Ok-build-clause-exact c = λ command says.
    one_command _ _ command (returns-in-Ok-build-clause-said c) says

pub returns-in-Ok-build-clause-exact_column :
    goal.returns-in-Ok-build-clause-exact_column
returns-in-Ok-build-clause-exact_column c = λ column bad.
    bad.unsaid _ (returns-in-Ok-build-clause-said c)
