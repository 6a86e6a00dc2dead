use Rattle.std.proofs.Common.{sym, ◌∙◌, subst, arith, below_more}
use Rattle.std.proofs.lemmas.Bool.{both_ways}
use Rattle.script_words.specs.declared.forms.Form.{Form}
use Rattle.script_words.specs.Lines.{Matches}
use Rattle.script_words.proofs.Listed.{number, listed, number_within}
use Rattle.script_words.proofs.Farthest.{form_at, matches_whole, whole_matches}
use Rattle.script_words.proofs.lines.whole_form.Goals as goal

pub returns-clause-none : goal.returns-clause-none
returns-clause-none c = λ form matches.
    let P : Form → Type 0 = λ f. Matches f c.args.tokens.now in
    let within = number_within form in
    c.loop-form.invariant (number form) (omega arith) (subst P (sym (listed form)) matches)

pub returns-then-is_whole-clause-found : goal.returns-then-is_whole-clause-found
returns-then-is_whole-clause-found c =
    matches_whole (form_at c.loop-form.form-index) c.args.tokens.now
    (sym c.is_whole.ensures ∙ c.if-is_whole.true)

pub loop-form-preserved : goal.loop-form-preserved
loop-form-preserved c =
    below_more _ _ c.loop-form.invariant
    (λ m. both_ways c.is_whole.result c.if-is_whole.false
    (c.is_whole.ensures ∙ whole_matches (form_at c.loop-form.form-index) c.args.tokens.now m))
