use Rattle.std.proofs.Common.{ℕ, ◌<◌, get_or}
use Rattle.script_words.specs.declared.forms.Form.TheVariants as form
use Rattle.script_words.specs.declared.forms.TheConstants.{FORMS}
use Rattle.script_words.specs.Lines.{Matches}
use Rattle.script_words.proofs.lines.whole_form.Given as goal

abbrev pub invariant-loop-form : goal.invariant-loop-form
invariant-loop-form l =
    (k : ℕ) → k < l.form-index → Matches (get_or FORMS k form.AddNode) l.tokens → ⊥
