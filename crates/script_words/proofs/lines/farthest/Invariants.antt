use Rattle.script_words.proofs.Farthest.{Farthest}
use Rattle.script_words.proofs.lines.farthest.Given as goal

abbrev pub invariant-loop-form : goal.invariant-loop-form
invariant-loop-form l = Farthest l.tokens l.form-index l.most
