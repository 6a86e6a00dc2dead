-- The guards that have a number say it by their fifth word.
use Rattle.std.proofs.Common.{refl, ◌∙◌, rules}
use Rattle.script_words.specs.declared.forms.Form.TheVariants as form
use Rattle.script_words.proofs.Amounts.{guard_said}
use Rattle.script_words.proofs.build.of_five_words.Goals as goal
use Rattle.script_words.proofs.build.of_five_words.Goals.{in-Set, in-NodeQuota, in-NodeFuse}
use Rattle.script_words.proofs.build.of_five_words.Goals.{in-ArcQuota, in-ArcOutCap, in-ArcFuse}
use Rattle.script_words.proofs.build.of_five_words.Goals.{in-MaxFlow, in-Circulate}

pub returns : goal.returns
returns c = elim c.match-form.branch [
  | in-Set w ↦ search rules
  | in-NodeQuota w ↦
      w.result-is ∙ guard_said _ form.NodeQuota _ 0 4194304 _ _ _ _ _ w.in-NodeQuota.is
      c.requires.form refl refl refl
      c.in_ok-first.ensures c.in_ok-fourth.ensures w.numbered.ensures
  | in-NodeFuse w ↦
      w.result-is ∙ guard_said _ form.NodeFuse _ 1 4194304 _ _ _ _ _ w.in-NodeFuse.is
      c.requires.form refl refl refl
      c.in_ok-first.ensures c.in_ok-fourth.ensures w.numbered-in-NodeFuse.ensures
  | in-ArcQuota w ↦
      w.result-is ∙ guard_said _ form.ArcQuota _ 0 4194304 _ _ _ _ _ w.in-ArcQuota.is
      c.requires.form refl refl refl
      c.in_ok-first.ensures c.in_ok-fourth.ensures w.numbered-in-ArcQuota.ensures
  | in-ArcOutCap w ↦
      w.result-is ∙ guard_said _ form.ArcOutCap _ 0 4194304 _ _ _ _ _ w.in-ArcOutCap.is
      c.requires.form refl refl refl
      c.in_ok-first.ensures c.in_ok-fourth.ensures w.numbered-in-ArcOutCap.ensures
  | in-ArcFuse w ↦
      w.result-is ∙ guard_said _ form.ArcFuse _ 1 4194304 _ _ _ _ _ w.in-ArcFuse.is c.requires.form
      refl refl refl
      c.in_ok-first.ensures c.in_ok-fourth.ensures w.numbered-in-ArcFuse.ensures
  | in-MaxFlow w ↦ search rules
  | in-Circulate w ↦ search rules
]
