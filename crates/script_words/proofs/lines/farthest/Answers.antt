use Rattle.std.proofs.Common.{◌∙◌, ap, arith}
use Rattle.script_words.specs.Code.{reach}
use Rattle.script_words.proofs.Farthest.{farthest_none, farthest_more, farthest_less}
use Rattle.script_words.proofs.Farthest.{farthest_stuck}
use Rattle.script_words.proofs.lines.farthest.Goals as goal
use Rattle.script_words.proofs.lines.farthest.Goals.{then-reached-most, else-reached-most}

pub loop-form-init : goal.loop-form-init
loop-form-init c = farthest_none c.args.tokens.now

pub loop-form-preserved : goal.loop-form-preserved
loop-form-preserved c =
    let tokens = c.args.tokens.now in
    let i = c.loop-form.form-index in
    let e = c.reach-reached.ensures.reach ∙ ap (λ slots. reach slots tokens) c.places.ensures in
    elim c.if-reached-most.branch [
      | then-reached-most w ↦
          rw w.most-is
          (farthest_more tokens i c.loop-form.most _ e c.loop-form.invariant w.if-reached-most.true)
      | else-reached-most w ↦
          rw w.most-is
          (farthest_less tokens i c.loop-form.most _ e c.loop-form.invariant
          w.if-reached-most.false)
    ]

pub returns-clause-stuck : goal.returns-clause-stuck
returns-clause-stuck c = λ more goes.
    farthest_stuck c.args.tokens.now c.loop-form.form-index c.loop-form.most c.loop-form.invariant
    (omega arith) more goes
