use Rattle.std.proofs.Common.{◌≤◌, ◌∙◌, is_ok, length, sym, ap, subst, arith}
use Rattle.observe_core.specs.Slots.{present}
use Rattle.columns.specs.Slots.{slots_of}
use Rattle.columns.specs.Views.{AreBlank}
use Rattle.columns.proofs.ColumnLemmas.{pushed-values}
use Rattle.columns.proofs.BlankLemmas.{blank-pushed}
use Rattle.columns.proofs.column.Column.grow.Goals as goal

pub returns-clause-entries : goal.returns-clause-entries
returns-clause-entries g c =
    let self = c.args.self.now in
    let ls = self.live.items in
    let vs = self.values.items in
    let m : length ls ≤ length vs = omega (arith, self.covered) in
    ap (λ ws. present (slots_of 0 ls ws)) c.push.ensures.items
    ∙ ap present (pushed-values c.args.filler (is_ok c.push.result) ls vs m)

pub returns-clause-blank : goal.returns-clause-blank
returns-clause-blank g c =
    let self = c.args.self.now in
    λ b. subst (AreBlank c.args.filler self.live.items) (sym c.push.ensures.items)
    (blank-pushed c.args.filler (is_ok c.push.result) self.live.items self.values.items b)

pub returns-then-is_err-clause-entries : goal.returns-then-is_err-clause-entries
returns-then-is_err-clause-entries g c =
    let self = c.args.self.now in
    let ls = self.live.items in
    let vs = self.values.items in
    let m : length ls ≤ length vs = omega (arith, self.covered) in
    ap (λ ws. present (slots_of 0 ls ws)) c.push.ensures.items
    ∙ ap present (pushed-values c.args.filler (is_ok c.push.result) ls vs m)

pub returns-then-is_err-clause-blank : goal.returns-then-is_err-clause-blank
returns-then-is_err-clause-blank g c =
    let self = c.args.self.now in
    λ b. subst (AreBlank c.args.filler self.live.items) (sym c.push.ensures.items)
    (blank-pushed c.args.filler (is_ok c.push.result) self.live.items self.values.items b)
