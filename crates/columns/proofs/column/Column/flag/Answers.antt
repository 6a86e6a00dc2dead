use Rattle.std.proofs.Common.{◌+◌, ◌∙◌, is_ok, vec_len, sym, ap, subst, arith}
use Rattle.observe_core.specs.Slots.{present}
use Rattle.columns.specs.Slots.{slots_of}
use Rattle.columns.specs.Views.{AreBlank}
use Rattle.columns.proofs.ColumnLemmas.{resized-flags}
use Rattle.columns.proofs.BlankLemmas.{blank-resize}
use Rattle.columns.proofs.column.Column.flag.Goals as goal

pub returns-in_ok-resize-clause-same : goal.returns-in_ok-resize-clause-same
returns-in_ok-resize-clause-same g c =
    let self = c.args.self.now in
    let e = resized-flags (is_ok c.resize.result) (c.args.id + 1) (vec_len self.live)
    self.live.items self.values.items (omega arith) in
    ap (λ ls. present (slots_of 0 ls self.values.items)) c.resize.ensures.items ∙ e

pub returns-in_ok-resize-clause-blank : goal.returns-in_ok-resize-clause-blank
returns-in_ok-resize-clause-blank g c =
    let self = c.args.self.now in
    let vs = self.values.items in
    λ filler b. subst (λ ls. AreBlank filler ls vs) (sym c.resize.ensures.items)
    (blank-resize filler self.live.items vs b (is_ok c.resize.result) (c.args.id + 1)
    (vec_len self.live) (omega arith))
