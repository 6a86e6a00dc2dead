use Rattle.std.proofs.Common.{◌+◌, ◌∙◌, map, is_ok, vec_len, ap, arith}
use Rattle.fact_table.specs.Table.{facts_of}
use Rattle.kept_views.specs.ItemViews.{marked}
use Rattle.kept_views.proofs.ItemsLemmas.{resized}
use Rattle.kept_views.proofs.items.KeptItems.make_room.Goals as goal

pub returns-in_ok-resize-clause-same : goal.returns-in_ok-resize-clause-same
returns-in_ok-resize-clause-same c =
    let self = c.args.self.now in
    let facts = facts_of self.table in
    let e = resized (is_ok c.resize.result) (c.args.id + 1) (vec_len self.marks) self.marks.items
    facts (omega arith) in
    ap (λ ms. map (marked ms) facts) c.resize.ensures.items ∙ e
