use Rattle.std.proofs.Common.{◌∙◌, arith}
use Rattle.observe_core.proofs.SlotLemmas.{slot-read}
use Rattle.fact_table.proofs.TableLemmas.{empty-slot, past-slots, not_some, slot-there}
use Rattle.fact_table.proofs.table.FactTable.get.Goals as goal

pub returns-in-Some-clause-there : goal.returns-in-Some-clause-there
returns-in-Some-clause-there c =
    let t = c.args.self.now in
    let r = slot-read c.args.id c.index.result.now t.slots.items (omega arith) c.index.ensures in
    slot-there c.args.id c.in-Some.f t.slots.items t.placed (omega arith) (r ∙ c.in-Some.is)

pub returns-in_default-clause-absent : goal.returns-in_default-clause-absent
returns-in_default-clause-absent c =
    let t = c.args.self.now in
    let r = slot-read c.args.id c.index.result.now t.slots.items (omega arith) c.index.ensures in
    empty-slot c.args.id t.slots.items t.placed
    (r ∙ not_some c.index.result.now c.in_default.not-Some)

pub returns-else-at-len-clause-absent : goal.returns-else-at-len-clause-absent
returns-else-at-len-clause-absent c =
    past-slots c.args.id c.args.self.now.slots.items c.args.self.now.placed (omega arith)
