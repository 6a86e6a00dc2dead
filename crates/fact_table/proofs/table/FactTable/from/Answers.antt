use Rattle.std.proofs.Common.{◌∙◌, arith, sym, ap}
use Rattle.observe_core.proofs.SlotLemmas.{slot-read}
use Rattle.fact_table.specs.Table.{facts_of, from_id}
use Rattle.fact_table.specs.TableFacts.{table-rises}
use Rattle.fact_table.proofs.TableLemmas.{empty-slot, not_some, slot-there, from-on, from-there}
use Rattle.fact_table.proofs.TableLemmas.{from-past}
use Rattle.fact_table.proofs.table.FactTable.from.Goals as goal

pub returns-in-Some : goal.returns-in-Some
returns-in-Some c =
    let t = c.args.self.now in
    let at = c.loop-at.at in
    let r = slot-read at c.index.result.now t.slots.items (omega arith) c.index.ensures in
    let w = slot-there at c.in-Some.f t.slots.items t.placed (omega arith) (r ∙ c.in-Some.is) in
    sym (c.loop-at.invariant ∙ ap (λ i. from_id i (facts_of t)) (sym w.1)
    ∙ from-there 0 c.in-Some.f (facts_of t) (table-rises t) w.0)

pub loop-at-preserved : goal.loop-at-preserved
loop-at-preserved c =
    let t = c.args.self.now in
    let at = c.loop-at.at in
    let r = slot-read at c.index.result.now t.slots.items (omega arith) c.index.ensures in
    let e = not_some c.index.result.now c.in_default.not-Some in
    c.loop-at.invariant ∙ from-on at (facts_of t) (empty-slot at t.slots.items t.placed (r ∙ e))

pub returns : goal.returns
returns c =
    let t = c.args.self.now in
    sym (c.loop-at.invariant ∙ from-past 0 c.loop-at.at t.slots.items t.placed (omega arith))
