use Rattle.std.proofs.Common.{arith, ◌∙◌, sym}
use Rattle.observe_core.proofs.SlotLemmas.{slot-read}
use Rattle.fact_table.proofs.TableLemmas.{put-placed, swap-facts, swap-length, swap-lacks}
use Rattle.fact_table.proofs.TableLemmas.{empty-slot, past-slots, not_some}
use Rattle.fact_table.proofs.table.FactTable.replace.Goals as goal

pub invariant_of-self : goal.invariant_of-self
invariant_of-self c =
    let t = c.args.self.now in
    let f = c.args.f in
    let r = slot-read f.id c.index.result.now t.slots.items (omega arith) c.index.ensures in
    let n = swap-length f t.slots.items t.placed c.in-Some.field-0 (omega arith)
    (r ∙ c.in-Some.is) in
    record {
      placed = put-placed f t.slots.items t.placed c.requires;
      counted = t.counted
          ∙ sym n;
      small = t.small;
    }

pub returns-in-Some-clause-swapped : goal.returns-in-Some-clause-swapped
returns-in-Some-clause-swapped c =
    let t = c.args.self.now in
    let f = c.args.f in
    let r = slot-read f.id c.index.result.now t.slots.items (omega arith) c.index.ensures in
    swap-facts f t.slots.items t.placed c.in-Some.field-0 (omega arith) (r ∙ c.in-Some.is)

pub returns-in_default-clause-swapped : goal.returns-in_default-clause-swapped
returns-in_default-clause-swapped c =
    let t = c.args.self.now in
    let f = c.args.f in
    let r = slot-read f.id c.index.result.now t.slots.items (omega arith) c.index.ensures in
    let e = not_some c.index.result.now c.in_default.not-Some in
    swap-lacks f t.slots.items t.placed (empty-slot f.id t.slots.items t.placed (r ∙ e))

pub returns-else-at-len-clause-swapped : goal.returns-else-at-len-clause-swapped
returns-else-at-len-clause-swapped c =
    let t = c.args.self.now in
    let f = c.args.f in
    swap-lacks f t.slots.items t.placed (past-slots f.id t.slots.items t.placed (omega arith))
