use Rattle.std.proofs.Common.{arith, ◌∙◌}
use Rattle.observe_core.proofs.SlotLemmas.{slot-read}
use Rattle.fact_table.proofs.TableLemmas.{taken-placed, taken-facts, taken-length, empty-slot}
use Rattle.fact_table.proofs.TableLemmas.{past-slots, taken-lacks, not_some}
use Rattle.fact_table.proofs.table.FactTable.remove.Goals as goal

pub overflow_sub-self : goal.overflow_sub-self
overflow_sub-self c =
    let t = c.args.self.now in
    let r = slot-read c.args.id c.index.result.now t.slots.items (omega arith) c.index.ensures in
    let n = taken-length c.args.id t.slots.items c.in-Some.field-0 (r ∙ c.in-Some.is) in
    let m = t.counted in
    omega (arith, n, m)

pub invariant_of-self : goal.invariant_of-self
invariant_of-self c =
    let t = c.args.self.now in
    let r = slot-read c.args.id c.index.result.now t.slots.items (omega arith) c.index.ensures in
    let n = taken-length c.args.id t.slots.items c.in-Some.field-0 (r ∙ c.in-Some.is) in
    let m = t.counted in
    record {
      placed = taken-placed c.args.id t.slots.items t.placed;
      counted =
          omega (arith, n, m);
      small = t.small;
    }

pub returns-in-Some-clause-taken : goal.returns-in-Some-clause-taken
returns-in-Some-clause-taken c = let t =
    c.args.self.now in taken-facts c.args.id t.slots.items t.placed (omega arith)

pub returns-in_default-clause-taken : goal.returns-in_default-clause-taken
returns-in_default-clause-taken c =
    let t = c.args.self.now in
    let r = slot-read c.args.id c.index.result.now t.slots.items (omega arith) c.index.ensures in
    let e = not_some c.index.result.now c.in_default.not-Some in
    taken-lacks c.args.id t.slots.items t.placed
    (empty-slot c.args.id t.slots.items t.placed (r ∙ e))

pub returns-else-at-len-clause-taken : goal.returns-else-at-len-clause-taken
returns-else-at-len-clause-taken c =
    let t = c.args.self.now in taken-lacks c.args.id t.slots.items t.placed
    (past-slots c.args.id t.slots.items t.placed (omega arith))
