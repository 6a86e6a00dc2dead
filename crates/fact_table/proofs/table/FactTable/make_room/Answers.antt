use Rattle.std.proofs.Common.{arith, vec_len, is_ok, IsTrue, length, ◌≡◌, ◌+◌, ◌≤◌, true, false}
use Rattle.std.proofs.Common.{if◌then◌else◌, sym, subst, ◌∙◌, ap}
use Rattle.observe_core.specs.Slots.{present}
use Rattle.fact_table.specs.Tests.{facts_placed}
use Rattle.fact_table.proofs.TableLemmas.{resized-facts, resized-placed}
use Rattle.fact_table.proofs.table.FactTable.make_room.Goals as goal

pub invariant_of-self : goal.invariant_of-self
invariant_of-self c =
    let t = c.args.self.now in
    let e = resized-facts (is_ok c.resize.result) (c.args.id + 1) (vec_len t.slots) t.slots.items
    (omega arith) in
    let p = resized-placed (is_ok c.resize.result) (c.args.id + 1) (vec_len t.slots) t.slots.items
    (omega arith) t.placed in
    record {
      placed = subst (λ s. IsTrue (facts_placed s)) (sym c.resize.ensures.items) p;
      counted = t.counted ∙ sym (ap length (ap present c.resize.ensures.items ∙ e));
      small = elim (is_ok c.resize.result) as (λ b. vec_len c.resize.new.self
          ≡ (if b then c.args.id + 1 else vec_len t.slots) → vec_len c.resize.new.self ≤ 4194304)
          [ true ↦ λ h. omega (arith, h) | false ↦ λ h. omega (arith, h, t.small) ]
          c.resize.ensures.len;
    }

pub returns-in_ok-resize-clause-same : goal.returns-in_ok-resize-clause-same
returns-in_ok-resize-clause-same c =
    let t = c.args.self.now in
    let e = resized-facts (is_ok c.resize.result) (c.args.id + 1) (vec_len t.slots) t.slots.items
    (omega arith) in
    ap present c.resize.ensures.items ∙ e
