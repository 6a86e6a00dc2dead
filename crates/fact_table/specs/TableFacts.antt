-- What is so of the facts of any table.
use Rattle.std.proofs.Common.{ℕ, ◌+◌, ◌≤◌, nat_lt, IsTrue, List, [], ◌∷◌, Option, Some, None, map}
use Rattle.std.proofs.Common.{length, arith}
use Rattle.std.proofs.lemmas.Grind.{common_steps}
use Rattle.base_items.specs.declared.items.Fact.{Fact}
use Rattle.plain_digraph.specs.Facts.{fact_id}
use Rattle.observe_core.specs.Facts.{ends_of, AllInBounds}
use Rattle.observe_core.specs.Items.{rises_from, above_all}
use Rattle.observe_core.specs.Slots.{present, well_placed}
use Rattle.observe_core.proofs.SlotLemmas.{present-rises, parts, and_parts, length-present}
use Rattle.fact_table.specs.Tests.{is_in_bounds}
use Rattle.fact_table.specs.Table.{facts_of, reach_of}
use Rattle.fact_table.specs.declared.table.FactTable.{FactTable}

pub table-rises : (t : FactTable) → IsTrue (rises_from fact_id 0 (facts_of t))
table-rises t = present-rises fact_id is_in_bounds 0 t.slots.items t.placed

above_ends : (i : ℕ) (ss : List (Option Fact)) → IsTrue (well_placed fact_id is_in_bounds i ss)
    → above_all (ends_of (present ss)) ≤ 4194304
above_ends i [] h = omega arith
above_ends i (None ∷ ss) h = above_ends (i + 1) ss h
above_ends i (Some f ∷ ss) h =
    let w = parts fact_id is_in_bounds i f ss h in
    let o = and_parts (nat_lt f.id 4194304) (nat_lt f.from 4194304) (nat_lt f.to 4194304) w.1.0 in
    let r = above_ends (i + 1) ss w.1.1 in
    let p = o.1.0 in
    let q = o.1.1 in
    grind (arith, common_steps, r, p, q)

pub table-reach : (t : FactTable) → above_all (ends_of (facts_of t)) ≤ 4194304
table-reach t = above_ends 0 t.slots.items t.placed

bounded : (i : ℕ) (ss : List (Option Fact)) → IsTrue (well_placed fact_id is_in_bounds i ss)
    → AllInBounds (present ss)
bounded i [] h = tt
bounded i (None ∷ ss) h = bounded (i + 1) ss h
bounded i (Some f ∷ ss) h =
    let w = parts fact_id is_in_bounds i f ss h in
    let o = and_parts (nat_lt f.id 4194304) (nat_lt f.from 4194304) (nat_lt f.to 4194304) w.1.0 in
    let p = o.0 in
    let q = o.1.0 in
    let r = o.1.1 in (
      (
        grind (arith, common_steps, p),
        grind (arith, common_steps, q),
        grind (arith, common_steps, r),
      ),
      bounded (i + 1) ss w.1.1,
    )

pub table-bounded : (t : FactTable) → AllInBounds (facts_of t)
table-bounded t = bounded 0 t.slots.items t.placed

pub table-small : (t : FactTable) → length (facts_of t) ≤ 4194304
table-small t = let l = length-present fact_id is_in_bounds t.slots.items in let m =
    t.small in omega (arith, l, m)

above_ids : (i n : ℕ) (ss : List (Option Fact)) → IsTrue (well_placed fact_id is_in_bounds i ss)
    → i + length ss ≤ n → above_all (map fact_id (present ss)) ≤ n
above_ids i n [] h l = omega arith
above_ids i n (None ∷ ss) h l = above_ids (i + 1) n ss h (omega (arith, l))
above_ids i n (Some f ∷ ss) h l =
    let w = parts fact_id is_in_bounds i f ss h in
    let r = above_ids (i + 1) n ss w.1.1 (omega (arith, l)) in
    let e = w.0 in
    grind (arith, common_steps, r, e, l)

-- every id is within reach
pub table-slots : (t : FactTable) → above_all (map fact_id (facts_of t)) ≤ reach_of t
table-slots t = above_ids 0 (reach_of t) t.slots.items t.placed (omega arith)
