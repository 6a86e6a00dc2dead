use Rattle.std.proofs.Common.{arith, ◌∙◌, subst, sym, ◌+◌, ◌<◌, length, ap}
use Rattle.plain_digraph.specs.Rising.{with_item}
use Rattle.observe_core.specs.Items.{Lacks}
use Rattle.plain_digraph.specs.Facts.{fact_id}
use Rattle.observe_core.specs.Slots.{present}
use Rattle.fact_table.proofs.TableLemmas.{put-placed, put-facts, put-length}
use Rattle.fact_table.specs.Tests.{is_in_bounds}
use Rattle.fact_table.proofs.table.FactTable.insert.Goals as goal
use Rattle.observe_core.proofs.SlotLemmas.{length-present}

pub overflow_add-self : goal.overflow_add-self
overflow_add-self c = let t = c.make_room.new.self in let l =
    length-present fact_id is_in_bounds t.slots.items in let m = t.counted in let s =
    t.small in omega (arith, l, m, s)

pub invariant_of-self : goal.invariant_of-self
invariant_of-self c =
    let t = c.make_room.new.self in
    let free : Lacks fact_id c.args.f.id (present t.slots.items) =
    subst (Lacks fact_id c.args.f.id) (sym c.make_room.ensures.same) c.requires.free in
    let room : c.args.f.id < length t.slots.items = omega (arith, c.in_ok-make_room.ensures.room) in
    let n = put-length c.args.f t.slots.items t.placed room free in
    record {
      placed = put-placed c.args.f t.slots.items t.placed c.requires.bounded;
      counted =
          sym (n ∙ ap (λ n. n + 1) (sym t.counted));
      small = t.small;
    }

pub returns-clause-ok : goal.returns-clause-ok
returns-clause-ok c =
    let t = c.make_room.new.self in
    let free : Lacks fact_id c.args.f.id (present t.slots.items) =
    subst (Lacks fact_id c.args.f.id) (sym c.make_room.ensures.same) c.requires.free in
    let room : c.args.f.id < length t.slots.items = omega (arith, c.in_ok-make_room.ensures.room) in
    put-facts c.args.f t.slots.items t.placed room free
    ∙ ap (with_item fact_id c.args.f) c.make_room.ensures.same
