use Rattle.std.proofs.Common.{◌+◌, ◌-◌, ◌<◌, ◌≡◌, length, get_or, ◌∙◌, subst, arith}
use Rattle.std.proofs.Math.ListN.{length-set}
use Rattle.static_digraph.specs.Places.{IsTableFrom}
use Rattle.static_digraph.proofs.Tabling.{read_has, table_more}
use Rattle.static_digraph.proofs.places.place_table.Goals as goal

pub index_mut-requires : goal.index_mut-requires
index_mut-requires c =
    let below = c.loop-i.invariant.below in
    let some = c.loop-i-test.true in
    let l : c.loop-i.i - 1 < length c.args.ids.now = omega (arith, below, some) in
    let wide = c.table_size-size.ensures (get_or c.args.ids.now (c.loop-i.i - 1) 0)
    (read_has c.args.ids.now (c.loop-i.i - 1) l) in
    let size = c.loop-i.invariant.sized in
    omega (arith, wide, size)

pub loop-i-preserved : goal.loop-i-preserved
loop-i-preserved c =
    let below = c.loop-i.invariant.below in
    let some = c.loop-i-test.true in
    let l : c.loop-i.i - 1 < length c.args.ids.now = omega (arith, below, some) in
    let wide = c.table_size-size.ensures (get_or c.args.ids.now (c.loop-i.i - 1) 0)
    (read_has c.args.ids.now (c.loop-i.i - 1) l) in
    let size = c.loop-i.invariant.sized in
    let is : c.loop-i.i ≡ (c.loop-i.i - 1) + 1 = omega (arith, some) in
    record {
      below = omega (arith, l);
      sized = length-set c.loop-i.table.items (get_or c.args.ids.now (c.loop-i.i - 1) 0)
          (c.loop-i.i - 1)
          ∙ size;
      told = table_more c.args.ids.now c.loop-i.table.items (c.loop-i.i - 1) l
          (omega (arith, wide, size))
          (subst (IsTableFrom c.args.ids.now c.loop-i.table.items) is c.loop-i.invariant.told);
    }
