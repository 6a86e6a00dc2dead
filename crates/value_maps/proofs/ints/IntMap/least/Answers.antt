use Rattle.std.proofs.Common.{◌≤◌, length, None, Some, w64, FitsSigned, sym, subst, rules, arith}
use Rattle.std.proofs.lemmas.Int.{to_z-of_z}
use Rattle.columns.specs.Views.{entries_of}
use Rattle.value_maps.specs.LeastEntry.{IsLeastEntry}
use Rattle.value_maps.proofs.LeastSlots.{none_live, least_entry, found_same}
use Rattle.value_maps.proofs.ints.IntMap.least.Goals as goal

pub returns-in-None : goal.returns-in-None
returns-in-None c =
    let column = c.args.self.now.column in
    let m : length column.live.items ≤ length column.values.items = omega (arith, column.covered) in
    none_live column.live.items column.values.items m
    (found_same column.live.items c.live-live.result.now column.values.items
    c.values-values.result.now None c.live-live.ensures.seen c.values-values.ensures.seen
    c.in-None.ensures)

pub returns-in-Some : goal.returns-in-Some
returns-in-Some c =
    let column = c.args.self.now.column in
    let m : length column.live.items ≤ length column.values.items = omega (arith, column.covered) in
    let f : FitsSigned w64 c.in-Some.least = search rules in
    subst (IsLeastEntry (entries_of column) c.in-Some.place) (sym (to_z-of_z w64 c.in-Some.least f))
    (least_entry column.live.items column.values.items m c.in-Some.place c.in-Some.least
    (found_same column.live.items c.live-live.result.now column.values.items
    c.values-values.result.now (Some (c.in-Some.place, c.in-Some.least))
    c.live-live.ensures.seen c.values-values.ensures.seen c.in-Some.ensures))
