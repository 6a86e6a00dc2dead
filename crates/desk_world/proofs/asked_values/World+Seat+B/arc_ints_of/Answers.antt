use Rattle.std.proofs.Common.{refl, ap, subst, ◌∙◌, map, FitsSigned, to_z, of_z, rules}
use Rattle.std.specs.Int.{w128}
use Rattle.std.proofs.lemmas.Int.{to_z-of_z}
use Rattle.base_items.specs.declared.items.ItemSort.TheVariants.{Arc}
use Rattle.script_words.specs.declared.commands.MapType.TheVariants as types
use Rattle.plain_views.specs.Towers.{arc_int}
use Rattle.view_tower.specs.Layers.{tower_of}
use Rattle.tower_numbers.specs.declared.fault.ValueFault.TheVariants as faults
use Rattle.tower_numbers.specs.Values.{IsFirstOutside}
use Rattle.desk_seats.specs.contracts.seat.SeatObserver.TheImpl.{watch-value}
use Rattle.desk_world.specs.AskedViews.{arc_values}
use Rattle.desk_world.specs.MapNumbers.{numbered}
use Rattle.desk_world.specs.Plain.{plain_of}
use Rattle.desk_world.proofs.AskedViews.{arcs_live, arcs_pulled, map_there}
use Rattle.desk_world.proofs.AskedInts.{arcs_in_range}
use Rattle.desk_world.proofs.AskedInts.{arc_outside}
use Rattle.desk_world.proofs.asked_values.World+Seat+B.arc_ints_of.Goals as goal

pub arc_ints-requires-clause-map : goal.arc_ints-requires-clause-map
arc_ints-requires-clause-map g c =
    let w = (watch-value g.row.B g.B.Observer g.B.Observer-dict g.B.Destruct-dict).it in
    let world = plain_of w c.args.self.now in
    map_there world (plain_of w c.in_ok-values.values.world.now)
    (ap (plain_of w) c.in_ok-values.ensures) Arc types.Ints c.args.map.now c.in_ok-number.number
    c.in_ok-number.ensures c.requires.typed

pub arc_ints-requires-clause-live : goal.arc_ints-requires-clause-live
arc_ints-requires-clause-live g c =
    let w = (watch-value g.row.B g.B.Observer g.B.Observer-dict g.B.Destruct-dict).it in
    let world = plain_of w c.args.self.now in
    arcs_live world c.args.asked.now c.requires.asks (plain_of w c.in_ok-values.values.world.now)
    (ap (plain_of w) c.in_ok-values.ensures) c.as_slice.result.now c.as_slice.ensures.value
    c.requires.in_step.valid.graph_ok

pub returns-in-Ok-clause-ints : goal.returns-in-Ok-clause-ints
returns-in-Ok-clause-ints g c =
    let w = (watch-value g.row.B g.B.Observer g.B.Observer-dict g.B.Destruct-dict).it in
    let world = plain_of w c.args.self.now in
    let read = plain_of w c.in_ok-values.values.world.now in
    let asked = c.args.asked.now in
    c.in-Ok.ensures.ints
    ∙ (λ i. map (arc_int (numbered read) (tower_of c.as_slice.result.now)
    (c.in_ok-number.ensures i)) asked.fixed.arcs)
    ∙ arcs_pulled world asked c.requires.asks read (ap (plain_of w) c.in_ok-values.ensures)
    c.as_slice.result.now c.as_slice.ensures.value c.args.map.now

pub returns-in-Ok-clause-meets : goal.returns-in-Ok-clause-meets
returns-in-Ok-clause-meets g c =
    let w = (watch-value g.row.B g.B.Observer g.B.Observer-dict g.B.Destruct-dict).it in
    arcs_in_range (plain_of w c.args.self.now) c.args.asked.now.view.now c.args.map.now
    c.in-Ok.ints.items (returns-in-Ok-clause-ints g c) c.in-Ok.ensures.small

pub returns-in_ok-name-in-Err-OutOfRange-clause-meets :
    goal.returns-in_ok-name-in-Err-OutOfRange-clause-meets
returns-in_ok-name-in-Err-OutOfRange-clause-meets g c =
    let w = (watch-value g.row.B g.B.Observer g.B.Observer-dict g.B.Destruct-dict).it in
    let world = plain_of w c.args.self.now in
    let read = plain_of w c.in_ok-values.values.world.now in
    let asked = c.args.asked.now in
    let named = c.in_ok-name-in-Err-OutOfRange in
    let value = c.in-Err-OutOfRange.value in
    let fits : FitsSigned w128 value = search rules in
    let first = subst (λ xs. IsFirstOutside xs
    (faults.OutOfRange c.in-Err-OutOfRange.arc c.in-Err-OutOfRange.value))
    ((λ i. map (arc_int (numbered read) (tower_of c.as_slice.result.now)
    (c.in_ok-number.ensures i)) asked.fixed.arcs)
    ∙ arcs_pulled world asked c.requires.asks read (ap (plain_of w) c.in_ok-values.ensures)
    c.as_slice.result.now c.as_slice.ensures.value c.args.map.now)
    (subst (IsFirstOutside (map (arc_int (numbered read) (tower_of c.as_slice.result.now)
    c.in_ok-number.number) asked.fixed.arcs)) c.in-Err-OutOfRange.field-0-is
    c.in-Err-OutOfRange.ensures.outside) in
    arc_outside world asked.view.now c.args.map.now (arc_values world asked.view.now c.args.map.now)
    refl c.in-Err-OutOfRange.arc (to_z w128 (of_z w128 value)) named.name first.0
    (to_z-of_z w128 value fits ∙ first.1) named.ensures
