use Rattle.std.proofs.Common.{◌≡◌, List, Option, Some, sym, ap, ◌∙◌, subst, take}
use Rattle.std.specs.Option.{option_copied}
use Rattle.std.proofs.lemmas.List.{take_all}
use Rattle.plain_world.specs.Demands as demands
use Rattle.plain_world.specs.Tables.{Named, entry}
use Rattle.desk_seats.specs.contracts.seat.SeatObserver.TheImpl.{watch-value}
use Rattle.desk_world.specs.declared.tables.ItemTables.{ItemTables}
use Rattle.desk_world.specs.declared.tables.MapRow.{MapRow}
use Rattle.desk_world.specs.Faults.{Meets}
use Rattle.desk_world.specs.Plain.{plain_of}
use Rattle.desk_world.proofs.Handed.{handed_on}
use Rattle.desk_world.proofs.Ordered.{live_at}
use Rattle.desk_world.proofs.RetypeRows.{row_there, row_listed, row_own, starts, walk_role}
use Rattle.desk_world.proofs.RetypeRows.{walk_item, walk_on, stops, ends_met, ends_spelled, Walked}
use Rattle.desk_world.proofs.retyping.World+Seat+B.respelled.Goals as goal

pub unreachable-requires : goal.unreachable-requires
unreachable-requires g c =
    let w = (watch-value g.row.B g.B.Observer g.B.Observer-dict g.B.Destruct-dict).it in
    let self = c.args.self.now in
    let name = c.args.map.now in
    let rows : List (Named MapRow) → Option MapRow = λ rows. entry rows name in
    let table = ap (λ (x : ItemTables). x.maps.rows) c.tables.ensures in
    row_there w self c.requires.in_step.seats c.args.sort name c.requires.values
    (ap rows (sym table) ∙ sym c.get.ensures.found ∙ ap option_copied c.in_default.is)

pub new_values-requires : goal.new_values-requires
new_values-requires g c = c.requires.in_step.seats

pub loop-id-init : goal.loop-id-init
loop-id-init g c =
    let w = (watch-value g.row.B g.B.Observer g.B.Observer-dict g.B.Destruct-dict).it in
    let self = c.args.self.now in
    let name = c.args.map.now in
    let row = c.in-Some.row.now in
    let rows : List (Named MapRow) → Option MapRow = λ rows. entry rows name in
    let table = ap (λ (x : ItemTables). x.maps.rows) c.tables.ensures in
    let found = ap rows (sym table) ∙ sym c.get.ensures.found ∙ ap option_copied c.in-Some.is in
    starts w self c.requires.in_step.seats c.args.sort name c.requires.values row found c.args.kind
    (w c.in_ok-seat.seat).seen c.in_ok-seat.ensures.seat c.in_ok-seat.ensures.new

pub value_as-requires : goal.value_as-requires
value_as-requires g c =
    let w = (watch-value g.row.B g.B.Observer g.B.Observer-dict g.B.Destruct-dict).it in
    let self = c.args.self.now in
    let name = c.args.map.now in
    let row = c.in-Some.row.now in
    let rows : List (Named MapRow) → Option MapRow = λ rows. entry rows name in
    let table = ap (λ (x : ItemTables). x.maps.rows) c.tables.ensures in
    let found = ap rows (sym table) ∙ sym c.get.ensures.found ∙ ap option_copied c.in-Some.is in
    record {
      in_step = c.requires.in_step;
      live = live_at (plain_of w self) c.args.sort c.requires.in_step.seats.graph.valid
          c.as_slice-id-items.result.now
          (c.as_slice-id-items.ensures.value ∙ c.in_ok-order.ensures) c.loop-id.id-index
          c.loop-id-test.true;
      row = row_listed w self c.requires.in_step.seats c.args.sort name c.requires.values row found;
      values = row_own w self c.requires.in_step.seats c.args.sort name c.requires.values row found;
    }

pub returns-in_err-value-clause-meets : goal.returns-in_err-value-clause-meets
returns-in_err-value-clause-meets g c =
    let w = (watch-value g.row.B g.B.Observer g.B.Observer-dict g.B.Destruct-dict).it in
    let self = c.args.self.now in
    let name = c.args.map.now in
    let row = c.in-Some.row.now in
    let rows : List (Named MapRow) → Option MapRow = λ rows. entry rows name in
    let table = ap (λ (x : ItemTables). x.maps.rows) c.tables.ensures in
    let found = ap rows (sym table) ∙ sym c.get.ensures.found ∙ ap option_copied c.in-Some.is in
    handed_on (Meets (plain_of w self) (demands.AllSpell c.args.sort name c.args.kind))
    c.from_residual-in_err-value.result _ c.from_residual-in_err-value.ensures.1
    (stops w self c.requires.in_step.seats c.args.sort name c.requires.values row found c.args.kind
    c.as_slice-id-items.result.now c.loop-id.id-index (w c.loop-id.seat).seen _
    c.loop-id-test.true (c.as_slice-id-items.ensures.value ∙ c.in_ok-order.ensures)
    c.loop-id.invariant c.in_err-value.ensures.refused)

pub write_to-requires : goal.write_to-requires
write_to-requires g c =
    let w = (watch-value g.row.B g.B.Observer g.B.Observer-dict g.B.Destruct-dict).it in
    let self = c.args.self.now in
    let name = c.args.map.now in
    let row = c.in-Some.row.now in
    let rows : List (Named MapRow) → Option MapRow = λ rows. entry rows name in
    let table = ap (λ (x : ItemTables). x.maps.rows) c.tables.ensures in
    let found = ap rows (sym table) ∙ sym c.get.ensures.found ∙ ap option_copied c.in-Some.is in
    let items = c.as_slice-id-items.result.now in
    let all = c.as_slice-id-items.ensures.value ∙ c.in_ok-order.ensures in
    record {
      role = walk_role w self c.requires.in_step.seats c.args.sort name c.requires.values row found
          c.args.kind items c.loop-id.id-index (w c.loop-id.seat).seen c.in_ok-value.value
          c.loop-id-test.true all c.in_ok-value.ensures.of_type c.loop-id.invariant;
      live = walk_item w self c.requires.in_step.seats c.args.sort name c.requires.values row found
          c.args.kind items c.loop-id.id-index (w c.loop-id.seat).seen c.in_ok-value.value
          c.loop-id-test.true all c.in_ok-value.ensures.of_type c.loop-id.invariant;
    }

pub loop-id-preserved : goal.loop-id-preserved
loop-id-preserved g c =
    let w = (watch-value g.row.B g.B.Observer g.B.Observer-dict g.B.Destruct-dict).it in
    let self = c.args.self.now in
    let name = c.args.map.now in
    let row = c.in-Some.row.now in
    let rows : List (Named MapRow) → Option MapRow = λ rows. entry rows name in
    let table = ap (λ (x : ItemTables). x.maps.rows) c.tables.ensures in
    let found = ap rows (sym table) ∙ sym c.get.ensures.found ∙ ap option_copied c.in-Some.is in
    walk_on w self c.requires.in_step.seats c.args.sort name c.requires.values row found
    c.args.kind c.as_slice-id-items.result.now c.loop-id.id-index (w c.loop-id.seat).seen
    c.in_ok-value.value c.loop-id-test.true
    (c.as_slice-id-items.ensures.value ∙ c.in_ok-order.ensures) c.in_ok-value.ensures.of_type
    c.loop-id.invariant (w c.write_to.new.seat).seen c.in_ok-value.ensures.spells
    c.in_ok-value.ensures.value c.write_to.ensures.seen c.write_to.ensures.fits

pub returns : goal.returns
returns g c =
    let w = (watch-value g.row.B g.B.Observer g.B.Observer-dict g.B.Destruct-dict).it in
    let self = c.args.self.now in
    let name = c.args.map.now in
    let row = c.in-Some.row.now in
    let rows : List (Named MapRow) → Option MapRow = λ rows. entry rows name in
    let table = ap (λ (x : ItemTables). x.maps.rows) c.tables.ensures in
    let found = ap rows (sym table) ∙ sym c.get.ensures.found ∙ ap option_copied c.in-Some.is in
    let items = c.as_slice-id-items.result.now in
    let all = c.as_slice-id-items.ensures.value ∙ c.in_ok-order.ensures in
    let seen = (w c.loop-id.seat).seen in
    let done = subst (λ ids. Walked w self c.requires.in_step.seats c.args.sort name
    c.requires.values row found c.args.kind ids seen)
    (take_all c.loop-id.id-index items c.loop-id-test.false) c.loop-id.invariant in
    record {
      meets = ends_met w self c.requires.in_step.seats c.args.sort name c.requires.values row found
          c.args.kind items seen all done;
      seat = done.is_map;
      values = ends_spelled w self c.requires.in_step.seats c.args.sort name c.requires.values row
          found c.args.kind items seen all done;
    }
