use Rattle.std.proofs.Common.{List, Option, refl, sym, ap, ◌∙◌, subst}
use Rattle.std.specs.Option.{option_copied}
use Rattle.plain_world.specs.Tables.{Named, entry}
use Rattle.plain_world.specs.Valid.{NamesDiffer}
use Rattle.desk_seats.specs.contracts.seat.SeatObserver.TheImpl.{watch-value}
use Rattle.desk_world.specs.declared.tables.ItemTables.{ItemTables}
use Rattle.desk_world.specs.declared.tables.MapRow.{MapRow}
use Rattle.desk_world.proofs.MapWrites.{row_there}
use Rattle.desk_world.proofs.map_changes.World+Seat+B.write_value.Goals as goal

pub unreachable-requires : goal.unreachable-requires
unreachable-requires g c =
    let w = (watch-value g.row.B g.B.Observer g.B.Observer-dict g.B.Destruct-dict).it in
    let old = c.args.self.now in
    let name = c.args.map.now in
    let rows : List (Named MapRow) → Option MapRow = λ rows. entry rows name in
    let table = ap (λ (x : ItemTables). x.maps.rows) c.tables.ensures in
    row_there w old c.requires.in_step c.args.sort name c.args.value c.requires.of_type
    (ap rows (sym table) ∙ sym c.get.ensures.found ∙ ap option_copied c.in_default.is)

pub write_row-requires : goal.write_row-requires
write_row-requires g c =
    let rows : List (Named MapRow) → Option MapRow = λ rows. entry rows c.args.map.now in
    let table = ap (λ (x : ItemTables). x.maps.rows) c.tables.ensures in
    record {
      in_step = c.requires.in_step;
      live = c.requires.live;
      of_type = c.requires.of_type;
      row = (
        c.in-Some.row.now,
        ap rows (sym table) ∙ sym c.get.ensures.found ∙ ap option_copied c.in-Some.is,
        refl,
      );
      differ = subst NamesDiffer table c.get.ensures.differ;
    }
