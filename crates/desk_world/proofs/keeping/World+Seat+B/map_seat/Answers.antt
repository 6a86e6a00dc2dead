use Rattle.std.proofs.Common.{List, Option, refl, sym, ap, ◌∙◌}
use Rattle.std.specs.Option.{option_copied}
use Rattle.plain_world.specs.Tables.{Named, entry}
use Rattle.desk_seats.specs.contracts.seat.SeatObserver.TheImpl.{watch-value}
use Rattle.desk_world.specs.declared.tables.ItemTables.{ItemTables}
use Rattle.desk_world.specs.declared.tables.MapRow.{MapRow}
use Rattle.desk_world.proofs.KeepMaps.{no_row, kind_known}
use Rattle.desk_world.proofs.keeping.World+Seat+B.map_seat.Goals as goal

pub unreachable-requires : goal.unreachable-requires
unreachable-requires g c =
    let w = (watch-value g.row.B g.B.Observer g.B.Observer-dict g.B.Destruct-dict).it in
    let rows : List (Named MapRow) → Option MapRow = λ rows. entry rows c.args.name.now in
    let table = ap (λ (x : ItemTables). x.maps.rows) c.tables.ensures in
    no_row w c.args.self.now c.requires.in_step c.args.sort c.args.name.now c.requires.there.0
    c.requires.there.1
    (ap rows (sym table) ∙ sym c.get.ensures.found ∙ ap option_copied c.in-None.is)

pub returns : goal.returns
returns g c kind typed =
    let w = (watch-value g.row.B g.B.Observer g.B.Observer-dict g.B.Destruct-dict).it in
    let rows : List (Named MapRow) → Option MapRow = λ rows. entry rows c.args.name.now in
    let table = ap (λ (x : ItemTables). x.maps.rows) c.tables.ensures in
    let found = ap rows (sym table) ∙ sym c.get.ensures.found ∙ ap option_copied c.in-Some.is in
    record {
      row = c.in-Some.row.now;
      found = found;
      typed = kind_known w c.args.self.now c.requires.in_step c.args.sort c.args.name.now kind
          typed c.in-Some.row.now found;
      same = refl;
    }
