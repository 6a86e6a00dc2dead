use Rattle.std.proofs.Common.{List, Option, true, refl, sym, ap, ◌∙◌}
use Rattle.std.specs.Option.{option_copied}
use Rattle.plain_world.specs.Tables.{Named, entry}
use Rattle.desk_seats.specs.contracts.seat.SeatObserver.TheImpl.{watch-value}
use Rattle.desk_world.specs.declared.tables.ItemTables.{ItemTables}
use Rattle.desk_world.specs.declared.tables.MapRow.{MapRow}
use Rattle.desk_world.specs.declared.values.Value.TheVariants.{Bool}
use Rattle.desk_world.proofs.MapWrites.{row_there, is_kind}
use Rattle.desk_world.proofs.new_indexes.World+Seat+B.bools_key.Goals as goal

pub unreachable-requires : goal.unreachable-requires
unreachable-requires g c =
    let w = (watch-value g.row.B g.B.Observer g.B.Observer-dict g.B.Destruct-dict).it in
    let rows : List (Named MapRow) → Option MapRow = λ rows. entry rows c.args.map.now in
    let table = ap (λ (x : ItemTables). x.maps.rows) c.tables.ensures in
    row_there w c.args.self.now c.requires.in_step c.args.sort c.args.map.now (Bool true)
    c.requires.bools (ap rows (sym table) ∙ sym c.get.ensures.found ∙ ap option_copied c.in-None.is)

pub returns : goal.returns
returns g c =
    let w = (watch-value g.row.B g.B.Observer g.B.Observer-dict g.B.Destruct-dict).it in
    let rows : List (Named MapRow) → Option MapRow = λ rows. entry rows c.args.map.now in
    let table = ap (λ (x : ItemTables). x.maps.rows) c.tables.ensures in
    let found = ap rows (sym table) ∙ sym c.get.ensures.found ∙ ap option_copied c.in-Some.is in
    let row = c.in-Some.row.now in (
      row,
      found,
      is_kind w c.args.self.now c.requires.in_step c.args.sort c.args.map.now (Bool true)
          c.requires.bools row found,
      refl,
    )
