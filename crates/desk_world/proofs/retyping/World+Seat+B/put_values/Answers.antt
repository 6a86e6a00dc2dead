use Rattle.std.proofs.Common.{◌≡◌, List, Option, Some, sym, ap, ◌∙◌, subst, is_some}
use Rattle.std.specs.Option.{option_copied}
use Rattle.plain_world.specs.Tables.{Named, entry}
use Rattle.plain_world.specs.Valid.{NamesDiffer}
use Rattle.desk_seats.specs.contracts.seat.SeatObserver.TheImpl.{watch-value}
use Rattle.desk_world.specs.declared.tables.ItemTables.{ItemTables}
use Rattle.desk_world.specs.declared.tables.MapKind.{MapKind}
use Rattle.desk_world.specs.declared.tables.MapRow.{MapRow}
use Rattle.desk_world.proofs.RetypeRows.{row_there, row_seen, taken}
use Rattle.desk_world.proofs.retyping.World+Seat+B.put_values.Goals as goal

pub unreachable-requires : goal.unreachable-requires
unreachable-requires g c =
    let w = (watch-value g.row.B g.B.Observer g.B.Observer-dict g.B.Destruct-dict).it in
    let old = c.args.self.now in
    let name = c.args.map.now in
    let rows : List (Named MapRow) → Option MapRow = λ rows. entry rows name in
    let table = ap (λ (x : ItemTables). x.maps.rows) c.tables.ensures in
    row_there w old c.requires.in_step c.args.sort name c.requires.own
    (ap rows (sym table) ∙ sym c.get.ensures.found ∙ ap option_copied c.in_default.is)

pub reseat-requires : goal.reseat-requires
reseat-requires g c =
    let w = (watch-value g.row.B g.B.Observer g.B.Observer-dict g.B.Destruct-dict).it in
    let old = c.args.self.now in
    let name = c.args.map.now in
    let rows : List (Named MapRow) → Option MapRow = λ rows. entry rows name in
    let table = ap (λ (x : ItemTables). x.maps.rows) c.tables.ensures in
    ap is_some (row_seen w old c.requires.in_step c.args.sort name c.requires.own c.in-Some.row.now
    (ap rows (sym table) ∙ sym c.get.ensures.found ∙ ap option_copied c.in-Some.is))

pub returns : goal.returns
returns g c =
    let w = (watch-value g.row.B g.B.Observer g.B.Observer-dict g.B.Destruct-dict).it in
    let old = c.args.self.now in
    let name = c.args.map.now in
    let row = c.in-Some.row.now in
    let rows : List (Named MapRow) → Option MapRow = λ rows. entry rows name in
    let table = ap (λ (x : ItemTables). x.maps.rows) c.tables.ensures in
    let takes = taken w old c.requires.in_step c.args.sort name c.requires.own row
    (ap rows (sym table) ∙ sym c.get.ensures.found ∙ ap option_copied c.in-Some.is) c.args.kind
    c.args.values c.reseat.new.graph c.replace_map.new.self _ c.requires.unread
    (subst NamesDiffer table c.get.ensures.differ) c.requires.seat c.requires.values
    c.reseat.ensures c.replace_map.ensures.same
    (ap (λ (k : MapKind). record row { kind = k }) c.kind_of-kind.ensures)
    c.replace_map.ensures.rows in
    record { put = takes.put; in_step = takes.stays; graph = takes.graph }
