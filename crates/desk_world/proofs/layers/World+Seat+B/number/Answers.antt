use Rattle.std.proofs.Common.{◌≡◌, length, sym, ap, ◌∙◌}
use Rattle.std.specs.List.{position}
use Rattle.desk_seats.specs.contracts.seat.SeatObserver.TheImpl.{watch-value}
use Rattle.desk_world.specs.MapNumbers.{number_of}
use Rattle.desk_world.specs.Plain.{plain_of}
use Rattle.desk_world.specs.declared.tables.ItemTables.{ItemTables}
use Rattle.plain_world.specs.Tables.{is_named}
use Rattle.desk_world.proofs.NumberRows.{placed, unplaced}
use Rattle.desk_world.proofs.layers.World+Seat+B.number.Goals as goal
use Rattle.desk_world.proofs.layers.World+Seat+B.number.Goals.{in-Some, in-None}

pub returns-in-Ok : goal.returns-in-Ok
returns-in-Ok g c =
    let w = (watch-value g.row.B g.B.Observer g.B.Observer-dict g.B.Destruct-dict).it in
    let self = c.args.self.now in
    let sort = c.args.sort in
    let name = c.args.name.now in
    let place = c.place.ensures.place
    ∙ ap (λ (t : ItemTables). position (is_named name) t.maps.rows) c.tables.ensures in
    let same : c.match-place.place ≡ number_of (plain_of w self) sort name =
    elim c.match-place.branch [
      | in-Some a ↦ a.place-is
          ∙ placed w self c.requires sort name _ (sym place ∙ a.in-Some.is)
      | in-None a ↦ a.place-is ∙ a.len-place.ensures
          ∙ ap (λ (t : ItemTables). length t.maps.rows) c.tables.ensures
          ∙ unplaced w self c.requires sort name (sym place ∙ a.in-None.is)
    ] in
    c.in-Ok.ensures.1 ∙ same
