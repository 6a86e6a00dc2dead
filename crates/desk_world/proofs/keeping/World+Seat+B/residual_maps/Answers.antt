use Rattle.std.proofs.Common.{refl}
use Rattle.base_items.specs.declared.items.ItemSort.TheVariants as sorts
use Rattle.script_words.specs.declared.commands.MapType.TheVariants as types
use Rattle.desk_seats.specs.contracts.seat.SeatObserver.TheImpl.{watch-value}
use Rattle.desk_world.proofs.KeepMaps.{has_typed}
use Rattle.desk_world.proofs.keeping.World+Seat+B.residual_maps.Goals as goal

pub map_seat-requires-clause-there : goal.map_seat-requires-clause-there
map_seat-requires-clause-there g c =
    let w = (watch-value g.row.B g.B.Observer g.B.Observer-dict g.B.Destruct-dict).it in
    (types.Ints, has_typed w c.args.self.now sorts.Arc c.args.cap.now types.Ints c.requires.layer.0)

pub map_seat-requires-2-clause-there : goal.map_seat-requires-2-clause-there
map_seat-requires-2-clause-there g c =
    let w = (watch-value g.row.B g.B.Observer g.B.Observer-dict g.B.Destruct-dict).it in (
      types.Ints,
      has_typed w c.args.self.now sorts.Arc c.args.flow.now types.Ints
          c.requires.layer.1,
    )

pub returns : goal.returns
returns g c =
    let w = (watch-value g.row.B g.B.Observer g.B.Observer-dict g.B.Destruct-dict).it in
    record {
      shape = refl;
      node_filter = tt;
      arc_filter = tt;
      cap = c.map_seat.ensures types.Ints
          (has_typed w c.args.self.now sorts.Arc c.args.cap.now types.Ints c.requires.layer.0);
      flow = c.map_seat-2.ensures types.Ints
          (has_typed w c.args.self.now sorts.Arc c.args.flow.now types.Ints c.requires.layer.1);
    }
