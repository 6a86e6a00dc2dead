use Rattle.std.proofs.Common.{refl}
use Rattle.base_items.specs.declared.items.ItemSort.TheVariants as sorts
use Rattle.desk_seats.specs.contracts.seat.SeatObserver.TheImpl.{watch-value}
use Rattle.desk_world.proofs.KeepMaps.{named_typed}
use Rattle.desk_world.proofs.keeping.World+Seat+B.sub_maps.Goals as goal

pub filter_seat-requires-clause-bools : goal.filter_seat-requires-clause-bools
filter_seat-requires-clause-bools g c =
    let w = (watch-value g.row.B g.B.Observer g.B.Observer-dict g.B.Destruct-dict).it in
    named_typed w c.args.self.now sorts.Node c.args.nodes.now c.requires.layer.0

pub filter_seat-requires-2-clause-bools : goal.filter_seat-requires-2-clause-bools
filter_seat-requires-2-clause-bools g c =
    let w = (watch-value g.row.B g.B.Observer g.B.Observer-dict g.B.Destruct-dict).it in
    named_typed w c.args.self.now sorts.Arc c.args.arcs.now c.requires.layer.1

pub returns : goal.returns
returns g c = record {
  shape = refl;
  node_filter = c.filter_seat.ensures;
  arc_filter = c.filter_seat-2.ensures;
  cap = tt;
  flow = tt;
}
