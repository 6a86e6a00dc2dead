use Rattle.std.proofs.Common.{refl, subst}
use Rattle.desk_seats.specs.contracts.seat.SeatObserver.TheImpl.{watch-value}
use Rattle.plain_world.specs.Valid.{IsLayer}
use Rattle.desk_world.specs.Plain.{plain_of}
use Rattle.desk_world.proofs.keeping.World+Seat+B.maps_over.Goals as goal

pub sub_maps-sub-requires-clause-layer : goal.sub_maps-sub-requires-clause-layer
sub_maps-sub-requires-clause-layer g c =
    let w = (watch-value g.row.B g.B.Observer g.B.Observer-dict g.B.Destruct-dict).it in
    subst (IsLayer (plain_of w c.args.self.now)) c.in-Sub.is c.requires.layer

pub returns-clause-some : goal.returns-clause-some
returns-clause-some g c = (
  c.in-Sub.nodes,
  c.in-Sub.arcs,
  c.in-Sub.is,
  record {
    shape = refl;
    node_filter = c.sub_maps-sub.ensures.node_filter;
    arc_filter = c.sub_maps-sub.ensures.arc_filter;
    cap = c.residual_maps-own.ensures.cap;
    flow = c.residual_maps-own.ensures.flow;
  },
)
