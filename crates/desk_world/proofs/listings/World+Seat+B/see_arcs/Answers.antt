use Rattle.base_items.specs.declared.items.ItemSort.TheVariants.{Arc}
use Rattle.desk_seats.specs.contracts.seat.SeatObserver.TheImpl.{watch-value}
use Rattle.desk_world.specs.Plain.{plain_of}
use Rattle.desk_world.proofs.Ordered.{live_at}
use Rattle.desk_world.proofs.listings.World+Seat+B.see_arcs.Goals as goal

pub see_arc-requires-clause-live : goal.see_arc-requires-clause-live
see_arc-requires-clause-live g c =
    let w = (watch-value g.row.B g.B.Observer g.B.Observer-dict g.B.Destruct-dict).it in
    live_at (plain_of w c.args.self.now) Arc c.requires.in_step.seats.graph.valid
    c.args.arcs.now c.requires.listed c.loop-id.id-index c.loop-id-test.true
