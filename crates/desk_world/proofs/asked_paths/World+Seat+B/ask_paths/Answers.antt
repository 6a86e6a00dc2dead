use Rattle.desk_seats.specs.contracts.seat.SeatObserver.TheImpl.{watch-value}
use Rattle.desk_world.specs.Plain.{plain_of}
use Rattle.desk_world.proofs.PathsTold.{lengths_read, start_read, start_inside}
use Rattle.desk_world.proofs.asked_paths.World+Seat+B.ask_paths.Goals as goal

pub returns-clause-asks : goal.returns-clause-asks
returns-clause-asks g c =
    let w = (watch-value g.row.B g.B.Observer g.B.Observer-dict g.B.Destruct-dict).it in
    let world = plain_of w c.args.self.now in
    let view = c.args.view.now in
    let length = c.args.length.now in
    let start = c.args.start.now in
    let asked = c.in_ok-asked.asked in
    let asks = c.in_ok-asked.ensures.asks in
    let view_is = c.in_ok-asked.ensures.view in
    record {
      asks = asks;
      view_is = view_is;
      lengths = lengths_read world view length start asked asks view_is
          c.in_ok-lengths.lengths.items c.in_ok-lengths.ensures.ints;
      small = c.in_ok-lengths.ensures.small;
      start_is = start_read world view length start asked asks view_is c.in_ok-node.node
          c.node_number-start.result c.in_ok-node.ensures.found c.node_number-start.ensures;
      inside = start_inside world view length start asked asks view_is c.in_ok-node.node
          c.node_number-start.result c.in_ok-node.ensures.found c.node_number-start.ensures;
    }
