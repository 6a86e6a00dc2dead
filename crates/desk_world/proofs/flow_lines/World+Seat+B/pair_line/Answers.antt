use Rattle.desk_seats.specs.contracts.seat.SeatObserver.TheImpl.{watch-value}
use Rattle.desk_world.specs.Plain.{plain_of}
use Rattle.desk_world.proofs.FlowLines.{pair_told}
use Rattle.desk_world.proofs.flow_lines.World+Seat+B.pair_line.Goals as goal

pub returns : goal.returns
returns g c side is =
    let w = (watch-value g.row.B g.B.Observer g.B.Observer-dict g.B.Destruct-dict).it in
    pair_told (plain_of w c.args.self.now) c.args.asked.now.view.now side c.args.left.now is
    c.args.asked.now.fixed c.requires.asks.numbers.graph c.arc_count-ends_are_nodes.ensures.ends
    c.args.arc c.left_first-own.result.0 c.left_first-own.result.1 c.requires.arc
    c.left_first-own.ensures.left c.left_first-own.ensures.right c.in_ok-name.name
    c.in_ok-left.left c.in_ok-right.right c.in_ok-name.ensures c.in_ok-left.ensures
    c.in_ok-right.ensures
