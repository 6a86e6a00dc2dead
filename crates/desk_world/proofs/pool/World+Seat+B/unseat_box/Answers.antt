use Rattle.std.proofs.Common.{refl}
use Rattle.alter_graph.specs.Chains.{chains_seen}
use Rattle.desk_seats.specs.contracts.seat.SeatObserver.TheImpl.{watch-value}
use Rattle.desk_world.specs.Claims.{Guard}
use Rattle.desk_world.specs.Looks.{look_in}
use Rattle.desk_world.proofs.GuardsFound.{seat_small}
use Rattle.desk_world.proofs.Seated.{seen_there, none_there, no_empty_seat}
use Rattle.desk_world.proofs.pool.World+Seat+B.unseat_box.Goals as goal

pub unreachable-requires : goal.unreachable-requires
unreachable-requires g c =
    let w = (watch-value g.row.B g.B.Observer g.B.Observer-dict g.B.Destruct-dict).it in
    let chains = chains_seen w c.args.self.now.graph.chains in
    let sort = c.args.sort in
    let key = c.args.key.0 in
    no_empty_seat Guard (look_in chains sort key)
    (none_there w chains sort key c.in-None.ensures.found) c.requires.there

pub clear-requires : goal.clear-requires
clear-requires g c =
    let w = (watch-value g.row.B g.B.Observer g.B.Observer-dict g.B.Destruct-dict).it in
    let graph = c.args.self.now.graph in
    let seat = c.in-Some.seat in
    seat_small w graph c.requires.in_step c.args.sort c.args.key.0 (w seat).seen
    (seen_there w (chains_seen w graph.chains) c.args.sort c.args.key.0 seat
    c.in-Some.ensures.found)

pub returns : goal.returns
returns g c =
    let w = (watch-value g.row.B g.B.Observer g.B.Observer-dict g.B.Destruct-dict).it in
    let graph = c.args.self.now.graph in
    let seat = c.in-Some.seat in
    record {
      back = record {
        was = (w seat).seen;
        at = seen_there w (chains_seen w graph.chains) c.args.sort c.args.key.0 seat
            c.in-Some.ensures.found;
        box = c.clear.new.self;
        told = c.clear.ensures.told;
        pool = c.put_last.ensures;
        graph = c.detach.ensures.graph;
        gone = c.detach.ensures.detached;
        in_step = c.detach.ensures.in_step c.requires.in_step;
        others = refl;
      };
    }
