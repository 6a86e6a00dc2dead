use Rattle.alter_graph.specs.State.{state_of}
use Rattle.desk_seats.specs.declared.seat.Seat.{Seat}
use Rattle.desk_seats.specs.contracts.seat.SeatObserver.TheImpl.{watch-value}
use Rattle.desk_world.specs.declared.world.World.{World}
use Rattle.desk_world.proofs.Bare.{bare_plain, bare_in_step}
use Rattle.desk_world.proofs.opening.World+Seat+B.over.Goals as goal

pub returns : goal.returns
returns g c =
    let w = (watch-value g.row.B g.B.Observer g.B.Observer-dict g.B.Destruct-dict).it in
    let world : World (Seat g.row.B.Denot) = record {
      graph = c.attach_tables-2.new.graph;
      nodes = c.in_ok-nodes.nodes;
      arcs = c.in_ok-arcs.arcs;
      guards = c.new.result;
      snapshots = c.new-2.result;
      views = c.new-3.result;
      attributes = c.in_ok-attributes.attributes;
      pool = c.args.pool;
    } in
    let s0 = state_of w c.args.graph in
    let s2 = state_of w c.attach_tables.new.graph in
    record {
      world = bare_plain w world s0 s2 c.args.attributes c.requires.unseen
          c.in_ok-nodes.ensures.founds c.in_ok-arcs.ensures.founds c.new.ensures c.new-2.ensures
          c.new-3.ensures c.in_ok-attributes.ensures;
      in_step = bare_in_step w world s0 s2 c.args.attributes c.requires.unseen
          c.in_ok-nodes.ensures.founds c.in_ok-arcs.ensures.founds c.new.ensures c.new-2.ensures
          c.new-3.ensures c.in_ok-attributes.ensures c.attach_tables-2.ensures.in_step
          c.requires.boxes;
      boxes = λ i. c.args.pool.items;
    }
