use Rattle.desk_seats.specs.contracts.seat.SeatObserver.TheImpl.{watch-value}
use Rattle.alter_graph.specs.State.{state_of}
use Rattle.desk_world.proofs.KeptSeated.{maps_come, nodes_sit, maps_next, arcs_sit, all_kept}
use Rattle.desk_world.proofs.kept_seats.attach_kept.Goals as goal

pub place_all-requires : goal.place_all-requires
place_all-requires g c =
    let w = (watch-value g.row.B g.B.Observer g.B.Observer-dict g.B.Destruct-dict).it in
    let old = state_of w c.args.graph.now in
    let b = c.attach_seats.new.graph in
    let came = c.in_ok-keys.ensures.came in
    record {
      in_step = c.attach_seats.ensures.in_step;
      maps = maps_come w c.args.maps.now c.in_ok-keys.keys came.0 came.1 old b came.2
          c.requires.maps;
      seat = nodes_sit w c.args.maps.now c.in_ok-keys.keys came.0 came.1 old b came.2
          c.requires.maps;
    }

pub place_all-requires-2 : goal.place_all-requires-2
place_all-requires-2 g c =
    let w = (watch-value g.row.B g.B.Observer g.B.Observer-dict g.B.Destruct-dict).it in
    let old = state_of w c.args.graph.now in
    let b = c.attach_seats.new.graph in
    let came = c.in_ok-keys.ensures.came in
    record {
      in_step = c.place_all.ensures.in_step;
      maps = maps_next w c.args.maps.now c.in_ok-keys.keys came.0 came.1 old b came.2
          c.requires.maps c.place_all.new.graph c.place_all.ensures.puts;
      seat = arcs_sit w c.args.maps.now c.in_ok-keys.keys came.0 came.1 old b came.2
          c.requires.maps c.place_all.new.graph c.place_all.ensures.puts;
    }

pub returns-clause-keeps : goal.returns-clause-keeps
returns-clause-keeps g c =
    let w = (watch-value g.row.B g.B.Observer g.B.Observer-dict g.B.Destruct-dict).it in
    let old = state_of w c.args.graph.now in
    let b = c.attach_seats.new.graph in
    let came = c.in_ok-keys.ensures.came in
    all_kept w c.args.maps.now c.in_ok-keys.keys came.0 came.1 old b came.2 c.requires.maps
    c.place_all.new.graph c.place_all.ensures.puts c.place_all-2.new.graph
    c.place_all-2.ensures.puts c.place_all-2.ensures.graph c.place_all.ensures.graph
