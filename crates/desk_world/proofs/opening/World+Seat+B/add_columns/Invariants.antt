use Rattle.std.proofs.Common.{◌≡◌, take}
use Rattle.plain_world.specs.Effects.{with_maps}
use Rattle.desk_seats.specs.contracts.seat.SeatObserver.TheImpl.{watch-value}
use Rattle.desk_world.specs.Describing.{new_maps}
use Rattle.desk_world.specs.InStep.{AreInStep}
use Rattle.desk_world.specs.Plain.{plain_of}
use Rattle.desk_world.proofs.opening.World+Seat+B.add_columns.Given as goal

abbrev pub invariant-loop-name : goal.invariant-loop-name
invariant-loop-name g l =
    let w = (watch-value g.row.B g.B.Observer g.B.Observer-dict g.B.Destruct-dict).it in
    let old = plain_of w l.initial.self in
    record {
      in_step : AreInStep w l.self;
      made : plain_of w l.self
          ≡ with_maps old l.sort (new_maps old l.sort (take l.name-index l.columns));
      graph : l.self.graph.graph.graph ≡ l.initial.self.graph.graph.graph;
      pool : l.self.pool ≡ l.initial.self.pool;
    }
