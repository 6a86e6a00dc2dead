use Rattle.std.proofs.Common.{◌≡◌, drop}
use Rattle.desk_seats.specs.contracts.seat.SeatObserver.TheImpl.{watch-value}
use Rattle.desk_world.specs.InStep.{AreInStep}
use Rattle.desk_world.specs.Plain.{plain_of}
use Rattle.desk_world.proofs.FlowSpread.{AreCleared}
use Rattle.desk_world.proofs.flows.World+Seat+B.clear_flow.Given as goal

abbrev pub invariant-loop-id : goal.invariant-loop-id
invariant-loop-id g l =
    let w = (watch-value g.row.B g.B.Observer g.B.Observer-dict g.B.Destruct-dict).it in
    record {
      in_step : AreInStep w l.self;
      cleared : AreCleared (plain_of w l.initial.self) l.map (drop l.id-index l.order)
          (plain_of w l.self);
      graph : l.self.graph.graph ≡ l.initial.self.graph.graph;
    }
