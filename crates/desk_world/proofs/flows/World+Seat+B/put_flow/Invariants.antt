use Rattle.std.proofs.Common.{◌≡◌, ◌≤◌, drop, length}
use Rattle.desk_seats.specs.contracts.seat.SeatObserver.TheImpl.{watch-value}
use Rattle.view_tower.specs.Layers.{tower_of}
use Rattle.desk_world.specs.Flows.{with_ints, flow_by}
use Rattle.desk_world.specs.InStep.{AreInStep}
use Rattle.desk_world.specs.Plain.{plain_of}
use Rattle.desk_world.proofs.flows.World+Seat+B.put_flow.Given as goal

abbrev pub invariant-loop-left : goal.invariant-loop-left
invariant-loop-left g l =
    let w = (watch-value g.row.B g.B.Observer g.B.Observer-dict g.B.Destruct-dict).it in
    record {
      inside : l.left ≤ length l.arcs;
      in_step : AreInStep w l.self;
      written : plain_of w l.self
          ≡ with_ints (plain_of w l.initial.self) l.map
          (flow_by (tower_of l.layers) (drop l.left l.arcs) (drop l.left l.flow));
      graph : l.self.graph.graph ≡ l.initial.self.graph.graph;
    }

abbrev pub decreases-loop-left : goal.decreases-loop-left
decreases-loop-left g l = l.left
