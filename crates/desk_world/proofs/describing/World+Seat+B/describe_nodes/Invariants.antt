use Rattle.std.proofs.Common.{◌≡◌, ◌+◌, ◌≤◌, length}
use Rattle.base_items.specs.declared.items.ItemSort.TheVariants.{Node}
use Rattle.base_items.specs.declared.limits.TheConstants.{MAX_ARCS}
use Rattle.desk_seats.specs.contracts.seat.SeatObserver.TheImpl.{watch-value}
use Rattle.desk_world.specs.Describing.{AreReady}
use Rattle.desk_world.specs.InStep.{AreInStep}
use Rattle.desk_world.specs.Loading.{all_described}
use Rattle.desk_world.specs.Plain.{plain_of}
use Rattle.desk_world.proofs.describing.World+Seat+B.describe_nodes.Given as goal

abbrev pub invariant-loop-cells : goal.invariant-loop-cells
invariant-loop-cells g l =
    let w = (watch-value g.row.B g.B.Observer g.B.Observer-dict g.B.Destruct-dict).it in
    record {
      can_next : (goal.iterator-loop-cells g).can_next l.cells-iterator;
      finite : (goal.iterator-loop-cells g).is_finite l.cells-iterator;
      in_step : AreInStep w l.self;
      few : l.id + length l.cells-iterator.rest.items ≤ MAX_ARCS;
      ready : AreReady Node l.place l.columns (plain_of w l.self) l.id l.cells-iterator.rest.items;
      told : all_described Node l.place (plain_of w l.self) l.id l.cells-iterator.rest.items
          ≡ all_described Node l.place (plain_of w l.initial.self) 0 l.fn.rows;
      pool : l.self.pool ≡ l.initial.self.pool;
    }
