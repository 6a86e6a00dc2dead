use Rattle.std.proofs.Common.{◌≡◌, ◌+◌, ◌≤◌, length}
use Rattle.base_items.specs.declared.items.ItemSort.TheVariants.{Arc}
use Rattle.base_items.specs.declared.limits.TheConstants.{MAX_ARCS}
use Rattle.desk_seats.specs.contracts.seat.SeatObserver.TheImpl.{watch-value}
use Rattle.desk_world.specs.Describing.{AreReady}
use Rattle.desk_world.specs.InStep.{AreInStep}
use Rattle.desk_world.specs.Loading.{all_described, values_of}
use Rattle.desk_world.specs.Plain.{plain_of}
use Rattle.desk_world.proofs.describing.World+Seat+B.describe_arcs.Given as goal

abbrev pub invariant-loop-arc : goal.invariant-loop-arc
invariant-loop-arc g l =
    let w = (watch-value g.row.B g.B.Observer g.B.Observer-dict g.B.Destruct-dict).it in
    let left = values_of l.arc-iterator.rest.items in
    record {
      can_next : (goal.iterator-loop-arc g).can_next l.arc-iterator;
      finite : (goal.iterator-loop-arc g).is_finite l.arc-iterator;
      in_step : AreInStep w l.self;
      few : l.id + length l.arc-iterator.rest.items ≤ MAX_ARCS;
      ready : AreReady Arc l.place l.columns (plain_of w l.self) l.id left;
      told : all_described Arc l.place (plain_of w l.self) l.id left
          ≡ all_described Arc l.place (plain_of w l.initial.self) 0 (values_of l.fn.arcs);
      pool : l.self.pool ≡ l.initial.self.pool;
    }
