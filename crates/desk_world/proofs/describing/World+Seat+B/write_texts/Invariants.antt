use Rattle.std.proofs.Common.{◌≡◌, length}
use Rattle.plain_world.specs.World.{attached}
use Rattle.plain_world.specs.Documents.{with_texts}
use Rattle.plain_world.specs.Effects.{with_maps}
use Rattle.desk_seats.specs.contracts.seat.SeatObserver.TheImpl.{watch-value}
use Rattle.desk_world.specs.InStep.{AreInStep}
use Rattle.desk_world.specs.Plain.{plain_of}
use Rattle.desk_world.proofs.Halfway.{Halfway}
use Rattle.desk_world.proofs.describing.World+Seat+B.write_texts.Given as goal

abbrev pub invariant-loop-text : goal.invariant-loop-text
invariant-loop-text g l =
    let w = (watch-value g.row.B g.B.Observer g.B.Observer-dict g.B.Destruct-dict).it in
    let old = plain_of w l.initial.self in
    record {
      can_next : (goal.iterator-loop-text g).can_next l.text-iterator;
      finite : (goal.iterator-loop-text g).is_finite l.text-iterator;
      in_step : AreInStep w l.self;
      written : Halfway l.fn.texts l.text-iterator.rest.items (λ done.
          (length done ≡ l.place) × (plain_of w l.self
          ≡ with_maps old l.sort (with_texts (attached old l.sort).maps l.id done)));
      graph : l.self.graph.graph ≡ l.initial.self.graph.graph;
      pool : l.self.pool ≡ l.initial.self.pool;
    }
