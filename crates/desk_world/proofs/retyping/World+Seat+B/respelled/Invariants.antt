use Rattle.std.proofs.Common.{take}
use Rattle.plain_digraph.specs.Items.{facts}
use Rattle.desk_seats.specs.contracts.seat.SeatObserver.TheImpl.{watch-value}
use Rattle.desk_world.specs.Plain.{plain_of, look_of, map_seen}
use Rattle.desk_world.specs.Retyping.{text_by}
use Rattle.desk_world.proofs.Respelled.{Respells}
use Rattle.desk_world.proofs.retyping.World+Seat+B.respelled.Given as goal

abbrev pub invariant-loop-id : goal.invariant-loop-id
invariant-loop-id g l =
    let w = (watch-value g.row.B g.B.Observer g.B.Observer-dict g.B.Destruct-dict).it in
    let shown = map_seen (look_of w l.self) l.sort l.row in
    Respells (plain_of w l.self) l.sort l.kind (facts l.self.graph.graph.graph l.sort)
    (text_by shown) (take l.id-index l.id-items) (w l.seat).seen
