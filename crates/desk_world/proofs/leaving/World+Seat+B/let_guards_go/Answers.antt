use Rattle.std.proofs.Common.{ap, refl, ◌∙◌}
use Rattle.desk_seats.specs.contracts.seat.SeatObserver.TheImpl.{watch-value}
use Rattle.desk_world.specs.Looks.{Look}
use Rattle.desk_world.proofs.Left.{there_rows, same_look, kept_in_step, kept_same, none_in_step}
use Rattle.desk_world.proofs.leaving.World+Seat+B.let_guards_go.Goals as goal

pub returns-then-take_left-clause-same : goal.returns-then-take_left-clause-same
returns-then-take_left-clause-same g c =
    let w = (watch-value g.row.B g.B.Observer g.B.Observer-dict g.B.Destruct-dict).it in
    let self = c.args.self.now in
    let a = c.take_left.new.graph in
    let taken = c.take_left.ensures in
    let then = taken.in_step c.requires.altered.graph in
    kept_same w self a c.retain.new.self c.requires.altered taken.graph taken.taken then
    (c.retain.ensures.rows
    ∙ ap (λ (look : Look). there_rows look self.guards.rows)
    (same_look w self a c.retain.new.self c.requires.altered taken.graph taken.taken then))

pub returns-then-take_left-clause-in_step : goal.returns-then-take_left-clause-in_step
returns-then-take_left-clause-in_step g c =
    let w = (watch-value g.row.B g.B.Observer g.B.Observer-dict g.B.Destruct-dict).it in
    let self = c.args.self.now in
    let a = c.take_left.new.graph in
    let taken = c.take_left.ensures in
    let then = taken.in_step c.requires.altered.graph in
    kept_in_step w self a c.retain.new.self c.requires.altered taken.graph taken.taken then
    (c.retain.ensures.rows
    ∙ ap (λ (look : Look). there_rows look self.guards.rows)
    (same_look w self a c.retain.new.self c.requires.altered taken.graph taken.taken then))

pub returns-else-take_left-clause-in_step : goal.returns-else-take_left-clause-in_step
returns-else-take_left-clause-in_step g c =
    let w = (watch-value g.row.B g.B.Observer g.B.Observer-dict g.B.Destruct-dict).it in
    let self = c.args.self.now in
    let taken = c.take_left.ensures in
    none_in_step w self c.take_left.new.graph self.guards c.requires.altered taken.graph taken.taken
    (taken.in_step c.requires.altered.graph) (taken.none c.if-take_left.false) refl
