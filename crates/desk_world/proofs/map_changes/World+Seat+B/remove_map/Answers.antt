use Rattle.std.proofs.Common.{sym, ap, ◌∙◌}
use Rattle.alter_graph.specs.Attaching.{detached}
use Rattle.alter_graph.specs.Chains.{chains_seen}
use Rattle.desk_seats.specs.contracts.seat.SeatObserver.TheImpl.{watch-value}
use Rattle.desk_world.proofs.MapCalls.{none_went, row_went}
use Rattle.desk_world.proofs.map_changes.World+Seat+B.remove_map.Goals as goal

pub returns-in-None-clause-gone : goal.returns-in-None-clause-gone
returns-in-None-clause-gone g c =
    let w = (watch-value g.row.B g.B.Observer g.B.Observer-dict g.B.Destruct-dict).it in
    let went = none_went w c.args.sort c.args.self.now c.take_map.new.self c.args.name.now
    c.requires.in_step c.take_map.ensures.same c.take_map.ensures.rows
    (sym c.take_map.ensures.found ∙ c.in-None.is) in
    went.gone

pub returns-in-None-clause-in_step : goal.returns-in-None-clause-in_step
returns-in-None-clause-in_step g c =
    let w = (watch-value g.row.B g.B.Observer g.B.Observer-dict g.B.Destruct-dict).it in
    let went = none_went w c.args.sort c.args.self.now c.take_map.new.self c.args.name.now
    c.requires.in_step c.take_map.ensures.same c.take_map.ensures.rows
    (sym c.take_map.ensures.found ∙ c.in-None.is) in
    went.in_step

pub returns-in-Some-clause-gone : goal.returns-in-Some-clause-gone
returns-in-Some-clause-gone g c =
    let w = (watch-value g.row.B g.B.Observer g.B.Observer-dict g.B.Destruct-dict).it in
    let went = row_went w c.args.sort c.args.self.now c.take_map.new.self c.args.name.now
    c.requires.in_step c.take_map.ensures.same c.take_map.ensures.rows c.let_go.new.graph
    c.in-Some.row c.take_map.ensures.differ c.requires.unread
    (sym c.take_map.ensures.found ∙ c.in-Some.is) c.let_go.ensures.graph
    (c.let_go.ensures.detached ∙ ap (λ s. detached s c.in-Some.row.key.0
    (chains_seen w c.take_map.new.self.graph.chains)) c.seat_sort.ensures)
    c.let_go.ensures.in_step in
    went.gone

pub returns-in-Some-clause-in_step : goal.returns-in-Some-clause-in_step
returns-in-Some-clause-in_step g c =
    let w = (watch-value g.row.B g.B.Observer g.B.Observer-dict g.B.Destruct-dict).it in
    let went = row_went w c.args.sort c.args.self.now c.take_map.new.self c.args.name.now
    c.requires.in_step c.take_map.ensures.same c.take_map.ensures.rows c.let_go.new.graph
    c.in-Some.row c.take_map.ensures.differ c.requires.unread
    (sym c.take_map.ensures.found ∙ c.in-Some.is) c.let_go.ensures.graph
    (c.let_go.ensures.detached ∙ ap (λ s. detached s c.in-Some.row.key.0
    (chains_seen w c.take_map.new.self.graph.chains)) c.seat_sort.ensures)
    c.let_go.ensures.in_step in
    went.in_step
