use Rattle.std.proofs.Common.{ap, ◌∙◌}
use Rattle.plain_world.specs.Tables.{has_entry}
use Rattle.plain_world.specs.World.{attached}
use Rattle.plain_world.specs.Effects.{with_map, new_map}
use Rattle.desk_seats.specs.contracts.seat.SeatObserver.TheImpl.{watch-value}
use Rattle.desk_world.specs.Plain.{plain_of}
use Rattle.desk_world.proofs.MapCalls.{if_err, room_keeps, refused_keeps, still_new}
use Rattle.desk_world.proofs.MapsMade.{map_made}
use Rattle.desk_world.proofs.map_changes.World+Seat+B.add_map.Goals as goal

pub returns-in_err-reserve_map-clause-same : goal.returns-in_err-reserve_map-clause-same
returns-in_err-reserve_map-clause-same g c =
    let w = (watch-value g.row.B g.B.Observer g.B.Observer-dict g.B.Destruct-dict).it in
    let kept = room_keeps w c.args.sort c.args.self.now c.reserve_map.new.self c.requires.in_step
    c.reserve_map.ensures.same c.reserve_map.ensures.rows in
    if_err c.from_residual-in_err-reserve_map.result kept.same

pub returns-in_err-reserve_map-clause-in_step : goal.returns-in_err-reserve_map-clause-in_step
returns-in_err-reserve_map-clause-in_step g c =
    let w = (watch-value g.row.B g.B.Observer g.B.Observer-dict g.B.Destruct-dict).it in
    let kept = room_keeps w c.args.sort c.args.self.now c.reserve_map.new.self c.requires.in_step
    c.reserve_map.ensures.same c.reserve_map.ensures.rows in
    kept.in_step

pub returns-in_err-reserve_map-clause-graph : goal.returns-in_err-reserve_map-clause-graph
returns-in_err-reserve_map-clause-graph g c =
    let w = (watch-value g.row.B g.B.Observer g.B.Observer-dict g.B.Destruct-dict).it in
    let kept = room_keeps w c.args.sort c.args.self.now c.reserve_map.new.self c.requires.in_step
    c.reserve_map.ensures.same c.reserve_map.ensures.rows in
    kept.graph

pub returns-in_err-reserve_map-clause-pool : goal.returns-in_err-reserve_map-clause-pool
returns-in_err-reserve_map-clause-pool g c =
    let w = (watch-value g.row.B g.B.Observer g.B.Observer-dict g.B.Destruct-dict).it in
    let kept = room_keeps w c.args.sort c.args.self.now c.reserve_map.new.self c.requires.in_step
    c.reserve_map.ensures.same c.reserve_map.ensures.rows in
    kept.pool

pub attach-requires-clause-in_step : goal.attach-requires-clause-in_step
attach-requires-clause-in_step g c =
    let w = (watch-value g.row.B g.B.Observer g.B.Observer-dict g.B.Destruct-dict).it in
    let kept = room_keeps w c.args.sort c.args.self.now c.reserve_map.new.self c.requires.in_step
    c.reserve_map.ensures.same c.reserve_map.ensures.rows in
    kept.in_step.graph

pub returns-in_err-key-clause-same : goal.returns-in_err-key-clause-same
returns-in_err-key-clause-same g c =
    let w = (watch-value g.row.B g.B.Observer g.B.Observer-dict g.B.Destruct-dict).it in
    let kept = refused_keeps w c.args.sort c.args.self.now c.reserve_map.new.self c.requires.in_step
    c.reserve_map.ensures.same c.reserve_map.ensures.rows c.attach.new.graph
    c.in_err-key.ensures.same c.attach.ensures.in_step in
    if_err c.from_residual-in_err-key.result kept.same

pub returns-in_err-key-clause-in_step : goal.returns-in_err-key-clause-in_step
returns-in_err-key-clause-in_step g c =
    let w = (watch-value g.row.B g.B.Observer g.B.Observer-dict g.B.Destruct-dict).it in
    let kept = refused_keeps w c.args.sort c.args.self.now c.reserve_map.new.self c.requires.in_step
    c.reserve_map.ensures.same c.reserve_map.ensures.rows c.attach.new.graph
    c.in_err-key.ensures.same c.attach.ensures.in_step in
    kept.in_step

pub returns-in_err-key-clause-graph : goal.returns-in_err-key-clause-graph
returns-in_err-key-clause-graph g c =
    let w = (watch-value g.row.B g.B.Observer g.B.Observer-dict g.B.Destruct-dict).it in
    let kept = refused_keeps w c.args.sort c.args.self.now c.reserve_map.new.self c.requires.in_step
    c.reserve_map.ensures.same c.reserve_map.ensures.rows c.attach.new.graph
    c.in_err-key.ensures.same c.attach.ensures.in_step in
    kept.graph

pub returns-in_err-key-clause-pool : goal.returns-in_err-key-clause-pool
returns-in_err-key-clause-pool g c =
    let w = (watch-value g.row.B g.B.Observer g.B.Observer-dict g.B.Destruct-dict).it in
    let kept = refused_keeps w c.args.sort c.args.self.now c.reserve_map.new.self c.requires.in_step
    c.reserve_map.ensures.same c.reserve_map.ensures.rows c.attach.new.graph
    c.in_err-key.ensures.same c.attach.ensures.in_step in
    kept.pool

pub put_map-requires-clause-new : goal.put_map-requires-clause-new
put_map-requires-clause-new g c =
    let w = (watch-value g.row.B g.B.Observer g.B.Observer-dict g.B.Destruct-dict).it in
    let old = c.args.self.now in
    let copied = c.in_ok-name.ensures ∙ c.as_bytes.ensures in
    let new = ap (λ n. has_entry (attached (plain_of w old) c.args.sort).maps n) copied
    ∙ c.requires.new in
    still_new w c.args.sort old c.reserve_map.new.self c.requires.in_step
    c.reserve_map.ensures.same c.reserve_map.ensures.rows c.in_ok-name.name new

pub put_map-requires-clause-room : goal.put_map-requires-clause-room
put_map-requires-clause-room g c =
    let w = (watch-value g.row.B g.B.Observer g.B.Observer-dict g.B.Destruct-dict).it in
    c.in_ok-reserve_map.ensures.room

pub returns-clause-made : goal.returns-clause-made
returns-clause-made g c =
    let w = (watch-value g.row.B g.B.Observer g.B.Observer-dict g.B.Destruct-dict).it in
    let came = map_made w c.args.sort c.args.self.now c.reserve_map.new.self c.requires.in_step
    c.reserve_map.ensures.same c.reserve_map.ensures.rows c.attach.new.graph c.put_map.new.self
    c.in_ok-name.name c.kind_of-kind.result c.in_ok-key.key c.args.kind
    (w c.empty_map.result) c.put_map.ensures.same c.put_map.ensures.rows c.kind_of-kind.ensures
    c.in_ok-key.ensures.attaches c.attach.ensures.in_step c.empty_map.ensures.role in
    let copied = c.in_ok-name.ensures ∙ c.as_bytes.ensures in
    came.made ∙ ap (λ n. with_map (plain_of w c.args.self.now) c.args.sort n
    (new_map (plain_of w c.args.self.now) c.args.sort c.args.kind)) copied

pub returns-clause-in_step : goal.returns-clause-in_step
returns-clause-in_step g c =
    let w = (watch-value g.row.B g.B.Observer g.B.Observer-dict g.B.Destruct-dict).it in
    let came = map_made w c.args.sort c.args.self.now c.reserve_map.new.self c.requires.in_step
    c.reserve_map.ensures.same c.reserve_map.ensures.rows c.attach.new.graph c.put_map.new.self
    c.in_ok-name.name c.kind_of-kind.result c.in_ok-key.key c.args.kind
    (w c.empty_map.result) c.put_map.ensures.same c.put_map.ensures.rows c.kind_of-kind.ensures
    c.in_ok-key.ensures.attaches c.attach.ensures.in_step c.empty_map.ensures.role in
    came.in_step

pub returns-clause-graph : goal.returns-clause-graph
returns-clause-graph g c =
    let w = (watch-value g.row.B g.B.Observer g.B.Observer-dict g.B.Destruct-dict).it in
    let came = map_made w c.args.sort c.args.self.now c.reserve_map.new.self c.requires.in_step
    c.reserve_map.ensures.same c.reserve_map.ensures.rows c.attach.new.graph c.put_map.new.self
    c.in_ok-name.name c.kind_of-kind.result c.in_ok-key.key c.args.kind
    (w c.empty_map.result) c.put_map.ensures.same c.put_map.ensures.rows c.kind_of-kind.ensures
    c.in_ok-key.ensures.attaches c.attach.ensures.in_step c.empty_map.ensures.role in
    came.graph

pub returns-clause-pool : goal.returns-clause-pool
returns-clause-pool g c =
    let w = (watch-value g.row.B g.B.Observer g.B.Observer-dict g.B.Destruct-dict).it in
    let came = map_made w c.args.sort c.args.self.now c.reserve_map.new.self c.requires.in_step
    c.reserve_map.ensures.same c.reserve_map.ensures.rows c.attach.new.graph c.put_map.new.self
    c.in_ok-name.name c.kind_of-kind.result c.in_ok-key.key c.args.kind
    (w c.empty_map.result) c.put_map.ensures.same c.put_map.ensures.rows c.kind_of-kind.ensures
    c.in_ok-key.ensures.attaches c.attach.ensures.in_step c.empty_map.ensures.role in
    came.pool
