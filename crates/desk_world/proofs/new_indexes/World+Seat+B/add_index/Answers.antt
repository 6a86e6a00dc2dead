use Rattle.std.proofs.Common.{ap, ◌∙◌}
use Rattle.plain_world.specs.Tables.{entry, has_entry}
use Rattle.plain_world.specs.World.{Trues, attached}
use Rattle.plain_world.specs.Effects.{with_map}
use Rattle.desk_seats.specs.contracts.seat.SeatObserver.TheImpl.{watch-value}
use Rattle.desk_world.specs.Plain.{plain_of, tables_of}
use Rattle.desk_world.proofs.MapCalls.{if_err, room_keeps, refused_keeps, still_new}
use Rattle.desk_world.proofs.MapsMade.{index_made, bools_sit}
use Rattle.desk_world.proofs.new_indexes.World+Seat+B.add_index.Goals as goal

pub returns-in_err-reserve_map-clause-same : goal.returns-in_err-reserve_map-clause-same
returns-in_err-reserve_map-clause-same g c =
    let w = (watch-value g.row.B g.B.Observer g.B.Observer-dict g.B.Destruct-dict).it in
    let kept = room_keeps w c.args.sort c.args.self.now c.reserve_map.new.self c.requires.in_step
    c.reserve_map.ensures.same c.reserve_map.ensures.rows in
    if_err c.from_residual-in_err-reserve_map.result kept.same

pub returns-in_err-reserve_map-clause-in_step : goal.returns-in_err-reserve_map-clause-in_step
returns-in_err-reserve_map-clause-in_step g c =
    let w = (watch-value g.row.B g.B.Observer g.B.Observer-dict g.B.Destruct-dict).it in
    let kept = room_keeps w c.args.sort c.args.self.now c.reserve_map.new.self c.requires.in_step
    c.reserve_map.ensures.same c.reserve_map.ensures.rows in
    kept.in_step

pub returns-in_err-reserve_map-clause-graph : goal.returns-in_err-reserve_map-clause-graph
returns-in_err-reserve_map-clause-graph g c =
    let w = (watch-value g.row.B g.B.Observer g.B.Observer-dict g.B.Destruct-dict).it in
    let kept = room_keeps w c.args.sort c.args.self.now c.reserve_map.new.self c.requires.in_step
    c.reserve_map.ensures.same c.reserve_map.ensures.rows in
    kept.graph

pub attach_index-requires-clause-in_step : goal.attach_index-requires-clause-in_step
attach_index-requires-clause-in_step g c =
    let w = (watch-value g.row.B g.B.Observer g.B.Observer-dict g.B.Destruct-dict).it in
    let kept = room_keeps w c.args.sort c.args.self.now c.reserve_map.new.self c.requires.in_step
    c.reserve_map.ensures.same c.reserve_map.ensures.rows in
    kept.in_step.graph

pub attach_index-requires-clause-bools : goal.attach_index-requires-clause-bools
attach_index-requires-clause-bools g c =
    let w = (watch-value g.row.B g.B.Observer g.B.Observer-dict g.B.Destruct-dict).it in
    bools_sit w c.args.self.now c.reserve_map.new.self c.args.sort c.args.map.now
    c.bools_key-source.result c.requires.in_step c.reserve_map.ensures.same
    c.bools_key-source.ensures

pub returns-in_err-key-clause-same : goal.returns-in_err-key-clause-same
returns-in_err-key-clause-same g c =
    let w = (watch-value g.row.B g.B.Observer g.B.Observer-dict g.B.Destruct-dict).it in
    let kept = refused_keeps w c.args.sort c.args.self.now c.reserve_map.new.self c.requires.in_step
    c.reserve_map.ensures.same c.reserve_map.ensures.rows c.attach_index.new.graph
    c.in_err-key.ensures.same c.attach_index.ensures.in_step in
    if_err c.from_residual-in_err-key.result kept.same

pub returns-in_err-key-clause-in_step : goal.returns-in_err-key-clause-in_step
returns-in_err-key-clause-in_step g c =
    let w = (watch-value g.row.B g.B.Observer g.B.Observer-dict g.B.Destruct-dict).it in
    let kept = refused_keeps w c.args.sort c.args.self.now c.reserve_map.new.self c.requires.in_step
    c.reserve_map.ensures.same c.reserve_map.ensures.rows c.attach_index.new.graph
    c.in_err-key.ensures.same c.attach_index.ensures.in_step in
    kept.in_step

pub returns-in_err-key-clause-graph : goal.returns-in_err-key-clause-graph
returns-in_err-key-clause-graph g c =
    let w = (watch-value g.row.B g.B.Observer g.B.Observer-dict g.B.Destruct-dict).it in
    let kept = refused_keeps w c.args.sort c.args.self.now c.reserve_map.new.self c.requires.in_step
    c.reserve_map.ensures.same c.reserve_map.ensures.rows c.attach_index.new.graph
    c.in_err-key.ensures.same c.attach_index.ensures.in_step in
    kept.graph

pub put_map-requires-clause-new : goal.put_map-requires-clause-new
put_map-requires-clause-new g c =
    let w = (watch-value g.row.B g.B.Observer g.B.Observer-dict g.B.Destruct-dict).it in
    let old = c.args.self.now in
    let copied = c.in_ok-name.ensures ∙ c.as_bytes.ensures in
    let new = ap (λ n. has_entry (attached (plain_of w old) c.args.sort).maps n) copied
    ∙ c.requires.new in
    still_new w c.args.sort old c.reserve_map.new.self c.requires.in_step
    c.reserve_map.ensures.same c.reserve_map.ensures.rows c.in_ok-name.name new

pub put_map-requires-clause-room : goal.put_map-requires-clause-room
put_map-requires-clause-room g c =
    let w = (watch-value g.row.B g.B.Observer g.B.Observer-dict g.B.Destruct-dict).it in
    c.in_ok-reserve_map.ensures.room

pub returns-clause-made : goal.returns-clause-made
returns-clause-made g c =
    let w = (watch-value g.row.B g.B.Observer g.B.Observer-dict g.B.Destruct-dict).it in
    let old = c.args.self.now in
    let named = c.in_ok-kind.ensures ∙ c.as_bytes-2.ensures in
    let row = c.bools_key-source.ensures in
    let came = index_made w c.args.sort old c.reserve_map.new.self c.requires.in_step
    c.reserve_map.ensures.same c.reserve_map.ensures.rows c.attach_index.new.graph
    c.put_map.new.self c.in_ok-name.name c.in_ok-key.key c.bools_key-source.result
    c.in_ok-kind.kind c.put_map.ensures.same c.put_map.ensures.rows
    (row.0, ap (entry (tables_of old c.args.sort).maps.rows) named ∙ row.1, row.2, row.3)
    c.in_ok-key.ensures.indexes c.attach_index.ensures.in_step in
    let copied = c.in_ok-name.ensures ∙ c.as_bytes.ensures in
    came.made ∙ (λ i. with_map (plain_of w old) c.args.sort (copied i) (Trues (named i)))

pub returns-clause-in_step : goal.returns-clause-in_step
returns-clause-in_step g c =
    let w = (watch-value g.row.B g.B.Observer g.B.Observer-dict g.B.Destruct-dict).it in
    let old = c.args.self.now in
    let named = c.in_ok-kind.ensures ∙ c.as_bytes-2.ensures in
    let row = c.bools_key-source.ensures in
    let came = index_made w c.args.sort old c.reserve_map.new.self c.requires.in_step
    c.reserve_map.ensures.same c.reserve_map.ensures.rows c.attach_index.new.graph
    c.put_map.new.self c.in_ok-name.name c.in_ok-key.key c.bools_key-source.result
    c.in_ok-kind.kind c.put_map.ensures.same c.put_map.ensures.rows
    (row.0, ap (entry (tables_of old c.args.sort).maps.rows) named ∙ row.1, row.2, row.3)
    c.in_ok-key.ensures.indexes c.attach_index.ensures.in_step in
    came.in_step

pub returns-clause-graph : goal.returns-clause-graph
returns-clause-graph g c =
    let w = (watch-value g.row.B g.B.Observer g.B.Observer-dict g.B.Destruct-dict).it in
    let old = c.args.self.now in
    let named = c.in_ok-kind.ensures ∙ c.as_bytes-2.ensures in
    let row = c.bools_key-source.ensures in
    let came = index_made w c.args.sort old c.reserve_map.new.self c.requires.in_step
    c.reserve_map.ensures.same c.reserve_map.ensures.rows c.attach_index.new.graph
    c.put_map.new.self c.in_ok-name.name c.in_ok-key.key c.bools_key-source.result
    c.in_ok-kind.kind c.put_map.ensures.same c.put_map.ensures.rows
    (row.0, ap (entry (tables_of old c.args.sort).maps.rows) named ∙ row.1, row.2, row.3)
    c.in_ok-key.ensures.indexes c.attach_index.ensures.in_step in
    came.graph
