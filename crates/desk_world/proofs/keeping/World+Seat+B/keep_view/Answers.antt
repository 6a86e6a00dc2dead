use Rattle.std.proofs.Common.{refl, sym, ap, ◌∙◌, Some, true}
use Rattle.std.specs.Option.{option_copied}
use Rattle.base_items.specs.declared.items.ItemSort.TheVariants as sorts
use Rattle.alter_graph.specs.Chains.{chains_seen}
use Rattle.desk_seats.specs.contracts.seat.SeatObserver.TheImpl.{watch-value}
use Rattle.desk_world.specs.declared.tables.ViewRow.{ViewRow}
use Rattle.desk_world.specs.Looks.{look_in}
use Rattle.desk_world.proofs.KeepCommands.{unkept_row, reads_there}
use Rattle.desk_world.proofs.KeptJoins.{new_in_step, new_plain}
use Rattle.desk_world.proofs.KeptSeats.{maps_sit}
use Rattle.desk_world.proofs.MapCalls.{if_err}
use Rattle.desk_world.proofs.NamedRows.{stands}
use Rattle.desk_world.proofs.Seated as seated
use Rattle.desk_world.proofs.Unchanged.{still_in_step, plain_still}
use Rattle.desk_world.proofs.keeping.World+Seat+B.keep_view.Goals as goal

pub unreachable-requires : goal.unreachable-requires
unreachable-requires g c =
    let w = (watch-value g.row.B g.B.Observer g.B.Observer-dict g.B.Destruct-dict).it in
    let self = c.args.self.now in
    reads_there w self c.args.view.now c.args.maps.now c.requires.maps
    (sym c.get.ensures.found ∙ ap option_copied c.in_default.is)

pub attach_kept-requires-clause-maps : goal.attach_kept-requires-clause-maps
attach_kept-requires-clause-maps g c =
    let w = (watch-value g.row.B g.B.Observer g.B.Observer-dict g.B.Destruct-dict).it in
    let self = c.args.self.now in
    let chains = chains_seen w self.graph.chains in
    let reads = c.requires.maps in
    maps_sit (look_in chains) reads.layers self.nodes.maps.rows self.arcs.maps.rows c.args.maps.now
    (seated.maps_sit self chains c.requires.in_step.seated sorts.Node)
    (seated.maps_sit self chains c.requires.in_step.seated sorts.Arc) reads.maps

pub returns-in_err-keys-clause-same : goal.returns-in_err-keys-clause-same
returns-in_err-keys-clause-same g c =
    let w = (watch-value g.row.B g.B.Observer g.B.Observer-dict g.B.Destruct-dict).it in
    let self = c.args.self.now in
    if_err c.from_residual-in_err-keys.result
    (plain_still w self c.attach_kept.new.graph c.requires.in_step c.in_err-keys.ensures.same
    c.attach_kept.ensures.in_step)

pub returns-in_err-keys-clause-in_step : goal.returns-in_err-keys-clause-in_step
returns-in_err-keys-clause-in_step g c =
    let w = (watch-value g.row.B g.B.Observer g.B.Observer-dict g.B.Destruct-dict).it in
    let self = c.args.self.now in
    still_in_step w self c.attach_kept.new.graph c.requires.in_step c.in_err-keys.ensures.same
    c.attach_kept.ensures.in_step

pub returns-clause-in_step : goal.returns-clause-in_step
returns-clause-in_step g c =
    let w = (watch-value g.row.B g.B.Observer g.B.Observer-dict g.B.Destruct-dict).it in
    let self = c.args.self.now in
    let name = c.args.view.now in
    let row : ViewRow = c.in-Some.row.now in
    let found = sym c.get.ensures.found ∙ ap option_copied c.in-Some.is in
    let at = stands self.views.rows name row c.replace.ensures.differ found in
    new_in_step w self c.replace.new.self c.attach_kept.new.graph name row _ c.args.maps.now
    c.in_ok-keys.keys c.requires.in_step at (unkept_row w self name row found c.requires.unkept)
    c.replace.ensures.rows
    (λ i. record {
      layer = c.in_ok-layer.ensures i;
      below = (c.in_ok-below.ensures ∙ c.as_bytes.ensures) i;
      kept = true;
    })
    refl c.in_ok-keys.ensures.keeps c.attach_kept.ensures.in_step c.requires.maps

pub returns-clause-kept : goal.returns-clause-kept
returns-clause-kept g c =
    let w = (watch-value g.row.B g.B.Observer g.B.Observer-dict g.B.Destruct-dict).it in
    let self = c.args.self.now in
    let name = c.args.view.now in
    let row : ViewRow = c.in-Some.row.now in
    let found = sym c.get.ensures.found ∙ ap option_copied c.in-Some.is in
    let at = stands self.views.rows name row c.replace.ensures.differ found in
    new_plain w self c.replace.new.self c.attach_kept.new.graph name row _ c.args.maps.now
    c.in_ok-keys.keys c.requires.in_step at (unkept_row w self name row found c.requires.unkept)
    c.replace.ensures.rows
    (λ i. record {
      layer = c.in_ok-layer.ensures i;
      below = (c.in_ok-below.ensures ∙ c.as_bytes.ensures) i;
      kept = true;
    })
    refl c.in_ok-keys.ensures.keeps c.attach_kept.ensures.in_step
