use Rattle.std.proofs.Common.{sym, ap, ◌∙◌}
use Rattle.script_words.specs.declared.commands.Command.TheVariants as commands
use Rattle.plain_world.specs.Views.{shown_by}
use Rattle.view_tower.specs.Layers.{tower_of}
use Rattle.desk_seats.specs.contracts.seat.SeatObserver.TheImpl.{watch-value}
use Rattle.desk_world.specs.Faults.{Answers}
use Rattle.desk_world.specs.Plain.{plain_of}
use Rattle.desk_world.proofs.BaseListed.{told_arcs}
use Rattle.desk_world.proofs.Handed.{handed_on}
use Rattle.desk_world.proofs.KeptListed.{by_numbers}
use Rattle.desk_world.proofs.ViewCommands.{no_row}
use Rattle.desk_world.proofs.ViewListed.{arcs_refused, arcs_told}
use Rattle.desk_world.proofs.view_listings.World+Seat+B.arcs_of.Goals as goal

pub returns-then-not-has : goal.returns-then-not-has
returns-then-not-has g c =
    let w = (watch-value g.row.B g.B.Observer g.B.Observer-dict g.B.Destruct-dict).it in
    let self = c.args.self.now in
    let view = c.args.view.now in
    told_arcs (plain_of w self) view (no_row w self view (sym c.has.ensures ∙ c.if-not-has.true))
    c.requires.valid.graph_ok c.in_ok-ask_view.ensures c.in_ok-list_arcs.field-0
    c.in_ok-list_arcs.ensures

pub arcs_by-requires-clause-layers : goal.arcs_by-requires-clause-layers
arcs_by-requires-clause-layers g c =
    ap tower_of c.as_slice.ensures.value ∙ c.in_ok-layers.ensures.layers

pub returns-in_err-arcs_by : goal.returns-in_err-arcs_by
returns-in_err-arcs_by g c =
    let w = (watch-value g.row.B g.B.Observer g.B.Observer-dict g.B.Destruct-dict).it in
    let world = plain_of w c.args.self.now in
    let view = c.args.view.now in
    let tower = tower_of c.as_slice.result.now in
    let is = ap tower_of c.as_slice.ensures.value ∙ c.in_ok-layers.ensures.layers in
    let fault = c.in_err-arcs_by.field-0.0 in
    handed_on (Answers world (commands.Arcs view) world) c.from_residual-in_err-arcs_by.result
    fault c.from_residual-in_err-arcs_by.ensures.1
    (arcs_refused world view tower is (shown_by world view) (by_numbers world view tower is)
    c.in_ok-ask_view.ensures fault c.in_err-arcs_by.ensures.full)

pub returns : goal.returns
returns g c =
    let w = (watch-value g.row.B g.B.Observer g.B.Observer-dict g.B.Destruct-dict).it in
    let world = plain_of w c.args.self.now in
    let view = c.args.view.now in
    let tower = tower_of c.as_slice.result.now in
    let is = ap tower_of c.as_slice.ensures.value ∙ c.in_ok-layers.ensures.layers in
    arcs_told world view tower is (shown_by world view) (by_numbers world view tower is)
    c.in_ok-ask_view.ensures c.in_ok-arcs_by.ensures.small c.in_ok-arcs_by.field-0
    c.in_ok-arcs_by.ensures.lines
