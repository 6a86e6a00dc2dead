use Rattle.std.proofs.Common.{sym, ap, ◌∙◌}
use Rattle.std.specs.List.{flat_map}
use Rattle.desk_seats.specs.contracts.seat.SeatObserver.TheImpl.{watch-value}
use Rattle.desk_world.specs.Claims.{view_claims}
use Rattle.desk_world.proofs.KeptGone.{keys_of, seats_stay, has_keys, unkept_in_step, unkept_plain}
use Rattle.desk_world.proofs.KeptLeaves.{gone_in_step, gone_plain}
use Rattle.desk_world.proofs.NamedRows.{stands}
use Rattle.desk_world.proofs.keeping.World+Seat+B.remove_view.Goals as goal

pub returns-in-None-clause-gone : goal.returns-in-None-clause-gone
returns-in-None-clause-gone g c =
    let w = (watch-value g.row.B g.B.Observer g.B.Observer-dict g.B.Destruct-dict).it in
    let self = c.args.self.now in
    let name = c.args.view.now in
    let table = self.views.rows in
    let rows = c.remove.new.self in
    let in_step = c.requires.in_step in
    let less = c.remove.ensures.rows in
    let none = ap keys_of (sym c.remove.ensures.value) ∙ sym c.keys_of.ensures ∙ c.in-None.is in
    let stay = ap (flat_map view_claims) less ∙ seats_stay table name c.remove.ensures.differ none
    in
    unkept_plain w self rows name in_step less stay

pub returns-in-None-clause-in_step : goal.returns-in-None-clause-in_step
returns-in-None-clause-in_step g c =
    let w = (watch-value g.row.B g.B.Observer g.B.Observer-dict g.B.Destruct-dict).it in
    let self = c.args.self.now in
    let name = c.args.view.now in
    let table = self.views.rows in
    let rows = c.remove.new.self in
    let in_step = c.requires.in_step in
    let less = c.remove.ensures.rows in
    let none = ap keys_of (sym c.remove.ensures.value) ∙ sym c.keys_of.ensures ∙ c.in-None.is in
    let stay = ap (flat_map view_claims) less ∙ seats_stay table name c.remove.ensures.differ none
    in
    unkept_in_step w self rows name in_step less stay c.requires.alone

pub returns-in-Some-clause-gone : goal.returns-in-Some-clause-gone
returns-in-Some-clause-gone g c =
    let w = (watch-value g.row.B g.B.Observer g.B.Observer-dict g.B.Destruct-dict).it in
    let self = c.args.self.now in
    let name = c.args.view.now in
    let table = self.views.rows in
    let rows = c.remove.new.self in
    let in_step = c.requires.in_step in
    let less = c.remove.ensures.rows in
    let keys = c.in-Some.keys in
    let has = has_keys table name keys
    (ap keys_of (sym c.remove.ensures.value) ∙ sym c.keys_of.ensures ∙ c.in-Some.is) in
    let at = stands table name has.row c.remove.ensures.differ has.found in
    let then = c.let_seats_go.ensures.in_step in_step.graph in
    gone_plain w self rows c.let_seats_go.new.graph name has.row keys in_step less at has.kept
    c.let_seats_go.ensures.detached c.let_seats_go.ensures.graph then

pub returns-in-Some-clause-in_step : goal.returns-in-Some-clause-in_step
returns-in-Some-clause-in_step g c =
    let w = (watch-value g.row.B g.B.Observer g.B.Observer-dict g.B.Destruct-dict).it in
    let self = c.args.self.now in
    let name = c.args.view.now in
    let table = self.views.rows in
    let rows = c.remove.new.self in
    let in_step = c.requires.in_step in
    let less = c.remove.ensures.rows in
    let keys = c.in-Some.keys in
    let has = has_keys table name keys
    (ap keys_of (sym c.remove.ensures.value) ∙ sym c.keys_of.ensures ∙ c.in-Some.is) in
    let at = stands table name has.row c.remove.ensures.differ has.found in
    let then = c.let_seats_go.ensures.in_step in_step.graph in
    gone_in_step w self rows c.let_seats_go.new.graph name has.row keys in_step less at has.kept
    c.let_seats_go.ensures.detached c.let_seats_go.ensures.graph then c.requires.alone
