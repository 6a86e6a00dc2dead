use Rattle.std.proofs.Common.{sym, ap, subst, ◌∙◌}
use Rattle.alter_graph.specs.Chains.{chains_seen}
use Rattle.desk_seats.specs.contracts.seat.SeatObserver.TheImpl.{watch-value}
use Rattle.desk_world.specs.Claims as claims
use Rattle.desk_world.specs.KeptMaps.{passes}
use Rattle.desk_world.specs.Looks.{look_in}
use Rattle.desk_world.specs.Placing.{SitsGiven}
use Rattle.desk_world.proofs.PlaceCalls.{bool_value}
use Rattle.desk_world.proofs.placing.passes.Goals as goal

pub returns-in-Some : goal.returns-in-Some
returns-in-Some g c =
    let w = (watch-value g.row.B g.B.Observer g.B.Observer-dict g.B.Destruct-dict).it in
    let a = c.args.graph.now in
    let sort = c.args.sort in
    let look = look_in (chains_seen w a.chains) sort in
    let sits = subst (SitsGiven claims.Bools look) c.in-Some.is c.requires.there in
    sym (bool_value w a c.requires.in_step sort c.in-Some.key.0 sits c.args.id c.bool_at.result
    c.bool_at.ensures)
    ∙ sym (ap (λ f. passes look f c.args.id) c.in-Some.is)
