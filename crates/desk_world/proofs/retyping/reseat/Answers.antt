use Rattle.std.proofs.Common.{sym, ap, ◌∙◌, subst, is_some}
use Rattle.std.specs.Prelude.{IfSome}
use Rattle.std.specs.Option.{option_copied_mut}
use Rattle.std.proofs.lemmas.Bool.{true≢false}
use Rattle.notify_chain.specs.Seats.{seat_seen}
use Rattle.alter_graph.specs.Chains.{chains_seen}
use Rattle.alter_graph.specs.Lending.{MayWrite}
use Rattle.desk_world.proofs.RetypeSteps.{reseated}
use Rattle.desk_world.proofs.Seated.{none_there}
use Rattle.desk_world.proofs.retyping.reseat.Goals as goal

pub unreachable-requires : goal.unreachable-requires
unreachable-requires g c =
    let w = g.O.Observer.watch in
    let chains = chains_seen w c.args.graph.now.chains in
    true≢false (sym c.requires ∙ ap is_some (none_there w chains c.args.sort c.args.key.0
    (sym (ap (λ r. seat_seen w c.args.key.0 (option_copied_mut r)) c.in-None.is)
    ∙ c.seat_mut.ensures.value)))

pub returns : goal.returns
returns g c =
    let w = g.O.Observer.watch in
    reseated w c.args.graph.now c.args.sort c.args.key.0 c.in-Some.seat.now c.args.now
    (sym (ap (λ r. seat_seen w c.args.key.0 (option_copied_mut r)) c.in-Some.is)
    ∙ c.seat_mut.ensures.value)
    (subst (λ r. IfSome r (λ o. MayWrite w c.args.sort c.args.key.0 c.args.graph.now o.now))
    c.in-Some.is c.seat_mut.ensures.writes)
