use Rattle.std.proofs.Common.{sym, ap, ◌∙◌, subst}
use Rattle.observe_core.specs.Told.{built}
use Rattle.observe_core.specs.Conditions.{CanBuild}
use Rattle.notify_chain.specs.Seats.{seats, AllSeats, AllBecame}
use Rattle.notify_chain.proofs.SeatLemmas.{each_same}
use Rattle.static_digraph.specs.Told.{nodes_of, arcs_of}
use Rattle.static_digraph.proofs.Numbered.{nodes_ready, arcs_ready}
use Rattle.static_digraph.proofs.Telling.{at_error}
use Rattle.static_digraph.proofs.fixed.Fixed.build.Goals as goal

pub returns-in_err-fixed-clause-kept_nodes : goal.returns-in_err-fixed-clause-kept_nodes
returns-in_err-fixed-clause-kept_nodes g c =
    at_error c.from_residual.result (each_same (seats g.O.Observer.watch c.args.on_nodes.now))

pub returns-in_err-fixed-clause-kept_arcs : goal.returns-in_err-fixed-clause-kept_arcs
returns-in_err-fixed-clause-kept_arcs g c =
    at_error c.from_residual.result (each_same (seats g.O.Observer.watch c.args.on_arcs.now))

pub returns-in_err-facts-clause-kept_nodes : goal.returns-in_err-facts-clause-kept_nodes
returns-in_err-facts-clause-kept_nodes g c =
    at_error c.from_residual-in_err-facts.result
    (each_same (seats g.O.Observer.watch c.args.on_nodes.now))

pub returns-in_err-facts-clause-kept_arcs : goal.returns-in_err-facts-clause-kept_arcs
returns-in_err-facts-clause-kept_arcs g c =
    at_error c.from_residual-in_err-facts.result
    (each_same (seats g.O.Observer.watch c.args.on_arcs.now))

pub tell_chains-requires-clause-nodes : goal.tell_chains-requires-clause-nodes
tell_chains-requires-clause-nodes g c =
    let is = c.deref.ensures.value
    ∙ (c.in_ok-facts.ensures.nodes ∙ ap nodes_of c.in_ok-fixed.ensures) in
    subst (λ facts.
    AllSeats (λ s. CanBuild facts s.seen) (seats g.O.Observer.watch c.args.on_nodes.now))
    (sym is) (nodes_ready c.args.nodes.now c.args.arcs.now _ c.requires.few_nodes
    c.requires.blank_nodes)

pub tell_chains-requires-clause-arcs : goal.tell_chains-requires-clause-arcs
tell_chains-requires-clause-arcs g c =
    let is = c.deref-2.ensures.value
    ∙ (c.in_ok-facts.ensures.arcs ∙ ap arcs_of c.in_ok-fixed.ensures) in
    subst (λ facts.
    AllSeats (λ s. CanBuild facts s.seen) (seats g.O.Observer.watch c.args.on_arcs.now))
    (sym is) (arcs_ready c.args.nodes.now c.args.arcs.now _ c.requires.few_nodes c.requires.few_arcs
    c.requires.ends c.requires.blank_arcs)

pub returns-in-Ok-clause-told_nodes : goal.returns-in-Ok-clause-told_nodes
returns-in-Ok-clause-told_nodes g c =
    let is = c.deref.ensures.value
    ∙ (c.in_ok-facts.ensures.nodes ∙ ap nodes_of c.in_ok-fixed.ensures) in
    subst (λ facts.
    AllBecame g.O.Observer.watch (built facts) c.args.on_nodes.now c.tell_chains.new.on_nodes)
    is c.in-Ok.ensures.nodes

pub returns-in-Ok-clause-told_arcs : goal.returns-in-Ok-clause-told_arcs
returns-in-Ok-clause-told_arcs g c =
    let is = c.deref-2.ensures.value
    ∙ (c.in_ok-facts.ensures.arcs ∙ ap arcs_of c.in_ok-fixed.ensures) in
    subst (λ facts.
    AllBecame g.O.Observer.watch (built facts) c.args.on_arcs.now c.tell_chains.new.on_arcs)
    is c.in-Ok.ensures.arcs

pub returns-in-Err-clause-blamed : goal.returns-in-Err-clause-blamed
returns-in-Err-clause-blamed g c =
    let nodes_is = c.deref.ensures.value
    ∙ (c.in_ok-facts.ensures.nodes ∙ ap nodes_of c.in_ok-fixed.ensures) in
    let arcs_is = c.deref-2.ensures.value
    ∙ (c.in_ok-facts.ensures.arcs ∙ ap arcs_of c.in_ok-fixed.ensures) in
    rw (← nodes_is, ← arcs_is) c.in-Err.ensures.blamed
