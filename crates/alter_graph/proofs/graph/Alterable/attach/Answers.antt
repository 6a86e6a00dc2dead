use Rattle.std.proofs.Common.{List, sym, subst, ◌∙◌, IfOk, IfErr}
use Rattle.base_items.specs.declared.items.Fact.{Fact}
use Rattle.observe_core.specs.Told.{built}
use Rattle.observe_core.specs.Conditions.{CanBuild}
use Rattle.notify_chain.specs.Seats.{Attached, HandsBack}
use Rattle.notify_chain.proofs.SeatLemmas.{on_err}
use Rattle.alter_graph.specs.Chains.{ChainsSeen, chains_seen, seats_in}
use Rattle.alter_graph.specs.Present.{present_of}
use Rattle.alter_graph.specs.State.{State, state_of, IsSame, InStep, IsInStep}
use Rattle.alter_graph.proofs.Sameness.{same_refl}
use Rattle.alter_graph.proofs.Attached.{may_build, attached_in_step, attaches, on_ok_of, either_way}
use Rattle.alter_graph.proofs.graph.Alterable.attach.Goals as goal

pub attach-requires : goal.attach-requires
attach-requires g c =
    let w = g.O.Observer.watch in
    let at = subst (λ v. IsInStep (state_of w v)) (sym c.self.view_is) c.requires.in_step in
    subst (λ fs. CanBuild fs (w c.args.o).seen) (sym (c.as_slice.ensures.value ∙ c.in-Ok.ensures))
    (may_build c.self.inside.graph.graph c.args.sort at.valid (w c.args.o).seen c.requires.empty)

pub returns-in-Ok-clause-attaches : goal.returns-in-Ok-clause-attaches
returns-in-Ok-clause-attaches g c =
    let w = g.O.Observer.watch in
    let seat = subst (λ (fs : List Fact). IfOk c.attach.result (λ key. Attached
    (seats_in c.args.sort (chains_seen w c.self.inside.chains))
    (seats_in c.args.sort (chains_seen w c.attach.new.self)) key.0 (w c.args.o)
    (built fs (w c.args.o).seen))) (c.as_slice.ensures.value ∙ c.in-Ok.ensures)
    c.attach.ensures.seat in
    let at = subst (λ v. IsInStep (state_of w v)) (sym c.self.view_is) c.requires.in_step in
    let s : State = record {
      graph = c.self.inside.graph.graph;
      chains = chains_seen w c.self.inside.chains;
    } in
    rw (← c.self.view_is) (on_ok_of c.attach.result
    (λ key h. attaches c.args.sort key.0 (w c.args.o) s (chains_seen w c.attach.new.self) at h
    c.attach.ensures.rest) seat)

pub returns-in-Ok-clause-same : goal.returns-in-Ok-clause-same
returns-in-Ok-clause-same g c =
    let w = g.O.Observer.watch in
    let s : State = record {
      graph = c.self.inside.graph.graph;
      chains = chains_seen w c.self.inside.chains;
    } in
    rw (← c.self.view_is) (on_err c.attach.result
    (λ e. subst (λ (d : ChainsSeen). IsSame s (record { graph = s.graph; chains = d })) (sym e)
    (same_refl s)) c.attach.ensures.same)

pub returns-in-Ok-clause-refused : goal.returns-in-Ok-clause-refused
returns-in-Ok-clause-refused g c =
    let w = g.O.Observer.watch in
    rw (← c.self.view_is) (subst (λ (fs : List Fact). IfErr c.attach.result
    (λ e. HandsBack w c.args.o fs e.0 e.1)) (c.as_slice.ensures.value ∙ c.in-Ok.ensures)
    c.attach.ensures.refused)

pub returns-in-Ok-clause-in_step : goal.returns-in-Ok-clause-in_step
returns-in-Ok-clause-in_step g c =
    let w = g.O.Observer.watch in
    let at = subst (λ v. IsInStep (state_of w v)) (sym c.self.view_is) c.requires.in_step in
    let s : State = record {
      graph = c.self.inside.graph.graph;
      chains = chains_seen w c.self.inside.chains;
    } in
    let seat = subst (λ (fs : List Fact). IfOk c.attach.result (λ key. Attached
    (seats_in c.args.sort (chains_seen w c.self.inside.chains))
    (seats_in c.args.sort (chains_seen w c.attach.new.self)) key.0 (w c.args.o)
    (built fs (w c.args.o).seen))) (c.as_slice.ensures.value ∙ c.in-Ok.ensures)
    c.attach.ensures.seat in
    either_way c.attach.result
    (λ key h. attached_in_step c.args.sort key.0 (w c.args.o) s
    (record { graph = s.graph; chains = chains_seen w c.attach.new.self }) at c.requires.empty
    c.requires.counts (attaches c.args.sort key.0 (w c.args.o) s
    (chains_seen w c.attach.new.self) at h c.attach.ensures.rest))
    (λ e. record {
      valid = at.valid;
      seats = subst (InStep (present_of s.graph)) (sym e) at.seats;
    }) seat c.attach.ensures.same

pub returns-in-Err-clause-same : goal.returns-in-Err-clause-same
returns-in-Err-clause-same g c = same_refl (state_of g.O.Observer.watch c.args.self.now)
