use Rattle.std.proofs.Common.{sym, ap, subst, ◌∙◌}
use Rattle.plain_digraph.specs.Valid.{IsValid}
use Rattle.alter_graph.specs.Faults.{fault_of}
use Rattle.alter_graph.specs.State.{state_of, IsInStep}
use Rattle.alter_graph.specs.Steps.{plain_step, CanTake, HasOwnPlace, done_sort, before}
use Rattle.alter_graph.proofs.Stepped.{not_taken, hears, untakes, grown, accepted, may_return}
use Rattle.alter_graph.proofs.Stepped.{returns, denies, refuses}
use Rattle.alter_graph.proofs.graph.Alterable.step.Goals as goal

pub take_step-requires-clause-valid : goal.take_step-requires-clause-valid
take_step-requires-clause-valid g c =
    let at : IsInStep (state_of g.O.Observer.watch c.args.self.now) = c.requires.step in
    subst (λ v. IsValid (state_of g.O.Observer.watch v).graph)
    (sym c.self.view_is) at.valid

pub tell-requires : goal.tell-requires
tell-requires g c =
    let w = g.O.Observer.watch in
    let at = subst (λ v. IsInStep (state_of w v)) (sym c.self.view_is) c.requires.step in
    let can = subst (λ v. CanTake (plain_step c.args.step) (state_of w v).graph)
    (sym c.self.view_is) c.requires.can in
    rw c.in-Ok.ensures.done
    (hears w c.args.step c.self.inside.graph.graph c.self.inside.chains at can
    c.in-Ok.ensures.room)

pub untake-requires : goal.untake-requires
untake-requires g c =
    let w = g.O.Observer.watch in
    let at = subst (λ v. IsInStep (state_of w v)) (sym c.self.view_is) c.requires.step in
    let can = subst (λ v. CanTake (plain_step c.args.step) (state_of w v).graph)
    (sym c.self.view_is) c.requires.can in
    rw (c.in-Ok.ensures.done, c.in-Ok.ensures.taken)
    (untakes w c.args.step c.self.inside.graph.graph c.self.inside.chains at can
    c.in-Ok.ensures.room)

pub returns-in-Ok-tell-clause-grows : goal.returns-in-Ok-tell-clause-grows
returns-in-Ok-tell-clause-grows g c =
    let w = g.O.Observer.watch in
    let at = subst (λ v. IsInStep (state_of w v)) (sym c.self.view_is) c.requires.step in
    let can = subst (λ v. CanTake (plain_step c.args.step) (state_of w v).graph)
    (sym c.self.view_is) c.requires.can in
    rw (← c.self.view_is, c.in-Ok.ensures.taken)
    (grown w c.args.step c.self.inside.graph.graph c.self.inside.chains at can
    c.in-Ok.ensures.room)

pub returns-in-Ok-tell-clause-happens : goal.returns-in-Ok-tell-clause-happens
returns-in-Ok-tell-clause-happens g c =
    let w = g.O.Observer.watch in
    let at = subst (λ v. IsInStep (state_of w v)) (sym c.self.view_is) c.requires.step in
    let can = subst (λ v. CanTake (plain_step c.args.step) (state_of w v).graph)
    (sym c.self.view_is) c.requires.can in
    let own = subst (λ v. HasOwnPlace (plain_step c.args.step) (state_of w v))
    (sym c.self.view_is) c.requires.own in
    let told = rw c.in-Ok.ensures.done at c.in-Ok-tell.ensures.told in
    rw (← c.self.view_is)
    (accepted w c.args.step c.self.inside.graph.graph c.self.inside.chains at can
    c.in-Ok.ensures.room c.take_step.new.graph.graph c.tell.new.self c.in-Ok.ensures.taken told
    own)

pub returns-in-Ok-tell-clause-may_return : goal.returns-in-Ok-tell-clause-may_return
returns-in-Ok-tell-clause-may_return g c =
    let w = g.O.Observer.watch in
    let at = subst (λ v. IsInStep (state_of w v)) (sym c.self.view_is) c.requires.step in
    let can = subst (λ v. CanTake (plain_step c.args.step) (state_of w v).graph)
    (sym c.self.view_is) c.requires.can in
    let told = rw c.in-Ok.ensures.done at c.in-Ok-tell.ensures.told in
    rw (← c.self.view_is)
    (may_return w c.args.step c.self.inside.graph.graph c.self.inside.chains at can
    c.in-Ok.ensures.room c.take_step.new.graph.graph c.tell.new.self c.in-Ok.ensures.taken told)

pub returns-in-Ok-tell-clause-returns : goal.returns-in-Ok-tell-clause-returns
returns-in-Ok-tell-clause-returns g c =
    let w = g.O.Observer.watch in
    let at = subst (λ v. IsInStep (state_of w v)) (sym c.self.view_is) c.requires.step in
    let can = subst (λ v. CanTake (plain_step c.args.step) (state_of w v).graph)
    (sym c.self.view_is) c.requires.can in
    let told = rw c.in-Ok.ensures.done at c.in-Ok-tell.ensures.told in
    rw (← c.self.view_is)
    (returns w c.args.step c.self.inside.graph.graph c.self.inside.chains at can
    c.in-Ok.ensures.room c.take_step.new.graph.graph c.tell.new.self c.in-Ok.ensures.taken told)

pub returns-in-Err-tell-clause-denied : goal.returns-in-Err-tell-clause-denied
returns-in-Err-tell-clause-denied g c =
    let w = g.O.Observer.watch in
    let at = subst (λ v. IsInStep (state_of w v)) (sym c.self.view_is) c.requires.step in
    let can = subst (λ v. CanTake (plain_step c.args.step) (state_of w v).graph)
    (sym c.self.view_is) c.requires.can in
    let refuser = rw c.in-Ok.ensures.done at c.in-Err-tell.ensures.refuser in
    let why = c.refusal.ensures ∙ ap (λ s. fault_of s c.in-Err-tell.key c.in-Err-tell.veto)
    (c.sort.ensures ∙ ap done_sort c.in-Ok.ensures.done) in
    rw (why, ← c.self.view_is)
    (denies w c.args.step c.self.inside.graph.graph c.self.inside.chains at can
    c.in-Ok.ensures.room c.in-Err-tell.key c.in-Err-tell.veto refuser)

pub returns-in-Err-tell-clause-stays : goal.returns-in-Err-tell-clause-stays
returns-in-Err-tell-clause-stays g c =
    let w = g.O.Observer.watch in
    let at = subst (λ v. IsInStep (state_of w v)) (sym c.self.view_is) c.requires.step in
    let can = subst (λ v. CanTake (plain_step c.args.step) (state_of w v).graph)
    (sym c.self.view_is) c.requires.can in
    let refuser = rw c.in-Ok.ensures.done at c.in-Err-tell.ensures.refuser in
    let why = c.refusal.ensures ∙ ap (λ s. fault_of s c.in-Err-tell.key c.in-Err-tell.veto)
    (c.sort.ensures ∙ ap done_sort c.in-Ok.ensures.done) in
    let back = c.untake.ensures
    ∙ (λ i. before (c.in-Ok.ensures.taken i) (c.in-Ok.ensures.done i)) in
    rw (why, ← c.self.view_is)
    (refuses w c.args.step c.self.inside.graph.graph c.self.inside.chains at can
    c.in-Ok.ensures.room c.in-Err-tell.key c.in-Err-tell.veto c.untake.new.graph.graph
    c.tell.new.self refuser back c.in-Err-tell.ensures.same)

pub returns-in-Err-clause-stays : goal.returns-in-Err-clause-stays
returns-in-Err-clause-stays g c =
    let w = g.O.Observer.watch in
    let at = subst (λ v. IsInStep (state_of w v)) (sym c.self.view_is) c.requires.step in
    rw (c.limit.ensures, ← c.self.view_is)
    (not_taken w c.args.step c.self.inside.graph.graph c.self.inside.chains c.in-Err.fault
    c.take_step.new.graph.graph at c.in-Err.ensures.same c.in-Err.ensures.full)
