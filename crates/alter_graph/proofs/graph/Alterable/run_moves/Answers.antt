use Rattle.std.proofs.Common.{length, sym, subst, IfErr, Ok, Err, Result}
use Rattle.std.proofs.Common.{refl}
use Rattle.notify_chain.proofs.SeatLemmas.{on_ok}
use Rattle.alter_graph.specs.State.{State, state_of}
use Rattle.alter_graph.specs.Steps.{plain_steps, CanUndo}
use Rattle.alter_graph.specs.Parts.{Fails}
use Rattle.alter_graph.proofs.Sameness.{same_refl}
use Rattle.alter_graph.proofs.Parting.{stays}
use Rattle.alter_graph.proofs.Moves.{moves_room, moves_pass}
use Rattle.alter_graph.proofs.graph.Alterable.run_moves.Goals as goal

if_err : {T E : Type 0} {P Q : E → Type 0} (r : Result T E) → ((e : E) → P e → Q e) → IfErr r P
    → IfErr r Q
if_err (Ok x) f h = tt
if_err (Err e) f h = f e h

pub returns-in-Some-clause-stays : goal.returns-in-Some-clause-stays
returns-in-Some-clause-stays g c =
    let s : State = state_of g.O.Observer.watch c.args.self.now in
    record {
      same = same_refl s;
      refused = moves_pass c.args.steps.now s.graph (length c.args.steps.now) c.in-Some.limit refl
          c.requires.no_nodes c.requires.no_arcs c.in-Some.ensures.full;
      in_step = c.requires.step;
    }

pub run-requires-clause-undo : goal.run-requires-clause-undo
run-requires-clause-undo g c =
    let s : State = state_of g.O.Observer.watch c.args.self.now in
    subst (λ l. CanUndo l s) (sym c.new-journal.ensures.items) tt

pub returns-clause-happens : goal.returns-clause-happens
returns-clause-happens g c =
    on_ok c.run.result (λ h. record { goes = h.goes; passes = h.passes }) c.run.ensures.takes

pub returns-clause-stays : goal.returns-clause-stays
returns-clause-stays g c =
    let s : State = state_of g.O.Observer.watch c.args.self.now in
    let t : State = state_of g.O.Observer.watch c.run.new.self in
    let room = moves_room c.args.steps.now s.graph (length c.args.steps.now) refl
    c.requires.no_nodes c.requires.no_arcs c.in_default.ensures.room in
    if_err c.run.result (λ f h. stays (plain_steps c.args.steps.now) s t f c.requires.step room
    (subst (λ j. Fails (plain_steps c.args.steps.now) s t j f) c.new-journal.ensures.items h))
    c.run.ensures.fails
