use Rattle.std.proofs.Common.{◌≡◌, ℕ, ◌+◌, ◌<◌, List, [], ◌∷◌, ◌++◌, length, get_or, take, drop}
use Rattle.std.proofs.Common.{drop-cons, add-one, sym, ap, subst, ◌∙◌}
use Rattle.std.proofs.lemmas.List.{take_more, take_all, take-append-drop}
use Rattle.plain_digraph.specs.PlainSteps.{PlainStep}
use Rattle.alter_graph.specs.declared.steps.Step.{Step}
use Rattle.alter_graph.specs.declared.steps.Step.TheVariants.{AddNode}
use Rattle.alter_graph.specs.State.{State, state_of}
use Rattle.alter_graph.specs.Steps.{plain_step, plain_steps, CanTakeAll, HaveOwnPlaces, CanUndo}
use Rattle.alter_graph.specs.Parts.{Takes, Fails}
use Rattle.alter_graph.proofs.OwnPlaces.{own_after}
use Rattle.alter_graph.proofs.Parting.{takes_none, takes_both, fails_later, fails_first}
use Rattle.alter_graph.proofs.Parting.{can_take_after}
use Rattle.alter_graph.proofs.Planned.{plain-append, all_refusable}
use Rattle.alter_graph.proofs.graph.Alterable.run.Goals as goal

-- what is left of the list, from one step on
ahead : (i : ℕ) (xs : List Step) → i < length xs
    → plain_steps (drop i xs) ≡ plain_step (get_or xs i AddNode) ∷ plain_steps (drop (i + 1) xs)
ahead i xs l =
    let e : drop i xs ≡ get_or xs i AddNode ∷ drop (i + 1) xs =
    rw add-one (drop-cons xs i AddNode l) in
    ap plain_steps e

-- the steps up to one, and those with it
more : (i : ℕ) (xs : List Step) → i < length xs
    → plain_steps (take (i + 1) xs)
    ≡ plain_steps (take i xs) ++ plain_step (get_or xs i AddNode) ∷ []
more i xs l = ap plain_steps (take_more xs i AddNode l)
    ∙ plain-append (take i xs) (get_or xs i AddNode ∷ [])

-- the list, one step taken on its own
whole : (i : ℕ) (xs : List Step) → i < length xs
    → (plain_steps (take i xs) ++ plain_step (get_or xs i AddNode) ∷ [])
    ++ plain_steps (drop (i + 1) xs) ≡ plain_steps xs
whole i xs l = ap (λ a. a ++ plain_steps (drop (i + 1) xs)) (sym (more i xs l))
    ∙ sym (plain-append (take (i + 1) xs) (drop (i + 1) xs))
    ∙ ap plain_steps (take-append-drop (i + 1) xs)

pub loop-step-init : goal.loop-step-init
loop-step-init g c = record {
  takes = let s : State = state_of g.O.Observer.watch c.args.self.now in
      takes_none s c.reserve.new.self.items c.requires.step
      (subst (λ l. CanUndo l s) (sym c.reserve.ensures.items) c.requires.undo);
  can = c.requires.can;
  own = c.requires.own;
}

pub attempt-requires-clause-step : goal.attempt-requires-clause-step
attempt-requires-clause-step g c = c.loop-step.invariant.takes.goes.in_step

pub attempt-requires-clause-undo : goal.attempt-requires-clause-undo
attempt-requires-clause-undo g c = c.loop-step.invariant.takes.undo

pub attempt-requires-clause-can : goal.attempt-requires-clause-can
attempt-requires-clause-can g c =
    let i = c.loop-step.step-index in
    let xs = c.args.steps.now in
    let h : CanTakeAll (plain_step (get_or xs i AddNode) ∷ plain_steps (drop (i + 1) xs))
    c.loop-step.self.graph.graph =
    subst (λ l. CanTakeAll l c.loop-step.self.graph.graph) (ahead i xs c.loop-step-test.true)
    c.loop-step.invariant.can in
    h.0

pub attempt-requires-clause-own : goal.attempt-requires-clause-own
attempt-requires-clause-own g c =
    let i = c.loop-step.step-index in
    let xs = c.args.steps.now in
    let s : State = state_of g.O.Observer.watch c.loop-step.self in
    let h : HaveOwnPlaces (plain_step (get_or xs i AddNode) ∷ plain_steps (drop (i + 1) xs)) s =
    subst (λ l. HaveOwnPlaces l s) (ahead i xs c.loop-step-test.true) c.loop-step.invariant.own in
    h.0

pub loop-step-preserved : goal.loop-step-preserved
loop-step-preserved g c =
    let s : State = state_of g.O.Observer.watch c.args.self.now in
    let t : State = state_of g.O.Observer.watch c.loop-step.self in
    let u : State = state_of g.O.Observer.watch c.attempt.new.self in
    let i = c.loop-step.step-index in
    let xs = c.args.steps.now in
    let one : List PlainStep = plain_step (get_or xs i AddNode) ∷ [] in
    let h : CanTakeAll (plain_step (get_or xs i AddNode) ∷ plain_steps (drop (i + 1) xs)) t.graph =
    subst (λ l. CanTakeAll l t.graph) (ahead i xs c.loop-step-test.true)
    c.loop-step.invariant.can in
    let p : HaveOwnPlaces (plain_step (get_or xs i AddNode) ∷ plain_steps (drop (i + 1) xs)) t =
    subst (λ l. HaveOwnPlaces l t) (ahead i xs c.loop-step-test.true) c.loop-step.invariant.own in
    let took : Takes one t u c.loop-step.journal.items c.attempt.new.journal.items =
    c.in_default.ensures.takes in
    record {
      takes =
          subst (λ l. Takes l s u c.reserve.new.self.items c.attempt.new.journal.items)
          (sym (more i xs c.loop-step-test.true))
          (takes_both (plain_steps (take i xs)) one s t u c.reserve.new.self.items
          c.loop-step.journal.items c.attempt.new.journal.items (all_refusable (take i xs))
          c.loop-step.invariant.takes took);
      can = can_take_after one (plain_steps (drop (i + 1) xs)) t u took.goes.took h;
      own = own_after one (plain_steps (drop (i + 1) xs)) t u took.goes.snaps p.1;
    }

pub returns-in-Err-clause-fails : goal.returns-in-Err-clause-fails
returns-in-Err-clause-fails g c =
    let s : State = state_of g.O.Observer.watch c.args.self.now in
    let t : State = state_of g.O.Observer.watch c.loop-step.self in
    let u : State = state_of g.O.Observer.watch c.attempt.new.self in
    let i = c.loop-step.step-index in
    let xs = c.args.steps.now in
    let one : List PlainStep = plain_step (get_or xs i AddNode) ∷ [] in
    let before = c.reserve.new.self.items in
    subst (λ b. Fails (plain_steps xs) s u b c.in-Err.fault) c.reserve.ensures.items
    (subst (λ l. Fails l s u before c.in-Err.fault) (whole i xs c.loop-step-test.true)
    (fails_first (plain_steps (take i xs) ++ one) (plain_steps (drop (i + 1) xs)) s u before
    c.in-Err.fault
    (fails_later (plain_steps (take i xs)) one s t u before c.loop-step.journal.items
    c.in-Err.fault (all_refusable (take i xs)) c.loop-step.invariant.takes
    c.in-Err.ensures.fails)))

pub returns-clause-takes : goal.returns-clause-takes
returns-clause-takes g c =
    let s : State = state_of g.O.Observer.watch c.args.self.now in
    let t : State = state_of g.O.Observer.watch c.loop-step.self in
    subst (λ b. Takes (plain_steps c.args.steps.now) s t b c.loop-step.journal.items)
    c.reserve.ensures.items (subst
    (λ l. Takes (plain_steps l) s t c.reserve.new.self.items c.loop-step.journal.items)
    (take_all c.loop-step.step-index c.args.steps.now c.loop-step-test.false)
    c.loop-step.invariant.takes)
