use Rattle.std.proofs.Common.{◌≡◌, [], ◌∷◌, ◌++◌, sym, subst, ap, ◌∙◌}
use Rattle.alter_graph.specs.State.{State, state_of, IsSame}
use Rattle.alter_graph.specs.Steps.{plain_step, back, undone, CanUndo, done_of}
use Rattle.alter_graph.proofs.Sameness.{same_trans}
use Rattle.alter_graph.proofs.Returning.{undone_same, undone_push, may_undo_same, may_undo_push}
use Rattle.alter_graph.proofs.graph.Alterable.attempt.Goals as goal

pub unwind-requires : goal.unwind-requires
unwind-requires g c =
    subst (λ l. CanUndo l (state_of g.O.Observer.watch c.args.self.now))
    (sym c.reserve.ensures.items) c.requires.undo

pub returns-then-is_err-clause-fails : goal.returns-then-is_err-clause-fails
returns-then-is_err-clause-fails g c = record {
  back = subst
      (λ l. IsSame (undone l (state_of g.O.Observer.watch c.args.self.now))
      (state_of g.O.Observer.watch c.unwind.new.self)) c.reserve.ensures.items c.unwind.ensures;
  denied = tt;
}

pub unwind-requires-in-Err : goal.unwind-requires-in-Err
unwind-requires-in-Err g c =
    let s : State = state_of g.O.Observer.watch c.args.self.now in
    may_undo_same c.reserve.new.self.items s (state_of g.O.Observer.watch c.step.new.self)
    c.in-Err.ensures.stays.same
    (subst (λ l. CanUndo l s) (sym c.reserve.ensures.items) c.requires.undo)

pub returns-in-Err-clause-fails : goal.returns-in-Err-clause-fails
returns-in-Err-clause-fails g c =
    let s : State = state_of g.O.Observer.watch c.args.self.now in
    let t : State = state_of g.O.Observer.watch c.step.new.self in
    let u : State = state_of g.O.Observer.watch c.unwind-in-Err.new.self in
    record {
      back = same_trans (undone c.args.journal.now.items s) (undone c.args.journal.now.items t) u
          (undone_same c.args.journal.now.items s t c.in-Err.ensures.stays.same)
          (subst (λ l. IsSame (undone l t) u) c.reserve.ensures.items c.unwind-in-Err.ensures);
      denied = c.in-Err.ensures.denied;
    }

pub returns-in-Ok-push-clause-takes : goal.returns-in-Ok-push-clause-takes
returns-in-Ok-push-clause-takes g c =
    let s : State = state_of g.O.Observer.watch c.args.self.now in
    let t : State = state_of g.O.Observer.watch c.step.new.self in
    let ds = c.args.journal.now.items in
    let d = done_of (plain_step c.args.step) s.graph in
    let e : c.push.new.self.items ≡ ds ++ d ∷ [] = c.in-Ok-push.ensures.items
    ∙ (λ i. c.reserve.ensures.items i ++ c.in-Ok.ensures.done i ∷ []) in
    record {
      goes = c.in-Ok.ensures.happens.goes;
      passes = c.in-Ok.ensures.happens.passes;
      grows = c.in-Ok.ensures.grows;
      undo = subst (λ l. CanUndo l t) (sym e)
          (may_undo_push ds d t c.in-Ok.ensures.may_return
          (may_undo_same ds s (back d t) c.in-Ok.ensures.returns c.requires.undo));
      start = subst (λ x. IsSame (undone ds s) x)
          (sym (ap (λ l. undone l t) e ∙ undone_push ds d t))
          (undone_same ds s (back d t) c.in-Ok.ensures.returns);
    }
