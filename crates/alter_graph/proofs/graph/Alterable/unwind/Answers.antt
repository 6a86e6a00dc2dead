use Rattle.std.proofs.Common.{◌≡◌, [], ◌∷◌, ◌++◌, sym, subst, ap, ◌∙◌}
use Rattle.alter_graph.specs.State.{State, state_of, IsSame}
use Rattle.alter_graph.specs.Steps.{back, undone, CanUndo}
use Rattle.alter_graph.proofs.Sameness.{same_refl, same_trans}
use Rattle.alter_graph.proofs.Returning.{undone_same, undone_push, may_undo_same, last_may}
use Rattle.alter_graph.proofs.Returning.{rest_may}
use Rattle.alter_graph.proofs.graph.Alterable.unwind.Goals as goal

pub loop-done-init : goal.loop-done-init
loop-done-init g c =
    record {
      can = c.requires;
      same =
          same_refl (undone c.args.journal.now.items (state_of g.O.Observer.watch c.args.self.now));
    }

pub step_back-requires : goal.step_back-requires
step_back-requires g c =
    let s : State = state_of g.O.Observer.watch c.loop-done.self in
    last_may c.pop.new.self.items c.in-Some.done s
    (subst (λ l. CanUndo l s) c.in-Some.ensures.items c.loop-done.invariant.can)

pub loop-done-preserved : goal.loop-done-preserved
loop-done-preserved g c =
    let s : State = state_of g.O.Observer.watch c.loop-done.self in
    let t : State = state_of g.O.Observer.watch c.step_back.new.self in
    let ds = c.pop.new.self.items in
    let e : c.loop-done.journal.items ≡ ds ++ c.in-Some.done ∷ [] = c.in-Some.ensures.items in
    let n : undone c.loop-done.journal.items s ≡ undone ds (back c.in-Some.done s) =
    ap (λ l. undone l s) e ∙ undone_push ds c.in-Some.done s in
    record {
      can = may_undo_same ds (back c.in-Some.done s) t c.step_back.ensures
          (rest_may ds c.in-Some.done s (subst (λ l. CanUndo l s) e c.loop-done.invariant.can));
      same = same_trans
          (undone c.args.journal.now.items (state_of g.O.Observer.watch c.args.self.now))
          (undone c.loop-done.journal.items s) (undone ds t) c.loop-done.invariant.same
          (subst (λ x. IsSame x (undone ds t)) (sym n)
          (undone_same ds (back c.in-Some.done s) t c.step_back.ensures));
    }
