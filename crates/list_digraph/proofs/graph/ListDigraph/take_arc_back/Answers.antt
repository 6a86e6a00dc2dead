use Rattle.std.proofs.Common.{◌≤◌, sym, subst, ◌∙◌}
use Rattle.plain_digraph.specs.Digraph.{Digraph}
use Rattle.plain_digraph.specs.Valid.{IsValid}
use Rattle.plain_digraph.specs.Undo.{unstamped, forget_arc}
use Rattle.list_digraph.proofs.TakenBack.{added_arc_live, arc_stamped, arc_reused_before}
use Rattle.list_digraph.proofs.TakenBack.{arc_fresh_before}
use Rattle.list_digraph.proofs.graph.ListDigraph.take_arc_back.Goals as goal

pub erase_arc-requires : goal.erase_arc-requires
erase_arc-requires c =
    added_arc_live c.args.self.now.graph c.args.f c.args.used c.requires.added

pub forget_arc-requires-clause-valid : goal.forget_arc-requires-clause-valid
forget_arc-requires-clause-valid c =
    subst (λ (g : Digraph). IsValid (forget_arc g)) (sym c.erase_arc.ensures.erased)
    (subst IsValid
    (arc_fresh_before c.args.self.now.graph c.args.f c.args.used c.requires.added
    (λ e. c.if-used-now.false (e ∙ sym c.used-now.ensures))).0 c.requires.before)

pub forget_arc-requires-clause-some : goal.forget_arc-requires-clause-some
forget_arc-requires-clause-some c =
    subst (λ (g : Digraph). 1 ≤ g.used_arcs) (sym c.erase_arc.ensures.erased)
    (arc_fresh_before c.args.self.now.graph c.args.f c.args.used c.requires.added
    (λ e. c.if-used-now.false (e ∙ sym c.used-now.ensures))).1

pub forget_arc-requires-clause-stamp : goal.forget_arc-requires-clause-stamp
forget_arc-requires-clause-stamp c =
    subst (λ (g : Digraph). 1 ≤ g.stamps) (sym c.erase_arc.ensures.erased)
    (arc_stamped c.args.self.now.graph c.args.f c.args.used c.requires.added)

pub unstamp-requires-clause-valid : goal.unstamp-requires-clause-valid
unstamp-requires-clause-valid c =
    subst (λ (g : Digraph). IsValid (unstamped g)) (sym c.erase_arc.ensures.erased)
    (subst IsValid
    (arc_reused_before c.args.self.now.graph c.args.f c.args.used c.requires.added
    (c.if-used-now.true ∙ c.used-now.ensures)) c.requires.before)

pub unstamp-requires-clause-some : goal.unstamp-requires-clause-some
unstamp-requires-clause-some c =
    subst (λ (g : Digraph). 1 ≤ g.stamps) (sym c.erase_arc.ensures.erased)
    (arc_stamped c.args.self.now.graph c.args.f c.args.used c.requires.added)
