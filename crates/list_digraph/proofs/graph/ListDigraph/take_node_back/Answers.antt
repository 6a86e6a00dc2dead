use Rattle.std.proofs.Common.{◌≤◌, sym, subst, ◌∙◌}
use Rattle.plain_digraph.specs.Digraph.{Digraph}
use Rattle.plain_digraph.specs.Valid.{IsValid}
use Rattle.plain_digraph.specs.Undo.{unstamped, forget_node}
use Rattle.list_digraph.proofs.TakenBack.{added_node_live, added_node_alone, node_stamped}
use Rattle.list_digraph.proofs.TakenBack.{node_reused_before, node_fresh_before}
use Rattle.list_digraph.proofs.graph.ListDigraph.take_node_back.Goals as goal

pub erase_node-requires-clause-live : goal.erase_node-requires-clause-live
erase_node-requires-clause-live c =
    added_node_live c.args.self.now.graph c.args.f c.args.used c.requires.before c.requires.added

pub erase_node-requires-clause-alone : goal.erase_node-requires-clause-alone
erase_node-requires-clause-alone c =
    added_node_alone c.args.self.now.graph c.args.f c.args.used c.requires.before c.requires.added

pub forget_node-requires-clause-valid : goal.forget_node-requires-clause-valid
forget_node-requires-clause-valid c =
    subst (λ (g : Digraph). IsValid (forget_node g)) (sym c.erase_node.ensures.erased)
    (subst IsValid
    (node_fresh_before c.args.self.now.graph c.args.f c.args.used c.requires.before
    c.requires.added (λ e. c.if-used-now.false (e ∙ sym c.used-now.ensures))).0
    c.requires.before)

pub forget_node-requires-clause-some : goal.forget_node-requires-clause-some
forget_node-requires-clause-some c =
    subst (λ (g : Digraph). 1 ≤ g.used_nodes) (sym c.erase_node.ensures.erased)
    (node_fresh_before c.args.self.now.graph c.args.f c.args.used c.requires.before
    c.requires.added (λ e. c.if-used-now.false (e ∙ sym c.used-now.ensures))).1

pub forget_node-requires-clause-stamp : goal.forget_node-requires-clause-stamp
forget_node-requires-clause-stamp c =
    subst (λ (g : Digraph). 1 ≤ g.stamps) (sym c.erase_node.ensures.erased)
    (node_stamped c.args.self.now.graph c.args.f c.args.used c.requires.before c.requires.added)

pub unstamp-requires-clause-valid : goal.unstamp-requires-clause-valid
unstamp-requires-clause-valid c =
    subst (λ (g : Digraph). IsValid (unstamped g)) (sym c.erase_node.ensures.erased)
    (subst IsValid
    (node_reused_before c.args.self.now.graph c.args.f c.args.used c.requires.before
    c.requires.added (c.if-used-now.true ∙ c.used-now.ensures)) c.requires.before)

pub unstamp-requires-clause-some : goal.unstamp-requires-clause-some
unstamp-requires-clause-some c =
    subst (λ (g : Digraph). 1 ≤ g.stamps) (sym c.erase_node.ensures.erased)
    (node_stamped c.args.self.now.graph c.args.f c.args.used c.requires.before c.requires.added)
