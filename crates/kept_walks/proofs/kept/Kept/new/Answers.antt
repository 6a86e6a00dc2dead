use Rattle.std.proofs.Common.{◌∙◌, sym, ap}
use Rattle.plain_views.specs.Shown.{Shown, has_arc}
use Rattle.plain_views.specs.Adaptors.{sub, residual}
use Rattle.observe_core.specs.declared.kinds.KeptShape.{KeptShape}
use Rattle.kept_views.specs.Views.{nodes_of, arcs_of}
use Rattle.kept_walks.specs.declared.stored.Stored.{Stored}
use Rattle.kept_walks.specs.Stored.{shows_all, kept, is_shown, cap_in, flow_in}
use Rattle.kept_walks.proofs.Lookups.{admits_arc, part_arc}
use Rattle.kept_walks.proofs.kept.Kept.new.Goals as goal

pub new-requires-in-Residual-clause-admitted : goal.new-requires-in-Residual-clause-admitted
new-requires-in-Residual-clause-admitted c arc h =
    sym (admits_arc c.args.nodes.now c.args.arcs.now arc)
    ∙ sym (λ i. has_arc (shows_all (c.new.ensures.nodes i) (c.new.ensures.arcs i)) arc) ∙ h

pub new-requires-in-ResidualOverSub-clause-admitted
    : goal.new-requires-in-ResidualOverSub-clause-admitted
new-requires-in-ResidualOverSub-clause-admitted c arc h =
    let n = c.args.nodes.now in
    let a = c.args.arcs.now in
    sym (admits_arc n a arc)
    ∙ part_arc n a (is_shown (nodes_of n)) (is_shown (arcs_of a)) c.requires arc
    (sym (ap (λ (p : Shown). has_arc p arc) c.part-in-ResidualOverSub.ensures) ∙ h)

pub returns-in-Residual : goal.returns-in-Residual
returns-in-Residual c =
    let n = nodes_of c.args.nodes.now in
    let a = arcs_of c.args.arcs.now in
    let e = sym c.in-Residual.is ∙ c.shape.ensures in
    let b = c.new-in-Residual.ensures.below in
    let r = c.new-in-Residual.ensures.rooms in
    let nodes = ap (λ (s : Stored). s.nodes.now) b ∙ c.new.ensures.nodes in
    let arcs = ap (λ (s : Stored). s.arcs.now) b ∙ c.new.ensures.arcs in
    (λ i. residual (cap_in (arcs_of (r i).arcs.now)) (flow_in (arcs_of (r i).arcs.now))
    (shows_all (nodes i) (arcs i)))
    ∙ ap (λ (s : KeptShape). kept s n a) e

pub returns-in-ResidualOverSub : goal.returns-in-ResidualOverSub
returns-in-ResidualOverSub c =
    let n = nodes_of c.args.nodes.now in
    let a = arcs_of c.args.arcs.now in
    let e = sym c.in-ResidualOverSub.is ∙ c.shape.ensures in
    let b = c.new-in-ResidualOverSub.ensures.below in
    let r = c.new-in-ResidualOverSub.ensures.rooms in
    (λ i. residual (cap_in (arcs_of (r i).arcs.now)) (flow_in (arcs_of (r i).arcs.now))
    (sub (is_shown (nodes_of (b i).filter.nodes.now)) (is_shown (arcs_of (b i).filter.arcs.now))
    (shows_all (b i).below.nodes.now (b i).below.arcs.now)))
    ∙ ap (residual (cap_in a) (flow_in a)) c.part-in-ResidualOverSub.ensures
    ∙ ap (λ (s : KeptShape). kept s n a) e
