use Rattle.std.proofs.Common.{sym, ap, ◌∙◌, subst}
use Rattle.static_digraph.specs.Fixed.{fixed_from, HaveEnds}
use Rattle.view_numbers.proofs.Numbers.{numbers_from, arcs_end}
use Rattle.view_numbers.proofs.numbering.number.Goals as goal

pub build-requires-clause-ends : goal.build-requires-clause-ends
build-requires-clause-ends g c =
    let p = g.G.Shown.graph c.args.g.now in
    let nodes = c.deref-2.ensures.value ∙ c.in_ok-nodes.ensures.nodes in
    let arcs = c.deref-3.ensures.value ∙ c.in_ok-arcs.ensures.arcs in
    subst (λ ns. HaveEnds ns c.deref-3.result.now) (sym nodes)
    (subst (HaveEnds p.nodes) (sym arcs) (arcs_end p (g.met.G.Shown.valid c.args.g.now)))

pub returns-in-Ok-clause-numbered : goal.returns-in-Ok-clause-numbered
returns-in-Ok-clause-numbered g c =
    let p = g.G.Shown.graph c.args.g.now in
    let nodes = c.deref-2.ensures.value ∙ c.in_ok-nodes.ensures.nodes in
    let arcs = c.deref-3.ensures.value ∙ c.in_ok-arcs.ensures.arcs in
    numbers_from p c.in-Ok.fixed (c.in-Ok.ensures.numbered
    ∙ (ap (λ ns. fixed_from ns c.deref-3.result.now) nodes ∙ ap (fixed_from p.nodes) arcs))
