use Rattle.std.proofs.Common.{ap, ◌∙◌}
use Rattle.base_items.specs.declared.items.Fact.{Fact}
use Rattle.plain_digraph.specs.Items.{target_of}
use Rattle.alter_graph.proofs.Gathered.{target_is, is_neither_then, is_neither_else}
use Rattle.alter_graph.proofs.gathering.goes_elsewhere.Goals as goal

pub returns-then-end-u : goal.returns-then-end-u
returns-then-end-u c =
    let g = c.args.graph.now.graph in
    let e = ap (λ (f : Fact). f.to) c.told_of-end.ensures
    ∙ target_is g c.args.arc c.requires.valid c.requires.live in
    is_neither_then c.args.u.0 c.args.v.0 c.told_of-end.result.to (target_of g c.args.arc) e
    c.if-end-u.true

pub returns-else-end-u : goal.returns-else-end-u
returns-else-end-u c =
    let g = c.args.graph.now.graph in
    let e = ap (λ (f : Fact). f.to) c.told_of-end.ensures
    ∙ target_is g c.args.arc c.requires.valid c.requires.live in
    is_neither_else c.args.u.0 c.args.v.0 c.told_of-end.result.to (target_of g c.args.arc) e
    c.if-end-u.false
