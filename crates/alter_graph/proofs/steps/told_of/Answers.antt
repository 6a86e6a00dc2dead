use Rattle.std.proofs.Common.{◌≡◌, Some, None, Option, ◌∙◌}
use Rattle.base_items.specs.declared.items.Fact.{Fact}
use Rattle.alter_graph.proofs.Listing.{live_told}
use Rattle.alter_graph.proofs.steps.told_of.Goals as goal

nothing : (o : Option Fact) {fact : Fact} → o ≡ None → o ≡ Some fact → ⊥
nothing None e f = cc
nothing (Some x) e f = cc

pub unreachable-requires : goal.unreachable-requires
unreachable-requires c = nothing c.fact.result c.in-None.is
    (c.fact.ensures
    ∙ live_told c.args.graph.now.graph c.args.sort c.requires.valid c.args.id c.requires.live)
