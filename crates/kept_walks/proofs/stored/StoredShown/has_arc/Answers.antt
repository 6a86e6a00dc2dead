use Rattle.std.proofs.Common.{◌∙◌, sym}
use Rattle.observe_core.specs.Seen.{facts_of_marked}
use Rattle.kept_views.specs.Views.{nodes_of, arcs_of}
use Rattle.kept_views.proofs.WalkLemmas.{found_or_not}
use Rattle.kept_walks.specs.Whole.{has_stored}
use Rattle.kept_walks.proofs.stored.StoredShown.has_arc.Goals as goal

pub returns : goal.returns
returns c =
    let s = c.args.self.now in
    let nodes = facts_of_marked (nodes_of s.nodes.now) in
    let arcs = facts_of_marked (arcs_of s.arcs.now) in
    c.is_some.ensures
    ∙ found_or_not c.fact.result c.args.a.0 arcs c.fact.ensures.there c.fact.ensures.absent
    ∙ sym (has_stored nodes arcs c.args.a.0)
