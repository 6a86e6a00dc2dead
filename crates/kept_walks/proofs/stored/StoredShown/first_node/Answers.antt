use Rattle.std.proofs.Common.{◌∙◌, sym, ap, map}
use Rattle.plain_digraph.specs.Facts.{fact_id}
use Rattle.plain_digraph.specs.Lists.{first}
use Rattle.observe_core.specs.Seen.{facts_of_marked}
use Rattle.kept_views.specs.Views.{nodes_of}
use Rattle.kept_walks.specs.Falling.{one_list}
use Rattle.kept_walks.proofs.stored.StoredShown.first_node.Goals as goal

pub returns : goal.returns
returns c =
    let facts = facts_of_marked (nodes_of c.args.self.now.nodes.now) in
    c.node_at.ensures ∙ c.first.ensures ∙ ap (λ l. first (map fact_id l)) (sym (one_list facts))
