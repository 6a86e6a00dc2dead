use Rattle.std.proofs.Common.{◌∙◌, sym, ap, map}
use Rattle.plain_digraph.specs.Facts.{fact_id}
use Rattle.plain_digraph.specs.Lists.{after}
use Rattle.observe_core.specs.Seen.{facts_of_marked}
use Rattle.kept_views.specs.Views.{nodes_of}
use Rattle.kept_walks.specs.Falling.{one_list}
use Rattle.kept_walks.proofs.Lookups.{node_has}
use Rattle.kept_walks.proofs.stored.StoredShown.next_node.Goals as goal

pub next-requires : goal.next-requires
next-requires c = sym (node_has (nodes_of c.args.self.now.nodes.now) c.args.n.0) ∙ c.requires

pub returns : goal.returns
returns c =
    let facts = facts_of_marked (nodes_of c.args.self.now.nodes.now) in
    c.node_at.ensures ∙ c.next.ensures
    ∙ ap (λ l. after (map fact_id l) c.args.n.0) (sym (one_list facts))
