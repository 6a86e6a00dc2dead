use Rattle.std.proofs.Common.{◌∙◌, sym}
use Rattle.kept_views.specs.Views.{nodes_of}
use Rattle.kept_walks.proofs.Lookups.{node_has}
use Rattle.kept_walks.proofs.stored.StoredShown.has_node.Goals as goal

pub returns : goal.returns
returns c = c.has.ensures ∙ sym (node_has (nodes_of c.args.self.now.nodes.now) c.args.n.0)
