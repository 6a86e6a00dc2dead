-- What a query of pairs reads.
use Rattle.std.specs.Prelude.{◌≡◌, false}
use Rattle.plain_certificates.specs.Pairings.{IsBipartite}
use Rattle.plain_certificates.specs.Tables.{at}
use Rattle.plain_world.specs.Tables.{Name}
use Rattle.plain_world.specs.World.{World}
use Rattle.static_digraph.specs.Fixed.{graph_of}
use Rattle.desk_world.specs.AskedViews.{Asks, left_nodes}
use Rattle.desk_world.specs.declared.asked_pairs.AskedPairs.{AskedPairs}

-- the view by number, and which of its nodes are left; each arc joins a left node and one that
-- isn't
pub record AsksPairs (world : World) (view side : Name) (pairs : AskedPairs) : Type 0 where
  pub asks : Asks world pairs.asked
  pub view_is : pairs.asked.view.now ≡ view
  pub left : pairs.left.items ≡ left_nodes world view side
  pub two_sided : IsBipartite (graph_of pairs.asked.fixed) (at false pairs.left.items)
