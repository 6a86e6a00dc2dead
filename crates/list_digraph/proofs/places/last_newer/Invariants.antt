use Rattle.std.proofs.Common.{length}
use Rattle.list_digraph.specs.Tables.{chain}
use Rattle.list_digraph.specs.Places as spec
use Rattle.list_digraph.proofs.Newer.{Walking}
use Rattle.list_digraph.proofs.places.last_newer.Given as goal

abbrev pub invariant-walk : goal.invariant-walk
invariant-walk l =
    Walking l.table.items (spec.stamp_in l.side l.arcs.items) l.at l.behind
    (chain l.table.items l.left l.next) (chain l.table.items (length l.table.items) l.fn.head)

abbrev pub decreases-walk : goal.decreases-walk
decreases-walk l = l.left
