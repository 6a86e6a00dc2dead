use Rattle.plain_digraph.specs.Facts.{fact_id}
use Rattle.plain_digraph.specs.Rising.{without_item}
use Rattle.fact_table.specs.Table.{facts_of}
use Rattle.kept_views.specs.Order.{items_at, owner_of}
use Rattle.kept_views.proofs.Walk.{Walking}
use Rattle.kept_views.proofs.order.Order.behind.Given as goal

abbrev pub invariant-walk : goal.invariant-walk
invariant-walk l =
    Walking l.self.listing l.f
    (items_at l.self.listing (owner_of l.self.listing l.f)
    (without_item fact_id l.f.id (facts_of l.table)))
    l.behind l.next l.left

abbrev pub decreases-walk : goal.decreases-walk
decreases-walk l = l.left
