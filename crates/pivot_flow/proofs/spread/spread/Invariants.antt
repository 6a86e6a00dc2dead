use Rattle.std.proofs.Common.{◌-◌, length}
use Rattle.pivot_flow.specs.Kids.{bare, links_of}
use Rattle.pivot_flow.specs.Spread.{price_at}
use Rattle.pivot_flow.specs.Stroll.{IsStroll}
use Rattle.pivot_flow.specs.Tree.{at}
use Rattle.pivot_flow.proofs.spread.spread.Given as goal

abbrev pub invariant-loop-head : goal.invariant-loop-head
invariant-loop-head l = IsStroll (bare (length l.parent)) (links_of l.first l.next l.prev)
    (at l.parent) (at l.queue) (at l.fn.depth) (at l.depth) (price_at l.fn.price) (price_at l.price)
    l.inner (at l.parent l.inner) l.by l.head l.tail l.last 2

abbrev pub decreases-loop-head : goal.decreases-loop-head
decreases-loop-head l = length l.parent - l.head
