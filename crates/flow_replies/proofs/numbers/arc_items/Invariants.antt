use Rattle.std.proofs.Common.{◌≡◌, take}
use Rattle.flow_replies.proofs.numbers.arc_items.Given as goal

abbrev pub invariant-loop-arc : goal.invariant-loop-arc
invariant-loop-arc l = l.items.items ≡ take l.arc l.g.arcs
