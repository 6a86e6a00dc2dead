use Rattle.std.proofs.Common.{◌≡◌, map, take}
use Rattle.desk_world.specs.Lines.{line_of}
use Rattle.desk_world.proofs.listings.World+Seat+B.list_arcs.Given as goal

abbrev pub invariant-loop-arc : goal.invariant-loop-arc
invariant-loop-arc g l = l.lines.items ≡ map line_of (take l.arc-index l.arc-items)
