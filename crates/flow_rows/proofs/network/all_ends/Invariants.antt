use Rattle.std.proofs.Common.{◌≡◌, ◌-◌, ◌≤◌, length, map, take}
use Rattle.std.specs.List.{range_with_len}
use Rattle.static_digraph.specs.Fixed.{graph_of}
use Rattle.flow_rows.specs.Laid.{ends_in}
use Rattle.flow_rows.proofs.network.all_ends.Given as goal

abbrev pub invariant-loop-arc : goal.invariant-loop-arc
invariant-loop-arc l = record {
  below : l.arc ≤ l.arcs;
  long : length l.ends.items ≡ l.arcs;
  listed : take l.arc l.ends.items ≡ map (ends_in (graph_of l.g)) (range_with_len 0 l.arc);
}

abbrev pub decreases-loop-arc : goal.decreases-loop-arc
decreases-loop-arc l = l.arcs - l.arc
