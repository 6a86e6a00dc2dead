use Rattle.std.proofs.Common.{◌≡◌, ◌+◌, ◌++◌, length, map, take}
use Rattle.static_digraph.specs.Fixed.{graph_of}
use Rattle.flow_rows.specs.Laid.{out_spoke}
use Rattle.flow_rows.proofs.network.lay_out.Given as goal

abbrev pub invariant-loop-arc : goal.invariant-loop-arc
invariant-loop-arc l = record {
  next : l.next ≡ l.place + l.arc-index;
  long : length l.row.items ≡ length l.initial.row.items;
  laid : take l.next l.row.items
      ≡ take l.place l.initial.row.items
      ++ map (out_spoke (graph_of l.g)) (take l.arc-index l.arcs);
}
