use Rattle.std.proofs.Common.{◌≡◌, length, map, take, eqb}
use Rattle.flow_rows.proofs.values.at_top.Given as goal

abbrev pub invariant-loop-node : goal.invariant-loop-node
invariant-loop-node l = record {
  long : length l.list.items ≡ length l.heights;
  done : take l.node l.list.items ≡ map (λ height. eqb height l.top) (take l.node l.heights);
}
