use Rattle.std.proofs.Common.{◌≡◌, length, map, take, pos}
use Rattle.flow_rows.proofs.values.unsigned.Given as goal

abbrev pub invariant-loop-place : goal.invariant-loop-place
invariant-loop-place l = record {
  long : length l.list.items ≡ length l.values;
  done : map pos (take l.place l.list.items) ≡ take l.place l.values;
}
