use Rattle.std.proofs.Common.{◌≡◌, length, map, take, pos}
use Rattle.flow_rows.proofs.values.signed.Given as goal

abbrev pub invariant-loop-place : goal.invariant-loop-place
invariant-loop-place l = record {
  long : length l.list.items ≡ length l.values;
  done : take l.place l.list.items ≡ map pos (take l.place l.values);
}
