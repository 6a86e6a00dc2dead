use Rattle.std.proofs.Common.{◌≡◌, take}
use Rattle.view_numbers.proofs.checks.narrow.Given as goal

abbrev pub invariant-loop-value : goal.invariant-loop-value
invariant-loop-value l = l.same.items ≡ take l.value-index l.values
