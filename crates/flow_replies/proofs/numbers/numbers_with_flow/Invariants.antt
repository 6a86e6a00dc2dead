use Rattle.std.proofs.Common.{length, ◌-◌}
use Rattle.flow_replies.specs.Numbers.{carries}
use Rattle.flow_replies.proofs.Picked.{ArePicked}
use Rattle.flow_replies.proofs.numbers.numbers_with_flow.Given as goal

abbrev pub invariant-loop-k : goal.invariant-loop-k
invariant-loop-k l = ArePicked (carries l.flow) (length l.flow) l.k l.numbers.items

abbrev pub decreases-loop-k : goal.decreases-loop-k
decreases-loop-k l = length l.flow - l.k
