use Rattle.std.proofs.Common.{false, length, ◌-◌}
use Rattle.plain_certificates.specs.Tables.{at}
use Rattle.flow_replies.proofs.Picked.{ArePicked}
use Rattle.flow_replies.proofs.numbers.numbers_in.Given as goal

abbrev pub invariant-loop-k : goal.invariant-loop-k
invariant-loop-k l = ArePicked (at false l.set) (length l.set) l.k l.numbers.items

abbrev pub decreases-loop-k : goal.decreases-loop-k
decreases-loop-k l = length l.set - l.k
