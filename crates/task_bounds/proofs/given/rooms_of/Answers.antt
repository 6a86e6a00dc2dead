use Rattle.std.proofs.Common.{pos, subst}
use Rattle.std.specs.Option.{option_copied}
use Rattle.plain_certificates.specs.Feasible.{IsAtMost}
use Rattle.plain_certificates.specs.Tables.{at}
use Rattle.task_bounds.specs.Given.{upper_given}
use Rattle.task_bounds.proofs.given.rooms_of.Goals as goal

pub spans_of-requires-clause-ordered : goal.spans_of-requires-clause-ordered
spans_of-requires-clause-ordered c k l =
    subst (λ u. IsAtMost (at (pos 0) c.args.lower.now k) (upper_given (option_copied u) k))
    c.in-Some.is (c.requires.ordered k l)
