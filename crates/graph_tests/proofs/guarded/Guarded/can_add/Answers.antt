use Rattle.std.proofs.Common.{rules}
use Rattle.graph_tests.proofs.Guarding.{can_add}
use Rattle.graph_tests.proofs.guarded.Guarded.can_add.Goals as goal

pub returns-then-has_small_counts-clause-can : goal.returns-then-has_small_counts-clause-can
returns-then-has_small_counts-clause-can c = λ t.
    let self = c.args.self.now in
    can_add self.guard self.facts self.fits (search rules) c.args.f.now (search rules)
    (search rules)
