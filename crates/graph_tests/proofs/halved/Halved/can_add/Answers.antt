use Rattle.std.proofs.Common.{rules}
use Rattle.graph_tests.proofs.Halving.{can_add}
use Rattle.graph_tests.proofs.halved.Halved.can_add.Goals as goal

pub returns-then-is_in_bounds-clause-can : goal.returns-then-is_in_bounds-clause-can
returns-then-is_in_bounds-clause-can c = λ t.
    let self = c.args.self.now in
    can_add self.half self.facts self.fits c.args.f.now (search rules)
    (search rules)
