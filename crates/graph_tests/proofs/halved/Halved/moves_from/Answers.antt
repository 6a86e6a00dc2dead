use Rattle.std.proofs.Common.{rules}
use Rattle.graph_tests.proofs.Halving.{can_shift}
use Rattle.graph_tests.proofs.halved.Halved.moves_from.Goals as goal

pub returns-then-ne-clause-can : goal.returns-then-ne-clause-can
returns-then-ne-clause-can c =
    let self = c.args.self.now in
    can_shift self.half self.facts self.fits c.in_ok-old.old c.args.new.now
    (search rules)
    (search rules) (search rules) (search rules)
