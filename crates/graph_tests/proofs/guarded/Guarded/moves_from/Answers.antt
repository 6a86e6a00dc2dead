use Rattle.std.proofs.Common.{rules}
use Rattle.graph_tests.proofs.Guarding.{can_shift}
use Rattle.graph_tests.proofs.guarded.Guarded.moves_from.Goals as goal

pub returns-then-ne-clause-can : goal.returns-then-ne-clause-can
returns-then-ne-clause-can c =
    let self = c.args.self.now in
    can_shift self.guard self.facts self.fits (search rules) c.in_ok-old.old c.args.new.now
    (search rules)
    (search rules) (search rules) (search rules)
