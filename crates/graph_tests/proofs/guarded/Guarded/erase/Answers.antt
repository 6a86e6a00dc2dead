use Rattle.std.proofs.Common.{rules}
use Rattle.graph_tests.proofs.Guarding.{can_erase}
use Rattle.graph_tests.proofs.guarded.Guarded.erase.Goals as goal

pub erase-after-requires : goal.erase-after-requires
erase-after-requires c =
    let self = c.args.self.now in
    can_erase self.guard self.facts self.fits (search rules) c.in_ok-fact.fact (search rules)
