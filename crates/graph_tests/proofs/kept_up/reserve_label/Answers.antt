use Rattle.std.proofs.Common.{sym, subst}
use Rattle.observe_core.specs.Fits.{Fits}
use Rattle.fact_table.specs.Table.{facts_of}
use Rattle.graph_tests.proofs.kept_up.reserve_label.Goals as goal

pub returns-in-Ok-clause-fits : goal.returns-in-Ok-clause-fits
returns-in-Ok-clause-fits c =
    subst (λ s. Fits s (facts_of c.args.facts.now)) (sym c.reserve.ensures.same) c.requires

pub returns-in-Err-clause-fits : goal.returns-in-Err-clause-fits
returns-in-Err-clause-fits c =
    subst (λ s. Fits s (facts_of c.args.facts.now)) (sym c.reserve.ensures.same) c.requires
