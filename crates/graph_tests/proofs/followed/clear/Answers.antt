use Rattle.std.proofs.Common.{[], sym, subst}
use Rattle.observe_core.specs.Fits.{Fits}
use Rattle.observe_core.proofs.FitLaws.{fits-cleared}
use Rattle.fact_table.specs.Table.{facts_of}
use Rattle.graph_tests.proofs.followed.clear.Goals as goal

pub returns : goal.returns
returns g c =
    let watch = g.O.Observer.watch in
    subst (Fits (watch c.clear.new.self).seen) (sym c.clear-2.ensures.empty)
    (subst (λ s. Fits s []) (sym c.clear.ensures.told)
    (fits-cleared (watch c.args.observer.now).seen (facts_of c.args.facts.now) c.requires))
