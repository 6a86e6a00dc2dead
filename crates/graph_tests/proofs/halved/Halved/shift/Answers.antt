use Rattle.std.proofs.Common.{rules, ◌≡◌, ◌≢◌, Contains, sym, subst}
use Rattle.observe_core.specs.Fits.{Fits}
use Rattle.observe_core.specs.Told.{shifted}
use Rattle.observe_core.proofs.FitLaws.{fits-shifted}
use Rattle.fact_table.specs.Table.{facts_of}
use Rattle.snap_shots.specs.HalfViews.{half_seen}
use Rattle.graph_tests.proofs.Guarding.{live_table}
use Rattle.graph_tests.proofs.halved.Halved.shift.Goals as goal

pub invariant_of-self-2 : goal.invariant_of-self-2
invariant_of-self-2 c =
    let self = c.args.self.now in
    let old = c.in_ok-old.old in
    let now = c.args.new in
    let live = facts_of self.facts in
    let there : Contains live old = search rules in
    let same : old.id ≡ now.id = search rules in
    let differs : now ≢ old = search rules in
    let fits = fits-shifted old now (half_seen self.half) live self.fits (live_table self.facts)
    there (sym same) differs in
    record {
      fits =
          subst (λ s. Fits s (facts_of c.replace.new.self)) (sym c.in_default.ensures.told)
          (subst (Fits (shifted old now (half_seen self.half))) (sym c.replace.ensures.swapped)
          fits);
    }
