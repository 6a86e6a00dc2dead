use Rattle.std.proofs.Common.{rules, ◌≡◌, Contains, sym, subst, ◌∙◌, ap}
use Rattle.plain_digraph.specs.Facts.{fact_id}
use Rattle.plain_digraph.specs.Rising.{without_item}
use Rattle.observe_core.specs.Fits.{Fits}
use Rattle.observe_core.specs.Told.{erased}
use Rattle.observe_core.proofs.FitLaws.{fits-erased}
use Rattle.fact_table.specs.Table.{facts_of}
use Rattle.snap_shots.specs.HalfViews.{half_seen}
use Rattle.snap_shots.specs.Sound.{half-sound}
use Rattle.graph_tests.proofs.Guarding.{live_table}
use Rattle.graph_tests.proofs.Halving.{can_erase}
use Rattle.graph_tests.proofs.halved.Halved.erase.Goals as goal

pub erase-after-requires : goal.erase-after-requires
erase-after-requires c =
    let self = c.args.self.now in
    can_erase self.half self.facts self.fits c.in_ok-fact.fact (search rules)

pub invariant_of-self : goal.invariant_of-self
invariant_of-self c =
    let self = c.args.self.now in
    let fact = c.in_ok-fact.fact in
    let live = facts_of self.facts in
    let there : Contains live fact = search rules in
    let same : fact.id ≡ c.args.id = search rules in
    let gone : facts_of c.remove.new.self ≡ without_item fact_id fact.id live =
    c.remove.ensures.taken ∙ ap (λ i. without_item fact_id i live) (sym same) in
    let fits = fits-erased fact (half_seen self.half) live self.fits (live_table self.facts)
    (half-sound self.half) there in
    record {
      fits =
          subst (λ s. Fits s (facts_of c.remove.new.self)) (sym c.erase-after.ensures.told)
          (subst (Fits (erased fact (half_seen self.half))) (sym gone) fits);
    }
