use Rattle.std.proofs.Common.{IsTrue, sym, subst}
use Rattle.plain_digraph.specs.Facts.{fact_id}
use Rattle.observe_core.specs.Fits.{Fits}
use Rattle.observe_core.specs.Held.{Tie, tie_id, tied_id}
use Rattle.observe_core.specs.Items.{has_id}
use Rattle.observe_core.proofs.ItemLemmas.{all-place, contains-has}
use Rattle.fact_table.specs.Table.{facts_of}
use Rattle.index_maps.specs.TieEntries.{tie_to}
use Rattle.index_maps.specs.TieViews.{ties_of}
use Rattle.graph_tests.proofs.kept_up.tie_item.Goals as goal

pub returns-in-Ok : goal.returns-in-Ok
returns-in-Ok c =
    let live = facts_of c.args.facts.now in
    let there = c.in-Some.ensures.there in
    let has : IsTrue (has_id fact_id c.in-Some.fact.id live) =
    contains-has fact_id c.in-Some.fact live there.0 in
    let own = subst (λ n. IsTrue (has_id fact_id n live)) there.1 has in
    subst (λ s. Fits s live) (sym c.in-Ok.ensures.ok) (record {
      guard = c.requires.guard;
      held = all-place (λ (t : Tie). IsTrue (has_id fact_id (tied_id t) live)) tie_id
          (tie_to c.args.tie c.args.id)
          (ties_of c.args.ties.now) own c.requires.held;
    })
