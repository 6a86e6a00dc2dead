-- Both ends of each arc of a digraph are among its nodes.
use Rattle.std.proofs.Common.{ℕ, IsTrue, List, [], ◌∷◌, sym, ap, subst}
use Rattle.std.proofs.Common.{◌∙◌}
use Rattle.std.specs.FinMap as fin
use Rattle.std.specs.List.{range_with_len}
use Rattle.base_items.specs.declared.items.Fact.{Fact}
use Rattle.base_items.specs.declared.items.ItemSort.TheVariants as sorts
use Rattle.plain_digraph.specs.Digraph.{Digraph}
use Rattle.plain_digraph.specs.Facts.{fact_id}
use Rattle.plain_digraph.specs.Items.{facts, fact_of, stamp_of, used_of, IsLive}
use Rattle.plain_digraph.specs.Lists.{AllOf}
use Rattle.plain_digraph.specs.Valid.{IsValid}
use Rattle.plain_digraph.proofs.Live.{fact_of-has, live_listed}
use Rattle.plain_digraph.proofs.Rows.{fact_of-id}
use Rattle.plain_digraph.proofs.SameLists.{facts_are_whole}
use Rattle.plain_digraph.proofs.StepFacts.{told_of}
use Rattle.plain_digraph.proofs.Undone.{told_parts}
use Rattle.observe_core.specs.Held.{Marked}
use Rattle.observe_core.specs.Items.{has_id}
use Rattle.observe_core.specs.Seen.{facts_of_marked}
use Rattle.observe_core.proofs.ItemLemmas.{contains-has}
use Rattle.kept_walks.specs.Stored.{HasEnds}
use Rattle.kept_walks.specs.Laws.{AreOf}
use Rattle.kept_walks.proofs.Based.{all_told}

module _ (g : Digraph) (valid : IsValid g) where
  live_has : (i : ℕ) → IsLive g sorts.Node i → IsTrue (has_id fact_id i (facts g sorts.Node))
  live_has i live =
      let told = told_of (fact_of g sorts.Node i)
      (fact_of-has g sorts.Node i valid ∙ live_listed g sorts.Node i live) in
      let f = told.0 in
      let named = fact_of-id g sorts.Node i f told.1 in
      let there = (facts_are_whole g sorts.Node f valid).1
      (ap (fact_of g sorts.Node) named ∙ told.1) in
      subst (λ j. IsTrue (has_id fact_id j (facts g sorts.Node))) named
      (contains-has fact_id f (facts g sorts.Node) there)

  abbrev HasOwnEnds : Fact → Type 0
  HasOwnEnds f = IsTrue (has_id fact_id f.from (facts g sorts.Node))
      × IsTrue (has_id fact_id f.to (facts g sorts.Node))

  ends_told : AllOf HasOwnEnds (facts g sorts.Arc)
  ends_told =
      all_told HasOwnEnds (fact_of g sorts.Arc)
      (λ id f told.
      let ends = (told_parts id (fin.get g.ends id) (stamp_of g.by_source id)
      (stamp_of g.by_target id) f told).1 in
      let live = valid.ends_live id f.from f.to ends in
      (live_has f.from live.0, live_has f.to live.1))
      (range_with_len 0 (used_of g sorts.Arc))

marked_ends : (nodes : List Fact) (arcs : List Marked)
    → AllOf (λ f. IsTrue (has_id fact_id f.from nodes) × IsTrue (has_id fact_id f.to nodes))
    (facts_of_marked arcs)
    → AllOf (λ (a : Marked). IsTrue (has_id fact_id a.fact.from nodes)
    × IsTrue (has_id fact_id a.fact.to nodes)) arcs
marked_ends nodes [] all = tt
marked_ends nodes (a ∷ arcs) all = (all.0, marked_ends nodes arcs all.1)

pub ends_held : (g : Digraph) (nodes arcs : List Marked) → IsValid g → AreOf g nodes arcs
    → HasEnds nodes arcs
ends_held g nodes arcs valid of =
    let told = ends_told g valid in
    let ends = subst (λ fs. AllOf (λ f. IsTrue (has_id fact_id f.from (facts g sorts.Node))
    × IsTrue (has_id fact_id f.to (facts g sorts.Node))) fs) (sym of.arcs) told in
    marked_ends (facts_of_marked nodes) arcs
    (subst (λ ns. AllOf (λ f. IsTrue (has_id fact_id f.from ns)
    × IsTrue (has_id fact_id f.to ns)) (facts_of_marked arcs)) (sym of.nodes) ends)
