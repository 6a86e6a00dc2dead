-- An arc may go back to stamps that no other arc has.
use Rattle.std.proofs.Common.{◌≡◌, ℕ, ◌<◌, ◌≤◌, true, cond, List, [], ◌∷◌, map, Some, is_some}
use Rattle.std.proofs.Common.{Contains, inl, inr, refl, sym, ap, ◌∙◌, arith}
use Rattle.std.specs.Prelude.{◌||◌, not}
use Rattle.std.specs.FinMap as fin
use Rattle.std.proofs.lemmas.Bool.{eq-eqb, ne_eqb, cases_eq}
use Rattle.std.proofs.lemmas.Option.{same_Some}
use Rattle.base_items.specs.declared.items.Fact.{Fact}
use Rattle.base_items.specs.declared.items.ItemSort.TheVariants as sorts
use Rattle.plain_digraph.specs.Lists.{has}
use Rattle.plain_digraph.specs.Digraph.{Digraph, Place}
use Rattle.plain_digraph.specs.Items.{ids, stamp_of, fact_of, facts}
use Rattle.plain_digraph.specs.Steps.{unplaced}
use Rattle.plain_digraph.specs.Valid.{IsValid}
use Rattle.plain_digraph.specs.ValidLaws.{IsOpen, CanPlace}
use Rattle.plain_digraph.proofs.Tallies.{one_if, copies, has-some}
use Rattle.plain_digraph.proofs.Rows.{stamp_new, stamp_other, stamp_of-has, fact_of-id}
use Rattle.plain_digraph.proofs.Live.{fact_of-has}
use Rattle.plain_digraph.proofs.Changes.{source_counts, target_counts}
use Rattle.plain_digraph.proofs.Undone.{one_few, told_parts}
use Rattle.plain_digraph.proofs.StepFacts.{told_of}
use Rattle.plain_digraph.proofs.SameLists.{as_keys, facts_are_whole}
use Rattle.observe_core.proofs.ItemLemmas.{all_at}
use Rattle.alter_graph.specs.Snaps.{Apart}
use Rattle.alter_graph.specs.Steps.{CanReturn}

-- a stamp that no other id has is open to the id
open_if : (places : List Place) (id at : ℕ) → ((x : ℕ) → copies (ids places) x ≤ 1)
    → ((x : ℕ) → (x ≡ id → ⊥) → stamp_of places x ≡ Some at → ⊥) → IsOpen places id at
open_if [] id at few apart = refl
open_if (p ∷ places) id at few apart =
    let rest : IsOpen places id at =
    open_if places id at (λ x. let h = few x in omega (arith, h)) (λ x other e.
    elim (cases_eq x p.0) [
      | inl same ↦
          let here : has (ids places) p.0 ≡ true = sym (stamp_of-has places p.0)
          ∙ ap is_some (ap (stamp_of places) (sym same) ∙ e) in
          absurd (omega
          (arith, few p.0, has-some (ids places) p.0 here, ap one_if (eq-eqb p.0 p.0 refl)))
      | inr further ↦ apart x other (stamp_other places p.0 x p.1 further ∙ e)
    ]) in
    let less : List Place = unplaced places id in
    elim (cases_eq p.0 id) [
      | inl same ↦
          ap (λ b. has (map (λ q. q.1) (cond (not b) (p ∷ less) less)) at) (eq-eqb p.0 id same)
          ∙ rest
      | inr other ↦
          let free : p.1 ≡ at → ⊥ = λ e. apart p.0 other (stamp_new places p.0 p.1 ∙ ap Some e) in
          ap (λ b. has (map (λ q. q.1) (cond (not b) (p ∷ less) less)) at) (ne_eqb p.0 id other)
          ∙ ap (λ b. b || has (map (λ q. q.1) less) at) (ne_eqb p.1 at free) ∙ rest
    ]

pub returnable : (fact : Fact) (g : Digraph) → IsValid g → CanReturn fact g
    → g.stamps < 4611686018427387904 → CanPlace g fact
returnable fact g valid can left =
    let at : (x : ℕ) → has (fin.keys g.ends) x ≡ true → (now : Fact)
    × (fact_of g sorts.Arc x ≡ Some now) =
    λ x here. told_of (fact_of g sorts.Arc x) (fact_of-has g sorts.Arc x valid ∙ here) in
    let other : (x : ℕ) (now : Fact) → fact_of g sorts.Arc x ≡ Some now → (x ≡ fact.id → ⊥)
    → (fact.from_at ≡ now.from_at → ⊥) × (fact.to_at ≡ now.to_at → ⊥) =
    λ x now told apart.
    let id = fact_of-id g sorts.Arc x now told in
    let there : Contains (facts g sorts.Arc) now =
    (facts_are_whole g sorts.Arc now valid).1 (ap (fact_of g sorts.Arc) id ∙ told) in
    all_at (Apart fact) now (facts g sorts.Arc) can.apart there (λ e. apart (sym id ∙ sym e)) in
    record {
      arc = can.arc;
      source = can.source;
      target = can.target;
      old_source = can.old_source;
      old_target = can.old_target;
      open_source = open_if g.by_source fact.id fact.from_at
          (λ x. let h = source_counts g x valid in
          let few = one_few (is_some (fin.get g.ends x)) in
          omega (arith, h, few))
          (λ x apart e.
          let now = at x (sym (as_keys g valid (ids g.by_source) x valid.sources_whole)
          ∙ sym (stamp_of-has g.by_source x) ∙ ap is_some e) in
          let own = (told_parts x (fin.get g.ends x) (stamp_of g.by_source x)
          (stamp_of g.by_target x) now.0 now.1).2 in
          (other x now.0 now.1 apart).0
          (sym (same_Some now.0.from_at fact.from_at (sym own ∙ e))));
      open_target = open_if g.by_target fact.id fact.to_at
          (λ x. let h = target_counts g x valid in
          let few = one_few (is_some (fin.get g.ends x)) in
          omega (arith, h, few))
          (λ x apart e.
          let now = at x (sym (as_keys g valid (ids g.by_target) x valid.targets_whole)
          ∙ sym (stamp_of-has g.by_target x) ∙ ap is_some e) in
          let own = (told_parts x (fin.get g.ends x) (stamp_of g.by_source x)
          (stamp_of g.by_target x) now.0 now.1).3 in
          (other x now.0 now.1 apart).1
          (sym (same_Some now.0.to_at fact.to_at (sym own ∙ e))));
      left = left;
    }
