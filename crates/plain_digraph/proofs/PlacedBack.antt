-- A copied arc can be placed back.
use Rattle.std.proofs.Common.{◌≡◌, ℕ, ◌≤◌, true, cond, List, [], ◌∷◌, map, Some, is_some, inl, inr}
use Rattle.std.proofs.Common.{refl, sym, ap, ◌∙◌, arith}
use Rattle.std.specs.Prelude.{◌||◌, not}
use Rattle.std.specs.FinMap as fin
use Rattle.std.proofs.lemmas.Bool.{eq-eqb, ne_eqb, cases_eq}
use Rattle.std.proofs.lemmas.Option.{same_Some}
use Rattle.base_items.specs.declared.items.Fact.{Fact}
use Rattle.base_items.specs.declared.items.ItemSort.TheVariants as sorts
use Rattle.plain_digraph.specs.Lists.{has}
use Rattle.plain_digraph.specs.Digraph.{Place}
use Rattle.plain_digraph.specs.Items.{ids, IsLive, stamp_of, fact_of}
use Rattle.plain_digraph.specs.Steps.{unplaced}
use Rattle.plain_digraph.specs.ValidLaws.{IsOpen}
use Rattle.plain_digraph.specs.RestoreLaws.{CopiedCanBePlaced}
use Rattle.plain_digraph.proofs.Tallies.{one_if, copies, has-some}
use Rattle.plain_digraph.proofs.Rows.{stamp_new, stamp_other, stamp_of-has}
use Rattle.plain_digraph.proofs.Live.{fact_of-has, live_listed, listed_live}
use Rattle.plain_digraph.proofs.Changes.{source_counts, target_counts}
use Rattle.plain_digraph.proofs.Undone.{one_few, told_parts}
use Rattle.plain_digraph.proofs.StepFacts.{told_of}
use Rattle.plain_digraph.proofs.SameLists.{as_keys}
use Rattle.plain_digraph.proofs.Bounded.{facts_are_bounded}

-- a stamp that no other id has is open to the id
open_if : (places : List Place) (id at : ℕ) → ((x : ℕ) → copies (ids places) x ≤ 1)
    → ((x : ℕ) → (x ≡ id → ⊥) → stamp_of places x ≡ Some at → ⊥) → IsOpen places id at
open_if [] id at few apart = refl
open_if (p ∷ places) id at few apart =
    let rest : IsOpen places id at =
    open_if places id at (λ x. let h = few x in omega (arith, h)) (λ x other e.
    elim (cases_eq x p.0) [
      | inl same ↦
          let here : has (ids places) p.0 ≡ true = sym (stamp_of-has places p.0)
          ∙ ap is_some (ap (stamp_of places) (sym same) ∙ e) in
          absurd (omega
          (arith, few p.0, has-some (ids places) p.0 here, ap one_if (eq-eqb p.0 p.0 refl)))
      | inr further ↦ apart x other (stamp_other places p.0 x p.1 further ∙ e)
    ]) in
    let less : List Place = unplaced places id in
    elim (cases_eq p.0 id) [
      | inl same ↦
          ap (λ b. has (map (λ q. q.1) (cond (not b) (p ∷ less) less)) at) (eq-eqb p.0 id same)
          ∙ rest
      | inr other ↦
          let free : p.1 ≡ at → ⊥ = λ e. apart p.0 other (stamp_new places p.0 p.1 ∙ ap Some e) in
          ap (λ b. has (map (λ q. q.1) (cond (not b) (p ∷ less) less)) at) (ne_eqb p.0 id other)
          ∙ ap (λ b. b || has (map (λ q. q.1) less) at) (ne_eqb p.1 at free) ∙ rest
    ]

pub copied_can_be_placed : CopiedCanBePlaced
copied_can_be_placed c g was valid_c valid_g keeps apart left told =
    let bounds = facts_are_bounded c sorts.Arc was.id was valid_c told in
    let parts = told_parts was.id (fin.get c.ends was.id) (stamp_of c.by_source was.id)
    (stamp_of c.by_target was.id) was told in
    let ends = valid_c.ends_live was.id was.from was.to parts.1 in
    let node : (id : ℕ) → IsLive c sorts.Node id → IsLive g sorts.Node id = λ id live.
    listed_live g sorts.Node id
    (sym (fact_of-has g sorts.Node id valid_g) ∙ ap is_some (keeps.nodes id live)
    ∙ fact_of-has c sorts.Node id valid_c ∙ live_listed c sorts.Node id live) in
    let earlier = apart.earlier in
    let from_at = bounds.from_at in
    let to_at = bounds.to_at in
    let at : (x : ℕ) → has (fin.keys g.ends) x ≡ true → (fact : Fact)
    × (fact_of g sorts.Arc x ≡ Some fact) =
    λ x here. told_of (fact_of g sorts.Arc x) (fact_of-has g sorts.Arc x valid_g ∙ here) in
    record {
      arc = keeps.arcs was.id
          (listed_live c sorts.Arc was.id
          (sym (fact_of-has c sorts.Arc was.id valid_c) ∙ ap is_some told));
      source = node was.from ends.0;
      target = node was.to ends.1;
      old_source = omega (arith, from_at, earlier);
      old_target = omega (arith, to_at, earlier);
      open_source = open_if g.by_source was.id was.from_at
          (λ x. let h = source_counts g x valid_g in let few =
          one_few (is_some (fin.get g.ends x)) in omega (arith, h, few))
          (λ x other e.
          let now = at x
          (sym (as_keys g valid_g (ids g.by_source) x valid_g.sources_whole)
          ∙ sym (stamp_of-has g.by_source x) ∙ ap is_some e) in
          let own = (told_parts x (fin.get g.ends x) (stamp_of g.by_source x)
          (stamp_of g.by_target x) now.0 now.1).2 in
          apart.sources was.id x was now.0 told now.1 other
          (same_Some now.0.from_at was.from_at (sym own ∙ e)));
      open_target = open_if g.by_target was.id was.to_at
          (λ x. let h = target_counts g x valid_g in let few =
          one_few (is_some (fin.get g.ends x)) in omega (arith, h, few))
          (λ x other e.
          let now = at x
          (sym (as_keys g valid_g (ids g.by_target) x valid_g.targets_whole)
          ∙ sym (stamp_of-has g.by_target x) ∙ ap is_some e) in
          let own = (told_parts x (fin.get g.ends x) (stamp_of g.by_source x)
          (stamp_of g.by_target x) now.0 now.1).3 in
          apart.targets was.id x was now.0 told now.1 other
          (same_Some now.0.to_at was.to_at (sym own ∙ e)));
      left = left;
    }
