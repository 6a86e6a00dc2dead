-- The arcs from a node that a view shows, or to it, as they are walked.
use Rattle.std.proofs.Common.{◌≡◌, ℕ, true, eqb, List, [], ◌∷◌, ◌++◌, map, Some, sym, ap, subst}
use Rattle.std.proofs.Common.{◌∙◌}
use Rattle.std.proofs.lemmas.List.{map-append}
use Rattle.base_items.specs.declared.items.Fact.{Fact}
use Rattle.script_words.specs.declared.commands.Direction.{Direction}
use Rattle.script_words.specs.declared.commands.Direction.TheVariants.{In, Out}
use Rattle.plain_digraph.specs.Lists.{has, after}
use Rattle.plain_views.specs.Shown.{Shown, IsShown, arcs_to, in_ids, out_ids, has_arc, once, target}
use Rattle.plain_views.proofs.Sides.{has-ids_at, once-ids_at, end_at, same_ids, gives_targets}
use Rattle.view_numbers.specs.Listed.{IsWalking, fact_shown, fact_at}
use Rattle.view_numbers.proofs.Gathering.{given_back, kept_given, from_node, out_differ, out_there}
use Rattle.view_numbers.proofs.Walking.{walk_more}
use Rattle.desk_world.specs.Shown.{arcs_at, ids_at, next_at}

module _ (p : Shown) (shown : IsShown p) where
  -- the facts of the arcs to a node
  into_node : (node : ℕ) → map fact_shown (arcs_to p node) ≡ map (fact_at p) (in_ids p node)
  into_node node = given_back p shown (arcs_to p node)
      (kept_given p shown (λ arc. eqb arc.to node) p.by_target (gives_targets p shown))

  pub at_facts : (way : Direction) (node : ℕ)
      → map fact_shown (arcs_at way p node) ≡ map (fact_at p) (ids_at way p node)
  at_facts Out node = from_node p shown node
  at_facts In node = into_node node

  pub at_differ : (way : Direction) (node : ℕ) → once (ids_at way p node) ≡ true
  at_differ Out node = out_differ p shown node
  at_differ In node = once-ids_at target p.by_target node shown.targets_differ

  -- an arc at the node is shown, and the one after it is that at the node
  pub at_there : (way : Direction) (node id : ℕ) → has (ids_at way p node) id ≡ true
      → (has_arc p id ≡ true) × (next_at way p id ≡ after (ids_at way p node) id)
  at_there Out node id h =
      let there = out_there p shown node id h in
      (there.0, ap (λ v. after (out_ids p v) id) there.1)
  at_there In node id h = (
    same_ids p shown id ∙ has-ids_at target p.by_target node id h,
    ap (λ v. after (in_ids p v) id) (end_at target p.by_target node id shown.targets_differ h),
  )

  -- one arc more was listed
  pub listed_more : (way : Direction) (node : ℕ) (met : List Fact) (id : ℕ)
      → IsWalking (ids_at way p node) (map (λ f. f.id) met) (Some id)
      → met ≡ map (fact_at p) (map (λ f. f.id) met)
      → IsWalking (ids_at way p node) (map (λ f. f.id) (met ++ fact_at p id ∷ []))
      (after (ids_at way p node) id)
      × (met ++ fact_at p id ∷ []
      ≡ map (fact_at p) (map (λ f. f.id) (met ++ fact_at p id ∷ [])))
  listed_more way node met id walking facts =
      let ids = ids_at way p node in
      let longer = map-append (λ (f : Fact). f.id) met (fact_at p id ∷ []) in (
        subst (λ own. IsWalking ids own (after ids id)) (sym longer)
            (walk_more ids (map (λ f. f.id) met) id (at_differ way node) walking),
        ap (λ xs. xs ++ fact_at p id ∷ []) facts
            ∙ sym (map-append (fact_at p) (map (λ f. f.id) met) (id ∷ []))
            ∙ ap (map (fact_at p)) (sym longer),
      )
