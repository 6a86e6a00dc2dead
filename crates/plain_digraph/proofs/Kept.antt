-- A step that doesn't lose the copy keeps it.
use Rattle.std.proofs.Common.{◌≡◌, ℕ, true, false, cond, List, [], ◌∷◌, None, is_some, option_map}
use Rattle.std.proofs.Common.{refl, sym, ap, ◌∙◌}
use Rattle.std.specs.Prelude.{not}
use Rattle.std.proofs.lemmas.Bool.{ne_eqb, or_parts, true≢false}
use Rattle.base_items.specs.declared.items.ItemSort.{ItemSort}
use Rattle.base_items.specs.declared.items.ItemSort.TheVariants as sorts
use Rattle.plain_digraph.specs.Lists.{has}
use Rattle.plain_digraph.specs.Digraph.{Digraph}
use Rattle.plain_digraph.specs.Items.{ids, IsLive, fact_of, node_fact}
use Rattle.plain_digraph.specs.Steps.{new_node}
use Rattle.plain_digraph.specs.PlainSteps.{PlainStep, AddNode, AddArc, MoveFrom, MoveTo, Turn}
use Rattle.plain_digraph.specs.PlainSteps.{PlaceBack, EraseArc, EraseNode, ClearArcs, ClearNodes}
use Rattle.plain_digraph.specs.PlainSteps.{is_refusable, after_step}
use Rattle.plain_digraph.specs.Copies.{copy_of, ids_in, is_empty}
use Rattle.plain_digraph.specs.Valid.{IsValid}
use Rattle.plain_digraph.specs.RestoreLaws.{Keeps, KeptIfNotLost}
use Rattle.plain_digraph.proofs.Rows.{stamp_other}
use Rattle.plain_digraph.proofs.Live.{fact_of-has, live_listed}
use Rattle.plain_digraph.proofs.Additions.{new_node_apart}
use Rattle.plain_digraph.proofs.StepLiving.{live_items_stay, erased_arc_leaves}
use Rattle.plain_digraph.proofs.StepTold.{erased_node_tells}
use Rattle.plain_digraph.proofs.Restored.{in_copy}

-- a copied item stands in the copy
has_copied : (c : Digraph) (sort : ItemSort) (id : ℕ) → IsValid c → IsLive c sort id
    → has (ids_in (copy_of c) sort) id ≡ true
has_copied c sort id valid live = in_copy c sort id valid ∙ fact_of-has c sort id valid
    ∙ live_listed c sort id live

-- an id of the list isn't one that the list lacks
is_other : (xs : List ℕ) (id gone : ℕ) → has xs id ≡ true → has xs gone ≡ false → id ≡ gone → ⊥
is_other xs id gone at lacks same = true≢false (sym at ∙ ap (has xs) same ∙ lacks)

none_of_empty : (xs : List ℕ) (id : ℕ) → not (is_empty xs) ≡ false → has xs id ≡ true → ⊥
none_of_empty [] id empty at = true≢false (sym at)
none_of_empty (x ∷ xs) id empty at = true≢false empty

module _ (c g : Digraph) (valid_c : IsValid c) (valid_g : IsValid g) (keeps : Keeps c g) where
  -- a copied node is live
  node_live : (id : ℕ) → IsLive c sorts.Node id → has (ids g.nodes) id ≡ true
  node_live id live =
      sym (fact_of-has g sorts.Node id valid_g) ∙ ap is_some (keeps.nodes id live)
      ∙ fact_of-has c sorts.Node id valid_c ∙ live

  -- a refusable step that adds no node
  kept_nodes : (step : PlainStep) → is_refusable step ≡ true
      → ((id : ℕ) → fact_of (after_step g step) sorts.Node id ≡ fact_of g sorts.Node id)
      → Keeps c (after_step g step)
  kept_nodes step can stay = record {
    nodes = λ id live. stay id ∙ keeps.nodes id live;
    arcs = λ id live. live_items_stay g step sorts.Arc id can (keeps.arcs id live);
  }

pub kept_if_not_lost : KeptIfNotLost
kept_if_not_lost c g AddNode valid_c valid_g keeps not_lost = record {
  nodes = λ id live.
      let other : id ≡ new_node g → ⊥ =
      is_other (ids g.nodes) id (new_node g) (node_live c g valid_c valid_g keeps id live)
      (new_node_apart g valid_g) in
      ap (option_map (node_fact id)) (stamp_other g.nodes (new_node g) id g.stamps other)
      ∙ keeps.nodes id live;
  arcs = keeps.arcs;
}
kept_if_not_lost c g (AddArc from to) valid_c valid_g keeps not_lost =
    kept_nodes c g valid_c valid_g keeps (AddArc from to) refl (λ id. refl)
kept_if_not_lost c g (MoveFrom arc node) valid_c valid_g keeps not_lost =
    kept_nodes c g valid_c valid_g keeps (MoveFrom arc node) refl (λ id. refl)
kept_if_not_lost c g (MoveTo arc node) valid_c valid_g keeps not_lost =
    kept_nodes c g valid_c valid_g keeps (MoveTo arc node) refl (λ id. refl)
kept_if_not_lost c g (Turn arc) valid_c valid_g keeps not_lost =
    kept_nodes c g valid_c valid_g keeps (Turn arc) refl (λ id. refl)
kept_if_not_lost c g (PlaceBack fact) valid_c valid_g keeps not_lost =
    kept_nodes c g valid_c valid_g keeps (PlaceBack fact) refl (λ id. refl)
kept_if_not_lost c g (EraseArc arc) valid_c valid_g keeps not_lost = record {
  nodes = keeps.nodes;
  arcs = λ id live.
      let other = is_other (ids c.by_source) id arc (has_copied c sorts.Arc id valid_c live)
      not_lost in
      (erased_arc_leaves g arc id).1 other (keeps.arcs id live);
}
kept_if_not_lost c g (EraseNode node) valid_c valid_g keeps not_lost = record {
  nodes = λ id live.
      let lacks = (or_parts (has (ids c.nodes) node) false not_lost).0 in
      let other : id ≡ node → ⊥ = is_other (ids c.nodes) id node live lacks in
      (erased_node_tells g node id).0
      ∙ ap (λ b. cond b None (fact_of g sorts.Node id)) (ne_eqb id node other)
      ∙ keeps.nodes id live;
  arcs = keeps.arcs;
}
kept_if_not_lost c g ClearArcs valid_c valid_g keeps not_lost = record {
  nodes = keeps.nodes;
  arcs = λ id live.
      absurd (none_of_empty (ids c.by_source) id not_lost (has_copied c sorts.Arc id valid_c live));
}
kept_if_not_lost c g ClearNodes valid_c valid_g keeps not_lost = record {
  nodes = λ id live.
      absurd (none_of_empty (ids c.nodes) id
      (or_parts (not (is_empty (ids c.nodes))) false not_lost).0 live);
  arcs = keeps.arcs;
}
