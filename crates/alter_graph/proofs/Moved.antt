-- What is told of an arc after a move, by what was told of it.
use Rattle.std.proofs.Common.{◌≡◌, ℕ, cond, Some, sym, ap, subst, ◌∙◌}
use Rattle.std.proofs.lemmas.Bool.{eq-eqb}
use Rattle.std.proofs.lemmas.Option.{same_Some}
use Rattle.base_items.specs.declared.items.Fact.{Fact}
use Rattle.base_items.specs.declared.items.ItemSort.TheVariants as sorts
use Rattle.plain_digraph.specs.Facts.{with_source, with_target, turned}
use Rattle.plain_digraph.specs.Digraph.{Digraph}
use Rattle.plain_digraph.specs.Items.{IsLive, fact_of}
use Rattle.plain_digraph.specs.Steps.{move_from, move_to, turn}
use Rattle.plain_digraph.specs.ToldLaws.{Tells}
use Rattle.plain_digraph.specs.Valid.{IsValid}
use Rattle.plain_digraph.proofs.StepTold.{moved_source_tells, moved_target_tells, turned_tells}
use Rattle.alter_graph.specs.Present.{fact_at}
use Rattle.alter_graph.proofs.Listing.{live_id, live_told}

told_is : (g h : Digraph) (arc : ℕ) (now told : Fact) → Tells g now h → now.id ≡ arc
    → fact_of h sorts.Arc arc ≡ Some told → told ≡ now
told_is g h arc now told tells id e =
    same_Some told now (sym e ∙ tells.arcs arc
    ∙ ap (λ b. cond b (Some now) (fact_of g sorts.Arc arc)) (eq-eqb arc now.id (sym id)))

module _ (g : Digraph) (arc : ℕ) (valid : IsValid g) (live : IsLive g sorts.Arc arc)
    (told : Fact) where
  abbrev was : Fact
  was = fact_at g sorts.Arc arc

  id : was.id ≡ arc
  id = live_id g sorts.Arc valid arc live

  was_told : fact_of g sorts.Arc was.id ≡ Some was
  was_told = ap (fact_of g sorts.Arc) id ∙ live_told g sorts.Arc valid arc live

  pub source_told : (node : ℕ) → fact_of (move_from g arc node) sorts.Arc arc ≡ Some told
      → told ≡ with_source was node g.stamps
  source_told node e = told_is g (move_from g arc node) arc (with_source was node g.stamps) told
      (subst (λ a. Tells g (with_source was node g.stamps) (move_from g a node)) id
      (moved_source_tells g was node was_told)) id e

  pub target_told : (node : ℕ) → fact_of (move_to g arc node) sorts.Arc arc ≡ Some told
      → told ≡ with_target was node g.stamps
  target_told node e = told_is g (move_to g arc node) arc (with_target was node g.stamps) told
      (subst (λ a. Tells g (with_target was node g.stamps) (move_to g a node)) id
      (moved_target_tells g was node was_told)) id e

  pub turn_told : fact_of (turn g arc) sorts.Arc arc ≡ Some told → told ≡ turned was g.stamps
  turn_told e = told_is g (turn g arc) arc (turned was g.stamps) told
      (subst (λ a. Tells g (turned was g.stamps) (turn g a)) id (turned_tells g was was_told)) id e
