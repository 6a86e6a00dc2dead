-- Undone steps: what they ask, and what they give.
use Rattle.std.proofs.Common.{◌≡◌, ℕ, Some, refl, sym, ap, ◌∙◌, subst}
use Rattle.base_items.specs.declared.items.Fact.{Fact}
use Rattle.base_items.specs.declared.items.ItemSort.{ItemSort}
use Rattle.base_items.specs.declared.items.ItemSort.TheVariants as sorts
use Rattle.plain_digraph.specs.Digraph.{Digraph}
use Rattle.plain_digraph.specs.Items.{IsLive, used_of, fact_of, arc_fact}
use Rattle.plain_digraph.specs.Steps.{add_arc, new_arc, move_from}
use Rattle.plain_digraph.specs.PlainSteps.{MoveFrom}
use Rattle.plain_digraph.specs.Undo.{before_move, before_addition}
use Rattle.plain_digraph.specs.UndoLaws.{MovesTo, AddsTo}
use Rattle.plain_digraph.specs.Valid.{IsValid}
use Rattle.plain_digraph.specs.ValidLaws.{HasStampLeft, CanPlace}
use Rattle.plain_digraph.specs.RestoreLaws.{Keeps, StampsApart}
use Rattle.plain_digraph.proofs.Rows.{fact_of-id}
use Rattle.plain_digraph.proofs.Undone.{move_undone, addition_undone}
use Rattle.plain_digraph.proofs.CopyKept.{copy_is_kept}
use Rattle.plain_digraph.proofs.Kept.{kept_if_not_lost}
use Rattle.plain_digraph.proofs.StampsApart.{stamps_stay_apart}
use Rattle.plain_digraph.proofs.PlacedBack.{copied_can_be_placed}

-- After an addition, when so many ids were used before it.
module _ (g h : Digraph) (sort : ItemSort) (f : Fact) (used : ℕ) (valid : IsValid g)
    (size : used ≡ used_of g sort) (adds : AddsTo g sort f h) where
  pub taken_back : before_addition h sort f.id used ≡ g
  taken_back = ap (before_addition h sort f.id) size ∙ addition_undone g h sort f valid adds

  pub taken_valid : IsValid (before_addition h sort f.id used)
  taken_valid = subst IsValid (sym taken_back) valid

  pub taken_adds : AddsTo (before_addition h sort f.id used) sort f h
  taken_adds = subst (λ e. AddsTo e sort f h) (sym taken_back) adds

-- The addition of an arc leads on, and answers its fact.
pub adds_arc : (g h : Digraph) (from to : ℕ) (f : Fact) → h ≡ add_arc g from to
    → f ≡ arc_fact (new_arc g) (from, to) g.stamps g.stamps → AddsTo g sorts.Arc f h
adds_arc g h from to f added is = subst (λ x. AddsTo g sorts.Arc x h) (sym is) (sym added, refl)

-- A move of an arc is undone by the fact from before it.
pub record Back (g h : Digraph) (f : Fact) : Type 0 where
  pub same : before_move h f ≡ g
  pub valid : IsValid (before_move h f)
  pub moves : MovesTo (before_move h f) f.id h

pub back : (g h : Digraph) (arc : ℕ) (f : Fact) → IsValid g → fact_of g sorts.Arc arc ≡ Some f
    → MovesTo g arc h → Back g h f
back g h arc f valid told moves =
    let same = move_undone g h arc f valid told moves in
    let own : f.id ≡ arc = fact_of-id g sorts.Arc arc f told in
    record {
      same = same;
      valid = subst IsValid (sym same) valid;
      moves = subst (λ e. MovesTo e f.id h) (sym same) (subst (λ a. MovesTo g a h) (sym own) moves);
    }

-- An arc that was moved can be placed by the fact from before.
pub placed_back : (g h : Digraph) (arc node : ℕ) (f : Fact) → IsValid g → IsValid h
    → IsLive g sorts.Arc arc
    → fact_of g sorts.Arc arc ≡ Some f → h ≡ move_from g arc node → HasStampLeft h → CanPlace h f
placed_back g h arc node f valid later live told moved left =
    let start = copy_is_kept g valid in
    let own : f.id ≡ arc = fact_of-id g sorts.Arc arc f told in
    let keeps = kept_if_not_lost g g (MoveFrom arc node) valid valid start.0 refl in
    let apart = stamps_stay_apart g g (MoveFrom arc node) valid valid start.1 live in
    copied_can_be_placed g h f valid later (subst (Keeps g) (sym moved) keeps)
    (subst (StampsApart g) (sym moved) apart) left
    (ap (fact_of g sorts.Arc) own ∙ told)
