-- A copy after a plain step.
use Rattle.std.proofs.Common.{◌≡◌, ℕ, true, false, cond, refl, sym, ◌∙◌, ap, subst}
use Rattle.std.proofs.Common.{Option, None, Some}
use Rattle.base_items.specs.declared.items.Fact.{Fact}
use Rattle.plain_digraph.specs.Digraph.{Digraph}
use Rattle.plain_digraph.specs.Items.{stamp_of}
use Rattle.plain_digraph.specs.PlainSteps.{PlainStep, AddNode, AddArc, MoveFrom, MoveTo, Turn}
use Rattle.plain_digraph.specs.PlainSteps.{PlaceBack, EraseArc, EraseNode, ClearArcs, ClearNodes}
use Rattle.plain_digraph.specs.PlainSteps.{after_step}
use Rattle.plain_digraph.specs.Copies.{Copy, loses}
use Rattle.plain_digraph.specs.Valid as digraph
use Rattle.plain_digraph.specs.RestoreLaws.{LeavesStamps}
use Rattle.plain_digraph.proofs.Kept.{kept_if_not_lost}
use Rattle.plain_digraph.proofs.StampsApart.{stamps_stay_apart}
use Rattle.plain_world.specs.Following.{snapshot_after}
use Rattle.plain_world.specs.Valid.{IsCopy, IsSnapshot}
use Rattle.plain_world.proofs.CopyStamps.{told_stamps}

-- no other arc of the copy has a stamp of the fact
abbrev pub LeavesCopy : Fact → Copy → Type 0
LeavesCopy fact copy = ((arc : ℕ) → stamp_of copy.by_source arc ≡ Some fact.from_at
    → fact.id ≡ arc)
    × ((arc : ℕ) → stamp_of copy.by_target arc ≡ Some fact.to_at → fact.id ≡ arc)

copy_stays : (g : Digraph) (step : PlainStep) (copy : Copy) → digraph.IsValid g
    → (is : IsCopy g copy) → LeavesStamps is.copied g step → loses copy g step ≡ false
    → IsCopy (after_step g step) copy
copy_stays g step copy valid is leaves kept = record {
  copied = is.copied;
  copied_ok = is.copied_ok;
  is_copied = is.is_copied;
  keeps = kept_if_not_lost is.copied g step is.copied_ok valid is.keeps
      (ap (λ c. loses c g step) is.is_copied ∙ kept);
  apart = stamps_stay_apart is.copied g step is.copied_ok valid is.apart leaves;
}

-- what a step leaves of the stamps of each snapshot
abbrev pub LeavesSnapshot : PlainStep → Option Copy → Type 0
LeavesSnapshot (PlaceBack fact) (Some copy) = LeavesCopy fact copy
LeavesSnapshot step o = Unit {0}

abbrev pub MovesLive : Digraph → PlainStep → Type 0
MovesLive g (MoveFrom arc node) = LeavesStamps g g (MoveFrom arc node)
MovesLive g (MoveTo arc node) = LeavesStamps g g (MoveTo arc node)
MovesLive g (Turn arc) = LeavesStamps g g (Turn arc)
MovesLive g step = Unit {0}

leaves_copied : (g : Digraph) (step : PlainStep) (copy : Copy) (is : IsCopy g copy)
    → MovesLive g step → LeavesSnapshot step (Some copy) → LeavesStamps is.copied g step
leaves_copied g (PlaceBack fact) copy is live leaves = λ arc was told differ.
    let stamps = told_stamps is.copied arc was told in
    let source : stamp_of copy.by_source arc ≡ Some was.from_at =
    subst (λ (c : Copy). stamp_of c.by_source arc ≡ Some was.from_at) is.is_copied stamps.0 in
    let target : stamp_of copy.by_target arc ≡ Some was.to_at =
    subst (λ (c : Copy). stamp_of c.by_target arc ≡ Some was.to_at) is.is_copied stamps.1 in (
      λ same. differ (leaves.0 arc (source ∙ ap Some (sym same))),
      λ same. differ (leaves.1 arc (target ∙ ap Some (sym same))),
    )
leaves_copied g (MoveFrom arc node) copy is live leaves = live
leaves_copied g (MoveTo arc node) copy is live leaves = live
leaves_copied g (Turn arc) copy is live leaves = live
leaves_copied g AddNode copy is live leaves = tt
leaves_copied g (AddArc from to) copy is live leaves = tt
leaves_copied g (EraseArc arc) copy is live leaves = tt
leaves_copied g (EraseNode node) copy is live leaves = tt
leaves_copied g ClearArcs copy is live leaves = tt
leaves_copied g ClearNodes copy is live leaves = tt

pub snapshot_stays : (g : Digraph) (step : PlainStep) (o : Option Copy) → digraph.IsValid g
    → MovesLive g step → LeavesSnapshot step o → IsSnapshot g o
    → IsSnapshot (after_step g step) (snapshot_after g step o)
snapshot_stays g step None valid live leaves is = tt
snapshot_stays g step (Some copy) valid live leaves is =
    elim (loses copy g step) as (λ b. loses copy g step ≡ b
    → IsSnapshot (after_step g step) (cond b None (Some copy))) [
      | true ↦ λ lost. tt
      | false ↦ λ kept.
          copy_stays g step copy valid is (leaves_copied g step copy is live leaves) kept
    ] refl
