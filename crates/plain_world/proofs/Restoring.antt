-- The steps of a restoring can be taken.
use Rattle.std.proofs.Common.{◌≡◌, ◌≢◌, ◌+◌, ◌≤◌, ℕ, not, refl, sym, ◌∙◌, ap, List, [], ◌∷◌}
use Rattle.std.proofs.Common.{◌++◌, map, length, Some, arith}
use Rattle.std.proofs.lemmas.Bool.{true≢false}
use Rattle.base_items.specs.declared.items.Fact.{Fact}
use Rattle.base_items.specs.declared.items.ItemSort.TheVariants.{Node, Arc}
use Rattle.base_items.specs.declared.limits.TheConstants.{MAX_STAMP}
use Rattle.plain_digraph.specs.Lists.{AllOf}
use Rattle.plain_digraph.specs.Digraph.{Digraph}
use Rattle.plain_digraph.specs.Items.{fact_of}
use Rattle.plain_digraph.specs.Steps.{place}
use Rattle.plain_digraph.specs.PlainSteps.{PlainStep, PlaceBack, EraseArc, EraseNode, after_steps}
use Rattle.plain_digraph.specs.Copies.{copy_of, added, moved}
use Rattle.plain_digraph.specs.Alterations.{unrolled, arcs_out, nodes_out}
use Rattle.plain_digraph.specs.Valid as digraph
use Rattle.plain_digraph.specs.RestoreLaws.{Keeps, StampsApart}
use Rattle.plain_digraph.proofs.Bare.{arcs_are_copied, added_nodes_are_bare}
use Rattle.plain_digraph.proofs.Changes as changes
use Rattle.plain_digraph.proofs.CopyKept.{copy_is_kept, copies_leave_stamps}
use Rattle.plain_digraph.proofs.Kept.{kept_if_not_lost}
use Rattle.plain_digraph.proofs.MovedCopied.{moved_are_copied}
use Rattle.plain_digraph.proofs.PlacedBack.{copied_can_be_placed}
use Rattle.plain_digraph.proofs.StampsApart.{stamps_stay_apart}
use Rattle.plain_digraph.proofs.StepOrders.{all_if_each}
use Rattle.plain_world.proofs.Erasures.{all_weaker, all_behind, sure_arcs, sure_nodes, IsBare}
use Rattle.plain_world.proofs.Erasures.{arcs_can_go, nodes_can_go, added_once, added_live}
use Rattle.plain_world.proofs.StepsKept.{CanSteps, can_behind, valid_throughout, IsMove, IsSure}

abbrev pub IsTold : Digraph → Fact → Type 0
IsTold c was = fact_of c Arc was.id ≡ Some was

pub told_moved : (c g : Digraph) → AllOf (IsTold c) (moved (copy_of c) g)
told_moved c g =
    all_weaker (λ was. IsTold c was × ((now : Fact) → fact_of g Arc was.id ≡ Some now
    → was ≢ now)) (IsTold c) (λ was is. is.0) (moved (copy_of c) g) (moved_are_copied c g)

places_can : (facts : List Fact) (c g : Digraph) → digraph.IsValid c → digraph.IsValid g
    → Keeps c g → StampsApart c g → AllOf (IsTold c) facts → g.stamps + length facts ≤ MAX_STAMP
    → CanSteps g (map PlaceBack facts)
places_can [] c g valid_c valid keeps apart told left = tt
places_can (was ∷ facts) c g valid_c valid keeps apart told left =
    let can = copied_can_be_placed c g was valid_c valid keeps apart (omega (arith, left)) told.0 in
    let own = (copy_is_kept c valid_c).1 in (
      can,
      places_can facts c (place g was) valid_c (changes.valid_placed g was valid can)
          (kept_if_not_lost c g (PlaceBack was) valid_c valid keeps refl)
          (stamps_stay_apart c g (PlaceBack was) valid_c valid apart
          ((copies_leave_stamps c c g was own).0 told.0)) told.1 (omega (arith, left)),
    )

pub placed_moves : (facts : List Fact) → AllOf IsMove (map PlaceBack facts)
placed_moves [] = tt
placed_moves (was ∷ facts) = (tt, placed_moves facts)

module _ (c g : Digraph) (valid_c : digraph.IsValid c) (valid : digraph.IsValid g)
    (keeps : Keeps c g) (apart : StampsApart c g)
    (left : g.stamps + length (moved (copy_of c) g) ≤ MAX_STAMP)
  where
    abbrev pub back : List PlainStep
    back = map PlaceBack (moved (copy_of c) g)

    pub back_can : CanSteps g back
    back_can =
        places_can (moved (copy_of c) g) c g valid_c valid keeps apart (told_moved c g) left

    abbrev g1 : Digraph
    g1 = after_steps g back

    pub valid_placed : digraph.IsValid g1
    valid_placed = valid_throughout g back valid back_can

    abbrev arcs : List ℕ
    arcs = added (copy_of c) g1 Arc

    arcs_can : CanSteps g1 (map EraseArc arcs)
    arcs_can =
        arcs_can_go arcs g1 (added_once (copy_of c) g1 Arc)
        (all_if_each _ arcs (λ id at. (added_live (copy_of c) g1 Arc id valid_placed at).0))

    abbrev g2 : Digraph
    g2 = after_steps g1 (map EraseArc arcs)

    pub valid_without : digraph.IsValid g2
    valid_without = valid_throughout g1 (map EraseArc arcs) valid_placed arcs_can

    abbrev nodes : List ℕ
    nodes = added (copy_of c) g2 Node

    nodes_can : CanSteps g2 (map EraseNode nodes)
    nodes_can =
        nodes_can_go nodes g2 (added_once (copy_of c) g2 Node)
        (all_if_each (IsBare g2) nodes (λ id at.
        let is = added_live (copy_of c) g2 Node id valid_without at in (
          is.0,
          added_nodes_are_bare c g2 id valid_c valid_without
              (arcs_are_copied c g valid_c valid keeps valid_placed)
              (λ live. true≢false (sym is.1 ∙ ap not live)),
        )))

    pub rest_can : CanSteps g1 (unrolled g1 (arcs_out (copy_of c) ∷ nodes_out (copy_of c) ∷ []))
    rest_can =
        let last = map EraseNode nodes in
        can_behind g1 (map EraseArc arcs) (last ++ []) arcs_can
        (can_behind g2 last [] nodes_can tt)

pub rest_sure : (c g : Digraph)
    → AllOf IsSure (unrolled g (arcs_out (copy_of c) ∷ nodes_out (copy_of c) ∷ []))
rest_sure c g =
    let arcs = added (copy_of c) g Arc in
    let h = after_steps g (map EraseArc arcs) in
    let nodes = added (copy_of c) h Node in
    let last = map EraseNode nodes in
    all_behind IsSure (map EraseArc arcs) (last ++ []) (sure_arcs arcs)
    (all_behind IsSure last [] (sure_nodes nodes) tt)
