-- Alterations, and what holds of the world.
use Rattle.std.proofs.Common.{◌≡◌, ◌+◌, ◌≤◌, ℕ, Bool, true, refl, sym, ◌∙◌, ap, subst}
use Rattle.std.proofs.Common.{List, [], ◌∷◌, ◌++◌, map, filter, length, Option, None, Some}
use Rattle.std.proofs.Common.{Contains, inl, inr, arith}
use Rattle.std.specs.Prelude.{fold, ◌==◌}
use Rattle.std.proofs.lemmas.Bool.{true≢false, or_cases, eqb-true}
use Rattle.std.proofs.lemmas.List.{append-nil, length-map}
use Rattle.std.proofs.lemmas.List.Elements.{All-weaker}
use Rattle.std.proofs.lemmas.List.Sums.{fold-append}
use Rattle.base_items.specs.declared.items.Fact.{Fact}
use Rattle.base_items.specs.declared.items.ItemSort.TheVariants.{Node, Arc}
use Rattle.base_items.specs.declared.limits.TheConstants.{MAX_STAMP}
use Rattle.plain_digraph.specs.Lists.{AllOf, has}
use Rattle.plain_digraph.specs.Digraph.{Digraph}
use Rattle.plain_digraph.specs.Items.{IsLive, out_arcs, in_arcs, source_of, target_of}
use Rattle.plain_digraph.specs.PlainSteps.{PlainStep, PlaceBack}
use Rattle.plain_digraph.specs.PlainSteps.{after_steps}
use Rattle.plain_digraph.specs.Copies.{Copy, copy_of, moved}
use Rattle.plain_digraph.specs.Alterations.{Alteration, unrolled, refusable_steps, all_steps}
use Rattle.plain_digraph.specs.Alterations.{single, sources_to, targets_to, node_erasure}
use Rattle.plain_digraph.specs.Alterations.{arc_erasure, clearing, contraction, loop_contraction}
use Rattle.plain_digraph.specs.Alterations.{restoring, is_neither}
use Rattle.plain_digraph.specs.Valid as digraph
use Rattle.plain_digraph.specs.ValidLaws.{HasNoArc}
use Rattle.plain_digraph.specs.RestoreLaws.{Keeps, StampsApart}
use Rattle.plain_digraph.proofs.Changes.{valid_nothing}
use Rattle.plain_digraph.proofs.Contracted.{contraction_is_known, loop_contraction_is_known}
use Rattle.plain_digraph.proofs.Filters.{filter_has}
use Rattle.plain_digraph.proofs.Orders.{out_arc_own, in_arc_own, out_arcs_once, in_arcs_once}
use Rattle.plain_digraph.proofs.StepLiving.{live_items_stay_throughout}
use Rattle.plain_digraph.proofs.StepOrders.{all_if_each}
use Rattle.plain_digraph.proofs.Unrolled.{steps_in_turn}
use Rattle.plain_world.specs.World.{World}
use Rattle.plain_world.specs.Following.{follow, altered}
use Rattle.plain_world.specs.Valid.{IsCopy, CopiesAgree}
use Rattle.plain_world.proofs.CopyKept.{LeavesSnapshot}
use Rattle.plain_world.proofs.CopyStamps.{told_stamps}
use Rattle.plain_world.proofs.CopiesKept.{Snapshots, LeaveSnapshots, copies_in, all_listed}
use Rattle.plain_world.proofs.Erasures.{node_can_go, node_goes_surely}
use Rattle.plain_world.proofs.Followed.{graphs_follow}
use Rattle.plain_world.proofs.Passing.{Passes}
use Rattle.plain_world.proofs.Moves.{both_can, both_shift, all_moved, shifts_are_moves}
use Rattle.plain_world.proofs.Moves.{shifts_leave}
use Rattle.plain_world.proofs.Restoring.{IsTold, told_moved, placed_moves, back_can, rest_can}
use Rattle.plain_world.proofs.Restoring.{rest_sure}
use Rattle.plain_world.proofs.StepsKept.{CanSteps, valid_throughout, IsMove, IsSure, LeaveAll}
use Rattle.plain_world.proofs.StepsKept.{moves_refusable, moves_kept, sure_kept}
use Rattle.plain_world.proofs.WorldParts.{Parts}

-- moves that guards let through, and then sure steps
altered_kept : (w : World) (alteration : Alteration) (front : List PlainStep)
    → refusable_steps w.graph alteration ≡ front → Parts w → AllOf IsMove front
    → CanSteps w.graph front → Passes w.guards w.graph (refusable_steps w.graph alteration)
    → LeaveAll front w.snapshots
    → AllOf IsSure (unrolled (after_steps w.graph front) alteration.sure)
    → CanSteps (after_steps w.graph front) (unrolled (after_steps w.graph front) alteration.sure)
    → Parts (altered w alteration)
altered_kept w alteration front known ok are can passes leave sure can_sure =
    let g = w.graph in
    let back = unrolled (after_steps g front) alteration.sure in
    let middle = fold follow w front in
    let kept = moves_kept front w None None ok are can (subst (Passes w.guards g) known passes)
    leave in
    let last = sure_kept back middle kept sure
    (subst (λ h. CanSteps h back) (sym (graphs_follow front w)) can_sure) in
    let all : all_steps g alteration ≡ front ++ back =
    steps_in_turn g alteration
    ∙ ap (λ steps. steps ++ unrolled (after_steps g steps) alteration.sure) known in
    subst (λ steps. Parts (fold follow w steps)) (sym all)
    (subst Parts (sym (fold-append follow w front back)) last)

-- ---- one step, and erasures

pub single_kept : (w : World) (step : PlainStep) → Parts w → IsMove step
    → CanSteps w.graph (step ∷ []) → Passes w.guards w.graph (step ∷ [])
    → LeaveAll (step ∷ []) w.snapshots → Parts (altered w (single step))
single_kept w step ok is can passes leave =
    altered_kept w (single step) (step ∷ []) refl ok (is, tt) can passes leave tt tt

pub node_erased : (w : World) (node : ℕ) → Parts w → IsLive w.graph Node node
    → Parts (altered w (node_erasure node))
node_erased w node ok live =
    altered_kept w (node_erasure node) [] refl ok tt tt tt tt (node_goes_surely w.graph node)
    (node_can_go w.graph node ok.graph_ok live)

pub arc_erased : (w : World) (arc : ℕ) → Parts w → IsLive w.graph Arc arc
    → Parts (altered w (arc_erasure arc))
arc_erased w arc ok live =
    altered_kept w (arc_erasure arc) [] refl ok tt tt tt tt (refl, tt) (live, tt)

pub cleared : (w : World) → Parts w → Parts (altered w clearing)
cleared w ok =
    altered_kept w clearing [] refl ok tt tt tt tt (refl, (refl, tt))
    (tt, (valid_nothing w.graph ok.graph_ok, tt))

-- ---- contractions

out_live : (g : Digraph) (node : ℕ) → AllOf (IsLive g Arc) (out_arcs g node)
out_live g node =
    all_if_each (IsLive g Arc) (out_arcs g node) (λ arc at. (out_arc_own g node arc at).0)

in_live : (g : Digraph) (node : ℕ) → AllOf (IsLive g Arc) (in_arcs g node)
in_live g node =
    all_if_each (IsLive g Arc) (in_arcs g node) (λ arc at. (in_arc_own g node arc at).0)

one_of : (P : ℕ → Type 0) (xs : List ℕ) (x : ℕ) → AllOf P xs → has xs x ≡ true → P x
one_of P [] x all at = absurd (true≢false (sym at))
one_of P (y ∷ ys) x all at = elim (or_cases (y == x) (has ys x) at) [
  | inl same ↦ subst P (eqb-true y x same) all.0
  | inr later ↦ one_of P ys x all.1 later
]

part_live : (g : Digraph) (test : ℕ → Bool) (arcs : List ℕ) → AllOf (IsLive g Arc) arcs
    → AllOf (IsLive g Arc) (filter test arcs)
part_live g test arcs live =
    all_if_each (IsLive g Arc) (filter test arcs) (λ arc at.
    one_of (IsLive g Arc) arcs arc live (filter_has test arcs arc at).0)

pub contracted : (w : World) (u v : ℕ) → Parts w → IsLive w.graph Node u → IsLive w.graph Node v
    → w.graph.stamps + length (refusable_steps w.graph (contraction u v)) ≤ MAX_STAMP
    → Passes w.guards w.graph (refusable_steps w.graph (contraction u v))
    → Parts (altered w (contraction u v))
contracted w u v ok live_u live_v left passes =
    let g = w.graph in
    let out = filter (λ arc. is_neither u v (target_of g arc)) (out_arcs g v) in
    let into = filter (λ arc. is_neither u v (source_of g arc)) (in_arcs g v) in
    let front = sources_to u out ++ targets_to u into in
    let known = contraction_is_known g u v ok.graph_ok in
    let moves = shifts_are_moves front (both_shift u out into) in
    let can = both_can out into g u (part_live g _ (out_arcs g v) (out_live g v))
    (part_live g _ (in_arcs g v) (in_live g v)) live_u
    (subst (λ steps. g.stamps + length steps ≤ MAX_STAMP) known left) in
    let h = after_steps g front in
    altered_kept w (contraction u v) front known ok moves can passes
    (shifts_leave front w.snapshots (both_shift u out into)) (node_goes_surely h v)
    (node_can_go h v (valid_throughout g front ok.graph_ok can)
    (live_items_stay_throughout g front Node v (moves_refusable front moves) live_v))

pub loop_contracted : (w : World) (u v : ℕ) → Parts w → IsLive w.graph Node u
    → IsLive w.graph Node v → (u ≡ v → ⊥)
    → w.graph.stamps + length (refusable_steps w.graph (loop_contraction u v)) ≤ MAX_STAMP
    → Passes w.guards w.graph (refusable_steps w.graph (loop_contraction u v))
    → Parts (altered w (loop_contraction u v))
loop_contracted w u v ok live_u live_v apart left passes =
    let g = w.graph in
    let out = out_arcs g v in
    let into = in_arcs g v in
    let front = sources_to u out ++ targets_to u into in
    let known = loop_contraction_is_known g u v ok.graph_ok in
    let moves = shifts_are_moves front (both_shift u out into) in
    let can = both_can out into g u (out_live g v) (in_live g v) live_u
    (subst (λ steps. g.stamps + length steps ≤ MAX_STAMP) known left) in
    let bare : HasNoArc (after_steps g front) v =
    all_moved g u v apart (out_arcs_once g v ok.graph_ok) (in_arcs_once g v ok.graph_ok)
    (out_live g v) (in_live g v) in
    altered_kept w (loop_contraction u v) front known ok moves can passes
    (shifts_leave front w.snapshots (both_shift u out into)) (refl, tt)
    ((live_items_stay_throughout g front Node v (moves_refusable front moves) live_v, bare), tt)

-- ---- restoring

-- an arc that is placed back from one copy leaves the stamps of all
fact_leaves : (snapshots : Snapshots) (c : Digraph) (fact : Fact)
    → CopiesAgree (copies_in snapshots) → Contains (copies_in snapshots) (copy_of c)
    → IsTold c fact → LeaveSnapshots (PlaceBack fact) snapshots
fact_leaves snapshots c fact agree listed told =
    let stamps = told_stamps c fact.id fact told in
    let by_value : (o : Option Copy) → ((other : Copy) → o ≡ Some other
    → Contains (copies_in snapshots) other) → LeavesSnapshot (PlaceBack fact) o =
    λ o. elim o as (λ o. ((other : Copy) → o ≡ Some other
    → Contains (copies_in snapshots) other) → LeavesSnapshot (PlaceBack fact) o) [
      | None ↦ λ others. tt
      | Some other ↦ λ others.
          let both = agree (copy_of c) other listed (others other refl) in (
            λ arc at. both.0 fact.id arc fact.from_at stamps.0 at,
            λ arc at. both.1 fact.id arc fact.to_at stamps.1 at,
          )
    ] in
    All-weaker (λ e. (other : Copy) → e.value ≡ Some other
    → Contains (copies_in snapshots) other) (λ e. LeavesSnapshot (PlaceBack fact) e.value)
    (λ e others. by_value e.value others) snapshots (all_listed snapshots)

facts_leave : (snapshots : Snapshots) (c : Digraph) (facts : List Fact)
    → CopiesAgree (copies_in snapshots) → Contains (copies_in snapshots) (copy_of c)
    → AllOf (IsTold c) facts → LeaveAll (map PlaceBack facts) snapshots
facts_leave snapshots c [] agree listed told = tt
facts_leave snapshots c (fact ∷ facts) agree listed told = (
  fact_leaves snapshots c fact agree listed told.0,
  facts_leave snapshots c facts agree listed told.1,
)

pub restored_of : (w : World) (c : Digraph) → Parts w → digraph.IsValid c → Keeps c w.graph
    → StampsApart c w.graph → Contains (copies_in w.snapshots) (copy_of c)
    → w.graph.stamps + length (refusable_steps w.graph (restoring (copy_of c))) ≤ MAX_STAMP
    → Passes w.guards w.graph (refusable_steps w.graph (restoring (copy_of c)))
    → Parts (altered w (restoring (copy_of c)))
restored_of w c ok valid_c keeps apart listed left passes =
    let g = w.graph in
    let facts = moved (copy_of c) g in
    let front = map PlaceBack facts in
    let known : refusable_steps g (restoring (copy_of c)) ≡ front = append-nil front in
    let size = ap length known in
    let size_b = length-map facts PlaceBack in
    let few : g.stamps + length facts ≤ MAX_STAMP = omega (arith, left, size, size_b) in
    altered_kept w (restoring (copy_of c)) front known ok (placed_moves facts)
    (back_can c g valid_c ok.graph_ok keeps apart few) passes
    (facts_leave w.snapshots c facts ok.copies_agree listed (told_moved c g))
    (rest_sure c (after_steps g front)) (rest_can c g valid_c ok.graph_ok keeps apart few)

pub restored : (w : World) (copy : Copy) → Parts w → IsCopy w.graph copy
    → Contains (copies_in w.snapshots) copy
    → w.graph.stamps + length (refusable_steps w.graph (restoring copy)) ≤ MAX_STAMP
    → Passes w.guards w.graph (refusable_steps w.graph (restoring copy))
    → Parts (altered w (restoring copy))
restored w copy ok is =
    subst (λ c. Contains (copies_in w.snapshots) c
    → w.graph.stamps + length (refusable_steps w.graph (restoring c)) ≤ MAX_STAMP
    → Passes w.guards w.graph (refusable_steps w.graph (restoring c))
    → Parts (altered w (restoring c))) is.is_copied
    (restored_of w is.copied ok is.copied_ok is.keeps is.apart)
