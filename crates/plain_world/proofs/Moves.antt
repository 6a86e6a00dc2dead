-- Arcs can be moved in turn.
use Rattle.std.proofs.Common.{◌≡◌, ◌+◌, ◌≤◌, ℕ, true, false, cond, refl, ◌∙◌, ap, List, []}
use Rattle.std.proofs.Common.{◌∷◌, ◌++◌, length, arith}
use Rattle.std.specs.List.{list_all}
use Rattle.std.proofs.lemmas.Bool.{ne_eqb}
use Rattle.std.proofs.lemmas.List.{length-append, length-map}
use Rattle.base_items.specs.declared.items.ItemSort.TheVariants.{Node, Arc}
use Rattle.base_items.specs.declared.limits.TheConstants.{MAX_STAMP}
use Rattle.plain_digraph.specs.Lists.{AllOf, has, without}
use Rattle.plain_digraph.specs.Digraph.{Digraph}
use Rattle.plain_digraph.specs.Items.{IsLive, out_arcs, in_arcs}
use Rattle.plain_digraph.specs.Steps.{move_from, move_to}
use Rattle.plain_digraph.specs.PlainSteps.{PlainStep, AddNode, AddArc, MoveFrom, MoveTo, Turn}
use Rattle.plain_digraph.specs.PlainSteps.{PlaceBack, EraseArc, EraseNode, ClearArcs, ClearNodes}
use Rattle.plain_digraph.specs.PlainSteps.{is_refusable, after_steps}
use Rattle.plain_digraph.specs.Alterations.{sources_to, targets_to}
use Rattle.plain_digraph.specs.Laws.{StandsOnce}
use Rattle.plain_digraph.specs.OrderLaws.{front_if}
use Rattle.plain_digraph.proofs.Counts.{without-parts}
use Rattle.plain_digraph.proofs.StepLiving.{live_items_stay, live_items_stay_throughout}
use Rattle.plain_digraph.proofs.StepOrders.{moved_source_lists, moved_target_lists}
use Rattle.plain_digraph.proofs.Unrolled.{steps_lead_on}
use Rattle.plain_digraph.proofs.Walks.{once_head, once_tail}
use Rattle.plain_world.proofs.CopiesKept.{LeaveSnapshots, Snapshots}
use Rattle.plain_world.proofs.Erasures.{all_weaker, all_behind}
use Rattle.plain_world.proofs.StepsKept.{CanSteps, can_behind, IsMove, LeaveAll}

-- ---- moves to other ends

abbrev pub IsShift : PlainStep → Type 0
IsShift (MoveFrom arc node) = Unit {0}
IsShift (MoveTo arc node) = Unit {0}
IsShift step = ⊥

pub shift_moves : (step : PlainStep) → IsShift step → IsMove step
shift_moves (MoveFrom arc node) is = tt
shift_moves (MoveTo arc node) is = tt
shift_moves AddNode is = absurd is
shift_moves (AddArc from to) is = absurd is
shift_moves (Turn arc) is = absurd is
shift_moves (PlaceBack fact) is = absurd is
shift_moves (EraseArc arc) is = absurd is
shift_moves (EraseNode node) is = absurd is
shift_moves ClearArcs is = absurd is
shift_moves ClearNodes is = absurd is

pub shift_leaves : (snapshots : Snapshots) (step : PlainStep) → IsShift step
    → LeaveSnapshots step snapshots
shift_leaves snapshots (MoveFrom arc node) is = λ k d within. tt
shift_leaves snapshots (MoveTo arc node) is = λ k d within. tt
shift_leaves snapshots AddNode is = absurd is
shift_leaves snapshots (AddArc from to) is = absurd is
shift_leaves snapshots (Turn arc) is = absurd is
shift_leaves snapshots (PlaceBack fact) is = absurd is
shift_leaves snapshots (EraseArc arc) is = absurd is
shift_leaves snapshots (EraseNode node) is = absurd is
shift_leaves snapshots ClearArcs is = absurd is
shift_leaves snapshots ClearNodes is = absurd is

pub sources_shift : (node : ℕ) (arcs : List ℕ) → AllOf IsShift (sources_to node arcs)
sources_shift node [] = tt
sources_shift node (arc ∷ arcs) = (tt, sources_shift node arcs)

pub targets_shift : (node : ℕ) (arcs : List ℕ) → AllOf IsShift (targets_to node arcs)
targets_shift node [] = tt
targets_shift node (arc ∷ arcs) = (tt, targets_shift node arcs)

pub shifts_are_moves : (steps : List PlainStep) → AllOf IsShift steps → AllOf IsMove steps
shifts_are_moves steps are = all_weaker IsShift IsMove shift_moves steps are

pub shifts_leave : (steps : List PlainStep) (snapshots : Snapshots) → AllOf IsShift steps
    → LeaveAll steps snapshots
shifts_leave steps snapshots are =
    all_weaker IsShift (λ step. LeaveSnapshots step snapshots) (shift_leaves snapshots) steps are

-- ---- sources

pub sources_refusable : (node : ℕ) (arcs : List ℕ)
    → list_all is_refusable (sources_to node arcs) ≡ true
sources_refusable node [] = refl
sources_refusable node (arc ∷ arcs) = sources_refusable node arcs

pub targets_refusable : (node : ℕ) (arcs : List ℕ)
    → list_all is_refusable (targets_to node arcs) ≡ true
targets_refusable node [] = refl
targets_refusable node (arc ∷ arcs) = targets_refusable node arcs

pub sources_stamps : (arcs : List ℕ) (g : Digraph) (node : ℕ)
    → (after_steps g (sources_to node arcs)).stamps ≡ g.stamps + length arcs
sources_stamps [] g node = omega arith
sources_stamps (arc ∷ arcs) g node =
    let rest = sources_stamps arcs (move_from g arc node) node in
    omega (arith, rest)

pub sources_can : (arcs : List ℕ) (g : Digraph) (node : ℕ) → AllOf (IsLive g Arc) arcs
    → IsLive g Node node → g.stamps + length arcs ≤ MAX_STAMP → CanSteps g (sources_to node arcs)
sources_can [] g node live to left = tt
sources_can (arc ∷ arcs) g node live to left =
    let h = move_from g arc node in (
      (live.0, to, omega (arith, left)),
      sources_can arcs h node
          (all_weaker (IsLive g Arc) (IsLive h Arc)
          (λ x is. live_items_stay g (MoveFrom arc node) Arc x refl is) arcs live.1)
          to (omega (arith, left)),
    )

pub targets_can : (arcs : List ℕ) (g : Digraph) (node : ℕ) → AllOf (IsLive g Arc) arcs
    → IsLive g Node node → g.stamps + length arcs ≤ MAX_STAMP → CanSteps g (targets_to node arcs)
targets_can [] g node live to left = tt
targets_can (arc ∷ arcs) g node live to left =
    let h = move_to g arc node in (
      (live.0, to, omega (arith, left)),
      targets_can arcs h node
          (all_weaker (IsLive g Arc) (IsLive h Arc)
          (λ x is. live_items_stay g (MoveTo arc node) Arc x refl is) arcs live.1)
          to (omega (arith, left)),
    )

-- sources, and then targets
pub both_can : (sources targets : List ℕ) (g : Digraph) (node : ℕ)
    → AllOf (IsLive g Arc) sources → AllOf (IsLive g Arc) targets → IsLive g Node node
    → g.stamps + length (sources_to node sources ++ targets_to node targets) ≤ MAX_STAMP
    → CanSteps g (sources_to node sources ++ targets_to node targets)
both_can sources targets g node live also to left =
    let first = sources_to node sources in
    let second = targets_to node targets in
    let h = after_steps g first in
    let size = length-append first second in
    let size_a = length-map sources (λ arc. MoveFrom arc node) in
    let size_b = length-map targets (λ arc. MoveTo arc node) in
    let stamps = sources_stamps sources g node in
    can_behind g first second
    (sources_can sources g node live to (omega (arith, left, size, size_a)))
    (targets_can targets h node
    (all_weaker (IsLive g Arc) (IsLive h Arc)
    (λ x is. live_items_stay_throughout g first Arc x (sources_refusable node sources) is) targets
    also)
    (live_items_stay_throughout g first Node node (sources_refusable node sources) to)
    (omega (arith, left, size, size_a, size_b, stamps)))

pub both_shift : (node : ℕ) (sources targets : List ℕ)
    → AllOf IsShift (sources_to node sources ++ targets_to node targets)
both_shift node sources targets =
    all_behind IsShift (sources_to node sources) (targets_to node targets)
    (sources_shift node sources) (targets_shift node targets)

-- ---- a node that loses all its arcs

-- the first of the list is gone once its end is another one
moved_on : (u v arc : ℕ) (rest : List ℕ) → (u ≡ v → ⊥) → has rest arc ≡ false
    → front_if u v arc (arc ∷ rest) ≡ rest
moved_on u v arc rest apart lacks =
    let less = without (arc ∷ rest) arc in
    ap (λ b. cond b (arc ∷ less) less) (ne_eqb u v apart) ∙ without-parts [] rest arc refl lacks

out_moved : (arcs : List ℕ) (g : Digraph) (u v : ℕ) → (u ≡ v → ⊥) → StandsOnce arcs
    → AllOf (IsLive g Arc) arcs → out_arcs g v ≡ arcs
    → (out_arcs (after_steps g (sources_to u arcs)) v ≡ [])
    × (in_arcs (after_steps g (sources_to u arcs)) v ≡ in_arcs g v)
out_moved [] g u v apart once live are = (are, refl)
out_moved (arc ∷ arcs) g u v apart once live are =
    let h = move_from g arc u in
    let lists = moved_source_lists g arc u v live.0 in
    let rest = out_moved arcs h u v apart (once_tail arc arcs once)
    (all_weaker (IsLive g Arc) (IsLive h Arc)
    (λ x is. live_items_stay g (MoveFrom arc u) Arc x refl is) arcs live.1)
    (lists.0 ∙ (ap (front_if u v arc) are
    ∙ moved_on u v arc arcs apart (once_head arc arcs once))) in
    (rest.0, rest.1 ∙ lists.1)

in_moved : (arcs : List ℕ) (g : Digraph) (u v : ℕ) → (u ≡ v → ⊥) → StandsOnce arcs
    → AllOf (IsLive g Arc) arcs → in_arcs g v ≡ arcs
    → (out_arcs (after_steps g (targets_to u arcs)) v ≡ out_arcs g v)
    × (in_arcs (after_steps g (targets_to u arcs)) v ≡ [])
in_moved [] g u v apart once live are = (refl, are)
in_moved (arc ∷ arcs) g u v apart once live are =
    let h = move_to g arc u in
    let lists = moved_target_lists g arc u v live.0 in
    let rest = in_moved arcs h u v apart (once_tail arc arcs once)
    (all_weaker (IsLive g Arc) (IsLive h Arc)
    (λ x is. live_items_stay g (MoveTo arc u) Arc x refl is) arcs live.1)
    (lists.1 ∙ (ap (front_if u v arc) are
    ∙ moved_on u v arc arcs apart (once_head arc arcs once))) in
    (rest.0 ∙ lists.0, rest.1)

pub all_moved : (g : Digraph) (u v : ℕ) → (u ≡ v → ⊥) → StandsOnce (out_arcs g v)
    → StandsOnce (in_arcs g v) → AllOf (IsLive g Arc) (out_arcs g v)
    → AllOf (IsLive g Arc) (in_arcs g v)
    → (out_arcs (after_steps g (sources_to u (out_arcs g v) ++ targets_to u (in_arcs g v))) v ≡ [])
    × (in_arcs (after_steps g (sources_to u (out_arcs g v) ++ targets_to u (in_arcs g v))) v ≡ [])
all_moved g u v apart once_out once_in live also =
    let first = sources_to u (out_arcs g v) in
    let second = targets_to u (in_arcs g v) in
    let h = after_steps g first in
    let out = out_moved (out_arcs g v) g u v apart once_out live refl in
    let into = in_moved (in_arcs g v) h u v apart once_in
    (all_weaker (IsLive g Arc) (IsLive h Arc)
    (λ x is. live_items_stay_throughout g first Arc x (sources_refusable u (out_arcs g v)) is)
    (in_arcs g v) also) out.1 in
    let same = steps_lead_on g first second in (
      ap (λ k. out_arcs k v) same ∙ (into.0 ∙ out.0),
      ap (λ k. in_arcs k v) same ∙ into.1,
    )
