-- How many stamps an alteration takes.
use Rattle.std.proofs.Common.{◌≡◌, ◌+◌, ◌<◌, ◌≤◌, ◌*◌, false, true, List, [], ◌∷◌, length}
use Rattle.std.proofs.Common.{refl, ap, ◌∙◌, arith}
use Rattle.base_items.specs.declared.limits.TheConstants.{MAX_ARCS}
use Rattle.plain_digraph.specs.Digraph.{Digraph}
use Rattle.plain_digraph.specs.Lists.{AllOf}
use Rattle.plain_digraph.specs.PlainSteps.{PlainStep, AddNode, AddArc, MoveFrom, MoveTo, Turn}
use Rattle.plain_digraph.specs.PlainSteps.{PlaceBack, EraseArc, EraseNode, ClearArcs, ClearNodes}
use Rattle.plain_digraph.specs.PlainSteps.{after_step, after_steps}
use Rattle.plain_digraph.specs.Alterations.{Alteration, all_steps, refusable_steps, unrolled}
use Rattle.plain_digraph.proofs.Unrolled.{steps_in_turn, steps_lead_on}
use Rattle.plain_world.proofs.StepsKept.{IsSure}

one_stamp : (g : Digraph) (step : PlainStep) → (after_step g step).stamps ≤ g.stamps + 1
one_stamp g AddNode = omega arith
one_stamp g (AddArc from to) = omega arith
one_stamp g (MoveFrom arc node) = omega arith
one_stamp g (MoveTo arc node) = omega arith
one_stamp g (Turn arc) = omega arith
one_stamp g (PlaceBack fact) = omega arith
one_stamp g (EraseArc arc) = omega arith
one_stamp g (EraseNode node) = omega arith
one_stamp g ClearArcs = omega arith
one_stamp g ClearNodes = omega arith

unlike : {X : Type 0} → true ≡ false → X
unlike e = absurd (contrary e)
  where
    contrary : true ≡ false → ⊥
    contrary e = cc

no_stamp : (g : Digraph) (step : PlainStep) → IsSure step → (after_step g step).stamps ≡ g.stamps
no_stamp g AddNode sure = unlike sure
no_stamp g (AddArc from to) sure = unlike sure
no_stamp g (MoveFrom arc node) sure = unlike sure
no_stamp g (MoveTo arc node) sure = unlike sure
no_stamp g (Turn arc) sure = unlike sure
no_stamp g (PlaceBack fact) sure = unlike sure
no_stamp g (EraseArc arc) sure = refl
no_stamp g (EraseNode node) sure = refl
no_stamp g ClearArcs sure = refl
no_stamp g ClearNodes sure = refl

-- each step takes one at most
pub steps_take : (g : Digraph) (steps : List PlainStep)
    → (after_steps g steps).stamps ≤ g.stamps + length steps
steps_take g [] = omega arith
steps_take g (step ∷ steps) =
    let one = one_stamp g step in
    let rest = steps_take (after_step g step) steps in
    omega (arith, one, rest)

-- sure ones take none
pub sure_take : (g : Digraph) (steps : List PlainStep) → AllOf IsSure steps
    → (after_steps g steps).stamps ≡ g.stamps
sure_take g [] sure = refl
sure_take g (step ∷ steps) sure =
    sure_take (after_step g step) steps sure.1 ∙ no_stamp g step sure.0

-- an alteration takes those of its refusable steps, at most
pub few_stamps : (g h : Digraph) (alteration : Alteration)
    → AllOf IsSure (unrolled (after_steps g (refusable_steps g alteration)) alteration.sure)
    → length (refusable_steps g alteration) ≤ 2 * MAX_ARCS
    → h ≡ after_steps g (all_steps g alteration) → h.stamps < g.stamps + 16777216
few_stamps g h alteration sure few is =
    let front = refusable_steps g alteration in
    let middle = after_steps g front in
    let back = unrolled middle alteration.sure in
    let all : h ≡ after_steps middle back =
    is ∙ ap (after_steps g) (steps_in_turn g alteration) ∙ steps_lead_on g front back in
    let taken = steps_take g front in
    let last = ap (λ (k : Digraph). k.stamps) all ∙ sure_take middle back sure in
    omega (arith, taken, last, few)
