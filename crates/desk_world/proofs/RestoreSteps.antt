-- The steps of a restoring can be taken in turn.
use Rattle.std.proofs.Common.{◌+◌, ◌≤◌, ℕ, List, [], ◌∷◌, ◌++◌, map, length}
use Rattle.base_items.specs.declared.items.ItemSort.TheVariants.{Node, Arc}
use Rattle.base_items.specs.declared.limits.TheConstants.{MAX_STAMP}
use Rattle.plain_digraph.specs.Alterations.{all_steps, arcs_out, nodes_out, places_back, restoring}
use Rattle.plain_digraph.specs.Alterations.{unrolled}
use Rattle.plain_digraph.specs.Copies.{Copy, added, copy_of, moved}
use Rattle.plain_digraph.specs.Digraph.{Digraph}
use Rattle.plain_digraph.specs.Lists.{AllOf}
use Rattle.plain_digraph.specs.PlainSteps.{PlainStep, AddNode, AddArc, MoveFrom, MoveTo, Turn}
use Rattle.plain_digraph.specs.PlainSteps.{PlaceBack, EraseArc, EraseNode, ClearArcs, ClearNodes}
use Rattle.plain_digraph.specs.PlainSteps.{after_step, after_steps}
use Rattle.plain_digraph.specs.RestoreLaws.{Keeps, StampsApart}
use Rattle.plain_digraph.specs.Valid.{IsValid}
use Rattle.alter_graph.specs.Steps.{CanTake, CanTakeAll}
use Rattle.plain_world.proofs.Erasures.{all_behind}
use Rattle.plain_world.proofs.Restoring.{back_can, rest_can, valid_placed}
use Rattle.plain_world.proofs.StepKept.{CanStep, valid_after}
use Rattle.plain_world.proofs.StepsKept.{CanSteps}
use Rattle.desk_world.proofs.Takes.{TakesAll, takes_both}

-- steps that the digraph can take, as the plain world can
taken_by : (steps : List PlainStep) (g : Digraph) → IsValid g → CanTakeAll steps g
    → CanSteps g steps → TakesAll steps g
taken_by [] g valid take can = tt
taken_by (step ∷ steps) g valid take can =
    let then = valid_after g step valid can.0 in
    (take.0, (then, taken_by steps (after_step g step) then take.1 can.1))

-- ---- erasures

abbrev IsErasure : PlainStep → Type 0
IsErasure AddNode = ⊥
IsErasure (AddArc from to) = ⊥
IsErasure (MoveFrom arc node) = ⊥
IsErasure (MoveTo arc node) = ⊥
IsErasure (Turn arc) = ⊥
IsErasure (PlaceBack fact) = ⊥
IsErasure (EraseArc arc) = Unit {0}
IsErasure (EraseNode node) = Unit {0}
IsErasure ClearArcs = ⊥
IsErasure ClearNodes = ⊥

erased_by : (steps : List PlainStep) (g : Digraph) → AllOf IsErasure steps → CanSteps g steps
    → CanTakeAll steps g
erased_by [] g all can = tt
erased_by (step ∷ steps) g all can =
    (here step all.0 can.0, erased_by steps (after_step g step) all.1 can.1)
  where
    here : (x : PlainStep) → IsErasure x → CanStep g x → CanTake x g
    here AddNode is can = absurd is
    here (AddArc from to) is can = absurd is
    here (MoveFrom arc node) is can = absurd is
    here (MoveTo arc node) is can = absurd is
    here (Turn arc) is can = absurd is
    here (PlaceBack fact) is can = absurd is
    here (EraseArc arc) is can = can
    here (EraseNode node) is can = can
    here ClearArcs is can = absurd is
    here ClearNodes is can = absurd is

arcs_erase : (arcs : List ℕ) → AllOf IsErasure (map EraseArc arcs)
arcs_erase [] = tt
arcs_erase (arc ∷ arcs) = (tt, arcs_erase arcs)

nodes_erase : (nodes : List ℕ) → AllOf IsErasure (map EraseNode nodes)
nodes_erase [] = tt
nodes_erase (node ∷ nodes) = (tt, nodes_erase nodes)

rest_erases : (copy : Copy) (g : Digraph)
    → AllOf IsErasure (unrolled g (arcs_out copy ∷ nodes_out copy ∷ []))
rest_erases copy g =
    let arcs = added copy g Arc in
    let nodes = added copy (after_steps g (map EraseArc arcs)) Node in
    all_behind IsErasure (map EraseArc arcs) (map EraseNode nodes ++ []) (arcs_erase arcs)
    (all_behind IsErasure (map EraseNode nodes) [] (nodes_erase nodes) tt)

-- ---- the restoring of the copy of a digraph

pub takes_restoring : (c g : Digraph) → IsValid c → IsValid g → Keeps c g → StampsApart c g
    → g.stamps + length (moved (copy_of c) g) ≤ MAX_STAMP
    → CanTakeAll (places_back (copy_of c) g) g → TakesAll (all_steps g (restoring (copy_of c))) g
takes_restoring c g valid_c valid keeps apart left take =
    let places = places_back (copy_of c) g in
    let g1 = after_steps g places in
    let rest : List PlainStep =
    unrolled g1 (arcs_out (copy_of c) ∷ nodes_out (copy_of c) ∷ []) in
    let can = rest_can c g valid_c valid keeps apart left in
    takes_both places rest g
    (taken_by places g valid take (back_can c g valid_c valid keeps apart left))
    (taken_by rest g1 (valid_placed c g valid_c valid keeps apart left)
    (erased_by rest g1 (rest_erases (copy_of c) g1) can) can)
