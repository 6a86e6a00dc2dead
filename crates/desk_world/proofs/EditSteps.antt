-- The steps of the alterations that make no item.
use Rattle.std.proofs.Common.{◌≡◌, ◌+◌, ◌≤◌, ◌*◌, true, false, List, [], ◌∷◌, length}
use Rattle.std.proofs.Common.{refl, sym, subst, arith, filter}
use Rattle.base_items.specs.declared.limits.TheConstants.{MAX_ARCS, MAX_STAMP}
use Rattle.plain_digraph.specs.Digraph.{Digraph}
use Rattle.plain_digraph.specs.Items.{source_of, target_of, out_arcs, in_arcs}
use Rattle.plain_digraph.specs.Lists.{AllOf}
use Rattle.plain_digraph.specs.PlainSteps.{PlainStep, AddNode, AddArc, MoveFrom, MoveTo, Turn}
use Rattle.plain_digraph.specs.PlainSteps.{PlaceBack, EraseArc, EraseNode, ClearArcs, ClearNodes}
use Rattle.plain_digraph.specs.PlainSteps.{after_steps}
use Rattle.plain_digraph.specs.Alterations.{all_steps, refusable_steps, unrolled}
use Rattle.plain_digraph.specs.Alterations.{contraction, is_neither}
use Rattle.plain_digraph.specs.Valid.{IsValid}
use Rattle.plain_digraph.proofs.Contracted.{contraction_is_known, loop_contraction_is_known}
use Rattle.alter_graph.specs.Room.{HasRoomFor, nodes_by, nodes_in, arcs_by, arcs_in}
use Rattle.plain_world.proofs.Erasures.{node_goes_surely}
use Rattle.plain_world.proofs.Moves.{IsShift, both_shift}
use Rattle.plain_world.proofs.StepsKept.{IsSure}
use Rattle.desk_world.specs.declared.alterations.Edit.{Edit}
use Rattle.desk_world.specs.declared.alterations.Edit.TheVariants as edits
use Rattle.desk_world.specs.Edits.{alteration_by, CanEdit}
use Rattle.desk_world.proofs.Takes.{TakesAll, takes_single}
use Rattle.desk_world.proofs.TakesAll.{takes_arc_erasure, takes_node_erasure}
use Rattle.desk_world.proofs.TakesAll.{takes_clearing, takes_contraction}

-- each of them can be taken
pub edit_takes : (edit : Edit) (g : Digraph) → IsValid g → CanEdit edit g
    → IsValid (after_steps g (all_steps g (alteration_by edit)))
    → TakesAll (all_steps g (alteration_by edit)) g
edit_takes (edits.EraseNode node) g valid can then = takes_node_erasure g valid node.0 can
edit_takes (edits.EraseArc arc) g valid can then = takes_arc_erasure g valid arc.0 can
edit_takes edits.Clear g valid can then = takes_clearing g valid
edit_takes (edits.MoveFrom arc node) g valid can then =
    takes_single (MoveFrom arc.0 node.0) g can then
edit_takes (edits.MoveTo arc node) g valid can then = takes_single (MoveTo arc.0 node.0) g can then
edit_takes (edits.Turn arc) g valid can then = takes_single (Turn arc.0) g can then
edit_takes (edits.Contract u v loops) g valid can then =
    takes_contraction g valid loops u v can.2 can.0 can.1 then

-- those behind the refusable ones are sure
pub edit_sure : (edit : Edit) (g : Digraph) → AllOf IsSure
    (unrolled (after_steps g (refusable_steps g (alteration_by edit))) (alteration_by edit).sure)
edit_sure (edits.EraseNode node) g = node_goes_surely g node.0
edit_sure (edits.EraseArc arc) g = (refl, tt)
edit_sure edits.Clear g = (refl, (refl, tt))
edit_sure (edits.MoveFrom arc node) g = tt
edit_sure (edits.MoveTo arc node) g = tt
edit_sure (edits.Turn arc) g = tt
edit_sure (edits.Contract u v false) g =
    node_goes_surely (after_steps g (refusable_steps g (contraction u.0 v.0))) v.0
edit_sure (edits.Contract u v true) g = (refl, tt)

-- moves add nothing
record AddNothing (steps : List PlainStep) : Type 0 where
  nodes : nodes_in steps ≡ 0
  arcs : arcs_in steps ≡ 0

one_more : (step : PlainStep) (steps : List PlainStep) → nodes_by step ≡ 0 → arcs_by step ≡ 0
    → AddNothing steps → AddNothing (step ∷ steps)
one_more step steps none also rest =
    let nodes = rest.nodes in
    let arcs = rest.arcs in
    record { nodes = omega (arith, none, nodes); arcs = omega (arith, also, arcs) }

shifts_add : (steps : List PlainStep) → AllOf IsShift steps → AddNothing steps
shifts_add [] all = record { nodes = refl; arcs = refl }
shifts_add (MoveFrom arc node ∷ steps) all =
    one_more (MoveFrom arc node) steps refl refl (shifts_add steps all.1)
shifts_add (MoveTo arc node ∷ steps) all =
    one_more (MoveTo arc node) steps refl refl (shifts_add steps all.1)
shifts_add (AddNode ∷ steps) all = absurd all.0
shifts_add (AddArc from to ∷ steps) all = absurd all.0
shifts_add (Turn arc ∷ steps) all = absurd all.0
shifts_add (PlaceBack fact ∷ steps) all = absurd all.0
shifts_add (EraseArc arc ∷ steps) all = absurd all.0
shifts_add (EraseNode node ∷ steps) all = absurd all.0
shifts_add (ClearArcs ∷ steps) all = absurd all.0
shifts_add (ClearNodes ∷ steps) all = absurd all.0

edit_adds : (edit : Edit) (g : Digraph) → IsValid g
    → AddNothing (refusable_steps g (alteration_by edit))
edit_adds (edits.EraseNode node) g valid = record { nodes = refl; arcs = refl }
edit_adds (edits.EraseArc arc) g valid = record { nodes = refl; arcs = refl }
edit_adds edits.Clear g valid = record { nodes = refl; arcs = refl }
edit_adds (edits.MoveFrom arc node) g valid = record { nodes = refl; arcs = refl }
edit_adds (edits.MoveTo arc node) g valid = record { nodes = refl; arcs = refl }
edit_adds (edits.Turn arc) g valid = record { nodes = refl; arcs = refl }
edit_adds (edits.Contract u v false) g valid =
    let out = filter (λ arc. is_neither u.0 v.0 (target_of g arc)) (out_arcs g v.0) in
    let into = filter (λ arc. is_neither u.0 v.0 (source_of g arc)) (in_arcs g v.0) in
    subst AddNothing (sym (contraction_is_known g u.0 v.0 valid))
    (shifts_add _ (both_shift u.0 out into))
edit_adds (edits.Contract u v true) g valid =
    subst AddNothing (sym (loop_contraction_is_known g u.0 v.0 valid))
    (shifts_add _ (both_shift u.0 (out_arcs g v.0) (in_arcs g v.0)))

-- so there is room for them
pub edit_room : (edit : Edit) (g : Digraph) → IsValid g
    → length (refusable_steps g (alteration_by edit)) ≤ 2 * MAX_ARCS
    → g.stamps + 16777216 ≤ MAX_STAMP → HasRoomFor (refusable_steps g (alteration_by edit)) g
edit_room edit g valid few left =
    let adds = edit_adds edit g valid in
    let nodes = adds.nodes in
    let arcs = adds.arcs in
    record {
      for_nodes = λ some. absurd (omega (arith, some, nodes));
      for_arcs = λ some. absurd (omega (arith, some, arcs));
      for_stamps = λ some. omega (arith, few, left);
    }
