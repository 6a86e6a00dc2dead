-- That the steps of each alteration can be taken in turn, each giving a valid digraph.
use Rattle.std.proofs.Common.{◌≡◌, ℕ, ◌≤◌, true, List, [], ◌∷◌, ◌++◌}
use Rattle.std.proofs.Common.{map, refl, subst, arith}
use Rattle.base_items.specs.declared.items.ItemSort.TheVariants as sorts
use Rattle.base_items.specs.declared.limits.TheConstants.{MAX_STAMP}
use Rattle.plain_digraph.specs.Digraph.{Digraph}
use Rattle.plain_digraph.specs.Items.{IsLive, out_arcs, in_arcs, source_of, target_of}
use Rattle.plain_digraph.specs.Lists.{AllOf}
use Rattle.plain_digraph.specs.PlainSteps.{PlainStep, AddNode, AddArc, MoveFrom, MoveTo, Turn}
use Rattle.plain_digraph.specs.PlainSteps.{PlaceBack, EraseArc, EraseNode, ClearArcs, ClearNodes}
use Rattle.plain_digraph.specs.PlainSteps.{is_refusable, after_step, after_steps}
use Rattle.plain_digraph.specs.Alterations.{all_steps, single}
use Rattle.plain_digraph.specs.Alterations.{sources_to}
use Rattle.plain_digraph.specs.Steps.{erase_arc}
use Rattle.plain_digraph.specs.Valid.{IsValid}
use Rattle.plain_digraph.proofs.Changes.{valid_moved_source, valid_moved_target}
use Rattle.plain_digraph.proofs.Changes.{valid_without_arc}
use Rattle.plain_digraph.proofs.StepLiving.{live_items_stay}
use Rattle.plain_digraph.proofs.StepOrders.{empty_stays, erased_from_front, all_listed_are_own}
use Rattle.alter_graph.specs.Steps.{CanTake}
use Rattle.alter_graph.proofs.Moves.{IsMoveAt, moves_refusable}
use Rattle.observe_core.proofs.ItemLemmas.{all_more}

-- each step can be taken in its turn, and the digraph is valid after it
abbrev pub TakesAll : List PlainStep → Digraph → Type 0
TakesAll [] g = Unit {0}
TakesAll (step ∷ steps) g =
    CanTake step g × (IsValid (after_step g step) × TakesAll steps (after_step g step))

pub takes_both : (a b : List PlainStep) (g : Digraph) → TakesAll a g
    → TakesAll b (after_steps g a) → TakesAll (a ++ b) g
takes_both [] b g first second = second
takes_both (step ∷ a) b g first second =
    (first.0, (first.1.0, takes_both a b (after_step g step) first.1.1 second))

pub valid_last : (steps : List PlainStep) (g : Digraph) → IsValid g → TakesAll steps g
    → IsValid (after_steps g steps)
valid_last [] g valid takes = valid
valid_last (step ∷ steps) g valid takes =
    valid_last steps (after_step g step) takes.1.0 takes.1.1

-- a single step: a move or a turn, or an addition
pub takes_single : (step : PlainStep) (g : Digraph) → CanTake step g → IsValid (after_step g step)
    → TakesAll (all_steps g (single step)) g
takes_single step g can valid = (can, (valid, tt))

-- ---- the arcs at a node are erased

-- all arcs of the list were erased, and the node is there still
pub record Erased (arcs : List ℕ) (node : ℕ) (g : Digraph) : Type 0 where
  pub takes : TakesAll (map EraseArc arcs) g
  pub live : IsLive (after_steps g (map EraseArc arcs)) sorts.Node node
  pub valid : IsValid (after_steps g (map EraseArc arcs))

pub record OutsErased (arcs : List ℕ) (node : ℕ) (g : Digraph) : Type 0 where
  pub erased : Erased arcs node g
  pub none : out_arcs (after_steps g (map EraseArc arcs)) node ≡ []

pub outs_erased : (arcs : List ℕ) (node : ℕ) (g : Digraph) → IsValid g → IsLive g sorts.Node node
    → out_arcs g node ≡ arcs → OutsErased arcs node g
outs_erased [] node g valid live are =
    record { erased = record { takes = tt; live = live; valid = valid }; none = are }
outs_erased (arc ∷ arcs) node g valid live are =
    let own = subst (AllOf (λ a. IsLive g sorts.Arc a × (source_of g a ≡ node))) are
    (all_listed_are_own g node valid).0 in
    let then = valid_without_arc g arc valid own.0.0 in
    let rest = outs_erased arcs node (erase_arc g arc) then live
    ((erased_from_front g node arc arcs valid).0 are) in
    record {
      erased = record {
        takes = (own.0.0, (then, rest.erased.takes));
        live = rest.erased.live;
        valid = rest.erased.valid;
      };
      none = rest.none;
    }

pub record InsErased (arcs : List ℕ) (node : ℕ) (g : Digraph) : Type 0 where
  pub erased : Erased arcs node g
  pub none : in_arcs (after_steps g (map EraseArc arcs)) node ≡ []
  pub no_outs : out_arcs (after_steps g (map EraseArc arcs)) node ≡ []

pub ins_erased : (arcs : List ℕ) (node : ℕ) (g : Digraph) → IsValid g → IsLive g sorts.Node node
    → out_arcs g node ≡ [] → in_arcs g node ≡ arcs → InsErased arcs node g
ins_erased [] node g valid live no_outs are = record {
  erased = record { takes = tt; live = live; valid = valid };
  none = are;
  no_outs = no_outs;
}
ins_erased (arc ∷ arcs) node g valid live no_outs are =
    let own = subst (AllOf (λ a. IsLive g sorts.Arc a × (target_of g a ≡ node))) are
    (all_listed_are_own g node valid).1 in
    let then = valid_without_arc g arc valid own.0.0 in
    let rest = ins_erased arcs node (erase_arc g arc) then live
    ((empty_stays g node arc).0 no_outs) ((erased_from_front g node arc arcs valid).1 are) in
    record {
      erased = record {
        takes = (own.0.0, (then, rest.erased.takes));
        live = rest.erased.live;
        valid = rest.erased.valid;
      };
      none = rest.none;
      no_outs = rest.no_outs;
    }

-- ---- lists of moves

-- no stamp is given back
pub stamps_rise : (steps : List PlainStep) (g : Digraph) → g.stamps ≤ (after_steps g steps).stamps
stamps_rise [] g = omega arith
stamps_rise (step ∷ steps) g =
    let rest = stamps_rise steps (after_step g step) in
    let here = one step in
    omega (arith, rest, here)
  where
    one : (x : PlainStep) → g.stamps ≤ (after_step g x).stamps
    one AddNode = omega arith
    one (AddArc from to) = omega arith
    one (MoveFrom arc node) = omega arith
    one (MoveTo arc node) = omega arith
    one (Turn arc) = omega arith
    one (PlaceBack fact) = omega arith
    one (EraseArc arc) = omega arith
    one (EraseNode node) = omega arith
    one ClearArcs = omega arith
    one ClearNodes = omega arith

-- a move is one still after a refusable step
move_stays : (g : Digraph) (step other : PlainStep) → is_refusable step ≡ true → IsMoveAt g other
    → IsMoveAt (after_step g step) other
move_stays g step (MoveFrom arc node) r m =
    (live_items_stay g step sorts.Arc arc r m.0, live_items_stay g step sorts.Node node r m.1)
move_stays g step (MoveTo arc node) r m =
    (live_items_stay g step sorts.Arc arc r m.0, live_items_stay g step sorts.Node node r m.1)
move_stays g step AddNode r m = absurd m
move_stays g step (AddArc from to) r m = absurd m
move_stays g step (Turn arc) r m = absurd m
move_stays g step (PlaceBack fact) r m = absurd m
move_stays g step (EraseArc arc) r m = absurd m
move_stays g step (EraseNode node) r m = absurd m
move_stays g step ClearArcs r m = absurd m
move_stays g step ClearNodes r m = absurd m

-- while stamps are left, all of them can be taken
pub moves_take : (steps : List PlainStep) (g : Digraph) → IsValid g → AllOf (IsMoveAt g) steps
    → (after_steps g steps).stamps ≤ MAX_STAMP → TakesAll steps g
moves_take [] g valid all few = tt
moves_take (step ∷ steps) g valid all few =
    let here = one step all.0
    (let rise = stamps_rise steps (after_step g step) in omega (arith, rise, few)) in
    let r = (moves_refusable (step ∷ []) g (all.0, tt)).0 in (
      here.0,
      (
        here.1,
        moves_take steps (after_step g step) here.1
            (all_more (λ other m. move_stays g step other r m) steps all.1) few,
      ),
    )
  where
    one : (x : PlainStep) → IsMoveAt g x → (after_step g x).stamps ≤ MAX_STAMP
        → CanTake x g × IsValid (after_step g x)
    one (MoveFrom arc node) m few =
        (m, valid_moved_source g arc valid m.0 node m.1 (omega (arith, few)))
    one (MoveTo arc node) m few =
        (m, valid_moved_target g arc valid m.0 node m.1 (omega (arith, few)))
    one AddNode m few = absurd m
    one (AddArc from to) m few = absurd m
    one (Turn arc) m few = absurd m
    one (PlaceBack fact) m few = absurd m
    one (EraseArc arc) m few = absurd m
    one (EraseNode node) m few = absurd m
    one ClearArcs m few = absurd m
    one ClearNodes m few = absurd m

-- they use no new id
pub moves_use : (u : ℕ) (arcs : List ℕ) (g : Digraph)
    → (after_steps g (sources_to u arcs)).used_nodes ≡ g.used_nodes
moves_use u [] g = refl
moves_use u (arc ∷ arcs) g = moves_use u arcs (after_step g (MoveFrom arc u))
