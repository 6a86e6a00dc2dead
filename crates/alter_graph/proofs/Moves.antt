-- Lists of moves: they can be taken in turn, and take no room but stamps.
use Rattle.std.proofs.Common.{◌≡◌, ℕ, true, List, [], ◌∷◌, ◌++◌, length, refl, sym, subst}
use Rattle.std.proofs.Common.{Bool, false, filter, if◌then◌else◌, ◌∙◌, arith}
use Rattle.base_items.specs.declared.items.ItemSort.{ItemSort}
use Rattle.base_items.specs.declared.items.ItemSort.TheVariants as sorts
use Rattle.base_items.specs.declared.limits.Limit.{Limit}
use Rattle.plain_digraph.specs.Lists.{AllOf}
use Rattle.plain_digraph.specs.Digraph.{Digraph}
use Rattle.plain_digraph.specs.Items.{IsLive, out_arcs, in_arcs}
use Rattle.plain_digraph.specs.PlainSteps.{PlainStep, AddNode, AddArc, MoveFrom, MoveTo, Turn}
use Rattle.plain_digraph.specs.PlainSteps.{PlaceBack, EraseArc, EraseNode, ClearArcs, ClearNodes}
use Rattle.plain_digraph.specs.PlainSteps.{is_refusable, after_step, after_steps}
use Rattle.plain_digraph.specs.Alterations.{sources_to, targets_to}
use Rattle.plain_digraph.specs.Valid.{IsValid}
use Rattle.plain_digraph.proofs.StepLiving.{live_items_stay}
use Rattle.plain_digraph.proofs.StepOrders.{all_listed_are_own}
use Rattle.observe_core.proofs.ItemLemmas.{all_more}
use Rattle.alter_graph.specs.declared.steps.Step.{Step}
use Rattle.alter_graph.specs.State.{State}
use Rattle.alter_graph.specs.Steps.{plain_steps, CanTake, CanTakeAll, HasOwnPlace, HaveOwnPlaces}
use Rattle.alter_graph.specs.Room.{HasRoom, HasRoomFor, PassesLimit, WouldPass, nodes_in, arcs_in}
use Rattle.alter_graph.proofs.Parting.{AllRefusable}

-- a move of a live arc to a live node
abbrev pub IsMoveAt : Digraph → PlainStep → Type 0
IsMoveAt g (MoveFrom arc node) = IsLive g sorts.Arc arc × IsLive g sorts.Node node
IsMoveAt g (MoveTo arc node) = IsLive g sorts.Arc arc × IsLive g sorts.Node node
IsMoveAt g _ = ⊥

refusable : (g : Digraph) (step : PlainStep) → IsMoveAt g step → is_refusable step ≡ true
refusable g AddNode m = refl
refusable g (AddArc from to) m = refl
refusable g (MoveFrom arc node) m = refl
refusable g (MoveTo arc node) m = refl
refusable g (Turn arc) m = refl
refusable g (PlaceBack fact) m = refl
refusable g (EraseArc arc) m = absurd m
refusable g (EraseNode node) m = absurd m
refusable g ClearArcs m = absurd m
refusable g ClearNodes m = absurd m

-- it stays one after a refusable step
move_stays : (g : Digraph) (step other : PlainStep) → is_refusable step ≡ true → IsMoveAt g other
    → IsMoveAt (after_step g step) other
move_stays g step (MoveFrom arc node) r m =
    (live_items_stay g step sorts.Arc arc r m.0, live_items_stay g step sorts.Node node r m.1)
move_stays g step (MoveTo arc node) r m =
    (live_items_stay g step sorts.Arc arc r m.0, live_items_stay g step sorts.Node node r m.1)
move_stays g step AddNode r m = absurd m
move_stays g step (AddArc from to) r m = absurd m
move_stays g step (Turn arc) r m = absurd m
move_stays g step (PlaceBack fact) r m = absurd m
move_stays g step (EraseArc arc) r m = absurd m
move_stays g step (EraseNode node) r m = absurd m
move_stays g step ClearArcs r m = absurd m
move_stays g step ClearNodes r m = absurd m

pub moves_can : (steps : List PlainStep) (g : Digraph) → AllOf (IsMoveAt g) steps
    → CanTakeAll steps g
moves_can [] g all = tt
moves_can (step ∷ steps) g all =
    let r = refusable g step all.0 in (
      one step all.0,
      moves_can steps (after_step g step)
          (all_more (λ other m. move_stays g step other r m) steps all.1),
    )
  where
    one : (x : PlainStep) → IsMoveAt g x → CanTake x g
    one (MoveFrom arc node) m = m
    one (MoveTo arc node) m = m
    one AddNode m = absurd m
    one (AddArc from to) m = absurd m
    one (Turn arc) m = absurd m
    one (PlaceBack fact) m = absurd m
    one (EraseArc arc) m = absurd m
    one (EraseNode node) m = absurd m
    one ClearArcs m = absurd m
    one ClearNodes m = absurd m

pub moves_refusable : (steps : List PlainStep) (g : Digraph) → AllOf (IsMoveAt g) steps
    → AllRefusable steps
moves_refusable [] g all = tt
moves_refusable (step ∷ steps) g all = (refusable g step all.0, moves_refusable steps g all.1)

pub moves_own : (steps : List PlainStep) (g : Digraph) (s : State) → AllOf (IsMoveAt g) steps
    → HaveOwnPlaces steps s
moves_own [] g s all = tt
moves_own (step ∷ steps) g s all = (one step all.0, moves_own steps g s all.1)
  where
    one : (x : PlainStep) → IsMoveAt g x → HasOwnPlace x s
    one (MoveFrom arc node) m = tt
    one (MoveTo arc node) m = tt
    one AddNode m = tt
    one (AddArc from to) m = tt
    one (Turn arc) m = tt
    one (PlaceBack fact) m = absurd m
    one (EraseArc arc) m = tt
    one (EraseNode node) m = tt
    one ClearArcs m = tt
    one ClearNodes m = tt

pub moves_no_nodes : (steps : List PlainStep) (g : Digraph) → AllOf (IsMoveAt g) steps
    → nodes_in steps ≡ 0
moves_no_nodes [] g all = refl
moves_no_nodes (MoveFrom arc node ∷ steps) g all =
    let r = moves_no_nodes steps g all.1 in omega (arith, r)
moves_no_nodes (MoveTo arc node ∷ steps) g all =
    let r = moves_no_nodes steps g all.1 in omega (arith, r)
moves_no_nodes (AddNode ∷ steps) g all = absurd all.0
moves_no_nodes (AddArc from to ∷ steps) g all = absurd all.0
moves_no_nodes (Turn arc ∷ steps) g all = absurd all.0
moves_no_nodes (PlaceBack fact ∷ steps) g all = absurd all.0
moves_no_nodes (EraseArc arc ∷ steps) g all = absurd all.0
moves_no_nodes (EraseNode node ∷ steps) g all = absurd all.0
moves_no_nodes (ClearArcs ∷ steps) g all = absurd all.0
moves_no_nodes (ClearNodes ∷ steps) g all = absurd all.0

pub moves_no_arcs : (steps : List PlainStep) (g : Digraph) → AllOf (IsMoveAt g) steps
    → arcs_in steps ≡ 0
moves_no_arcs [] g all = refl
moves_no_arcs (MoveFrom arc node ∷ steps) g all =
    let r = moves_no_arcs steps g all.1 in omega (arith, r)
moves_no_arcs (MoveTo arc node ∷ steps) g all =
    let r = moves_no_arcs steps g all.1 in omega (arith, r)
moves_no_arcs (AddNode ∷ steps) g all = absurd all.0
moves_no_arcs (AddArc from to ∷ steps) g all = absurd all.0
moves_no_arcs (Turn arc ∷ steps) g all = absurd all.0
moves_no_arcs (PlaceBack fact ∷ steps) g all = absurd all.0
moves_no_arcs (EraseArc arc ∷ steps) g all = absurd all.0
moves_no_arcs (EraseNode node ∷ steps) g all = absurd all.0
moves_no_arcs (ClearArcs ∷ steps) g all = absurd all.0
moves_no_arcs (ClearNodes ∷ steps) g all = absurd all.0

-- ---- what is live stays

pub live_after : (steps : List PlainStep) (g : Digraph) (sort : ItemSort) (id : ℕ)
    → AllRefusable steps → IsLive g sort id → IsLive (after_steps g steps) sort id
live_after [] g sort id r live = live
live_after (step ∷ steps) g sort id r live =
    live_after steps (after_step g step) sort id r.1 (live_items_stay g step sort id r.0 live)

-- ---- the arcs at a node

pub outs_live : (g : Digraph) (node : ℕ) → IsValid g → AllOf (IsLive g sorts.Arc) (out_arcs g node)
outs_live g node valid =
    all_more (λ arc h. h.0) (out_arcs g node) (all_listed_are_own g node valid).0

pub ins_live : (g : Digraph) (node : ℕ) → IsValid g → AllOf (IsLive g sorts.Arc) (in_arcs g node)
ins_live g node valid =
    all_more (λ arc h. h.0) (in_arcs g node) (all_listed_are_own g node valid).1

pub filter_all : (P : ℕ → Type 0) (test : ℕ → Bool) (xs : List ℕ) → AllOf P xs
    → AllOf P (filter test xs)
filter_all P test [] h = tt
filter_all P test (x ∷ xs) h =
    let r = filter_all P test xs h.1 in
    elim (test x) as (λ b. AllOf P (if b then x ∷ filter test xs else filter test xs))
    [ true ↦ (h.0, r) | false ↦ r ]

pub sources_move : (g : Digraph) (node : ℕ) (arcs : List ℕ) → IsLive g sorts.Node node
    → AllOf (IsLive g sorts.Arc) arcs → AllOf (IsMoveAt g) (sources_to node arcs)
sources_move g node [] live all = tt
sources_move g node (arc ∷ arcs) live all =
    ((all.0, live), sources_move g node arcs live all.1)

pub targets_move : (g : Digraph) (node : ℕ) (arcs : List ℕ) → IsLive g sorts.Node node
    → AllOf (IsLive g sorts.Arc) arcs → AllOf (IsMoveAt g) (targets_to node arcs)
targets_move g node [] live all = tt
targets_move g node (arc ∷ arcs) live all =
    ((all.0, live), targets_move g node arcs live all.1)

pub moves_both : (P : PlainStep → Type 0) (xs ys : List PlainStep) → AllOf P xs → AllOf P ys
    → AllOf P (xs ++ ys)
moves_both P [] ys a b = b
moves_both P (x ∷ xs) ys a b = (a.0, moves_both P xs ys a.1 b)

-- ---- room

as_many : (xs : List Step) → length (plain_steps xs) ≡ length xs
as_many [] = refl
as_many (x ∷ xs) = let r = as_many xs in omega (arith, r)

pub moves_room : (xs : List Step) (g : Digraph) (n : ℕ) → n ≡ length xs
    → nodes_in (plain_steps xs) ≡ 0 → arcs_in (plain_steps xs) ≡ 0 → HasRoom 0 0 n g
    → HasRoomFor (plain_steps xs) g
moves_room xs g n e a b room =
    let l = sym (as_many xs) in
    subst (λ x. HasRoom x (arcs_in (plain_steps xs)) (length (plain_steps xs)) g) (sym a)
    (subst (λ x. HasRoom 0 x (length (plain_steps xs)) g) (sym b)
    (subst (λ x. HasRoom 0 0 x g) (e ∙ l) room))

pub moves_pass : (xs : List Step) (g : Digraph) (n : ℕ) (limit : Limit) → n ≡ length xs
    → nodes_in (plain_steps xs) ≡ 0 → arcs_in (plain_steps xs) ≡ 0 → PassesLimit 0 0 n g limit
    → WouldPass (plain_steps xs) g limit
moves_pass xs g n limit e a b full =
    let l = sym (as_many xs) in
    subst (λ x. PassesLimit x (arcs_in (plain_steps xs)) (length (plain_steps xs)) g limit) (sym a)
    (subst (λ x. PassesLimit 0 x (length (plain_steps xs)) g limit) (sym b)
    (subst (λ x. PassesLimit 0 0 x g limit) (e ∙ l) full))
