-- Plain steps in turn, and what holds of the world.
use Rattle.std.proofs.Common.{◌≡◌, ℕ, true, false, refl, sym, ◌∙◌, subst, List, [], ◌∷◌, ◌++◌}
use Rattle.std.proofs.Common.{map, Option, None}
use Rattle.std.specs.Prelude.{fold, ◌&&◌}
use Rattle.std.specs.List.{list_all}
use Rattle.std.specs.Ordering.{nat_cmp}
use Rattle.std.specs.FinMap as fin
use Rattle.std.proofs.lemmas.Bool.{true≢false}
use Rattle.std.proofs.lemmas.Option.{none-some}
use Rattle.base_items.specs.declared.items.ItemSort.{ItemSort}
use Rattle.base_items.specs.declared.items.ItemSort.TheVariants.{Node, Arc}
use Rattle.plain_digraph.specs.Lists.{AllOf}
use Rattle.plain_digraph.specs.Digraph.{Digraph}
use Rattle.plain_digraph.specs.PlainSteps.{PlainStep, AddNode, AddArc, MoveFrom, MoveTo, Turn}
use Rattle.plain_digraph.specs.PlainSteps.{PlaceBack, EraseArc, EraseNode, ClearArcs, ClearNodes}
use Rattle.plain_digraph.specs.PlainSteps.{Change, Untouched, Added, Moved, Erased, Cleared}
use Rattle.plain_digraph.specs.PlainSteps.{is_refusable, after_step, after_steps, change_of}
use Rattle.plain_digraph.specs.Valid as digraph
use Rattle.plain_world.specs.Tables.{Name, under}
use Rattle.plain_world.specs.World.{World, Column, attached}
use Rattle.plain_world.specs.Following.{follow, snapshot_after, labels_after}
use Rattle.plain_world.proofs.Attaching.{Allows, fresh_after, IsUnused, label_left}
use Rattle.plain_world.proofs.CopiesKept.{LeaveSnapshots, Snapshots, leave_left}
use Rattle.plain_world.proofs.LawsKept.{passed_laws, sure_laws}
use Rattle.plain_world.proofs.Passing.{Passes, passes_still}
use Rattle.plain_world.proofs.StepKept.{CanStep, valid_after, step_kept}
use Rattle.plain_world.proofs.WorldParts.{Amid, Parts}

-- ---- what steps need

abbrev pub CanSteps : Digraph → List PlainStep → Type 0
CanSteps g [] = Unit {0}
CanSteps g (step ∷ steps) = CanStep g step × CanSteps (after_step g step) steps

pub can_behind : (g : Digraph) (front back : List PlainStep) → CanSteps g front
    → CanSteps (after_steps g front) back → CanSteps g (front ++ back)
can_behind g [] back can more = more
can_behind g (step ∷ front) back can more =
    (can.0, can_behind (after_step g step) front back can.1 more)

pub valid_throughout : (g : Digraph) (steps : List PlainStep) → digraph.IsValid g
    → CanSteps g steps → digraph.IsValid (after_steps g steps)
valid_throughout g [] valid can = valid
valid_throughout g (step ∷ steps) valid can =
    valid_throughout (after_step g step) steps (valid_after g step valid can.0) can.1

-- ---- moves

abbrev pub IsMove : PlainStep → Type 0
IsMove (MoveFrom arc node) = Unit {0}
IsMove (MoveTo arc node) = Unit {0}
IsMove (Turn arc) = Unit {0}
IsMove (PlaceBack fact) = Unit {0}
IsMove step = ⊥

move_leaves : (g : Digraph) (step : PlainStep) (sort : ItemSort) (fresh : Option ℕ) → IsMove step
    → fresh_after (change_of g step sort) fresh ≡ fresh
move_leaves g (MoveFrom arc node) Node fresh is = refl
move_leaves g (MoveFrom arc node) Arc fresh is = refl
move_leaves g (MoveTo arc node) Node fresh is = refl
move_leaves g (MoveTo arc node) Arc fresh is = refl
move_leaves g (Turn arc) Node fresh is = refl
move_leaves g (Turn arc) Arc fresh is = refl
move_leaves g (PlaceBack fact) Node fresh is = refl
move_leaves g (PlaceBack fact) Arc fresh is = refl
move_leaves g AddNode sort fresh is = absurd is
move_leaves g (AddArc from to) sort fresh is = absurd is
move_leaves g (EraseArc arc) sort fresh is = absurd is
move_leaves g (EraseNode node) sort fresh is = absurd is
move_leaves g ClearArcs sort fresh is = absurd is
move_leaves g ClearNodes sort fresh is = absurd is

move_allows : (g : Digraph) (step : PlainStep) (sort : ItemSort) (fresh : Option ℕ) → IsMove step
    → Allows (change_of g step sort) fresh
move_allows g (MoveFrom arc node) Node fresh is = tt
move_allows g (MoveFrom arc node) Arc fresh is = tt
move_allows g (MoveTo arc node) Node fresh is = tt
move_allows g (MoveTo arc node) Arc fresh is = tt
move_allows g (Turn arc) Node fresh is = tt
move_allows g (Turn arc) Arc fresh is = tt
move_allows g (PlaceBack fact) Node fresh is = tt
move_allows g (PlaceBack fact) Arc fresh is = tt
move_allows g AddNode sort fresh is = absurd is
move_allows g (AddArc from to) sort fresh is = absurd is
move_allows g (EraseArc arc) sort fresh is = absurd is
move_allows g (EraseNode node) sort fresh is = absurd is
move_allows g ClearArcs sort fresh is = absurd is
move_allows g ClearNodes sort fresh is = absurd is

move_refusable : (step : PlainStep) → IsMove step → is_refusable step ≡ true
move_refusable (MoveFrom arc node) is = refl
move_refusable (MoveTo arc node) is = refl
move_refusable (Turn arc) is = refl
move_refusable (PlaceBack fact) is = refl
move_refusable AddNode is = absurd is
move_refusable (AddArc from to) is = absurd is
move_refusable (EraseArc arc) is = absurd is
move_refusable (EraseNode node) is = absurd is
move_refusable ClearArcs is = absurd is
move_refusable ClearNodes is = absurd is

pub moves_refusable : (steps : List PlainStep) → AllOf IsMove steps
    → list_all is_refusable steps ≡ true
moves_refusable [] are = refl
moves_refusable (step ∷ steps) are =
    let here = move_refusable step are.0 in
    let rest = moves_refusable steps are.1 in
    λ i. here i && rest i

-- each of the steps leaves the stamps of all snapshots
abbrev pub LeaveAll : List PlainStep → Snapshots → Type 0
LeaveAll steps snapshots = AllOf (λ step. LeaveSnapshots step snapshots) steps

abbrev follow_snapshots : Digraph → PlainStep → Snapshots → Snapshots
follow_snapshots g step snapshots =
    map (λ e. under e.name (snapshot_after g step e.value)) snapshots

leave_all_left : (g : Digraph) (step : PlainStep) (steps : List PlainStep) (snapshots : Snapshots)
    → LeaveAll steps snapshots → LeaveAll steps (follow_snapshots g step snapshots)
leave_all_left g step [] snapshots leave = tt
leave_all_left g step (next ∷ steps) snapshots leave = (
  leave_left g step next snapshots leave.0,
  leave_all_left g step steps snapshots leave.1,
)

pub moves_kept : (steps : List PlainStep) (w : World) (fresh new : Option ℕ) → Amid fresh new w
    → AllOf IsMove steps → CanSteps w.graph steps → Passes w.guards w.graph steps
    → LeaveAll steps w.snapshots → Amid fresh new (fold follow w steps)
moves_kept [] w fresh new ok are can passes leave = ok
moves_kept (step ∷ steps) w fresh new ok are can passes leave =
    let g = w.graph in
    let next = follow w step in
    let laws = passed_laws g step w.guards (move_refusable step are.0) passes.0 ok.guards_ok in
    let kept = step_kept w step fresh new ok can.0 (move_allows g step Node fresh are.0)
    (move_allows g step Arc new are.0) laws leave.0 in
    let same : Amid fresh new next =
    subst (λ n. Amid n new next) (move_leaves g step Node fresh are.0)
    (subst (λ a. Amid (fresh_after (change_of g step Node) fresh) a next)
    (move_leaves g step Arc new are.0) kept) in
    moves_kept steps next fresh new same are.1 can.1
    (passes_still (change_of g step) w.guards (after_step g step) steps passes.1)
    (leave_all_left g step steps w.snapshots leave.1)

-- ---- sure steps

abbrev pub IsSure : PlainStep → Type 0
IsSure step = is_refusable step ≡ false

unlike : true ≡ false → ⊥
unlike e = true≢false e

sure_leaves : (g : Digraph) (step : PlainStep) (sort : ItemSort) → IsSure step
    → fresh_after (change_of g step sort) None ≡ None
sure_leaves g (EraseArc arc) Node sure = refl
sure_leaves g (EraseArc arc) Arc sure = refl
sure_leaves g (EraseNode node) Node sure = refl
sure_leaves g (EraseNode node) Arc sure = refl
sure_leaves g ClearArcs Node sure = refl
sure_leaves g ClearArcs Arc sure = refl
sure_leaves g ClearNodes Node sure = refl
sure_leaves g ClearNodes Arc sure = refl
sure_leaves g AddNode sort sure = absurd (unlike sure)
sure_leaves g (AddArc from to) sort sure = absurd (unlike sure)
sure_leaves g (MoveFrom arc node) sort sure = absurd (unlike sure)
sure_leaves g (MoveTo arc node) sort sure = absurd (unlike sure)
sure_leaves g (Turn arc) sort sure = absurd (unlike sure)
sure_leaves g (PlaceBack fact) sort sure = absurd (unlike sure)

sure_allows : (g : Digraph) (step : PlainStep) (sort : ItemSort) → IsSure step
    → Allows (change_of g step sort) None
sure_allows g (EraseArc arc) Node sure = tt
sure_allows g (EraseArc arc) Arc sure = refl
sure_allows g (EraseNode node) Node sure = refl
sure_allows g (EraseNode node) Arc sure = tt
sure_allows g ClearArcs Node sure = tt
sure_allows g ClearArcs Arc sure = refl
sure_allows g ClearNodes Node sure = refl
sure_allows g ClearNodes Arc sure = tt
sure_allows g AddNode sort sure = absurd (unlike sure)
sure_allows g (AddArc from to) sort sure = absurd (unlike sure)
sure_allows g (MoveFrom arc node) sort sure = absurd (unlike sure)
sure_allows g (MoveTo arc node) sort sure = absurd (unlike sure)
sure_allows g (Turn arc) sort sure = absurd (unlike sure)
sure_allows g (PlaceBack fact) sort sure = absurd (unlike sure)

sure_leave : (step : PlainStep) (snapshots : Snapshots) → IsSure step
    → LeaveSnapshots step snapshots
sure_leave (EraseArc arc) snapshots sure = λ k d within. tt
sure_leave (EraseNode node) snapshots sure = λ k d within. tt
sure_leave ClearArcs snapshots sure = λ k d within. tt
sure_leave ClearNodes snapshots sure = λ k d within. tt
sure_leave AddNode snapshots sure = absurd (unlike sure)
sure_leave (AddArc from to) snapshots sure = absurd (unlike sure)
sure_leave (MoveFrom arc node) snapshots sure = absurd (unlike sure)
sure_leave (MoveTo arc node) snapshots sure = absurd (unlike sure)
sure_leave (Turn arc) snapshots sure = absurd (unlike sure)
sure_leave (PlaceBack fact) snapshots sure = absurd (unlike sure)

pub sure_kept : (steps : List PlainStep) (w : World) → Parts w → AllOf IsSure steps
    → CanSteps w.graph steps → Parts (fold follow w steps)
sure_kept [] w ok are can = ok
sure_kept (step ∷ steps) w ok are can =
    let g = w.graph in
    let next = follow w step in
    let kept = step_kept w step None None ok can.0 (sure_allows g step Node are.0)
    (sure_allows g step Arc are.0) (sure_laws g step w.guards are.0 ok.guards_ok)
    (sure_leave step w.snapshots are.0) in
    let same : Parts next =
    subst (λ n. Amid n None next) (sure_leaves g step Node are.0)
    (subst (λ a. Amid (fresh_after (change_of g step Node) None) a next)
    (sure_leaves g step Arc are.0) kept) in
    sure_kept steps next same are.1 can.1

-- ---- what steps leave alone

pub passes_throughout : (steps : List PlainStep) (w : World) (g : Digraph) (back : List PlainStep)
    → Passes w.guards g back → Passes (fold follow w steps).guards g back
passes_throughout [] w g back passes = passes
passes_throughout (step ∷ steps) w g back passes =
    passes_throughout steps (follow w step) g back
    (passes_still (change_of w.graph step) w.guards g back passes)

-- a label that no item has is no item's later
labels_unused : (change : Change) (labels : Column Name) (name : Name) → IsUnused labels name
    → IsUnused (labels_after change labels) name
labels_unused (Erased old) labels name unused id is = unused id (label_left labels old id name is)
labels_unused (Cleared count) labels name unused id is =
    absurd (none-some name (sym (fin.get-empty nat_cmp id) ∙ is))
labels_unused (Added new) labels name unused id is = unused id is
labels_unused Moved labels name unused id is = unused id is
labels_unused Untouched labels name unused id is = unused id is

pub unused_after : (w : World) (step : PlainStep) (sort : ItemSort) (name : Name)
    → IsUnused (attached w sort).labels name → IsUnused (attached (follow w step) sort).labels name
unused_after w step Node name unused = labels_unused (change_of w.graph step Node) w.nodes.labels
    name unused
unused_after w step Arc name unused = labels_unused (change_of w.graph step Arc) w.arcs.labels
    name unused

pub unused_throughout : (steps : List PlainStep) (w : World) (sort : ItemSort) (name : Name)
    → IsUnused (attached w sort).labels name
    → IsUnused (attached (fold follow w steps) sort).labels name
unused_throughout [] w sort name unused = unused
unused_throughout (step ∷ steps) w sort name unused =
    unused_throughout steps (follow w step) sort name (unused_after w step sort name unused)
