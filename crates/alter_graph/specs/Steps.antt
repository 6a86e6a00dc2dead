-- Steps: what each tells the chain of its sort, the state after it, and the way back.
use Rattle.std.specs.Prelude.{◌≡◌, ◌≢◌, ℕ, ◌<◌, List, [], ◌∷◌, ◌++◌, Some}
use Rattle.base_items.specs.declared.items.Fact.{Fact}
use Rattle.base_items.specs.declared.items.ItemSort.{ItemSort}
use Rattle.base_items.specs.declared.items.ItemSort.TheVariants as sorts
use Rattle.plain_digraph.specs.Lists.{AllOf}
use Rattle.plain_digraph.specs.Facts.{with_source, with_target, turned}
use Rattle.plain_digraph.specs.Digraph.{Digraph}
use Rattle.plain_digraph.specs.Items.{IsLive, used_of, fact_of, facts, node_fact, arc_fact}
use Rattle.plain_digraph.specs.Steps.{new_node, new_arc, clear_arcs}
use Rattle.plain_digraph.specs.PlainSteps.{PlainStep, AddNode, AddArc, MoveFrom, MoveTo, Turn}
use Rattle.plain_digraph.specs.PlainSteps.{PlaceBack, EraseArc, EraseNode, ClearArcs, ClearNodes}
use Rattle.plain_digraph.specs.PlainSteps.{sort_of, after_step}
use Rattle.plain_digraph.specs.Undo.{before_move, before_addition}
use Rattle.plain_digraph.specs.UndoLaws.{MovesTo, AddsTo}
use Rattle.plain_digraph.specs.Valid.{IsValid}
use Rattle.plain_digraph.specs.ValidLaws.{HasNoArc}
use Rattle.observe_core.specs.declared.changes.Change.{Change}
use Rattle.observe_core.specs.declared.changes.Change.TheVariants.{Add, Shift}
use Rattle.observe_core.specs.declared.losses.Loss.{Loss}
use Rattle.observe_core.specs.declared.losses.Loss.TheVariants.{Erase, Clear}
use Rattle.observe_core.specs.Changes.{told, untold, CanUntell}
use Rattle.notify_chain.specs.Seats.{SeatSeen, AllSeats}
use Rattle.alter_graph.specs.declared.steps.Step.{Step}
use Rattle.alter_graph.specs.declared.steps.Step.TheVariants as step
use Rattle.alter_graph.specs.declared.steps.Done.{Done}
use Rattle.alter_graph.specs.declared.steps.Done.TheVariants.{Added, Moved}
use Rattle.notify_chain.specs.Leaving.{stayers, goers}
use Rattle.alter_graph.specs.Chains.{ChainSeen, seats_in, in_chain, chain_heard}
use Rattle.alter_graph.specs.Chains.{seats_heard}
use Rattle.alter_graph.specs.Present.{present_of, fact_at}
use Rattle.alter_graph.specs.Snaps.{Apart, saved_arcs}
use Rattle.alter_graph.specs.State.{State}

-- the plain step
abbrev pub plain_step : Step → PlainStep
plain_step step.AddNode = AddNode
plain_step (step.AddArc u v) = AddArc u.0 v.0
plain_step (step.MoveFrom a u) = MoveFrom a.0 u.0
plain_step (step.MoveTo a v) = MoveTo a.0 v.0
plain_step (step.Turn a) = Turn a.0
plain_step (step.Place f) = PlaceBack f

abbrev pub plain_steps : List Step → List PlainStep
plain_steps [] = []
plain_steps (s ∷ steps) = plain_step s ∷ plain_steps steps

-- ---- what a step tells

-- a change, which observers may refuse, or a loss
pub data Notice : Type 0 where
  Tells : (change : Change) → Notice
  Loses : (loss : Loss) → Notice

-- the arc has another fact
abbrev pub shift_of : Digraph → ℕ → (Fact → Fact) → Notice
shift_of g arc now = Tells (Shift (fact_at g sorts.Arc arc) (now (fact_at g sorts.Arc arc)))

abbrev pub notice_of : PlainStep → Digraph → Notice
notice_of AddNode g = Tells (Add (node_fact (new_node g) g.stamps))
notice_of (AddArc from to) g = Tells (Add (arc_fact (new_arc g) (from, to) g.stamps g.stamps))
notice_of (MoveFrom arc node) g = shift_of g arc (λ fact. with_source fact node g.stamps)
notice_of (MoveTo arc node) g = shift_of g arc (λ fact. with_target fact node g.stamps)
notice_of (Turn arc) g = shift_of g arc (λ fact. turned fact g.stamps)
notice_of (PlaceBack fact) g = shift_of g fact.id (λ _. fact)
notice_of (EraseArc arc) g = Loses (Erase (fact_at g sorts.Arc arc))
notice_of (EraseNode node) g = Loses (Erase (fact_at g sorts.Node node))
notice_of ClearArcs g = Loses Clear
notice_of ClearNodes g = Loses Clear

-- the seats after it, and the keys that left
abbrev pub seats_noticed : Notice → List SeatSeen → List SeatSeen
seats_noticed (Tells change) ss = seats_heard (told change) ss
seats_noticed (Loses loss) ss = stayers loss ss

abbrev pub left_noticed : Notice → ChainSeen → List ℕ
left_noticed (Tells change) c = c.left
left_noticed (Loses loss) c = c.left ++ goers loss c.seats

abbrev pub noticed : Notice → ChainSeen → ChainSeen
noticed n c = record { seats = seats_noticed n c.seats; left = left_noticed n c }

-- ---- the state after steps

-- the digraph takes the step, and the chain of its sort is told
abbrev pub took : PlainStep → State → State
took step s = record {
  graph = after_step s.graph step;
  chains = in_chain (sort_of step) (noticed (notice_of step s.graph)) s.chains;
}

abbrev pub altered : List PlainStep → State → State
altered [] s = s
altered (step ∷ steps) s = altered steps (took step s)

-- the arc of the fact may go back: its ends are live, its fact is another one now, and its stamps
-- were used and are no other arc's
pub record CanReturn (fact : Fact) (g : Digraph) : Type 0 where
  pub arc : IsLive g sorts.Arc fact.id
  pub source : IsLive g sorts.Node fact.from
  pub target : IsLive g sorts.Node fact.to
  pub old_source : fact.from_at < g.stamps
  pub old_target : fact.to_at < g.stamps
  pub apart : AllOf (Apart fact) (facts g sorts.Arc)
  pub differs : fact_of g sorts.Arc fact.id ≢ Some fact

-- its items are live; a node is erased once it has no arc, and nodes are cleared after the arcs
abbrev pub CanTake : PlainStep → Digraph → Type 0
CanTake AddNode g = Unit {0}
CanTake (AddArc from to) g = IsLive g sorts.Node from × IsLive g sorts.Node to
CanTake (MoveFrom arc node) g = IsLive g sorts.Arc arc × IsLive g sorts.Node node
CanTake (MoveTo arc node) g = IsLive g sorts.Arc arc × IsLive g sorts.Node node
CanTake (Turn arc) g = IsLive g sorts.Arc arc
CanTake (PlaceBack fact) g = CanReturn fact g
CanTake (EraseArc arc) g = IsLive g sorts.Arc arc
CanTake (EraseNode node) g = IsLive g sorts.Node node × HasNoArc g node
CanTake ClearArcs g = Unit {0}
CanTake ClearNodes g = (before : Digraph) × IsValid before × (clear_arcs before ≡ g)

-- each in its turn
abbrev pub CanTakeAll : List PlainStep → Digraph → Type 0
CanTakeAll [] g = Unit {0}
CanTakeAll (step ∷ steps) g = CanTake step g × CanTakeAll steps (after_step g step)

-- the places that an arc is put back to are those of no other arc in any copy
abbrev pub HasOwnPlace : PlainStep → State → Type 0
HasOwnPlace (PlaceBack fact) s =
    AllOf (Apart fact) (saved_arcs s.chains.snaps (present_of s.graph) s.chains)
HasOwnPlace _ s = Unit {0}

abbrev pub HaveOwnPlaces : List PlainStep → State → Type 0
HaveOwnPlaces [] s = Unit {0}
HaveOwnPlaces (step ∷ steps) s = HasOwnPlace step s × HaveOwnPlaces steps s

-- ---- the way back, of the steps that may be refused

abbrev pub done_by : ItemSort → Notice → ℕ → Done
done_by sort (Tells (Add fact)) used = Added sort fact used
done_by sort (Tells (Shift old now)) used = Moved old now
done_by sort _ used = Moved (node_fact 0 0) (node_fact 0 0)

-- what is kept of a step
abbrev pub done_of : PlainStep → Digraph → Done
done_of step g = done_by (sort_of step) (notice_of step g) (used_of g (sort_of step))

abbrev pub done_sort : Done → ItemSort
done_sort (Added sort fact used) = sort
done_sort (Moved old now) = sorts.Arc

abbrev pub change_of : Done → Change
change_of (Added sort fact used) = Add fact
change_of (Moved old now) = Shift old now

-- the item's fact after the step
abbrev pub fact_in : Done → Fact
fact_in (Added sort fact used) = fact
fact_in (Moved old now) = now

-- the digraph from before
abbrev pub before : Digraph → Done → Digraph
before g (Added sort fact used) = before_addition g sort fact.id used
before g (Moved old now) = before_move g old

-- the step led from there to this digraph
abbrev pub LedTo : Done → Digraph → Digraph → Type 0
LedTo (Added sort fact used) g h = AddsTo g sort fact h
LedTo (Moved old now) g h = MovesTo g old.id h

pub record CanUntake (d : Done) (g : Digraph) : Type 0 where
  pub valid : IsValid (before g d)
  pub led : LedTo d (before g d) g

-- the state from before
abbrev pub back : Done → State → State
back d s = record {
  graph = before s.graph d;
  chains = in_chain (done_sort d) (chain_heard (untold (change_of d))) s.chains;
}

pub record CanGoBack (d : Done) (s : State) : Type 0 where
  pub graph : CanUntake d s.graph
  pub seats : AllSeats (λ s. CanUntell (change_of d) s.seen s.reach)
      (seats_in (done_sort d) s.chains)

-- the state from before all of a journal, whose oldest step stands in front
abbrev pub undone : List Done → State → State
undone [] s = s
undone (d ∷ ds) s = back d (undone ds s)

-- each step of the journal can be taken back, the newest first
abbrev pub CanUndo : List Done → State → Type 0
CanUndo [] s = Unit {0}
CanUndo (d ∷ ds) s = CanUndo ds s × CanGoBack d (undone ds s)
