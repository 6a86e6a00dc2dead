-- Parts of an alteration, one after the other.
use Rattle.std.proofs.Common.{◌≡◌, true, List, [], ◌∷◌, ◌++◌, map, Option, Some, None}
use Rattle.std.proofs.Common.{refl, sym, ap, subst, ◌∙◌}
use Rattle.std.specs.Prelude.{option_map}
use Rattle.std.specs.Option.{option_or}
use Rattle.base_items.specs.declared.items.ItemSort.{ItemSort}
use Rattle.base_items.specs.declared.items.ItemSort.TheVariants as sorts
use Rattle.plain_digraph.specs.Digraph.{Digraph}
use Rattle.plain_digraph.specs.PlainSteps.{PlainStep, is_refusable, after_step}
use Rattle.plain_digraph.specs.PlainSteps.{after_steps}
use Rattle.plain_digraph.specs.Alterations.{vetoer}
use Rattle.plain_digraph.proofs.Unrolled.{vetoes_in_turn}
use Rattle.observe_core.specs.declared.changes.Change.{Change}
use Rattle.observe_core.specs.declared.changes.Change.TheVariants.{Add, Shift, Build}
use Rattle.observe_core.specs.Changes.{told}
use Rattle.notify_chain.specs.Seats.{SeatSeen}
use Rattle.notify_chain.specs.declared.key.SeatKey.{SeatKey}
use Rattle.alter_graph.specs.declared.faults.AlterFault.{AlterFault}
use Rattle.alter_graph.specs.declared.faults.AlterFault.TheVariants.{Vetoed, SameNode, Full, Stale}
use Rattle.alter_graph.specs.declared.faults.AlterFault.TheVariants.{Memory}
use Rattle.alter_graph.specs.declared.steps.Done.{Done}
use Rattle.alter_graph.specs.Chains.{ChainsSeen, seats_heard, in_chain, chain_heard}
use Rattle.alter_graph.specs.State.{State, IsSame, IsInStep}
use Rattle.alter_graph.specs.Steps.{took, altered, undone, CanUndo, CanTakeAll, done_of, done_sort}
use Rattle.alter_graph.specs.Steps.{change_of}
use Rattle.alter_graph.specs.Room.{HasRoomFor}
use Rattle.alter_graph.specs.Verdict.{Guard, guard_in, guards_of, breaks, Passes, Vetoes}
use Rattle.alter_graph.specs.Outcome.{Goes, Stays}
use Rattle.alter_graph.specs.Parts.{Grows, Takes, Fails, Denied}
use Rattle.alter_graph.proofs.Sameness.{AreSame, same_refl, same_trans, altered_same}
use Rattle.alter_graph.proofs.Keeping.{same_in_step, follow_none, follow_both}
use Rattle.alter_graph.proofs.Returning.{told_chains}
use Rattle.alter_graph.proofs.Rooms.{grow_none, grow_both, room_rest, room_first, refused}
use Rattle.alter_graph.proofs.Verdicts.{name_of}

-- ---- states after steps

pub altered_append : (a b : List PlainStep) (s : State)
    → altered (a ++ b) s ≡ altered b (altered a s)
altered_append [] b s = refl
altered_append (step ∷ a) b s = altered_append a b (took step s)

pub graph_altered : (steps : List PlainStep) (s : State)
    → (altered steps s).graph ≡ after_steps s.graph steps
graph_altered [] s = refl
graph_altered (step ∷ steps) s = graph_altered steps (took step s)

pub graph_on : (steps : List PlainStep) (s t : State) → IsSame (altered steps s) t
    → t.graph ≡ after_steps s.graph steps
graph_on steps s t e = e.graph ∙ graph_altered steps s

-- ---- the guards stay

guards_told : (sort : ItemSort) (c : Change) (ss : List SeatSeen)
    → map (guard_in sort) (seats_heard (told c) ss) ≡ map (guard_in sort) ss
guards_told sort c [] = refl
guards_told sort (Add f) (s ∷ ss) = ap (λ l. guard_in sort s ∷ l) (guards_told sort (Add f) ss)
guards_told sort (Shift old now) (s ∷ ss) =
    ap (λ l. guard_in sort s ∷ l) (guards_told sort (Shift old now) ss)
guards_told sort (Build all) (s ∷ ss) =
    ap (λ l. guard_in sort s ∷ l) (guards_told sort (Build all) ss)

guards_heard : (sort : ItemSort) (c : Change) (chains : ChainsSeen)
    → guards_of (in_chain sort (chain_heard (told c)) chains) ≡ guards_of chains
guards_heard sorts.Node c chains =
    ap (λ l. l ++ map (guard_in sorts.Arc) chains.arcs.seats)
    (guards_told sorts.Node c chains.nodes.seats)
guards_heard sorts.Arc c chains =
    ap (λ l. map (guard_in sorts.Node) chains.nodes.seats ++ l)
    (guards_told sorts.Arc c chains.arcs.seats)

guards_each : (sort : ItemSort) (xs ys : List SeatSeen) → AreSame xs ys
    → map (guard_in sort) ys ≡ map (guard_in sort) xs
guards_each sort [] [] e = refl
guards_each sort [] (y ∷ ys) e = absurd e
guards_each sort (x ∷ xs) [] e = absurd e
guards_each sort (x ∷ xs) (y ∷ ys) e =
    let r = guards_each sort xs ys e.1 in
    λ i. record {
      sort = sort;
      key = e.0.key i;
      kind = (e.0.seen i).kind;
      k = (e.0.seen i).k;
    } ∷ r i

pub guards_same : (s t : State) → IsSame s t → guards_of t.chains ≡ guards_of s.chains
guards_same s t e =
    let n = guards_each sorts.Node s.chains.nodes.seats t.chains.nodes.seats e.chains.nodes.seats in
    let a = guards_each sorts.Arc s.chains.arcs.seats t.chains.arcs.seats e.chains.arcs.seats in
    λ i. n i ++ a i

abbrev pub AllRefusable : List PlainStep → Type 0
AllRefusable [] = Unit {0}
AllRefusable (step ∷ steps) = (is_refusable step ≡ true) × AllRefusable steps

guards_altered : (steps : List PlainStep) (s : State) → AllRefusable steps
    → guards_of (altered steps s).chains ≡ guards_of s.chains
guards_altered [] s r = refl
guards_altered (step ∷ steps) s r =
    guards_altered steps (took step s) r.1
    ∙ ap guards_of (told_chains step s.graph s.chains r.0)
    ∙ guards_heard (done_sort (done_of step s.graph)) (change_of (done_of step s.graph)) s.chains

pub guards_on : (steps : List PlainStep) (s t : State) → AllRefusable steps
    → IsSame (altered steps s) t → guards_of t.chains ≡ guards_of s.chains
guards_on steps s t r e = guards_same (altered steps s) t e ∙ guards_altered steps s r

-- ---- parts that went well

pub goes_none : (s t : State) → IsInStep s → IsSame s t → Goes [] s t
goes_none s t at e =
    record { took = e; in_step = same_in_step s t e at; snaps = follow_none s t e }

pub goes_both : (a b : List PlainStep) (s t u : State) → Goes a s t → Goes b t u
    → Goes (a ++ b) s u
goes_both a b s t u p q = record {
  took = subst (λ x. IsSame x u) (sym (altered_append a b s))
      (same_trans (altered b (altered a s)) (altered b t) u
      (altered_same b (altered a s) t p.took) q.took);
  in_step = q.in_step;
  snaps = follow_both a b s t u p.snaps q.snaps;
}

pub takes_none : (s : State) (j : List Done) → IsInStep s → CanUndo j s → Takes [] s s j j
takes_none s j at c = record {
  goes = goes_none s s at (same_refl s);
  passes = refl;
  grows = grow_none s.graph;
  undo = c;
  start = same_refl (undone j s);
}

-- ---- verdicts of parts

module _ (a b : List PlainStep) (s t : State) (r : AllRefusable a)
    (e : IsSame (altered a s) t) (p : Passes (guards_of s.chains) a s.graph) where
  later : vetoer breaks (guards_of s.chains) s.graph (a ++ b)
      ≡ vetoer breaks (guards_of t.chains) t.graph b
  later =
      vetoes_in_turn breaks (guards_of s.chains) s.graph a b
      ∙ ap (λ o. option_or o (vetoer breaks (guards_of s.chains) (after_steps s.graph a) b)) p
      ∙ ap (λ guards. vetoer breaks guards (after_steps s.graph a) b) (sym (guards_on a s t r e))
      ∙ ap (λ g. vetoer breaks (guards_of t.chains) g b) (sym (graph_on a s t e))

pub passes_both : (a b : List PlainStep) (s t : State) → AllRefusable a → IsSame (altered a s) t
    → Passes (guards_of s.chains) a s.graph → Passes (guards_of t.chains) b t.graph
    → Passes (guards_of s.chains) (a ++ b) s.graph
passes_both a b s t r e p q = later a b s t r e p ∙ q

first_vetoes : (guards : List Guard) (a b : List PlainStep) (g : Digraph) (sort : ItemSort)
    (key : SeatKey) → Vetoes guards a g sort key → Vetoes guards (a ++ b) g sort key
first_vetoes guards a b g sort key v =
    ap (option_map name_of) (vetoes_in_turn breaks guards g a b)
    ∙ still (vetoer breaks guards g a) (vetoer breaks guards (after_steps g a) b) v
  where
    still : (o q : Option Guard) → option_map name_of o ≡ Some (sort, key.0)
        → option_map name_of (option_or o q) ≡ Some (sort, key.0)
    still None q e = cc
    still (Some guard) q e = e

denied_later : (a b : List PlainStep) (s t : State) (fault : AlterFault) → AllRefusable a
    → IsSame (altered a s) t → Passes (guards_of s.chains) a s.graph → Grows a s.graph t.graph
    → Denied (guards_of t.chains) b t.graph fault
    → Denied (guards_of s.chains) (a ++ b) s.graph fault
denied_later a b s t (Vetoed sort key) r e p grows d =
    ap (option_map name_of) (later a b s t r e p) ∙ d
denied_later a b s t SameNode r e p grows d = d
denied_later a b s t (Full limit) r e p grows d =
    λ room. d (room_rest a b s.graph t.graph grows room)
denied_later a b s t Stale r e p grows d = d
denied_later a b s t Memory r e p grows d = tt

denied_first : (guards : List Guard) (a b : List PlainStep) (g : Digraph) (fault : AlterFault)
    → Denied guards a g fault → Denied guards (a ++ b) g fault
denied_first guards a b g (Vetoed sort key) d = first_vetoes guards a b g sort key d
denied_first guards a b g SameNode d = d
denied_first guards a b g (Full limit) d = λ room. d (room_first a b g room)
denied_first guards a b g Stale d = d
denied_first guards a b g Memory d = tt

-- ---- parts with their journals

pub takes_both : (a b : List PlainStep) (s t u : State) (i j k : List Done) → AllRefusable a
    → Takes a s t i j → Takes b t u j k → Takes (a ++ b) s u i k
takes_both a b s t u i j k r p q = record {
  goes = goes_both a b s t u p.goes q.goes;
  passes = passes_both a b s t r p.goes.took p.passes q.passes;
  grows = grow_both a b s.graph t.graph u.graph p.grows q.grows;
  undo = q.undo;
  start = same_trans (undone i s) (undone j t) (undone k u) p.start q.start;
}

pub fails_later : (a b : List PlainStep) (s t u : State) (i j : List Done) (fault : AlterFault)
    → AllRefusable a → Takes a s t i j → Fails b t u j fault → Fails (a ++ b) s u i fault
fails_later a b s t u i j fault r p q = record {
  back = same_trans (undone i s) (undone j t) u p.start q.back;
  denied = denied_later a b s t fault r p.goes.took p.passes p.grows q.denied;
}

-- no memory for what comes next
pub fails_for_memory : (a b : List PlainStep) (s t u : State) (i j : List Done)
    → Takes a s t i j → IsSame (undone j t) u → Fails (a ++ b) s u i Memory
fails_for_memory a b s t u i j p e =
    record { back = same_trans (undone i s) (undone j t) u p.start e; denied = tt }

pub fails_first : (a b : List PlainStep) (s u : State) (i : List Done) (fault : AlterFault)
    → Fails a s u i fault → Fails (a ++ b) s u i fault
fails_first a b s u i fault q = record {
  back = q.back;
  denied = denied_first (guards_of s.chains) a b s.graph fault q.denied;
}

-- ---- an alteration that began with an empty journal

pub stays : (steps : List PlainStep) (s t : State) (fault : AlterFault) → IsInStep s
    → HasRoomFor steps s.graph → Fails steps s t [] fault → Stays steps s t fault
stays steps s t fault at room h = record {
  same = h.back;
  refused = refused (guards_of s.chains) steps s.graph fault room h.denied;
  in_step = same_in_step s t h.back at;
}

-- ---- steps that can be taken

pub can_take_rest : (a b : List PlainStep) (g : Digraph) → CanTakeAll (a ++ b) g
    → CanTakeAll b (after_steps g a)
can_take_rest [] b g h = h
can_take_rest (step ∷ a) b g h = can_take_rest a b (after_step g step) h.1

pub can_take_after : (steps rest : List PlainStep) (s t : State) → IsSame (altered steps s) t
    → CanTakeAll (steps ++ rest) s.graph → CanTakeAll rest t.graph
can_take_after steps rest s t e h =
    subst (CanTakeAll rest) (sym (graph_on steps s t e)) (can_take_rest steps rest s.graph h)
