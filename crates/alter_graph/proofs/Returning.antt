-- Steps are taken back, one and all.
use Rattle.std.proofs.Common.{◌≡◌, ℕ, true, List, [], ◌∷◌, ◌++◌, inl, inr}
use Rattle.std.proofs.Common.{refl, sym, ap, subst, ◌∙◌}
use Rattle.base_items.specs.declared.items.Fact.{Fact}
use Rattle.base_items.specs.declared.items.ItemSort.TheVariants as sorts
use Rattle.plain_digraph.specs.Digraph.{Digraph}
use Rattle.plain_digraph.specs.Items.{IsLive, node_fact, arc_fact}
use Rattle.plain_digraph.specs.Steps.{new_node, new_arc, add_node, add_arc}
use Rattle.plain_digraph.specs.PlainSteps.{PlainStep, AddNode, AddArc, MoveFrom, MoveTo, Turn}
use Rattle.plain_digraph.specs.PlainSteps.{PlaceBack, EraseArc, EraseNode, ClearArcs, ClearNodes}
use Rattle.plain_digraph.specs.PlainSteps.{sort_of, is_refusable, after_step}
use Rattle.plain_digraph.specs.UndoLaws.{MovesTo}
use Rattle.plain_digraph.specs.Valid.{IsValid}
use Rattle.plain_digraph.proofs.Undone.{move_undone, addition_undone}
use Rattle.observe_core.specs.Changes.{told, untold, CanTell}
use Rattle.notify_chain.specs.Seats.{AllSeats, Steady}
use Rattle.notify_chain.proofs.SeatLemmas.{undo_ready}
use Rattle.alter_graph.specs.declared.steps.Done.{Done}
use Rattle.alter_graph.specs.declared.steps.Done.TheVariants.{Moved}
use Rattle.alter_graph.specs.Chains.{ChainsSeen, seats_in, in_chain, chain_heard, IsSameChains}
use Rattle.alter_graph.specs.Present.{fact_at}
use Rattle.alter_graph.specs.State.{State, IsSame}
use Rattle.alter_graph.specs.Steps.{CanTake, notice_of, noticed, took, done_of, done_sort}
use Rattle.alter_graph.specs.Steps.{change_of}
use Rattle.alter_graph.specs.Steps.{before, LedTo, CanUntake, back, CanGoBack, undone, CanUndo}
use Rattle.alter_graph.proofs.Listing.{live_id, live_told}
use Rattle.alter_graph.proofs.Sameness.{heard_same, same_seats, heard_seats, untell_same, unheard}

-- ---- one step, on the digraph

module _ (g : Digraph) (arc : ℕ) (valid : IsValid g) (live : IsLive g sorts.Arc arc) where
  abbrev was : Fact
  was = fact_at g sorts.Arc arc

  move_back : (h : Digraph) → MovesTo g arc h → before h (Moved was was) ≡ g
  move_back h led = move_undone g h arc was valid (live_told g sorts.Arc valid arc live) led

  named : (h : Digraph) → MovesTo g arc h → MovesTo g was.id h
  named h led = subst (λ a. MovesTo g a h) (sym (live_id g sorts.Arc valid arc live)) led

pub led_on : (step : PlainStep) (g : Digraph) → is_refusable step ≡ true → IsValid g
    → CanTake step g → LedTo (done_of step g) g (after_step g step)
led_on AddNode g r valid can = (refl, refl)
led_on (AddArc from to) g r valid can = (refl, refl)
led_on (MoveFrom arc node) g r valid can =
    named g arc valid can.0 (after_step g (MoveFrom arc node)) (inl (node, refl))
led_on (MoveTo arc node) g r valid can =
    named g arc valid can.0 (after_step g (MoveTo arc node)) (inr (inl (node, refl)))
led_on (Turn arc) g r valid can =
    named g arc valid can (after_step g (Turn arc)) (inr (inr (inl refl)))
led_on (PlaceBack fact) g r valid can =
    named g fact.id valid can.arc (after_step g (PlaceBack fact))
    (inr (inr (inr (fact, refl, refl))))
led_on (EraseArc arc) g r valid can = cc
led_on (EraseNode node) g r valid can = cc
led_on ClearArcs g r valid can = cc
led_on ClearNodes g r valid can = cc

pub before_after : (step : PlainStep) (g : Digraph) → is_refusable step ≡ true → IsValid g
    → CanTake step g → before (after_step g step) (done_of step g) ≡ g
before_after AddNode g r valid can =
    addition_undone g (add_node g) sorts.Node (node_fact (new_node g) g.stamps) valid (refl, refl)
before_after (AddArc from to) g r valid can =
    addition_undone g (add_arc g from to) sorts.Arc
    (arc_fact (new_arc g) (from, to) g.stamps g.stamps) valid (refl, refl)
before_after (MoveFrom arc node) g r valid can =
    move_back g arc valid can.0 (after_step g (MoveFrom arc node)) (inl (node, refl))
before_after (MoveTo arc node) g r valid can =
    move_back g arc valid can.0 (after_step g (MoveTo arc node)) (inr (inl (node, refl)))
before_after (Turn arc) g r valid can =
    move_back g arc valid can (after_step g (Turn arc)) (inr (inr (inl refl)))
before_after (PlaceBack fact) g r valid can =
    move_back g fact.id valid can.arc (after_step g (PlaceBack fact))
    (inr (inr (inr (fact, refl, refl))))
before_after (EraseArc arc) g r valid can = cc
before_after (EraseNode node) g r valid can = cc
before_after ClearArcs g r valid can = cc
before_after ClearNodes g r valid can = cc

pub may_untake : (step : PlainStep) (g : Digraph) → is_refusable step ≡ true → IsValid g
    → CanTake step g → CanUntake (done_of step g) (after_step g step)
may_untake step g r valid can =
    let e = sym (before_after step g r valid can) in
    record {
      valid = subst IsValid e valid;
      led = subst (λ h. LedTo (done_of step g) h (after_step g step)) e (led_on step g r valid can);
    }

-- ---- one step, on the state

back_same : (d : Done) (s t : State) → IsSame s t → IsSame (back d s) (back d t)
back_same d s t e = record {
  graph = ap (λ g. before g d) e.graph;
  chains = heard_same (done_sort d) (untold (change_of d)) s.chains t.chains e.chains;
}

may_same : (d : Done) (s t : State) → IsSame s t → CanGoBack d s → CanGoBack d t
may_same d s t e h = record {
  graph = subst (CanUntake d) (sym e.graph) h.graph;
  seats = untell_same (change_of d) (seats_in (done_sort d) s.chains)
      (seats_in (done_sort d) t.chains) (same_seats (done_sort d) s.chains t.chains e.chains)
      h.seats;
}

-- the chains after the step, by what is kept of it
pub told_chains : (step : PlainStep) (g : Digraph) (c : ChainsSeen) → is_refusable step ≡ true
    → in_chain (sort_of step) (noticed (notice_of step g)) c
    ≡ in_chain (done_sort (done_of step g)) (chain_heard (told (change_of (done_of step g)))) c
told_chains AddNode g c r = refl
told_chains (AddArc from to) g c r = refl
told_chains (MoveFrom arc node) g c r = refl
told_chains (MoveTo arc node) g c r = refl
told_chains (Turn arc) g c r = refl
told_chains (PlaceBack fact) g c r = refl
told_chains (EraseArc arc) g c r = cc
told_chains (EraseNode node) g c r = cc
told_chains ClearArcs g c r = cc
told_chains ClearNodes g c r = cc

module _ (step : PlainStep) (s : State) (r : is_refusable step ≡ true) (valid : IsValid s.graph)
    (can : CanTake step s.graph) where
  abbrev d : Done
  d = done_of step s.graph

  module _ (hear : AllSeats (λ x. CanTell (change_of d) x.seen) (seats_in (done_sort d) s.chains))
      (steady : AllSeats Steady (seats_in (done_sort d) s.chains)) where
    back_took : back d (took step s) ≡ s
    back_took =
        let a = before_after step s.graph r valid can in
        let b = ap (in_chain (done_sort d) (chain_heard (untold (change_of d))))
        (told_chains step s.graph s.chains r)
        ∙ unheard (done_sort d) (change_of d) s.chains hear steady in
        λ i. record { graph = a i; chains = b i }

    -- what came by the step leads back
    pub leads_back : (t : State) → IsSame (took step s) t → IsSame s (back d t)
    leads_back t e = subst (λ x. IsSame x (back d t)) back_took (back_same d (took step s) t e)

    pub may_go_back : (t : State) → IsSame (took step s) t → CanGoBack d t
    may_go_back t e =
        let chains = subst (λ c. IsSameChains c t.chains)
        (told_chains step s.graph s.chains r) e.chains in
        record {
          graph = subst (CanUntake d) (sym e.graph) (may_untake step s.graph r valid can);
          seats = undo_ready (change_of d) (seats_in (done_sort d) s.chains)
              (seats_in (done_sort d) t.chains) hear steady
              (heard_seats (done_sort d) (told (change_of d)) s.chains t.chains chains);
        }

-- ---- a journal

pub undone_push : (ds : List Done) (d : Done) (s : State)
    → undone (ds ++ d ∷ []) s ≡ undone ds (back d s)
undone_push [] d s = refl
undone_push (e ∷ ds) d s = ap (back e) (undone_push ds d s)

pub undone_same : (ds : List Done) (s t : State) → IsSame s t → IsSame (undone ds s) (undone ds t)
undone_same [] s t e = e
undone_same (d ∷ ds) s t e = back_same d (undone ds s) (undone ds t) (undone_same ds s t e)

pub may_undo_same : (ds : List Done) (s t : State) → IsSame s t → CanUndo ds s → CanUndo ds t
may_undo_same [] s t e h = tt
may_undo_same (d ∷ ds) s t e h = (
  may_undo_same ds s t e h.0,
  may_same d (undone ds s) (undone ds t) (undone_same ds s t e) h.1,
)

pub may_undo_push : (ds : List Done) (d : Done) (s : State) → CanGoBack d s
    → CanUndo ds (back d s) → CanUndo (ds ++ d ∷ []) s
may_undo_push [] d s c h = (tt, c)
may_undo_push (e ∷ ds) d s c h =
    (may_undo_push ds d s c h.0, subst (CanGoBack e) (sym (undone_push ds d s)) h.1)

pub last_may : (ds : List Done) (d : Done) (s : State) → CanUndo (ds ++ d ∷ []) s → CanGoBack d s
last_may [] d s h = h.1
last_may (e ∷ ds) d s h = last_may ds d s h.0

pub rest_may : (ds : List Done) (d : Done) (s : State) → CanUndo (ds ++ d ∷ []) s
    → CanUndo ds (back d s)
rest_may [] d s h = tt
rest_may (e ∷ ds) d s h =
    (rest_may ds d s h.0, subst (CanGoBack e) (undone_push ds d s) h.1)
