-- One step, told and accepted, or refused.
use Rattle.std.proofs.Common.{◌≡◌, ◌≤◌, true, List, [], ◌∷◌, Option, Some, None, refl, sym, ap}
use Rattle.std.proofs.Common.{subst, ◌∙◌}
use Rattle.std.proofs.Common.{arith}
use Rattle.std.specs.Prelude.{option_map}
use Rattle.std.specs.Option.{option_or}
use Rattle.base_items.specs.declared.items.Fact.{Fact}
use Rattle.base_items.specs.declared.items.ItemSort.{ItemSort}
use Rattle.base_items.specs.declared.items.ItemSort.TheVariants as sorts
use Rattle.plain_digraph.specs.Digraph.{Digraph}
use Rattle.plain_digraph.specs.Items.{facts}
use Rattle.plain_digraph.specs.PlainSteps.{PlainStep, AddNode, AddArc, MoveFrom, MoveTo, Turn}
use Rattle.plain_digraph.specs.PlainSteps.{PlaceBack, EraseArc, EraseNode, ClearArcs, ClearNodes}
use Rattle.plain_digraph.specs.PlainSteps.{sort_of, is_refusable, after_step}
use Rattle.plain_digraph.specs.Valid.{IsValid}
use Rattle.observe_core.specs.declared.kinds.Veto.{Veto}
use Rattle.observe_core.specs.declared.kinds.Veto.TheVariants as veto
use Rattle.observe_core.specs.Changes.{told, CanTell}
use Rattle.observe_core.specs.Seen.{Watched}
use Rattle.notify_chain.specs.Seats.{AllSeats, Refuses, Steady, Each, Became}
use Rattle.notify_chain.specs.declared.key.SeatKey.{SeatKey}
use Rattle.notify_chain.proofs.SeatLemmas.{all_steady}
use Rattle.alter_graph.specs.declared.steps.Step.{Step}
use Rattle.alter_graph.specs.declared.steps.Step.TheVariants as step
use Rattle.alter_graph.specs.declared.steps.Done.{Done}
use Rattle.alter_graph.specs.Faults.{fault_of}
use Rattle.alter_graph.specs.Chains.{ChainsOf, chains_seen, seats_in, in_chain}
use Rattle.alter_graph.specs.Chains.{chain_heard, IsSameChains}
use Rattle.alter_graph.specs.Present.{Present, present_of, facts_in}
use Rattle.alter_graph.specs.State.{State, IsSame, Stands, IsInStep}
use Rattle.alter_graph.specs.Steps.{plain_step, CanTake, HasOwnPlace, Notice, Tells, notice_of}
use Rattle.alter_graph.specs.Steps.{took}
use Rattle.alter_graph.specs.Steps.{done_of, done_sort, change_of, back, CanGoBack}
use Rattle.alter_graph.specs.Verdict.{guards_of, Passes}
use Rattle.alter_graph.specs.Outcome.{Goes}
use Rattle.alter_graph.specs.Parts.{Denied}
use Rattle.alter_graph.proofs.Telling.{facts_noticed, CanHear, can_hear, present_next, next}
use Rattle.alter_graph.proofs.Sameness.{heard_seats}
use Rattle.alter_graph.proofs.Following.{took_follows}
use Rattle.alter_graph.proofs.Standing.{seats_can, stands_in, took_in_step}
use Rattle.alter_graph.proofs.Keeping.{same_in_step, follow_none, follow_both}
use Rattle.alter_graph.proofs.Returning.{told_chains, leads_back, may_go_back}
use Rattle.alter_graph.proofs.Verdicts.{name_of, find_own, refuser_found, none_found}

pub always_refusable : (s : Step) → is_refusable (plain_step s) ≡ true
always_refusable step.AddNode = refl
always_refusable (step.AddArc u v) = refl
always_refusable (step.MoveFrom a u) = refl
always_refusable (step.MoveTo a v) = refl
always_refusable (step.Turn a) = refl
always_refusable (step.Place f) = refl

-- ---- what is kept of a refusable step says what was told

module _ (step : PlainStep) (g : Digraph) (r : is_refusable step ≡ true) where
  pub sort_is : done_sort (done_of step g) ≡ sort_of step
  sort_is = of step r
    where
      of : (x : PlainStep) → is_refusable x ≡ true → done_sort (done_of x g) ≡ sort_of x
      of AddNode e = refl
      of (AddArc from to) e = refl
      of (MoveFrom arc node) e = refl
      of (MoveTo arc node) e = refl
      of (Turn arc) e = refl
      of (PlaceBack fact) e = refl
      of (EraseArc arc) e = cc
      of (EraseNode node) e = cc
      of ClearArcs e = cc
      of ClearNodes e = cc

  pub notice_is : notice_of step g ≡ Tells (change_of (done_of step g))
  notice_is = of step r
    where
      of : (x : PlainStep) → is_refusable x ≡ true
          → notice_of x g ≡ Tells (change_of (done_of x g))
      of AddNode e = refl
      of (AddArc from to) e = refl
      of (MoveFrom arc node) e = refl
      of (MoveTo arc node) e = refl
      of (Turn arc) e = refl
      of (PlaceBack fact) e = refl
      of (EraseArc arc) e = cc
      of (EraseNode node) e = cc
      of ClearArcs e = cc
      of ClearNodes e = cc

facts_next : (sort : ItemSort) (n : Notice) (p : Present) → facts_in sort (next sort n p)
    ≡ facts_noticed n (facts_in sort p)
facts_next sorts.Node n p = refl
facts_next sorts.Arc n p = refl

facts_sort : (sort : ItemSort) (g : Digraph) → facts_in sort (present_of g) ≡ facts g sort
facts_sort sorts.Node g = refl
facts_sort sorts.Arc g = refl

module _ {O : Type 0} (watch : O → Watched) where
  pub steady_in : (sort : ItemSort) (c : ChainsOf O)
      → AllSeats Steady (seats_in sort (chains_seen watch c))
  steady_in sorts.Node c = all_steady watch c.nodes.slots c.nodes.order
  steady_in sorts.Arc c = all_steady watch c.arcs.slots c.arcs.order

-- ---- a refusable step of a state whose seats are steady

module _ (step : PlainStep) (s : State) (at : IsInStep s) (can : CanTake step s.graph)
    (r : is_refusable step ≡ true) (then_valid : IsValid (after_step s.graph step))
    (steady : (sort : ItemSort) → AllSeats Steady (seats_in sort s.chains)) where
  abbrev d : Done
  d = done_of step s.graph

  abbrev live : List Fact
  live = facts s.graph (sort_of step)

  hears : CanHear (Tells (change_of d)) live
  hears = subst (λ n. CanHear n live) (notice_is step s.graph r)
      (can_hear step s.graph at.valid can then_valid)

  few : s.graph.stamps ≤ 4611686018427387904
  few = let n = at.valid.few_stamps in omega (arith, n)

  stand : AllSeats (Stands s.graph.stamps live) (seats_in (sort_of step) s.chains)
  stand = subst (λ fs. AllSeats (Stands s.graph.stamps fs) (seats_in (sort_of step) s.chains))
      (facts_sort (sort_of step) s.graph)
      (stands_in (sort_of step) (present_of s.graph) s.chains at.seats)

  pub may_be_told : AllSeats (λ x. CanTell (change_of d) x.seen) (seats_in (done_sort d) s.chains)
  may_be_told = subst
      (λ sort. AllSeats (λ x. CanTell (change_of d) x.seen) (seats_in sort s.chains))
      (sym (sort_is step s.graph r))
      (seats_can s.graph.stamps live (change_of d) (seats_in (sort_of step) s.chains) hears few
      stand)

  then_facts : facts (after_step s.graph step) (sort_of step)
      ≡ facts_noticed (Tells (change_of d)) live
  then_facts =
      sym (facts_sort (sort_of step) (after_step s.graph step))
      ∙ ap (facts_in (sort_of step)) (present_next step s.graph at.valid can)
      ∙ facts_next (sort_of step) (notice_of step s.graph) (present_of s.graph)
      ∙ (λ i. facts_noticed (notice_is step s.graph r i) (facts_sort (sort_of step) s.graph i))

  -- an observer refused it
  pub denied_is : (key : SeatKey) (v : Veto)
      → Refuses (told (change_of d)) (seats_in (done_sort d) s.chains) key.0 v
      → Denied (guards_of s.chains) (step ∷ []) s.graph (fault_of (done_sort d) key v)
  denied_is key veto.Memory refuser = tt
  denied_is key veto.Refused refuser =
      let own = find_own (sort_of step) (after_step s.graph step) s.chains in
      let found = refuser_found (change_of d) live hears (sort_of step) (after_step s.graph step)
      then_facts s.graph.stamps (seats_in (sort_of step) s.chains) key.0 stand
      (subst (λ sort. Refuses (told (change_of d)) (seats_in sort s.chains) key.0 veto.Refused)
      (sort_is step s.graph r) refuser) in
      let e = ap (option_map name_of) (ap (λ o. option_or o None) own ∙ last_none _) in
      e ∙ found ∙ ap (λ sort. Some (sort, key.0)) (sym (sort_is step s.graph r))
    where
      last_none : {X : Type 0} (o : Option X) → option_or o None ≡ o
      last_none None = refl
      last_none (Some x) = refl

  -- and all accepted it
  module _ (t : State) (then_steady : (sort : ItemSort) → AllSeats Steady (seats_in sort t.chains))
      (e : IsSame (took step s) t) where
    chains_told : IsSameChains (in_chain (done_sort d) (chain_heard (told (change_of d))) s.chains)
        t.chains
    chains_told =
        subst (λ c. IsSameChains c t.chains) (told_chains step s.graph s.chains r) e.chains

    pub taken_passes : Passes (guards_of s.chains) (step ∷ []) s.graph
    taken_passes =
        let own = find_own (sort_of step) (after_step s.graph step) s.chains in
        let each = heard_seats (done_sort d) (told (change_of d)) s.chains t.chains chains_told in
        let none = none_found (change_of d) live hears (sort_of step) (after_step s.graph step)
        then_facts s.graph.stamps (seats_in (sort_of step) s.chains)
        (seats_in (sort_of step) t.chains) stand
        (subst (λ sort. Each (Became (told (change_of d)))
        (seats_in sort s.chains) (seats_in sort t.chains)) (sort_is step s.graph r) each)
        (then_steady (sort_of step)) in
        ap (λ o. option_or o None) (own ∙ none)

    pub taken_goes : HasOwnPlace step s → Goes (step ∷ []) s t
    taken_goes own = record {
      took = e;
      in_step = same_in_step (took step s) t e
          (took_in_step step s at can own then_valid (steady (sort_of step)));
      snaps = follow_both (step ∷ []) [] s (took step s) t
          (took_follows step s at can own then_valid (steady (sort_of step)))
          (follow_none (took step s) t e);
    }

    pub taken_may_return : CanGoBack d t
    taken_may_return = may_go_back step s r at.valid can may_be_told (steady (done_sort d)) t e

    pub taken_returns : IsSame s (back d t)
    taken_returns = leads_back step s r at.valid can may_be_told (steady (done_sort d)) t e
