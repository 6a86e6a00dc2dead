-- Sure steps: each is told to all, and nobody refuses.
use Rattle.std.proofs.Common.{◌≡◌, false, [], ◌∷◌, refl, sym, subst, arith}
use Rattle.base_items.specs.declared.items.ItemSort.TheVariants as sorts
use Rattle.plain_digraph.specs.Digraph.{Digraph}
use Rattle.plain_digraph.specs.Steps.{clear_arcs, clear_nodes}
use Rattle.plain_digraph.specs.PlainSteps.{PlainStep, AddNode, AddArc, MoveFrom, MoveTo, Turn}
use Rattle.plain_digraph.specs.PlainSteps.{PlaceBack, EraseArc, EraseNode, ClearArcs, ClearNodes}
use Rattle.plain_digraph.specs.PlainSteps.{sort_of, is_refusable, after_step}
use Rattle.observe_core.specs.declared.losses.Loss.{Loss}
use Rattle.observe_core.specs.declared.losses.Loss.TheVariants.{Clear}
use Rattle.observe_core.specs.Losses.{CanLose}
use Rattle.observe_core.specs.Seen.{Watched}
use Rattle.notify_chain.specs.Seats.{AllSeats}
use Rattle.alter_graph.specs.Chains.{ChainsOf, chains_seen, seats_in, in_chain}
use Rattle.alter_graph.specs.Chains.{chain_lost, IsSameChains}
use Rattle.alter_graph.specs.Present.{present_of, facts_in}
use Rattle.alter_graph.specs.State.{State, IsSame, IsInStep}
use Rattle.alter_graph.specs.Steps.{CanTake, HasOwnPlace, Loses, notice_of, noticed, took}
use Rattle.alter_graph.specs.Outcome.{Goes}
use Rattle.alter_graph.proofs.Telling.{CanHear}
use Rattle.alter_graph.proofs.Following.{may_hear, took_follows}
use Rattle.alter_graph.proofs.Standing.{seats_lose, stands_in, took_in_step}
use Rattle.alter_graph.proofs.Keeping.{same_in_step, follow_none, follow_both}
use Rattle.alter_graph.proofs.Rooms.{valid_lost}
use Rattle.alter_graph.proofs.Taking.{steady_in}
use Rattle.alter_graph.proofs.Parting.{goes_both}

-- a sure step is put at no place
sure_own : (step : PlainStep) (s : State) → is_refusable step ≡ false → HasOwnPlace step s
sure_own AddNode s sure = tt
sure_own (AddArc from to) s sure = tt
sure_own (MoveFrom arc node) s sure = tt
sure_own (MoveTo arc node) s sure = tt
sure_own (Turn arc) s sure = tt
sure_own (PlaceBack fact) s sure = cc
sure_own (EraseArc arc) s sure = tt
sure_own (EraseNode node) s sure = tt
sure_own ClearArcs s sure = tt
sure_own ClearNodes s sure = tt

module _ {O : Type 0} (watch : O → Watched) (step : PlainStep) (g : Digraph) (chains : ChainsOf O)
    (sure : is_refusable step ≡ false) where
  abbrev s : State
  s = record { graph = g; chains = chains_seen watch chains }

  -- the seats may be told of the loss
  pub may_lose : IsInStep s → CanTake step g → (loss : Loss) → notice_of step g ≡ Loses loss
      → AllSeats (λ x. CanLose loss x.seen) (seats_in (sort_of step) (chains_seen watch chains))
  may_lose at can loss is =
      let hear = may_hear step s at can (sure_own step s sure)
      (valid_lost step g sure at.valid can) (steady_in watch (sort_of step) chains) in
      let few = at.valid.few_stamps in
      seats_lose g.stamps (facts_in (sort_of step) (present_of g)) loss
      (seats_in (sort_of step) (chains_seen watch chains))
      (subst (λ n. CanHear n (facts_in (sort_of step) (present_of g))) is hear)
      (omega (arith, few)) (stands_in (sort_of step) (present_of g) s.chains at.seats)

  -- and what was taken and told has gone well
  pub lost_goes : IsInStep s → CanTake step g → (loss : Loss) → notice_of step g ≡ Loses loss
      → (t : Digraph) (new : ChainsOf O) → t ≡ after_step g step
      → IsSameChains (in_chain (sort_of step) (chain_lost loss) (chains_seen watch chains))
      (chains_seen watch new)
      → Goes (step ∷ []) s (record { graph = t; chains = chains_seen watch new })
  lost_goes at can loss is t new taken told =
      let u : State = record { graph = t; chains = chains_seen watch new } in
      let own = sure_own step s sure in
      let valid = valid_lost step g sure at.valid can in
      let steady = steady_in watch (sort_of step) chains in
      let same : IsSame (took step s) u = record {
        graph = taken;
        chains = subst (λ n. IsSameChains
            (in_chain (sort_of step) (noticed n) s.chains) u.chains)
            (sym is) told;
      } in
      record {
        took = same;
        in_step = same_in_step (took step s) u same
            (took_in_step step s at can own valid steady);
        snaps = follow_both (step ∷ []) [] s (took step s) u
            (took_follows step s at can own valid steady) (follow_none (took step s) u same);
      }

-- all arcs, and then all nodes
module _ {O : Type 0} (watch : O → Watched) (g : Digraph) (chains mid : ChainsOf O)
    (at : IsInStep (record { graph = g; chains = chains_seen watch chains })) where
  pub arcs_cleared : IsSameChains (in_chain sorts.Arc (chain_lost Clear) (chains_seen watch chains))
      (chains_seen watch mid) → Goes (ClearArcs ∷ [])
      (record { graph = g; chains = chains_seen watch chains })
      (record { graph = clear_arcs g; chains = chains_seen watch mid })
  arcs_cleared told = lost_goes watch ClearArcs g chains refl at tt Clear refl (clear_arcs g) mid
      refl told

  pub all_cleared : (t : Digraph) (new : ChainsOf O)
      → IsSameChains (in_chain sorts.Arc (chain_lost Clear) (chains_seen watch chains))
      (chains_seen watch mid) → t ≡ clear_nodes (clear_arcs g)
      → IsSameChains (in_chain sorts.Node (chain_lost Clear) (chains_seen watch mid))
      (chains_seen watch new) → Goes (ClearArcs ∷ ClearNodes ∷ [])
      (record { graph = g; chains = chains_seen watch chains })
      (record { graph = t; chains = chains_seen watch new })
  all_cleared t new told taken after =
      let first = arcs_cleared told in
      goes_both (ClearArcs ∷ []) (ClearNodes ∷ [])
      (record { graph = g; chains = chains_seen watch chains })
      (record { graph = clear_arcs g; chains = chains_seen watch mid })
      (record { graph = t; chains = chains_seen watch new }) first
      (lost_goes watch ClearNodes (clear_arcs g) mid refl first.in_step (g, at.valid, refl) Clear
      refl t new taken after)
