-- A step of an alterable digraph: told and accepted, refused and taken back, or not taken.
use Rattle.std.proofs.Common.{◌≡◌, true, [], ◌∷◌, sym, subst, ◌∙◌}
use Rattle.base_items.specs.declared.items.ItemSort.{ItemSort}
use Rattle.plain_digraph.specs.Digraph.{Digraph}
use Rattle.plain_digraph.specs.PlainSteps.{PlainStep, is_refusable, after_step}
use Rattle.plain_digraph.specs.Valid.{IsValid}
use Rattle.observe_core.specs.declared.kinds.Veto.{Veto}
use Rattle.observe_core.specs.Changes.{told, CanTell}
use Rattle.observe_core.specs.Seen.{Watched}
use Rattle.notify_chain.specs.Seats.{AllSeats, Refuses, Steady}
use Rattle.notify_chain.specs.declared.key.SeatKey.{SeatKey}
use Rattle.list_digraph.specs.declared.faults.AddFault.{AddFault}
use Rattle.alter_graph.specs.declared.steps.Step.{Step}
use Rattle.alter_graph.specs.declared.steps.Done.{Done}
use Rattle.alter_graph.specs.Faults.{fault_of, limit_of}
use Rattle.alter_graph.specs.Chains.{ChainsOf, chains_seen, seats_in, in_chain, chain_heard}
use Rattle.alter_graph.specs.Chains.{IsSameChains}
use Rattle.alter_graph.specs.State.{State, IsSame, IsInStep}
use Rattle.alter_graph.specs.Steps.{plain_step, CanTake, HasOwnPlace, took, done_of, done_sort}
use Rattle.alter_graph.specs.Steps.{change_of, before, CanUntake, back, CanGoBack}
use Rattle.alter_graph.specs.Room.{HasRoomFor, IsFull}
use Rattle.alter_graph.specs.Verdict.{guards_of}
use Rattle.alter_graph.specs.Outcome.{Alters, Stays}
use Rattle.alter_graph.specs.Parts.{Grows, Denied}
use Rattle.alter_graph.proofs.Sameness.{chains_refl}
use Rattle.alter_graph.proofs.Keeping.{same_in_step}
use Rattle.alter_graph.proofs.Returning.{before_after, may_untake, told_chains}
use Rattle.alter_graph.proofs.Rooms.{valid_taken, grow_one, full_refused, refused}
use Rattle.alter_graph.proofs.Taking.{always_refusable, steady_in, may_be_told, denied_is}
use Rattle.alter_graph.proofs.Taking.{taken_passes, taken_goes, taken_may_return, taken_returns}

module _ {O : Type 0} (watch : O → Watched) (x : Step) (g : Digraph) (chains : ChainsOf O) where
  abbrev s : State
  s = record { graph = g; chains = chains_seen watch chains }

  abbrev step : PlainStep
  step = plain_step x

  abbrev d : Done
  d = done_of step g

  -- the digraph didn't take it
  pub not_taken : (fault : AddFault) (t : Digraph) → IsInStep s → t ≡ g → IsFull step g fault
      → Stays (step ∷ []) s (record { graph = t; chains = chains_seen watch chains })
      (limit_of fault)
  not_taken fault t at e full =
      let same : IsSame s (record { graph = t; chains = chains_seen watch chains }) =
      record { graph = e; chains = chains_refl (chains_seen watch chains) } in
      record {
        same = same;
        refused = full_refused (guards_of s.chains) step g fault full;
        in_step = same_in_step s (record { graph = t; chains = chains_seen watch chains }) same at;
      }

  -- the digraph took it
  module _ (at : IsInStep s) (can : CanTake step g) (room : HasRoomFor (step ∷ []) g) where
    r : is_refusable step ≡ true
    r = always_refusable x

    then_valid : IsValid (after_step g step)
    then_valid = valid_taken step g at.valid can room

    steady : (sort : ItemSort) → AllSeats Steady (seats_in sort s.chains)
    steady sort = steady_in watch sort chains

    pub hears : AllSeats (λ y. CanTell (change_of d) y.seen) (seats_in (done_sort d) s.chains)
    hears = may_be_told step s at can r then_valid steady

    pub untakes : CanUntake d (after_step g step)
    untakes = may_untake step g r at.valid can

    pub grown : Grows (step ∷ []) g (after_step g step)
    grown = grow_one step g r at.valid can then_valid

    -- all accepted it
    module _ (t : Digraph) (new : ChainsOf O) (taken : t ≡ after_step g step)
        (tells : IsSameChains
        (in_chain (done_sort d) (chain_heard (told (change_of d))) (chains_seen watch chains))
        (chains_seen watch new)) where
      abbrev u : State
      u = record { graph = t; chains = chains_seen watch new }

      same : IsSame (took step s) u
      same = record {
        graph = taken;
        chains = subst (λ c. IsSameChains c (chains_seen watch new))
            (sym (told_chains step g s.chains r)) tells;
      }

      new_steady : (sort : ItemSort) → AllSeats Steady (seats_in sort u.chains)
      new_steady sort = steady_in watch sort new

      pub accepted : HasOwnPlace step s → Alters (step ∷ []) (step ∷ []) s u
      accepted own = record {
        goes = taken_goes step s at can r then_valid steady u new_steady same own;
        passes = taken_passes step s at can r then_valid steady u new_steady same;
      }

      pub may_return : CanGoBack d u
      may_return = taken_may_return step s at can r then_valid steady u new_steady same

      pub returns : IsSame s (back d u)
      returns = taken_returns step s at can r then_valid steady u new_steady same

    -- one refused it
    pub denies : (key : SeatKey) (v : Veto)
        → Refuses (told (change_of d)) (seats_in (done_sort d) s.chains) key.0 v
        → Denied (guards_of s.chains) (step ∷ []) g (fault_of (done_sort d) key v)
    denies key v refuser = denied_is step s at can r then_valid steady key v refuser

    pub refuses : (key : SeatKey) (v : Veto) (t : Digraph) (new : ChainsOf O)
        → Refuses (told (change_of d)) (seats_in (done_sort d) s.chains) key.0 v
        → t ≡ before (after_step g step) d
        → IsSameChains (chains_seen watch chains) (chains_seen watch new)
        → Stays (step ∷ []) s (record { graph = t; chains = chains_seen watch new })
        (fault_of (done_sort d) key v)
    refuses key v t new refuser left kept =
        let same : IsSame s (record { graph = t; chains = chains_seen watch new }) =
        record { graph = left ∙ before_after step g r at.valid can; chains = kept } in
        record {
          same = same;
          refused = refused (guards_of s.chains) (step ∷ []) g (fault_of (done_sort d) key v) room
              (denies key v refuser);
          in_step = same_in_step s (record { graph = t; chains = chains_seen watch new }) same at;
        }
