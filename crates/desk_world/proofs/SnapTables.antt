-- The names of snapshots while the chains change.
use Rattle.std.proofs.Common.{◌≡◌, ℕ, false, List, [], ◌∷◌, map, refl, ap, ◌∙◌}
use Rattle.std.specs.Prelude.{not, filter, cond}
use Rattle.std.specs.List.{flat_map}
use Rattle.base_items.specs.declared.items.ItemSort.{ItemSort}
use Rattle.base_items.specs.declared.items.ItemSort.TheVariants as sorts
use Rattle.plain_digraph.specs.Lists.{AllOf}
use Rattle.plain_digraph.specs.PlainSteps.{PlainStep, sort_of}
use Rattle.observe_core.specs.Seen.{Watched}
use Rattle.alter_graph.specs.declared.snaps.SnapKeys.{SnapKeys}
use Rattle.alter_graph.specs.Attaching.{Attaches, uses_key, with_seats}
use Rattle.alter_graph.specs.Chains.{ChainSeen, ChainsSeen, in_chain, seats_in}
use Rattle.alter_graph.specs.State.{State}
use Rattle.alter_graph.specs.Steps.{altered, noticed, notice_of, took}
use Rattle.plain_world.specs.Tables.{Named}
use Rattle.desk_world.specs.Claims.{snap_claims}
use Rattle.desk_world.proofs.Written.{IsElsewhere}

-- one chain changes
pub snaps_stay : (sort : ItemSort) (change : ChainSeen → ChainSeen) (c : ChainsSeen)
    → (in_chain sort change c).snaps ≡ c.snaps
snaps_stay sorts.Node change c = refl
snaps_stay sorts.Arc change c = refl

pub snaps_attached : (sort : ItemSort) (key : ℕ) (came : Watched) (old new : State)
    → Attaches sort key came old new → new.chains.snaps ≡ old.chains.snaps
snaps_attached sort key came old new attaches =
    ap (λ x. x.snaps) attaches.rest
    ∙ snaps_stay sort (with_seats (seats_in sort new.chains)) old.chains

-- a step, or all of some, are told
pub snaps_told : (step : PlainStep) (s : State) → (took step s).chains.snaps ≡ s.chains.snaps
snaps_told step s = snaps_stay (sort_of step) (noticed (notice_of step s.graph)) s.chains

pub snaps_altered : (steps : List PlainStep) (s : State)
    → (altered steps s).chains.snaps ≡ s.chains.snaps
snaps_altered [] s = refl
snaps_altered (step ∷ steps) s = snaps_altered steps (took step s) ∙ snaps_told step s

-- a seat goes that is of no snapshot
pub snaps_left : (sort : ItemSort) (key : ℕ) (table : List (Named SnapKeys))
    → AllOf (IsElsewhere sort key) (flat_map snap_claims table)
    → filter (λ k. not (uses_key sort key k)) (map (λ e. e.value) table)
    ≡ map (λ e. e.value) table
snaps_left sort key [] apart = refl
snaps_left sort key (e ∷ es) apart =
    let rest = snaps_left sort key es apart.1.1 in
    let unused = by sort apart in
    λ i. cond (not (unused i)) (e.value ∷ rest i) (rest i)
  where
    by : (sort : ItemSort) → AllOf (IsElsewhere sort key) (flat_map snap_claims (e ∷ es))
        → uses_key sort key e.value ≡ false
    by sorts.Node apart = apart.0
    by sorts.Arc apart = apart.1.0
