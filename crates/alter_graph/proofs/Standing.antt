-- Seats stand for the facts of the digraph, before and after a step.
use Rattle.std.proofs.Common.{◌≡◌, ℕ, ◌+◌, ◌≤◌, true, false, if◌then◌else◌, List, [], ◌∷◌}
use Rattle.std.proofs.Common.{length, sym, ap, subst, arith}
use Rattle.base_items.specs.declared.items.Fact.{Fact}
use Rattle.base_items.specs.declared.items.ItemSort.{ItemSort}
use Rattle.base_items.specs.declared.items.ItemSort.TheVariants as sorts
use Rattle.plain_digraph.specs.Facts.{fact_id}
use Rattle.plain_digraph.specs.PlainSteps.{PlainStep, sort_of, after_step}
use Rattle.plain_digraph.specs.Valid.{IsValid}
use Rattle.observe_core.specs.declared.kinds.Kind.{Kind}
use Rattle.observe_core.specs.declared.kinds.Kind.TheVariants.{Map, Quota, Loopless, Simple, OutCap}
use Rattle.observe_core.specs.declared.kinds.Kind.TheVariants.{Fuse, Tally}
use Rattle.observe_core.specs.declared.changes.Change.{Change}
use Rattle.observe_core.specs.declared.changes.Change.TheVariants.{Add, Shift, Build}
use Rattle.observe_core.specs.declared.losses.Loss.{Loss}
use Rattle.observe_core.specs.declared.losses.Loss.TheVariants.{Erase, Clear}
use Rattle.observe_core.specs.Losses as losses
use Rattle.observe_core.specs.Losses.{CanLose}
use Rattle.observe_core.specs.Changes.{told, CanTell}
use Rattle.observe_core.specs.Seen.{Seen, IsSound}
use Rattle.observe_core.specs.Fits.{Fits}
use Rattle.observe_core.specs.Conditions.{HasSmallCounts}
use Rattle.observe_core.specs.Guards.{tally_part, by_kind}
use Rattle.observe_core.proofs.FitLaws.{fits-added, fits-shifted, fits-erased, fits-cleared}
use Rattle.observe_core.proofs.ItemLemmas.{length-place, length-swapped}
use Rattle.observe_core.proofs.CountLemmas.{length-without}
use Rattle.notify_chain.specs.Seats.{SeatSeen, AllSeats, Steady}
use Rattle.notify_chain.specs.Leaving.{goes, stayers}
use Rattle.alter_graph.specs.Chains.{ChainsSeen, seats_in, seat_heard, in_chain}
use Rattle.alter_graph.specs.Present.{Present, present_of, facts_in}
use Rattle.alter_graph.specs.Snaps.{SnapsHold}
use Rattle.alter_graph.specs.State.{State, Stands, InStep, IsInStep}
use Rattle.alter_graph.specs.Steps.{Notice, Tells, Loses, seats_noticed, noticed, notice_of, took}
use Rattle.alter_graph.specs.Steps.{CanTake, HasOwnPlace}
use Rattle.alter_graph.proofs.Telling.{facts_noticed, stamps_noticed, next, CanHear, present_next}
use Rattle.alter_graph.proofs.Sameness.{AreSame}
use Rattle.alter_graph.proofs.Following.{may_hear, took_snaps}

one_at_most : (k : Kind) → tally_part k 1 ≤ 1
one_at_most Map = omega arith
one_at_most Quota = omega arith
one_at_most Loopless = omega arith
one_at_most Simple = omega arith
one_at_most OutCap = omega arith
one_at_most Fuse = omega arith
one_at_most Tally = omega arith

part_at_most : (k : Kind) (fs live : List Fact) → fs ≡ by_kind [] live k
    → tally_part k (length fs) ≤ length live
part_at_most Map fs live e = omega arith
part_at_most Quota fs live e = omega arith
part_at_most Loopless fs live e = omega arith
part_at_most Simple fs live e = omega arith
part_at_most OutCap fs live e = omega arith
part_at_most Fuse fs live e = omega arith
part_at_most Tally fs live e = let n = ap length e in omega (arith, n)

module _ (stamps : ℕ) (live : List Fact) where
  -- ---- what may be told

  small : (s : SeatSeen) → stamps ≤ 4611686018427387904 → Stands stamps live s
      → HasSmallCounts s.seen
  small s few h =
      let a = h.added in
      let e = h.erased in
      let m = h.moved in
      record {
        added = omega (arith, few, a);
        erased = omega (arith, few, e);
        moved = omega (arith, few, m);
      }

  pub seats_can : (c : Change) (ss : List SeatSeen) → CanHear (Tells c) live
      → stamps ≤ 4611686018427387904 → AllSeats (Stands stamps live) ss
      → AllSeats (λ s. CanTell c s.seen) ss
  seats_can c [] h few all = tt
  seats_can (Add f) (s ∷ ss) h few all = (
    record {
      live = live;
      is_live = h.is_live;
      fits = all.0.fits;
      untracked = h.untracked;
      bounded = h.bounded;
      counts = small s few all.0;
    },
    seats_can (Add f) ss h few all.1,
  )
  seats_can (Shift old now) (s ∷ ss) h few all = (
    record {
      live = live;
      is_live = h.is_live;
      fits = all.0.fits;
      tracked = h.tracked;
      same_id = h.same_id;
      differs = h.differs;
      old_bounded = h.old_bounded;
      bounded = h.bounded;
      counts = small s few all.0;
    },
    seats_can (Shift old now) ss h few all.1,
  )
  seats_can (Build all) (s ∷ ss) h few stand = absurd h

  pub seats_lose : (loss : Loss) (ss : List SeatSeen) → CanHear (Loses loss) live
      → stamps ≤ 4611686018427387904 → AllSeats (Stands stamps live) ss
      → AllSeats (λ s. CanLose loss s.seen) ss
  seats_lose loss [] h few all = tt
  seats_lose (Erase f) (s ∷ ss) h few all = (
    record {
      live = live;
      is_live = h.0;
      fits = all.0.fits;
      tracked = h.1.0;
      bounded = h.1.1;
      counts = small s few all.0;
    },
    seats_lose (Erase f) ss h few all.1,
  )
  seats_lose Clear (s ∷ ss) h few all = (small s few all.0, seats_lose Clear ss h few all.1)

  -- ---- the seats after a notice

  stand_later : (ss : List SeatSeen) → AllSeats (Stands stamps live) ss
      → AllSeats (Stands (stamps + 1) live) ss
  stand_later [] h = tt
  stand_later (s ∷ ss) h =
      let a = h.0.added in
      let e = h.0.erased in
      let m = h.0.moved in (
        record {
          fits = h.0.fits;
          added = omega (arith, a);
          erased = omega (arith, e);
          moved = omega (arith, m);
        },
        stand_later ss h.1,
      )

  -- those of the chain that isn't told
  stand_beside : (n : Notice) (ss : List SeatSeen) → AllSeats (Stands stamps live) ss
      → AllSeats (Stands (stamps_noticed n stamps) live) ss
  stand_beside (Tells change) ss h = stand_later ss h
  stand_beside (Loses loss) ss h = h

  pub fits_told : (c : Change) (s : Seen) → CanHear (Tells c) live → Fits s live
      → Fits (told c s) (facts_noticed (Tells c) live)
  fits_told (Add f) s h fits = fits-added f s live fits h.untracked
  fits_told (Shift old now) s h fits =
      fits-shifted old now s live fits h.is_live h.tracked h.same_id h.differs
  fits_told (Build all) s h fits = absurd h

  told_length : (c : Change) → length (facts_noticed (Tells c) live) ≤ length live + 1
  told_length (Add f) = let n = length-place fact_id f live in omega (arith, n)
  told_length (Shift old now) = let n = length-swapped fact_id now live in omega (arith, n)
  told_length (Build all) = omega arith

  counts : (c : Change) (s : Seen) → ((told c s).added ≤ s.added + 1)
      × ((told c s).erased ≤ s.erased) × ((told c s).moved ≤ s.moved + 1)
  counts (Add f) s = let one = one_at_most s.kind in (omega (arith, one), omega arith, omega arith)
  counts (Shift old now) s =
      let one = one_at_most s.kind in (omega arith, omega arith, omega (arith, one))
  counts (Build all) s = (omega arith, omega arith, omega arith)

  stand_told : (c : Change) (ss : List SeatSeen) → CanHear (Tells c) live
      → AllSeats (Stands stamps live) ss
      → AllSeats (Stands (stamps + 1) (facts_noticed (Tells c) live)) (seats_noticed (Tells c) ss)
  stand_told c [] h all = tt
  stand_told c (s ∷ ss) h all =
      let k = counts c s.seen in
      let n = told_length c in
      let a = all.0.added in
      let e = all.0.erased in
      let m = all.0.moved in
      let p = k.0 in
      let q = k.1 in
      let r = k.2 in (
        record {
          fits = fits_told c s.seen h all.0.fits;
          added = omega (arith, p, a);
          erased = omega (arith, q, e, n);
          moved = omega (arith, r, m);
        },
        stand_told c ss h all.1,
      )

  seat_lost : (loss : Loss) (s : SeatSeen) → CanHear (Loses loss) live → IsSound s.seen
      → Stands stamps live s
      → Stands stamps (losses.facts_left loss live) (seat_heard (losses.lost loss) s)
  seat_lost (Erase f) s c sound h =
      let n = length-without fact_id f live c.0.rising c.1.0 in
      let one = one_at_most s.seen.kind in
      let e = h.erased in
      record {
        fits = fits-erased f s.seen live h.fits c.0 sound c.1.0;
        added = h.added;
        erased = omega (arith, n, one, e);
        moved = h.moved;
      }
  seat_lost Clear s c sound h =
      let n = part_at_most s.seen.kind s.seen.facts live h.fits.guard in
      let e = h.erased in
      record {
        fits = fits-cleared s.seen live h.fits;
        added = h.added;
        erased = omega (arith, n, e);
        moved = h.moved;
      }

  stand_lost : (loss : Loss) (ss : List SeatSeen) → CanHear (Loses loss) live → AllSeats Steady ss
      → AllSeats (Stands stamps live) ss
      → AllSeats (Stands stamps (losses.facts_left loss live)) (stayers loss ss)
  stand_lost loss [] c steady h = tt
  stand_lost loss (s ∷ ss) c steady h =
      let r = stand_lost loss ss c steady.1 h.1 in
      elim (goes (losses.leaves_at loss s.seen)) as (λ b.
      AllSeats (Stands stamps (losses.facts_left loss live))
      (if b then stayers loss ss else seat_heard (losses.lost loss) s ∷ stayers loss ss)) [
        | true ↦ r
        | false ↦ (seat_lost loss s c steady.0.0 h.0, r)
      ]

  stand_next : (n : Notice) (ss : List SeatSeen) → CanHear n live → AllSeats Steady ss
      → AllSeats (Stands stamps live) ss
      → AllSeats (Stands (stamps_noticed n stamps) (facts_noticed n live)) (seats_noticed n ss)
  stand_next (Tells c) ss can steady h = stand_told c ss can h
  stand_next (Loses loss) ss can steady h = stand_lost loss ss can steady h

  pub stand_same : (old new : List SeatSeen) → AreSame old new → AllSeats (Stands stamps live) old
      → AllSeats (Stands stamps live) new
  stand_same [] [] b h = tt
  stand_same [] (y ∷ ys) b h = absurd b
  stand_same (x ∷ xs) [] b h = absurd b
  stand_same (x ∷ xs) (y ∷ ys) b h =
      let e = b.0.seen in (
        record {
          fits = subst (λ s. Fits s live) (sym e) h.0.fits;
          added = subst (λ (s : Seen). s.added ≤ stamps) (sym e) h.0.added;
          erased = subst (λ (s : Seen). s.erased + length live ≤ stamps + 8388608) (sym e)
              h.0.erased;
          moved = subst (λ (s : Seen). s.moved ≤ stamps) (sym e) h.0.moved;
        },
        stand_same xs ys b.1 h.1,
      )

-- ---- the state

pub stands_in : (sort : ItemSort) (p : Present) (c : ChainsSeen) → InStep p c
    → AllSeats (Stands p.stamps (facts_in sort p)) (seats_in sort c)
stands_in sorts.Node p c at = at.nodes
stands_in sorts.Arc p c at = at.arcs

next_in_step : (sort : ItemSort) (n : Notice) (p : Present) (c : ChainsSeen)
    → CanHear n (facts_in sort p) → AllSeats Steady (seats_in sort c) → InStep p c
    → SnapsHold (next sort n p) (in_chain sort (noticed n) c)
    → InStep (next sort n p) (in_chain sort (noticed n) c)
next_in_step sorts.Node n p c can steady at snaps = record {
  nodes = stand_next p.stamps p.nodes n c.nodes.seats can steady at.nodes;
  arcs = stand_beside p.stamps p.arcs n c.arcs.seats at.arcs;
  snaps = snaps;
}
next_in_step sorts.Arc n p c can steady at snaps = record {
  nodes = stand_beside p.stamps p.nodes n c.nodes.seats at.nodes;
  arcs = stand_next p.stamps p.arcs n c.arcs.seats can steady at.arcs;
  snaps = snaps;
}

-- a step keeps all in step
pub took_in_step : (step : PlainStep) (s : State) → IsInStep s → CanTake step s.graph
    → HasOwnPlace step s → IsValid (after_step s.graph step)
    → AllSeats Steady (seats_in (sort_of step) s.chains) → IsInStep (took step s)
took_in_step step s at can own then_valid steady = record {
  valid = then_valid;
  seats = subst (λ q. InStep q (took step s).chains)
      (sym (present_next step s.graph at.valid can))
      (next_in_step (sort_of step) (notice_of step s.graph) (present_of s.graph) s.chains
      (may_hear step s at can own then_valid steady) steady at.seats
      (took_snaps step s at can own then_valid steady));
}
