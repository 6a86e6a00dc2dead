-- What calls leave as it is.
use Rattle.std.proofs.Common.{◌≡◌, ℕ, sym, ap, subst}
use Rattle.base_items.specs.declared.items.ItemSort.{ItemSort}
use Rattle.base_items.specs.declared.items.ItemSort.TheVariants as sorts
use Rattle.observe_core.specs.declared.kinds.Veto.{Veto}
use Rattle.observe_core.specs.Seen.{Seen, Watched}
use Rattle.observe_core.specs.Untold.{TracksNothing}
use Rattle.notify_chain.specs.Seats.{IsAsItCame}
use Rattle.alter_graph.specs.Chains.{ChainsSeen}
use Rattle.alter_graph.specs.Attaching.{HasNoCounts, Attaches}
use Rattle.alter_graph.specs.State.{State}

-- a seat more is no snapshot
pub attached_names : (sort : ItemSort) (key : ℕ) (came : Watched) (s t : State)
    → Attaches sort key came s t → t.chains.snaps ≡ s.chains.snaps
attached_names sorts.Node key came s t h = ap (λ (c : ChainsSeen). c.snaps) h.rest
attached_names sorts.Arc key came s t h = ap (λ (c : ChainsSeen). c.snaps) h.rest

-- one that is handed back may be attached as before
module _ (came back : Watched) (veto : Veto) (next : Seen)
    (h : IsAsItCame came back veto next) where
  pub back_tracks_nothing : TracksNothing came.seen → TracksNothing back.seen
  back_tracks_nothing e = subst TracksNothing (sym h.seen) e

  pub back_has_no_counts : HasNoCounts came.seen → HasNoCounts back.seen
  back_has_no_counts e = subst HasNoCounts (sym h.seen) e
