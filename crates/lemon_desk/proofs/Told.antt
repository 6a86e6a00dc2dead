-- Guards track what the world shows.
use Rattle.std.proofs.Common.{◌≡◌, true, false, List, [], ◌∷◌, refl, subst, ◌∙◌}
use Rattle.std.proofs.Common.{Option, None, Some}
use Rattle.std.specs.Prelude.{IfSome}
use Rattle.std.proofs.lemmas.Bool.{true≢false}
use Rattle.base_items.specs.declared.items.Fact.{Fact}
use Rattle.base_items.specs.declared.items.ItemSort.{ItemSort}
use Rattle.base_items.specs.declared.items.ItemSort.TheVariants as sorts
use Rattle.plain_digraph.specs.Digraph.{Digraph}
use Rattle.plain_digraph.specs.Items.{facts}
use Rattle.observe_core.specs.declared.kinds.Kind.{Kind}
use Rattle.observe_core.specs.declared.kinds.Kind.TheVariants as kinds
use Rattle.observe_core.specs.Fits.{Fits}
use Rattle.observe_core.specs.Guards.{Law, by_kind}
use Rattle.observe_core.specs.Seen.{Seen, IsSound, Watched}
use Rattle.notify_chain.specs.Seats.{SeatSeen, AllSeats, Steady}
use Rattle.alter_graph.specs.Chains.{chains_seen, seats_in}
use Rattle.alter_graph.specs.State.{Stands}
use Rattle.alter_graph.proofs.Taking.{steady_in}
use Rattle.desk_world.specs.declared.world.World.{World}
use Rattle.desk_world.specs.Claims.{is_map}
use Rattle.desk_world.specs.InStep.{IsInStep}
use Rattle.lemon_desk.specs.Told.{AllTrack, TracksItems}

of_guard : (kind : Kind) (live : List Fact) → is_map kind ≡ false → by_kind [] live kind ≡ live
of_guard kinds.Map live is = absurd (true≢false is)
of_guard kinds.Quota live is = refl
of_guard kinds.Loopless live is = refl
of_guard kinds.Simple live is = refl
of_guard kinds.OutCap live is = refl
of_guard kinds.Fuse live is = refl
of_guard kinds.Tally live is = refl

tracks : (g : Digraph) (sort : ItemSort) (s : Seen) → Fits s (facts g sort) → IsSound s
    → is_map s.kind ≡ false → TracksItems g sort s
tracks g sort s fits sound guard =
    let same : s.facts ≡ facts g sort = fits.guard ∙ of_guard s.kind (facts g sort) guard in
    record { tracked = same; lawful = subst (Law s.kind s.k) same sound.lawful }

all_track : (g : Digraph) (sort : ItemSort) (ss : List SeatSeen)
    → AllSeats (Stands g.stamps (facts g sort)) ss → AllSeats Steady ss
    → AllSeats (λ seat. is_map seat.seen.kind ≡ false → TracksItems g sort seat.seen) ss
all_track g sort [] stand steady = tt
all_track g sort (s ∷ ss) stand steady = (
  (λ guard. tracks g sort s.seen stand.0.fits steady.0.0 guard),
  all_track g sort ss stand.1 steady.1,
)

-- the guards of a world whose observers are in step track its items
pub tracked : {O : Type 0} (watch : O → Watched) (w : World O) → IsInStep watch w
    → AllTrack watch w
tracked watch w in_step sorts.Node =
    let seats = in_step.seats.graph.seats in
    all_track w.graph.graph.graph sorts.Node
    (seats_in sorts.Node (chains_seen watch w.graph.chains)) seats.nodes
    (steady_in watch sorts.Node w.graph.chains)
tracked watch w in_step sorts.Arc =
    let seats = in_step.seats.graph.seats in
    all_track w.graph.graph.graph sorts.Arc
    (seats_in sorts.Arc (chains_seen watch w.graph.chains)) seats.arcs
    (steady_in watch sorts.Arc w.graph.chains)

-- the same of a world that is handed back, if any
pub found_tracked : {O : Type 0} (watch : O → Watched) (found : Option (World O))
    → IfSome found (IsInStep watch) → IfSome found (AllTrack watch)
found_tracked watch None in_step = tt
found_tracked watch (Some w) in_step = tracked watch w in_step
