-- What the seat of a map has at a live item.
use Rattle.std.proofs.Common.{◌≡◌, ℕ, true, false, cond, List, ◌∷◌, map, refl, sym, ap, subst, Some}
use Rattle.std.proofs.Common.{[]}
use Rattle.std.proofs.Common.{◌∙◌}
use Rattle.std.specs.Prelude.{IsTrue, ◌==◌, if◌then◌else◌}
use Rattle.std.proofs.lemmas.Option.{none-some, same_Some}
use Rattle.base_items.specs.declared.items.Fact.{Fact}
use Rattle.base_items.specs.declared.items.ItemSort.{ItemSort}
use Rattle.base_items.specs.declared.items.ItemSort.TheVariants as sorts
use Rattle.plain_digraph.specs.Items.{IsLive, facts}
use Rattle.plain_digraph.specs.Facts.{fact_id}
use Rattle.observe_core.specs.Fits.{Fits, HeldFits}
use Rattle.observe_core.specs.Held.{MapType, Values, Entry, ValueOf, entry_id}
use Rattle.observe_core.specs.Items.{has_id, number_id}
use Rattle.observe_core.specs.Seen.{Seen, Watched}
use Rattle.notify_chain.specs.Seats.{SeatSeen, AllSeats}
use Rattle.alter_graph.specs.Chains.{chains_seen}
use Rattle.alter_graph.specs.State as graph
use Rattle.alter_graph.specs.State.{Stands, AlterOf, state_of}
use Rattle.alter_graph.proofs.Listing.{live_has}
use Rattle.desk_world.specs.declared.world.World.{World}
use Rattle.desk_world.specs.InStep.{AreInStep}
use Rattle.desk_world.specs.Looks.{seen_at, look_in}
use Rattle.desk_world.specs.Plain.{look_of}

-- what is seen in a seat stands for the facts for which all seats stand
stands_at : (stamps : ℕ) (live : List Fact) (key : ℕ) (s : Seen) (ss : List SeatSeen)
    → AllSeats (Stands stamps live) ss → seen_at key ss ≡ Some s → Fits s live
stands_at stamps live key s [] all at = absurd (none-some s at)
stands_at stamps live key s (x ∷ xs) all at =
    let rest = stands_at stamps live key s xs all.1 in
    elim (x.key == key) as (λ b. cond b (Some x.seen) (seen_at key xs) ≡ Some s → Fits s live) [
      | true ↦ λ is. subst (λ y. Fits y live) (same_Some x.seen s is) all.0.fits
      | false ↦ λ is. rest is
    ] at

-- whether an id is there is told by the ids alone
pub by_ids : {X : Type 0} (id_of : X → ℕ) (id : ℕ) (xs : List X)
    → has_id id_of id xs ≡ has_id number_id id (map id_of xs)
by_ids id_of id [] = refl
by_ids id_of id (x ∷ xs) =
    ap (λ b. if id_of x == id then true else b) (by_ids id_of id xs)

module _ {O : Type 0} (watch : O → Watched) (a : AlterOf O)
    (in_step : graph.IsInStep (state_of watch a)) where
  -- what is seen in a seat stands for the live items
  pub stands_in : (sort : ItemSort) (key : ℕ) (s : Seen)
      → look_in (chains_seen watch a.chains) sort key ≡ Some s → Fits s (facts a.graph.graph sort)
  stands_in sorts.Node key s seen =
      stands_at a.graph.graph.stamps (facts a.graph.graph sorts.Node) key s
      (chains_seen watch a.chains).nodes.seats in_step.seats.nodes seen
  stands_in sorts.Arc key s seen =
      stands_at a.graph.graph.stamps (facts a.graph.graph sorts.Arc) key s
      (chains_seen watch a.chains).arcs.seats in_step.seats.arcs seen

  -- values in a seat have an entry for each live item
  pub entry_in : (sort : ItemSort) (key : ℕ) (s : Seen)
      → look_in (chains_seen watch a.chains) sort key ≡ Some s
      → (t : MapType) (es : List (Entry (ValueOf t))) → s.held ≡ Values t es
      → (id : ℕ) → IsLive a.graph.graph sort id → IsTrue (has_id entry_id id es)
  entry_in sort key s seen t es is id live =
      let g = a.graph.graph in
      let ids : map entry_id es ≡ map fact_id (facts g sort) =
      subst (λ h. HeldFits h (facts g sort)) is (stands_in sort key s seen).held in
      let there = by_ids entry_id id es ∙ ap (has_id number_id id) ids
      ∙ sym (by_ids fact_id id (facts g sort)) in
      subst (λ b. IsTrue b) (sym there) (live_has g sort in_step.valid id live)

-- so in a world
module _ {O : Type 0} (watch : O → Watched) (w : World O) (in_step : AreInStep watch w) where
  pub stands : (sort : ItemSort) (key : ℕ) (s : Seen) → look_of watch w sort key ≡ Some s
      → Fits s (facts w.graph.graph.graph sort)
  stands = stands_in watch w.graph in_step.graph

  pub live_entry : (sort : ItemSort) (key : ℕ) (s : Seen) → look_of watch w sort key ≡ Some s
      → (t : MapType) (es : List (Entry (ValueOf t))) → s.held ≡ Values t es
      → (id : ℕ) → IsLive w.graph.graph.graph sort id → IsTrue (has_id entry_id id es)
  live_entry = entry_in watch w.graph in_step.graph
