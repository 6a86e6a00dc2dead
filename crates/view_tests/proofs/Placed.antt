-- Seats of a kept view that are in step, and items that are placed in them.
use Rattle.std.proofs.Common.{◌≡◌, ℕ, ◌==◌, Bool, true, false, if◌then◌else◌, List, [], ◌∷◌, Some}
use Rattle.std.proofs.Common.{Option, None, IfSome, IsTrue, Contains, is_some, refl, sym, subst}
use Rattle.std.proofs.Common.{◌∙◌}
use Rattle.std.proofs.lemmas.Option.{same_Some}
use Rattle.base_items.specs.declared.items.Fact.{Fact}
use Rattle.base_items.specs.declared.items.ItemSort.TheVariants as sorts
use Rattle.plain_digraph.specs.Items.{facts}
use Rattle.plain_digraph.specs.Facts.{fact_id}
use Rattle.observe_core.specs.Held.{Kept, KeptRole, Marked, marked_id}
use Rattle.observe_core.specs.Items.{has_id}
use Rattle.observe_core.specs.Seen.{Seen, map_seen, facts_of_marked}
use Rattle.observe_core.proofs.ItemLemmas.{contains-has}
use Rattle.notify_chain.specs.Seats.{SeatSeen, AllSeats, find_seat, seat_seen}
use Rattle.alter_graph.specs.Chains.{chains_seen, seats_in}
use Rattle.alter_graph.specs.Lending.{Rewrites}
use Rattle.alter_graph.specs.State.{AlterOf, IsInStep, Stands, state_of}
use Rattle.kept_views.specs.declared.items.Marks.{Marks}
use Rattle.kept_views.specs.declared.arcs.KeptArcs.{KeptArcs}
use Rattle.kept_views.specs.declared.nodes.KeptNodes.{KeptNodes}
use Rattle.kept_views.specs.ItemViews.{marked_set}
use Rattle.kept_views.specs.Views.{nodes_of, arcs_of}
use Rattle.kept_walks.specs.Laws.{AreOf}
use Rattle.kept_walks.proofs.Lookups.{marked_has}
use Rattle.kept_walks.proofs.Staying.{facts_set}
use Rattle.view_tests.specs.declared.sides.Side.{Side}
use Rattle.view_tests.specs.declared.sides.Side.TheVariants.{Nodes, Arcs}
use Rattle.view_tests.specs.Sides.{watched}

found : (P : SeatSeen → Type 0) (key : ℕ) (ss : List SeatSeen) (s : SeatSeen) → AllSeats P ss
    → find_seat key ss ≡ Some s → P s
found P key [] s all e = cc
found P key (t ∷ ts) s all e =
    elim (t.key == key) as (λ b. (if b then Some t else find_seat key ts) ≡ Some s → P s) [
      | true ↦ λ q. subst P (same_Some t s q) all.0
      | false ↦ λ q. found P key ts s all.1 q
    ] e

-- two seats of a digraph that is in step hold its items
pub are_of : (a : AlterOf Side) (on_nodes on_arcs : ℕ) (n : KeptNodes) (k : KeptArcs)
    → IsInStep (state_of watched a)
    → seat_seen watched on_nodes (Some (Nodes n))
    ≡ find_seat on_nodes (seats_in sorts.Node (chains_seen watched a.chains))
    → seat_seen watched on_arcs (Some (Arcs k))
    ≡ find_seat on_arcs (seats_in sorts.Arc (chains_seen watched a.chains))
    → AreOf a.graph.graph (nodes_of n) (arcs_of k)
are_of a on_nodes on_arcs n k step one two =
    let g = a.graph.graph in
    let c = chains_seen watched a.chains in
    let nodes = found (Stands g.stamps (facts g sorts.Node)) on_nodes c.nodes.seats
    (record {
      key = on_nodes;
      seen = (watched (Nodes n)).seen;
      room = 0;
      reach = (watched (Nodes n)).reach;
    }) step.seats.nodes (sym one) in
    let arcs = found (Stands g.stamps (facts g sorts.Arc)) on_arcs c.arcs.seats
    (record {
      key = on_arcs;
      seen = (watched (Arcs k)).seen;
      room = 0;
      reach = (watched (Arcs k)).reach;
    }) step.seats.arcs (sym two) in
    record { nodes = nodes.fits.held; arcs = arcs.fits.held }

-- nothing was written
pub same_rewrites : (live : List Fact) (s : Seen) → Rewrites live s s
same_rewrites live s = record {
  kind = refl;
  facts = refl;
  added = refl;
  erased = refl;
  moved = refl;
  held = λ h. h;
  half = λ h. refl;
}

-- an item was placed
pub placed_rewrites : (live : List Fact) (role : KeptRole) (all : Bool) (id : ℕ) (m : Marks)
    (items : List Marked)
    → Rewrites live (map_seen (Kept role all items))
    (map_seen (Kept role all (marked_set id m items)))
placed_rewrites live role all id m items = record {
  kind = refl;
  facts = refl;
  added = refl;
  erased = refl;
  moved = refl;
  held = λ h. facts_set id m items ∙ h;
  half = λ h. absurd h;
}

-- an arc of which something is told is held
pub held_if : (items : List Marked) (id : ℕ) (found : Option Fact)
    → IfSome found (λ f. Contains (facts_of_marked items) f × (f.id ≡ id))
    → is_some found ≡ true → IsTrue (has_id marked_id id items)
held_if items id None there is = cc
held_if items id (Some f) there is =
    sym (marked_has items id)
    ∙ subst (λ i. IsTrue (has_id fact_id i (facts_of_marked items))) there.1
    (contains-has fact_id f (facts_of_marked items) there.0)
