-- The seat of the ties of a sort, and what is read of it.
use Rattle.std.proofs.Common.{◌≡◌, ℕ, sym, ap, subst, Option, Some, None, ◌∙◌, Contains}
use Rattle.std.specs.Prelude.{IsTrue, option_map, option_and_then, MatchOption, IfSome}
use Rattle.base_items.specs.declared.items.ItemSort.{ItemSort}
use Rattle.plain_digraph.specs.Facts.{fact_id}
use Rattle.plain_digraph.specs.Items.{IsLive, facts}
use Rattle.observe_core.specs.Fits.{HeldFits}
use Rattle.observe_core.specs.Held.{IsHeldSound, tie_id, tied_id}
use Rattle.observe_core.specs.Items.{Lacks, has_id, rises_from}
use Rattle.observe_core.specs.Seen.{Seen, Watched}
use Rattle.observe_core.proofs.ItemLemmas.{all_at}
use Rattle.notify_chain.specs.Seats.{find_seat, seat_seen}
use Rattle.alter_graph.specs.Chains.{chains_seen, seats_in}
use Rattle.alter_graph.proofs.Listing.{has_live}
use Rattle.index_maps.specs.TieEntries.{tie_to}
use Rattle.plain_world.specs.World as plain
use Rattle.desk_seats.specs.Contents.{ties_in, ties_held}
use Rattle.desk_world.specs.declared.tables.AttributeRow.TheVariants as rows
use Rattle.desk_world.specs.declared.tables.ItemTables.{ItemTables}
use Rattle.desk_world.specs.declared.world.World.{World}
use Rattle.desk_world.specs.Claims as claims
use Rattle.desk_world.specs.Claims.{Plays}
use Rattle.desk_world.specs.Columns.{tied_item}
use Rattle.desk_world.specs.InStep.{AreInStep}
use Rattle.desk_world.specs.Plain.{look_of, tables_of, attribute_seen, ties_seen}
use Rattle.desk_world.proofs.AsMade.{as_ties}
use Rattle.desk_world.proofs.LiveEntries.{stands}
use Rattle.desk_world.proofs.Seated.{ties_sit, plays_seen, no_empty_seat, seen_there, none_there}
use Rattle.desk_world.proofs.TieLists.{tie_found}

module _ {O : Type 0} (watch : O → Watched) (w : World O) (sort : ItemSort) where
  abbrev key : ℕ
  key = (tables_of w sort).ties.0

  -- the seat that was found under the key of the ties
  pub record HasTies (seat : O) : Type 0 where
    pub plays : Plays claims.Ties (watch seat).seen
    pub seen : look_of watch w sort key ≡ Some (watch seat).seen

  pub ties_found : (items : ItemTables) (seat : O) → AreInStep watch w → items ≡ tables_of w sort
      → seat_seen watch items.ties.0 (Some seat)
      ≡ find_seat items.ties.0 (seats_in sort (chains_seen watch w.graph.chains))
      → HasTies seat
  ties_found items seat in_step is found =
      let c = chains_seen watch w.graph.chains in
      let seen = seen_there watch c sort key seat
      (subst (λ (x : ItemTables). seat_seen watch x.ties.0 (Some seat)
      ≡ find_seat x.ties.0 (seats_in sort c)) is found) in
      record {
        plays = plays_seen claims.Ties (look_of watch w sort key) (watch seat).seen seen
            (ties_sit w c in_step.seated sort);
        seen = seen;
      }

  pub ties_there : (items : ItemTables) → AreInStep watch w → items ≡ tables_of w sort
      → None ≡ find_seat items.ties.0 (seats_in sort (chains_seen watch w.graph.chains)) → ⊥
  ties_there items in_step is found =
      let c = chains_seen watch w.graph.chains in
      no_empty_seat claims.Ties (look_of watch w sort key)
      (none_there watch c sort key (subst (λ (x : ItemTables). None
      ≡ find_seat x.ties.0 (seats_in sort c)) is found))
      (ties_sit w c in_step.seated sort)

  module _ (seat : O) (has : HasTies seat) where
    abbrev s : Seen
    s = (watch seat).seen

    -- ties rise by number
    rise : IsTrue (rises_from tie_id 0 (ties_in s))
    rise =
        let v = as_ties s.held has.plays.making in
        subst (λ h. IsHeldSound h → IsTrue (rises_from tie_id 0 (ties_held h))) (sym v.is)
        (λ own. own) (watch seat).sound.held

    -- the item that a look-up gave is that of the row
    pub item_tied : (number : ℕ) (found : Option ℕ)
        → MatchOption found (Lacks tie_id number (ties_in s))
        (λ id. Contains (ties_in s) (tie_to number id))
        → attribute_seen (ties_seen (look_of watch w) w) (rows.Tied sort number)
        ≡ option_map (plain.Tied sort) found
    item_tied number found is =
        ap (option_map (plain.Tied sort))
        (ap (option_and_then (λ (x : Seen). tied_item number x.held)) has.seen
        ∙ tie_found number (ties_in s) found rise is)

    -- and is live
    pub tied_live : AreInStep watch w → (number : ℕ) (found : Option ℕ)
        → MatchOption found (Lacks tie_id number (ties_in s))
        (λ id. Contains (ties_in s) (tie_to number id))
        → IfSome found (IsLive w.graph.graph.graph sort)
    tied_live in_step number None is = tt
    tied_live in_step number (Some id) is =
        let g = w.graph.graph.graph in
        let v = as_ties s.held has.plays.making in
        let fits = subst (λ h. HeldFits h (facts g sort)) v.is
        (stands watch w in_step sort key s has.seen).held in
        let among = subst (λ h. Contains (ties_held h) (tie_to number id)) v.is is in
        has_live g sort in_step.graph.valid id
        (all_at (λ t. IsTrue (has_id fact_id (tied_id t) (facts g sort))) (tie_to number id) v.ties
        fits among)
