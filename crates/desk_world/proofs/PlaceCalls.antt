-- The calls that place an item: what they read in the seats of maps, and write to that of a view.
use Rattle.std.proofs.Common.{◌≡◌, ℕ, Bool, true, false, not, sym, ap, subst, Option, Some, None}
use Rattle.std.proofs.Common.{is_some, ◌∙◌, []}
use Rattle.std.specs.Prelude.{ℤ, pos, IsTrue, unwrap_or}
use Rattle.std.specs.FinMap as fin
use Rattle.std.specs.Option.{option_map_or}
use Rattle.std.proofs.lemmas.Bool.{true≢false}
use Rattle.base_items.specs.declared.items.ItemSort.{ItemSort}
use Rattle.base_items.specs.declared.items.ItemSort.TheVariants as sorts
use Rattle.notify_chain.specs.declared.key.SeatKey.{SeatKey}
use Rattle.plain_digraph.specs.Facts.{fact_id}
use Rattle.plain_digraph.specs.Items.{IsLive, facts}
use Rattle.observe_core.specs.Fits.{HeldFits}
use Rattle.observe_core.specs.Held as held
use Rattle.observe_core.specs.Held.{IsHeldSound, making_of, entry_id, marked_id}
use Rattle.observe_core.specs.Items.{has_id}
use Rattle.observe_core.specs.Seen.{Seen, Watched}
use Rattle.value_maps.specs.Entries.{HasValue}
use Rattle.notify_chain.specs.Seats.{find_seat, seat_seen}
use Rattle.alter_graph.specs.Chains.{ChainsSeen, chains_seen, seats_in}
use Rattle.alter_graph.specs.Snaps.{IsHalf, half_of}
use Rattle.alter_graph.specs.State as states
use Rattle.alter_graph.specs.State.{AlterOf, state_of}
use Rattle.alter_graph.proofs.Listing.{live_has}
use Rattle.kept_walks.proofs.Lookups.{marked_has}
use Rattle.desk_seats.specs.Contents.{among, ints_among, bools_among, ints_in, marked_in, shows_all}
use Rattle.desk_seats.specs.Contents.{marked_held, all_held}
use Rattle.desk_world.specs.declared.tables.KeptMaps.{KeptMaps}
use Rattle.desk_world.specs.Columns.{column}
use Rattle.desk_world.specs.Claims as claims
use Rattle.desk_world.specs.Claims.{Plays, Sits}
use Rattle.desk_world.specs.Derived.{bools_seen}
use Rattle.desk_world.specs.KeptMaps.{bool_seen, int_seen, passes}
use Rattle.desk_world.specs.Looks.{look_in}
use Rattle.desk_world.specs.Placing.{own_role}
use Rattle.desk_world.proofs.AsMade.{as_values}
use Rattle.alter_graph.proofs.Taking.{steady_in}
use Rattle.desk_world.proofs.Carried.{seen_sound}
use Rattle.desk_world.proofs.Found.{has_value}
use Rattle.desk_world.proofs.FollowedStep.{seat_of}
use Rattle.desk_world.proofs.KeptFollowed.{as_kept}
use Rattle.desk_world.proofs.LiveEntries.{stands_in, entry_in}
use Rattle.desk_world.proofs.Seated.{seen_there, plays_seen}
use Rattle.desk_world.proofs.Written.{no_half}

module _ {O : Type 0} (watch : O → Watched) (a : AlterOf O)
    (in_step : states.IsInStep (state_of watch a)) (sort : ItemSort) (key : ℕ) where
  abbrev c : ChainsSeen
  c = chains_seen watch a.chains

  sound : (s : Seen) → look_in c sort key ≡ Some s → IsHeldSound s.held
  sound s is = (seen_sound key (seats_in sort c) s (steady_in watch sort a.chains) is).held

  -- ---- what a map has at an item

  pub bool_value : Sits claims.Bools (look_in c sort key) → (id : ℕ) (value : Bool)
      → HasValue id value (bools_seen (look_in c sort key))
      → bool_seen (look_in c sort key) id ≡ value
  bool_value sits id value has =
      let seat = seat_of claims.Bools (look_in c sort key) sits in
      let h = as_values held.Bools seat.0.held seat.2.making in
      let rise : IsHeldSound (held.Values held.Bools h.entries) =
      subst IsHeldSound h.is (sound seat.0 seat.1) in
      let at = subst (HasValue id value) (ap bools_seen seat.1 ∙ ap (among bools_among) h.is) has in
      ap (λ o. bool_seen o id) seat.1
      ∙ ap (λ x. unwrap_or x false)
      (ap (λ es. fin.get (column es) id) (ap (among bools_among) h.is)
      ∙ has_value id value h.entries rise.0 at)

  pub int_value : Sits claims.Ints (look_in c sort key) → (id : ℕ) (value : ℤ)
      → HasValue id value (option_map_or ints_in (look_in c sort key) [])
      → int_seen (look_in c sort key) id ≡ value
  int_value sits id value has =
      let seat = seat_of claims.Ints (look_in c sort key) sits in
      let h = as_values held.Ints seat.0.held seat.2.making in
      let rise : IsHeldSound (held.Values held.Ints h.entries) =
      subst IsHeldSound h.is (sound seat.0 seat.1) in
      let at = subst (HasValue id value) (ap (λ o. option_map_or ints_in o []) seat.1
      ∙ ap (among ints_among) h.is) has in
      ap (λ o. int_seen o id) seat.1
      ∙ ap (λ x. unwrap_or x (pos 0))
      (ap (λ es. fin.get (column es) id) (ap (among ints_among) h.is)
      ∙ has_value id value h.entries rise.0 at)

  -- ---- by the seat that was found

  module _ (seat : O) (at : seat_seen watch key (Some seat) ≡ find_seat key (seats_in sort c)) where
    abbrev s : Seen
    s = (watch seat).seen

    seen : look_in c sort key ≡ Some s
    seen = seen_there watch c sort key seat at

    pub has_int : (id : ℕ) → Sits claims.Ints (look_in c sort key) → IsLive a.graph.graph sort id
        → IsTrue (has_id entry_id id (ints_in s))
    has_int id sits live =
        let h = as_values held.Ints s.held
        (plays_seen claims.Ints (look_in c sort key) s seen sits).making in
        subst (λ x. IsTrue (has_id entry_id id (among ints_among x))) (sym h.is)
        (entry_in watch a in_step sort key s seen held.Ints h.entries h.is id live)

    pub int_there : Sits claims.Ints (look_in c sort key) → (id : ℕ) (value : ℤ)
        → HasValue id value (ints_in s) → int_seen (look_in c sort key) id ≡ value
    int_there sits id value has =
        int_value sits id value
        (subst (λ o. HasValue id value (option_map_or ints_in o [])) (sym seen) has)

    -- a kept view's observer has each live item
    pub has_marked : (role : held.KeptRole) (all : Bool)
        → making_of s.held ≡ held.OfKept role all → (id : ℕ) → IsLive a.graph.graph sort id
        → IsTrue (has_id marked_id id (marked_in s))
    has_marked role all made id live =
        let kept = as_kept role all s.held made in
        let g = a.graph.graph in
        let fits = subst (λ h. HeldFits h (facts g sort)) kept.is
        (stands_in watch a in_step sort key s seen).held in
        subst (λ h. IsTrue (has_id marked_id id (marked_held h))) (sym kept.is)
        (subst (λ b. IsTrue b) (marked_has kept.items id)
        (subst (λ fs. IsTrue (has_id fact_id id fs)) (sym fits)
        (live_has g sort in_step.valid id live)))

-- where it shows all, there is no filter
pub all_pass : (look : ℕ → Option Seen) (filter : Option SeatKey) (id : ℕ) (s : Seen)
    (role : held.KeptRole) → making_of s.held ≡ held.OfKept role (not (is_some filter))
    → (shown : Bool) → shown ≡ passes look filter id → IsTrue (shows_all s) → IsTrue shown
all_pass look filter id s role made shown is all =
    let kept = as_kept role (not (is_some filter)) s.held made in
    by filter is (sym (ap all_held kept.is) ∙ all)
  where
    by : (filter : Option SeatKey) → shown ≡ passes look filter id
        → not (is_some filter) ≡ true → IsTrue shown
    by None is all = is
    by (Some key) is all = absurd (true≢false (sym all))

-- no seat of a kept view is a half of a snapshot
pub no_half_view : (sort : ItemSort) (m : KeptMaps) (s : Seen) → Plays (own_role sort m) s
    → IsHalf (half_of s) → ⊥
no_half_view sorts.Node m s plays = no_half 6 s plays.form
no_half_view sorts.Arc m s plays = no_half 7 s plays.form
