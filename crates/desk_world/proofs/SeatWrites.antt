-- The calls that write to a seat, and the one that reads a bool in it.
use Rattle.std.proofs.Common.{◌≡◌, ℕ, Bool, sym, subst, Some, None}
use Rattle.std.specs.Prelude.{IsTrue}
use Rattle.base_items.specs.declared.items.ItemSort.{ItemSort}
use Rattle.plain_digraph.specs.Items.{IsLive, facts}
use Rattle.observe_core.specs.Held as held
use Rattle.observe_core.specs.Held.{Held, entry_id}
use Rattle.observe_core.specs.Items.{has_id}
use Rattle.observe_core.specs.Seen.{Seen, Watched}
use Rattle.value_maps.specs.Entries.{HasValue}
use Rattle.notify_chain.specs.Seats.{find_seat, seat_seen}
use Rattle.alter_graph.specs.Chains.{ChainsSeen, chains_seen, seats_in}
use Rattle.alter_graph.specs.Lending.{MayWrite, graph_with}
use Rattle.alter_graph.specs.Snaps.{IsHalf, half_of}
use Rattle.alter_graph.specs.State as states
use Rattle.alter_graph.specs.State.{AlterOf, state_of}
use Rattle.desk_seats.specs.Contents.{holding, StillFits, among, bools_among, trues_among, bools_in}
use Rattle.desk_seats.specs.Contents.{trues_in}
use Rattle.desk_world.specs.declared.values.Value.{Value}
use Rattle.desk_world.specs.Claims as claims
use Rattle.desk_world.specs.Claims.{Role, Plays, Sits}
use Rattle.desk_world.specs.Derived.{bools_seen}
use Rattle.desk_world.specs.Looks.{look_in}
use Rattle.desk_world.specs.Seating.{Puts}
use Rattle.desk_world.specs.Values.{HasItem}
use Rattle.desk_world.proofs.AsMade.{as_values}
use Rattle.desk_world.proofs.LiveEntries.{entry_in}
use Rattle.desk_world.proofs.MapsWritten.{own_role, item_held, no_snapshot}
use Rattle.desk_world.proofs.Putting.{puts_lent}
use Rattle.desk_world.proofs.Seated.{seen_there, none_there, no_empty_seat, plays_seen}
use Rattle.desk_world.proofs.Written.{rewrites, no_half}

module _ {O : Type 0} (watch : O → Watched) (a : AlterOf O)
    (in_step : states.IsInStep (state_of watch a)) (sort : ItemSort) (key : ℕ) where
  abbrev c : ChainsSeen
  c = chains_seen watch a.chains

  -- a role that is there has a seat
  pub no_seat : (role : Role) → Sits role (look_in c sort key)
      → None ≡ find_seat key (seats_in sort c) → ⊥
  no_seat role sits none =
      no_empty_seat role (look_in c sort key) (none_there watch c sort key none) sits

  module _ (seat : O) (at : seat_seen watch key (Some seat) ≡ find_seat key (seats_in sort c)) where
    abbrev s : Seen
    s = (watch seat).seen

    seen : look_in c sort key ≡ Some s
    seen = seen_there watch c sort key seat at

    pub seat_plays : (role : Role) → Sits role (look_in c sort key) → Plays role s
    seat_plays role sits = plays_seen role (look_in c sort key) s seen sits

    -- it has a value for each live item
    pub seat_has : (value : Value) (id : ℕ) → Sits (own_role value) (look_in c sort key)
        → IsLive a.graph.graph sort id → HasItem value id s
    seat_has value id sits live =
        item_held watch a in_step sort key s seen value id (seat_plays (own_role value) sits) live

    pub has_bool : (id : ℕ) → Sits claims.Bools (look_in c sort key) → IsLive a.graph.graph sort id
        → IsTrue (has_id entry_id id (bools_in s))
    has_bool id sits live =
        let h = as_values held.Bools s.held (seat_plays claims.Bools sits).making in
        subst (λ x. IsTrue (has_id entry_id id (among bools_among x))) (sym h.is)
        (entry_in watch a in_step sort key s seen held.Bools h.entries h.is id live)

    pub has_true : (id : ℕ) → Sits claims.Trues (look_in c sort key) → IsLive a.graph.graph sort id
        → IsTrue (has_id entry_id id (trues_in s))
    has_true id sits live =
        let h = as_values held.Trues s.held (seat_plays claims.Trues sits).making in
        subst (λ x. IsTrue (has_id entry_id id (among trues_among x))) (sym h.is)
        (entry_in watch a in_step sort key s seen held.Trues h.entries h.is id live)

    pub bool_told : (id : ℕ) (value : Bool) → HasValue id value (bools_in s)
        → HasValue id value (bools_seen (look_in c sort key))
    bool_told id value told = subst (λ o. HasValue id value (bools_seen o)) (sym seen) told

    -- what was written
    module _ (now : O) (change : Seen → Held) (may : MayWrite watch sort key a seat)
        (wrote : (watch now).seen ≡ holding (change s) s) where
      pub puts_now : Puts sort key change c (chains_seen watch (graph_with sort key now a).chains)
      puts_now = puts_lent watch sort key a seat now change may seen wrote

      pub now_in_step : StillFits s (watch now).seen → (IsHalf (half_of s) → ⊥)
          → states.IsInStep (state_of watch (graph_with sort key now a))
      now_in_step fits none =
          (may now).in_step in_step
          (rewrites (facts a.graph.graph sort) s (watch now).seen (change s) wrote fits none)

-- no map is a half of a snapshot
pub no_half_value : (value : Value) (s : Seen) → Plays (own_role value) s → IsHalf (half_of s) → ⊥
no_half_value = no_snapshot

pub no_half_index : (s : Seen) → Plays claims.Trues s → IsHalf (half_of s) → ⊥
no_half_index s plays = no_half 5 s plays.form
