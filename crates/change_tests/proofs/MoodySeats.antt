-- Seats of maps that track nothing of their own may be told of any change.
use Rattle.std.proofs.Common.{◌≡◌, ◌≢◌, ℕ, List, [], ◌∷◌, Option, Some, None, refl, arith}
use Rattle.std.proofs.lemmas.Grind.{common_steps}
use Rattle.base_items.specs.declared.items.Fact.{Fact}
use Rattle.observe_core.specs.Facts.{IsInBounds}
use Rattle.observe_core.specs.Held.{Nothing}
use Rattle.observe_core.specs.Seen.{Seen, map_seen}
use Rattle.observe_core.specs.Conditions.{CanAdd, CanShift, HasSmallCounts}
use Rattle.slab.specs.Slab.{Slab, get}
use Rattle.notify_chain.specs.Seats.{AllSeats, ChainOf, seat_from, seats, seats_of}
use Rattle.change_tests.specs.Moods.{moody_watched}

module _ {O : Type 0} (P : Seen → Type 0) (holds : P (map_seen Nothing)) where
  one_seat : (key : ℕ) (v : Option O) → P (seat_from (λ _. moody_watched) key v).seen
  one_seat key None = holds
  one_seat key (Some o) = holds

  all_seats : (slab : Slab O) (order : List ℕ)
      → AllSeats (λ s. P s.seen) (seats_of (λ _. moody_watched) slab order)
  all_seats slab [] = tt
  all_seats slab (key ∷ keys) = (one_seat key (get slab key), all_seats slab keys)

  pub moody_seats : (c : ChainOf O) → AllSeats (λ s. P s.seen) (seats (λ _. moody_watched) c)
  moody_seats c = all_seats c.slots c.order

no_counts : HasSmallCounts (map_seen Nothing)
no_counts = record { added = omega arith; erased = omega arith; moved = omega arith }

pub can_add : (f : Fact) → IsInBounds f → CanAdd f (map_seen Nothing)
can_add f bounded = record {
  live = [];
  is_live = record { rising = refl; bounded = tt };
  fits = record { guard = refl; held = tt };
  untracked = tt;
  bounded = bounded;
  counts = no_counts;
}

pub can_shift : (old now : Fact) → IsInBounds old → IsInBounds now → now.id ≡ old.id → now ≢ old
    → CanShift old now (map_seen Nothing)
can_shift old now before bounded same differs = record {
  live = old ∷ [];
  is_live = record { rising = grind (arith, common_steps); bounded = (before, tt) };
  fits = record { guard = refl; held = tt };
  tracked = (0, omega arith, refl);
  same_id = same;
  differs = differs;
  old_bounded = before;
  bounded = bounded;
  counts = no_counts;
}
