-- Seats after each observer heard of something, or left.
use Rattle.std.proofs.Common.{◌≡◌, ℕ, Bool, true, false, cond, List, [], ◌∷◌, map, Option, Some}
use Rattle.std.proofs.Common.{None, refl, sym, ap, ◌∙◌, subst, inl, inr, is_some}
use Rattle.std.specs.Prelude.{◌==◌, ◌||◌, option_map, option_and_then, filter, not}
use Rattle.std.specs.List.{filter_map, cons_option}
use Rattle.std.proofs.lemmas.Bool.{cases_eq, eq-eqb, ne_eqb, true≢false}
use Rattle.std.proofs.lemmas.Option.{none-some}
use Rattle.plain_digraph.specs.Lists.{AllOf, has}
use Rattle.observe_core.specs.declared.changes.Change.{Change}
use Rattle.observe_core.specs.declared.losses.Loss.{Loss}
use Rattle.observe_core.specs.Changes.{told}
use Rattle.observe_core.specs.Losses.{lost, leaves_at}
use Rattle.observe_core.specs.Seen.{Seen}
use Rattle.notify_chain.specs.Seats.{SeatSeen, AllSeats, seat_key}
use Rattle.notify_chain.specs.Leaving.{goes, stayers}
use Rattle.alter_graph.specs.Chains.{seats_heard}
use Rattle.alter_graph.specs.Steps.{Notice, Tells, Loses, seats_noticed}
use Rattle.desk_world.specs.Claims.{is_map}
use Rattle.desk_world.specs.InStep.{Differ, is_guard_seat}
use Rattle.desk_world.specs.Looks.{seen_at, room_at}
use Rattle.desk_world.proofs.GuardOrder.{guards_among}
use Rattle.desk_world.proofs.Looks.{lacks_seen}
use Rattle.desk_world.proofs.Noticed.{heard_by}

-- the observer of the seat is seen as what it heard makes of it, or else it leaves
abbrev pub seat_with : SeatSeen → Seen → SeatSeen
seat_with s seen = record s { seen = seen }

abbrev pub seat_by : (Seen → Option Seen) → SeatSeen → Option SeatSeen
seat_by hear s = option_map (seat_with s) (hear s.seen)

abbrev pub seats_by : (Seen → Option Seen) → List SeatSeen → List SeatSeen
seats_by hear ss = filter_map (seat_by hear) ss

-- ---- the seats that heard a notice

told_by : (change : Change) (ss : List SeatSeen)
    → seats_heard (told change) ss ≡ seats_by (heard_by (Tells change)) ss
told_by change [] = refl
told_by change (s ∷ ss) =
    let rest = told_by change ss in
    λ i. seat_with s (told change s.seen) ∷ rest i

lost_by : (loss : Loss) (ss : List SeatSeen) → stayers loss ss ≡ seats_by (heard_by (Loses loss)) ss
lost_by loss [] = refl
lost_by loss (s ∷ ss) =
    let rest = lost_by loss ss in
    elim (goes (leaves_at loss s.seen)) as (λ b.
    cond b (stayers loss ss) (seat_with s (lost loss s.seen) ∷ stayers loss ss)
    ≡ cons_option (option_map (seat_with s) (cond b None (Some (lost loss s.seen))))
    (seats_by (heard_by (Loses loss)) ss)) [
      | true ↦ rest
      | false ↦ λ i. seat_with s (lost loss s.seen) ∷ rest i
    ]

pub noticed_by : (n : Notice) (ss : List SeatSeen) → seats_noticed n ss ≡ seats_by (heard_by n) ss
noticed_by (Tells change) ss = told_by change ss
noticed_by (Loses loss) ss = lost_by loss ss

pub unheard_by : (ss : List SeatSeen) → ss ≡ seats_by Some ss
unheard_by [] = refl
unheard_by (s ∷ ss) =
    let rest = unheard_by ss in
    λ i. s ∷ rest i

-- ---- keys

module _ (hear : Seen → Option Seen) where
  pub keys_by : (P : ℕ → Type 0) (ss : List SeatSeen) → AllOf P (map seat_key ss)
      → AllOf P (map seat_key (seats_by hear ss))
  keys_by P [] all = tt
  keys_by P (s ∷ ss) all = one (hear s.seen) (keys_by P ss all.1)
    where
      one : (o : Option Seen) → AllOf P (map seat_key (seats_by hear ss))
          → AllOf P (map seat_key (cons_option (option_map (seat_with s) o) (seats_by hear ss)))
      one None rest = rest
      one (Some later) rest = (all.0, rest)

  lacks_by : (key : ℕ) (ss : List SeatSeen) → has (map seat_key ss) key ≡ false
      → has (map seat_key (seats_by hear ss)) key ≡ false
  lacks_by key [] lacks = refl
  lacks_by key (s ∷ ss) lacks =
      one (hear s.seen) (s.key == key) refl (λ h. lacks_by key ss h) lacks
    where
      one : (o : Option Seen) (b : Bool) → (s.key == key) ≡ b
          → (has (map seat_key ss) key ≡ false
          → has (map seat_key (seats_by hear ss)) key ≡ false)
          → (b || has (map seat_key ss) key) ≡ false
          → has (map seat_key (cons_option (option_map (seat_with s) o) (seats_by hear ss))) key
          ≡ false
      one o true is rest h = absurd (true≢false h)
      one None false is rest h = rest h
      one (Some later) false is rest h =
          ap (λ b. b || has (map seat_key (seats_by hear ss)) key) is ∙ rest h

  pub differ_by : (ss : List SeatSeen) → Differ (map seat_key ss)
      → Differ (map seat_key (seats_by hear ss))
  differ_by [] differ = tt
  differ_by (s ∷ ss) differ = one (hear s.seen) (differ_by ss differ.1)
    where
      one : (o : Option Seen) → Differ (map seat_key (seats_by hear ss))
          → Differ (map seat_key (cons_option (option_map (seat_with s) o) (seats_by hear ss)))
      one None rest = rest
      one (Some later) rest = (lacks_by s.key ss differ.0, rest)

  -- ---- what is seen under a key

  pub seen_by : (key : ℕ) (ss : List SeatSeen) → Differ (map seat_key ss)
      → seen_at key (seats_by hear ss) ≡ option_and_then hear (seen_at key ss)
  seen_by key [] differ = refl
  seen_by key (s ∷ ss) differ = elim (cases_eq s.key key) [
    | inl same ↦
        here same (seen_by key ss differ.1) (hear s.seen)
        ∙ sym (ap (λ b. option_and_then hear (cond b (Some s.seen) (seen_at key ss)))
        (eq-eqb s.key key same))
    | inr other ↦
        there other (hear s.seen) ∙ seen_by key ss differ.1
        ∙ sym (ap (λ b. option_and_then hear (cond b (Some s.seen) (seen_at key ss)))
        (ne_eqb s.key key other))
  ]
    where
      here : s.key ≡ key
          → seen_at key (seats_by hear ss) ≡ option_and_then hear (seen_at key ss)
          → (o : Option Seen)
          → seen_at key (cons_option (option_map (seat_with s) o) (seats_by hear ss)) ≡ o
      here same rest None =
          rest
          ∙ ap (option_and_then hear)
          (lacks_seen key ss (subst (λ k. has (map seat_key ss) k ≡ false) same differ.0))
      here same rest (Some later) =
          ap (λ b. cond b (Some later) (seen_at key (seats_by hear ss))) (eq-eqb s.key key same)

      there : (s.key ≡ key → ⊥) → (o : Option Seen)
          → seen_at key (cons_option (option_map (seat_with s) o) (seats_by hear ss))
          ≡ seen_at key (seats_by hear ss)
      there other None = refl
      there other (Some later) =
          ap (λ b. cond b (Some later) (seen_at key (seats_by hear ss))) (ne_eqb s.key key other)

  -- the room of a seat stays
  pub room_by : (key : ℕ) (ss : List SeatSeen) (was later : Seen) → seen_at key ss ≡ Some was
      → hear was ≡ Some later → room_at key (seats_by hear ss) ≡ room_at key ss
  room_by key [] was later at hears = refl
  room_by key (s ∷ ss) was later at hears =
      one (hear s.seen) refl (s.key == key) refl (λ h. room_by key ss was later h hears) at
    where
      one : (o : Option Seen) → hear s.seen ≡ o → (b : Bool) → (s.key == key) ≡ b
          → (seen_at key ss ≡ Some was → room_at key (seats_by hear ss) ≡ room_at key ss)
          → cond b (Some s.seen) (seen_at key ss) ≡ Some was
          → room_at key (cons_option (option_map (seat_with s) o) (seats_by hear ss))
          ≡ cond b s.room (room_at key ss)
      one None heard true is rest h =
          absurd (none-some later (sym heard ∙ ap (option_and_then hear) h ∙ hears))
      one None heard false is rest h = rest h
      one (Some now) heard true is rest h =
          ap (λ b. cond b s.room (room_at key (seats_by hear ss))) is
      one (Some now) heard false is rest h =
          ap (λ b. cond b s.room (room_at key (seats_by hear ss))) is
          ∙ rest h

-- ---- each seat is seen under its key

behind : (s : SeatSeen) (ss ts : List SeatSeen) → has (map seat_key ts) s.key ≡ false
    → AllSeats (λ t. seen_at t.key ss ≡ Some t.seen) ts
    → AllSeats (λ t. seen_at t.key (s ∷ ss) ≡ Some t.seen) ts
behind s ss [] lacks all = tt
behind s ss (t ∷ ts) lacks all =
    one (t.key == s.key) refl (λ h. behind s ss ts h all.1) lacks
  where
    one : (b : Bool) → (t.key == s.key) ≡ b
        → (has (map seat_key ts) s.key ≡ false
        → AllSeats (λ t. seen_at t.key (s ∷ ss) ≡ Some t.seen) ts)
        → (b || has (map seat_key ts) s.key) ≡ false
        → AllSeats (λ t. seen_at t.key (s ∷ ss) ≡ Some t.seen) (t ∷ ts)
    one true is rest h = absurd (true≢false h)
    one false is rest h = (
      ap (λ b. cond b (Some s.seen) (seen_at t.key ss))
          (ne_eqb s.key t.key (λ e. true≢false (sym (eq-eqb t.key s.key (sym e)) ∙ is)))
          ∙ all.0,
      rest h,
    )

pub each_seen : (ss : List SeatSeen) → Differ (map seat_key ss)
    → AllSeats (λ t. seen_at t.key ss ≡ Some t.seen) ss
each_seen [] differ = tt
each_seen (s ∷ ss) differ = (
  ap (λ b. cond b (Some s.seen) (seen_at s.key ss)) (eq-eqb s.key s.key refl),
  behind s ss ss differ.0 (each_seen ss differ.1),
)

-- ---- the seats of guards

-- the keys of those that stay, in their order
pub guards_by : (hear : Seen → Option Seen)
    → ((was later : Seen) → hear was ≡ Some later → is_map later.kind ≡ is_map was.kind)
    → (stays : ℕ → Bool) (ss : List SeatSeen)
    → AllSeats (λ t. stays t.key ≡ is_some (hear t.seen)) ss
    → guards_among (seats_by hear ss) ≡ filter stays (guards_among ss)
guards_by hear same stays [] all = refl
guards_by hear same stays (s ∷ ss) all =
    one (hear s.seen) refl all.0 (is_map s.seen.kind) refl
    (guards_by hear same stays ss all.1)
  where
    one : (o : Option Seen) → hear s.seen ≡ o → stays s.key ≡ is_some o → (m : Bool)
        → is_map s.seen.kind ≡ m
        → guards_among (seats_by hear ss) ≡ filter stays (guards_among ss)
        → guards_among (cons_option (option_map (seat_with s) o) (seats_by hear ss))
        ≡ filter stays (map seat_key (cond (not m) (s ∷ filter is_guard_seat ss)
        (filter is_guard_seat ss)))
    one None heard gone true is rest = rest
    one None heard gone false is rest =
        rest ∙ sym (ap (λ b. cond b (s.key ∷ filter stays (guards_among ss))
        (filter stays (guards_among ss))) gone)
    one (Some later) heard kept true is rest =
        ap (λ m. map seat_key (cond (not m)
        (seat_with s later ∷ filter is_guard_seat (seats_by hear ss))
        (filter is_guard_seat (seats_by hear ss)))) (same s.seen later heard ∙ is)
        ∙ rest
    one (Some later) heard kept false is rest =
        ap (λ m. map seat_key (cond (not m)
        (seat_with s later ∷ filter is_guard_seat (seats_by hear ss))
        (filter is_guard_seat (seats_by hear ss)))) (same s.seen later heard ∙ is)
        ∙ ap (λ keys. s.key ∷ keys) rest
        ∙ sym (ap (λ b. cond b (s.key ∷ filter stays (guards_among ss))
        (filter stays (guards_among ss))) kept)
