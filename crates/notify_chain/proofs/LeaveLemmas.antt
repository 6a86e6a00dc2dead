-- A chain whose observers are told of a loss, the newest first, and some of which leave.
use Rattle.std.proofs.Common.{◌≡◌, ◌≢◌, ℕ, zero, suc, ◌+◌, ◌-◌, ◌<◌, ◌≤◌, true, false}
use Rattle.std.proofs.Common.{if◌then◌else◌, List, [], ◌∷◌, ◌++◌, length, drop, drop-cons, add-one}
use Rattle.std.proofs.Common.{Option, Some, None, refl, sym, ap, subst, ◌∙◌, arith, inl, inr, ◌⊎◌}
use Rattle.std.proofs.Common.{slice_index, IsSome}
use Rattle.std.specs.List.{remove}
use Rattle.std.proofs.lemmas.Grind.{common_steps}
use Rattle.std.proofs.lemmas.List.{get_or-drop}
use Rattle.std.proofs.lemmas.List.Edits.{get_or-remove_below, get_or-remove_above, length-remove}
use Rattle.observe_core.specs.Seen.{Watched}
use Rattle.observe_core.specs.declared.losses.Loss.{Loss}
use Rattle.observe_core.specs.Losses.{lost, leaves_at}
use Rattle.slab.specs.Slab.{Slab, get, ContainsKey}
use Rattle.plain_digraph.specs.Rising.{without_item}
use Rattle.notify_chain.specs.Seats.{SeatSeen, seat_key, seat_at, seat_from, seats_of, Became, Each}
use Rattle.notify_chain.specs.Seats.{IsKept, HasKey}
use Rattle.notify_chain.specs.Leaving.{goes, stayers, goers}
use Rattle.notify_chain.proofs.SeatLemmas.{seats_alike, split_at, seat-key}

none_is : {A : Type 0} (v : Option A) → v ≡ None → IsSome v → ⊥
none_is None e h = cc
none_is (Some a) e h = cc

-- the key at a place of the order without the i-th
abbrev Placed : List ℕ → ℕ → ℕ → Type 0
Placed order i j = ((j < i) × (slice_index (remove order i) j ≡ slice_index order j))
    ⊎ ((i ≤ j) × (slice_index (remove order i) j ≡ slice_index order (j + 1)))

placed : (order : List ℕ) (i j : ℕ) → i < length order → Placed order i j
placed order i j l = elim (split_at j i) as (λ _. Placed order i j) [
  | inl b ↦ inl (b, get_or-remove_below order i 0 j b l)
  | inr r ↦ elim r as (λ _. Placed order i j) [
    | inl e ↦ inr (omega (arith, e), get_or-remove_above order i 0 j (omega (arith, e)) l)
    | inr a ↦ inr (omega (arith, a), get_or-remove_above order i 0 j (omega (arith, a)) l)
  ]
]

module _ {O : Type 0} (old new : Slab O) (order : List ℕ) (i : ℕ) (l : i < length order)
    (kept : IsKept old order)
    (none : get new (slice_index order i) ≡ None)
    (others : (k : ℕ) → k ≢ slice_index order i → get new k ≡ get old k) where
  fewer : length (remove order i) + 1 ≡ length order
  fewer = length-remove order i l

  still : (m : ℕ) → m < length order → m ≢ i → ContainsKey new (slice_index order m)
  still m lm n =
      let d : slice_index order m ≢ slice_index order i =
      elim (split_at m i) as (λ _. slice_index order m ≢ slice_index order i) [
        | inl b ↦ kept.distinct m i b l
        | inr r ↦ elim r as (λ _. slice_index order m ≢ slice_index order i)
            [ inl e ↦ absurd (n e) | inr a ↦ λ h. kept.distinct i m a lm (sym h) ]
      ] in
      subst (λ v. IsSome v) (sym (others (slice_index order m) d)) (kept.occupied m lm)

  occupied : (j : ℕ) → j < length (remove order i)
      → ContainsKey new (slice_index (remove order i) j)
  occupied j lj =
      let f = fewer in
      elim (placed order i j l) as (λ _. ContainsKey new (slice_index (remove order i) j)) [
        | inl p ↦ let b =
            p.0 in subst (ContainsKey new) (sym p.1)
            (still j (omega (arith, lj, f)) (λ e. omega (arith, e, b)))
        | inr p ↦ let b =
            p.0 in subst (ContainsKey new) (sym p.1)
            (still (j + 1) (omega (arith, lj, f)) (λ e. omega (arith, e, b)))
      ]

  apart : (a b : ℕ) → a < b → b < length (remove order i)
      → slice_index (remove order i) a ≢ slice_index (remove order i) b
  apart a b m lb h =
      let f = fewer in
      elim (placed order i a l) as (λ _. ⊥) [
        | inl p ↦ elim (placed order i b l) as (λ _. ⊥) [
          | inl q ↦ kept.distinct a b m (omega (arith, lb, f)) (sym p.1 ∙ h ∙ q.1)
          | inr q ↦ kept.distinct a (b + 1) (omega (arith, m)) (omega (arith, lb, f))
              (sym p.1 ∙ h ∙ q.1)
        ]
        | inr p ↦ elim (placed order i b l) as (λ _. ⊥) [
          | inl q ↦ let x = p.0 in let y = q.0 in absurd (omega (arith, x, y, m))
          | inr q ↦ kept.distinct (a + 1) (b + 1) (omega (arith, m)) (omega (arith, lb, f))
              (sym p.1 ∙ h ∙ q.1)
        ]
      ]

  known : (k : ℕ) → ContainsKey new k → HasKey (remove order i) k
  known k h =
      let f = fewer in
      let d : k ≢ slice_index order i = λ e.
      none_is (get new (slice_index order i)) none (subst (ContainsKey new) e h) in
      let w = kept.known k (subst (λ v. IsSome v) (others k d) h) in
      let j = w.0 in
      let lj : j < length order = w.1 in
      let at : slice_index order j ≡ k = w.2 in
      elim (split_at j i) as (λ _. HasKey (remove order i) k) [
        | inl b ↦ (j, omega (arith, b, l, f), get_or-remove_below order i 0 j b l ∙ at)
        | inr r ↦ elim r as (λ _. HasKey (remove order i) k) [
          | inl e ↦ absurd (d (sym at ∙ ap (slice_index order) e))
          | inr a ↦
              let back : j - 1 + 1 ≡ j = omega (arith, a) in (
                j - 1,
                omega (arith, a, lj, f),
                get_or-remove_above order i 0 (j - 1) (omega (arith, a)) l
                    ∙ ap (slice_index order) back ∙ at,
              )
        ]
      ]

  -- the key that was taken out is no other's
  pub other_key : (j : ℕ) → j < length (remove order i)
      → slice_index (remove order i) j ≢ slice_index order i
  other_key j lj h =
      let f = fewer in
      elim (placed order i j l) as (λ _. ⊥) [
        | inl p ↦ kept.distinct j i p.0 l (sym p.1 ∙ h)
        | inr p ↦ kept.distinct i (j + 1) (let b = p.0 in omega (arith, b)) (omega (arith, lj, f))
            (sym (sym p.1 ∙ h))
      ]

  pub kept_removed : IsKept new (remove order i)
  kept_removed = record { occupied = occupied; distinct = apart; known = known }

ahead : (i : ℕ) (xs : List ℕ) → i < length xs → drop i xs ≡ slice_index xs i ∷ drop (i + 1) xs
ahead i xs l = rw add-one (drop-cons xs i 0 l)

module _ {O : Type 0} (watch : O → Watched) where
  -- the seats behind the one that was told
  pub rest_same : (old new : Slab O) (order : List ℕ) (i : ℕ) → i < length order → IsKept old order
      → ((k : ℕ) → k ≢ slice_index order i → get new k ≡ get old k)
      → seats_of watch new (drop (i + 1) order) ≡ seats_of watch old (drop (i + 1) order)
  rest_same old new order i l kept others = seats_alike watch old new (drop (i + 1) order) (λ j lj.
      others (slice_index (drop (i + 1) order) j)
      (λ e. kept.distinct i (i + 1 + j) (omega arith) (far j lj)
      (sym e ∙ get_or-drop (i + 1) order j 0)))
    where
      length_drop : (n : ℕ) (xs : List ℕ) → n ≤ length xs → length (drop n xs) + n ≡ length xs
      length_drop zero xs h = omega arith
      length_drop (suc n) [] h = absurd (omega (arith, h))
      length_drop (suc n) (x ∷ xs) h = let r =
          length_drop n xs (omega (arith, h)) in omega (arith, r)

      far : (j : ℕ) → j < length (drop (i + 1) order) → i + 1 + j < length order
      far j lj = let e = length_drop (i + 1) order (omega (arith, l)) in omega (arith, lj, e)

  -- a list of seats from one place on
  pub seats_from : (slab : Slab O) (order : List ℕ) (i : ℕ) → i < length order
      → seats_of watch slab (drop i order)
      ≡ seat_at watch slab (slice_index order i) ∷ seats_of watch slab (drop (i + 1) order)
  seats_from slab order i l = ap (seats_of watch slab) (ahead i order l)

pub stays_one : (loss : Loss) (s t : SeatSeen) (ss ts : List SeatSeen)
    → goes (leaves_at loss s.seen) ≡ false → Became (lost loss) s t
    → Each (Became (λ s. s)) (stayers loss ss) ts
    → Each (Became (λ s. s)) (stayers loss (s ∷ ss)) (t ∷ ts)
stays_one loss s t ss ts e b h =
    subst (λ c. Each (Became (λ s. s))
    (if c then stayers loss ss else (record s { seen = lost loss s.seen }) ∷ stayers loss ss)
    (t ∷ ts)) (sym e)
    (record { key = b.key; seen = b.seen; room = b.room; reach = b.reach }, h)

pub leaves_one : (loss : Loss) (s : SeatSeen) (ss ts : List SeatSeen)
    → goes (leaves_at loss s.seen) ≡ true → Each (Became (λ s. s)) (stayers loss ss) ts
    → Each (Became (λ s. s)) (stayers loss (s ∷ ss)) ts
leaves_one loss s ss ts e h =
    subst (λ c. Each (Became (λ s. s))
    (if c then stayers loss ss else (record s { seen = lost loss s.seen }) ∷ stayers loss ss) ts)
    (sym e) h

append_nil : (xs : List ℕ) → xs ++ [] ≡ xs
append_nil [] = refl
append_nil (x ∷ xs) = ap (λ l. x ∷ l) (append_nil xs)

pub keys_stay : (loss : Loss) (s : SeatSeen) (ss : List SeatSeen)
    → goes (leaves_at loss s.seen) ≡ false → goers loss (s ∷ ss) ≡ goers loss ss
keys_stay loss s ss e = ap (λ c. goers loss ss ++ (if c then s.key ∷ [] else [])) e
    ∙ append_nil (goers loss ss)

pub keys_leave : (loss : Loss) (s : SeatSeen) (ss : List SeatSeen)
    → goes (leaves_at loss s.seen) ≡ true → goers loss (s ∷ ss) ≡ goers loss ss ++ s.key ∷ []
keys_leave loss s ss e = ap (λ c. goers loss ss ++ (if c then s.key ∷ [] else [])) e

drop_suc_removed : (i : ℕ) (xs : List ℕ) → drop i (remove xs i) ≡ drop (suc i) xs
drop_suc_removed zero xs = refl
drop_suc_removed (suc i) [] = refl
drop_suc_removed (suc i) (x ∷ xs) = drop_suc_removed i xs

pub drop_removed : (i : ℕ) (xs : List ℕ) → drop i (remove xs i) ≡ drop (i + 1) xs
drop_removed i xs = rw add-one (drop_suc_removed i xs)

decide : (a b : ℕ) → (a ≡ b) ⊎ (a ≢ b)
decide a b = elim (split_at a b) as (λ _. (a ≡ b) ⊎ (a ≢ b)) [
  | inl l ↦ inr (λ e. omega (arith, l, e))
  | inr r ↦ elim r as (λ _. (a ≡ b) ⊎ (a ≢ b))
      [ inl e ↦ inl e | inr g ↦ inr (λ e. omega (arith, g, e)) ]
]

-- the slab with another observer at one key
pub kept_changed : {O : Type 0} (old new : Slab O) (order : List ℕ) (key : ℕ) → IsKept old order
    → ContainsKey old key → ContainsKey new key → ((k : ℕ) → k ≢ key → get new k ≡ get old k)
    → IsKept new order
kept_changed {O} old new order key kept was there others = record {
  occupied = λ j l.
      elim (decide (slice_index order j) key) as (λ _. ContainsKey new (slice_index order j)) [
        | inl e ↦ subst (ContainsKey new) (sym e) there
        | inr n ↦ subst (λ v. IsSome v) (sym (others (slice_index order j) n)) (kept.occupied j l)
      ];
  distinct = kept.distinct;
  known = λ k h. elim (decide k key) as (λ _. HasKey order k) [
    | inl e ↦ subst (HasKey order) (sym e) (kept.known key was)
    | inr n ↦ kept.known k (subst (λ v. IsSome v) (others k n) h)
  ];
}

module _ {O : Type 0} (watch : O → Watched) (loss : Loss) (order0 order : List ℕ)
    (slab0 slab new : Slab O) (i : ℕ) (l0 : i < length order0) (l : i < length order)
    (kept : IsKept slab order)
    (e : slice_index order i ≡ slice_index order0 i)
    (v : get slab (slice_index order0 i) ≡ get slab0 (slice_index order0 i))
    (seen : (seat_at watch new (slice_index order i)).seen
    ≡ lost loss (seat_at watch slab (slice_index order i)).seen)
    (room : (seat_at watch slab (slice_index order i)).room ≤ (seat_at watch new
    (slice_index order i)).room)
    (reach : (seat_at watch slab (slice_index order i)).reach ≤ (seat_at watch new
    (slice_index order i)).reach)
    (others : (k : ℕ) → k ≢ slice_index order i → get new k ≡ get slab k) where
  pub was_seat : seat_at watch slab (slice_index order i)
      ≡ seat_at watch slab0 (slice_index order0 i)
  was_seat = ap (seat_at watch slab) e ∙ ap (seat_from watch (slice_index order0 i)) v

  became : Became (lost loss) (seat_at watch slab0 (slice_index order0 i)) (seat_at watch new
      (slice_index order i))
  became = subst (λ s. Became (lost loss) s (seat_at watch new (slice_index order i))) was_seat
      (record {
        key = seat-key watch (slice_index order i) (get new (slice_index order i))
            ∙ sym (seat-key watch (slice_index order i) (get slab (slice_index order i)));
        seen = seen;
        room = room;
        reach = reach;
      })

  pub stays_step : goes (leaves_at loss (seat_at watch slab (slice_index order i)).seen) ≡ false
      → Each (Became (λ s. s)) (stayers loss (seats_of watch slab0 (drop (i + 1) order0)))
      (seats_of watch slab (drop (i + 1) order))
      → Each (Became (λ s. s)) (stayers loss (seats_of watch slab0 (drop i order0)))
      (seats_of watch new (drop i order))
  stays_step kept_on h =
      subst (λ ss. Each (Became (λ s. s)) (stayers loss ss) (seats_of watch new (drop i order)))
      (sym (seats_from watch slab0 order0 i l0))
      (subst (λ ts.
      Each (Became (λ s. s))
      (stayers loss
      (seat_at watch slab0 (slice_index order0 i) ∷ seats_of watch slab0 (drop (i + 1) order0)))
      ts) (sym (seats_from watch new order i l))
      (stays_one loss (seat_at watch slab0 (slice_index order0 i))
      (seat_at watch new (slice_index order i)) (seats_of watch slab0 (drop (i + 1) order0))
      (seats_of watch new (drop (i + 1) order))
      (subst (λ (s : SeatSeen). goes (leaves_at loss s.seen) ≡ false) was_seat kept_on) became
      (subst (λ ts.
      Each (Became (λ s. s)) (stayers loss (seats_of watch slab0 (drop (i + 1) order0))) ts)
      (sym (rest_same watch slab new order i l kept others)) h)))

  pub stays_keys : goes (leaves_at loss (seat_at watch slab (slice_index order i)).seen) ≡ false
      → goers loss (seats_of watch slab0 (drop i order0))
      ≡ goers loss (seats_of watch slab0 (drop (i + 1) order0))
  stays_keys kept_on = ap (goers loss) (seats_from watch slab0 order0 i l0)
      ∙ keys_stay loss (seat_at watch slab0 (slice_index order0 i))
      (seats_of watch slab0 (drop (i + 1) order0))
      (subst (λ (s : SeatSeen). goes (leaves_at loss s.seen) ≡ false) was_seat kept_on)

  pub leaves_keys : goes (leaves_at loss (seat_at watch slab (slice_index order i)).seen) ≡ true
      → goers loss (seats_of watch slab0 (drop i order0))
      ≡ goers loss (seats_of watch slab0 (drop (i + 1) order0)) ++ slice_index order i ∷ []
  leaves_keys goes_off =
      ap (goers loss) (seats_from watch slab0 order0 i l0)
      ∙ keys_leave loss (seat_at watch slab0 (slice_index order0 i))
      (seats_of watch slab0 (drop (i + 1) order0))
      (subst (λ (s : SeatSeen). goes (leaves_at loss s.seen) ≡ true) was_seat goes_off)
      ∙ ap (λ k. goers loss (seats_of watch slab0 (drop (i + 1) order0)) ++ k ∷ [])
      (seat-key watch (slice_index order0 i) (get slab0 (slice_index order0 i)) ∙ sym e)

  -- the observer that leaves is dropped, and its key is taken out of the order
  pub leaves_step : (last : Slab O) → ((k : ℕ) → k ≢ slice_index order i → get last k ≡ get new k)
      → goes (leaves_at loss (seat_at watch slab (slice_index order i)).seen) ≡ true
      → Each (Became (λ s. s)) (stayers loss (seats_of watch slab0 (drop (i + 1) order0)))
      (seats_of watch slab (drop (i + 1) order))
      → Each (Became (λ s. s)) (stayers loss (seats_of watch slab0 (drop i order0)))
      (seats_of watch last (drop i (remove order i)))
  leaves_step last same goes_off h =
      subst (λ ss.
      Each (Became (λ s. s)) (stayers loss ss) (seats_of watch last (drop i (remove order i))))
      (sym (seats_from watch slab0 order0 i l0))
      (leaves_one loss (seat_at watch slab0 (slice_index order0 i))
      (seats_of watch slab0 (drop (i + 1) order0))
      (seats_of watch last (drop i (remove order i)))
      (subst (λ (s : SeatSeen). goes (leaves_at loss s.seen) ≡ true) was_seat goes_off)
      (subst (λ ts.
      Each (Became (λ s. s)) (stayers loss (seats_of watch slab0 (drop (i + 1) order0))) ts)
      (sym (ap (seats_of watch last) (drop_removed i order)
      ∙ rest_same watch slab last order i l kept (λ k n. same k n ∙ others k n))) h))

-- ---- a seat is taken out

module _ {O : Type 0} (watch : O → Watched) (slab : Slab O) where
  lacks_seat : (key : ℕ) (order : List ℕ) → ((j : ℕ) → j < length order → slice_index order j ≢ key)
      → without_item seat_key key (seats_of watch slab order) ≡ seats_of watch slab order
  lacks_seat key [] h = refl
  lacks_seat key (k ∷ ks) h =
      let n = seat-key watch k (get slab k) in
      let r = lacks_seat key ks (λ j l. h (suc j) (omega (arith, l))) in
      let p : k ≢ key = h 0 (omega arith) in
      grind (arith, common_steps, n, r, p)

  removed_seat : (order : List ℕ) (i : ℕ) → i < length order
      → ((a b : ℕ) → a < b → b < length order → slice_index order a ≢ slice_index order b)
      → seats_of watch slab (remove order i)
      ≡ without_item seat_key (slice_index order i) (seats_of watch slab order)
  removed_seat [] i l d = absurd (omega (arith, l))
  removed_seat (k ∷ ks) zero l d =
      let n = seat-key watch k (get slab k) in
      let r = lacks_seat k ks (λ j m e. d 0 (suc j) (omega arith) (omega (arith, m)) (sym e)) in
      grind (arith, common_steps, n, r)
  removed_seat (k ∷ ks) (suc i) l d =
      let n = seat-key watch k (get slab k) in
      let r = removed_seat ks i (omega (arith, l))
      (λ a b m q. d (suc a) (suc b) (omega (arith, m)) (omega (arith, q))) in
      let p : k ≢ slice_index ks i = d 0 (suc i) (omega arith) l in
      grind (arith, common_steps, n, r, p)

-- the seats without the one at a place, whose observer is gone
pub seats_removed : {O : Type 0} (watch : O → Watched) (old new : Slab O) (order : List ℕ) (i : ℕ)
    → i < length order → IsKept old order
    → get new (slice_index order i) ≡ None
    → ((k : ℕ) → k ≢ slice_index order i → get new k ≡ get old k)
    → seats_of watch new (remove order i)
    ≡ without_item seat_key (slice_index order i) (seats_of watch old order)
seats_removed watch old new order i l kept none others =
    seats_alike watch old new (remove order i)
    (λ j lj. others (slice_index (remove order i) j)
    (other_key old new order i l kept none others j lj))
    ∙ removed_seat watch old order i l kept.distinct

-- a key without a seat takes nothing out
pub none_removed : {O : Type 0} (watch : O → Watched) (slab : Slab O) (key : ℕ) (order : List ℕ)
    → ((j : ℕ) → j < length order → slice_index order j ≢ key)
    → seats_of watch slab order ≡ without_item seat_key key (seats_of watch slab order)
none_removed watch slab key order h = sym (lacks_seat watch slab key order h)
