-- Seats, one by one and in a list.
use Rattle.std.proofs.Common.{◌≡◌, ◌≢◌, ℕ, zero, suc, ◌<◌, ◌≤◌, List, [], ◌∷◌, ◌++◌, length, Option}
use Rattle.std.proofs.Common.{Some, None, Result, Ok, Err, refl, sym, ap, subst, ◌∙◌, arith}
use Rattle.std.proofs.Common.{le_trans, inl, inr, get_or, set, get_or-set_other, slice_index, ◌⊎◌}
use Rattle.std.proofs.Common.{OnOk, OnErr, true, false, if◌then◌else◌, ◌==◌, IsSome, ◌+◌, is_some}
use Rattle.std.proofs.Common.{IfSome}
use Rattle.std.specs.Borrow.{MutBor}
use Rattle.std.specs.Option.{option_copied_mut}
use Rattle.std.proofs.lemmas.List.{get_or_push, length-append}
use Rattle.std.proofs.Math.ListN.{get_or-append}
use Rattle.std.proofs.lemmas.Grind.{common_steps}
use Rattle.observe_core.specs.Seen.{Watched, Seen, Lawful, IsSound, need}
use Rattle.observe_core.specs.declared.kinds.Veto.{Veto}
use Rattle.observe_core.specs.declared.kinds.Veto.TheVariants.{Refused, Memory}
use Rattle.observe_core.specs.declared.changes.Change.{Change}
use Rattle.observe_core.specs.Changes.{told, untold, CanTell, CanUntell}
use Rattle.observe_core.specs.Conditions.{Answers}
use Rattle.observe_core.specs.Held.{Nothing}
use Rattle.observe_core.proofs.SoundLemmas.{map_sound}
use Rattle.observe_core.proofs.ChangeLaws.{untold-told, can_untell}
use Rattle.slab.specs.Slab.{Slab, get, with_value, ContainsKey}
use Rattle.notify_chain.specs.Seats.{SeatSeen, seat_from, seat_at, seats_of, Became, Refuses}
use Rattle.notify_chain.specs.Seats.{Between, Each, AllSeats, IsKept, find_seat, seat_seen}
use Rattle.notify_chain.specs.Seats.{Attached, put_seat, Steady, HasKey}

module _ {O : Type 0} (watch : O → Watched) where
  pub seat-sound : (key : ℕ) (v : Option O) → IsSound (seat_from watch key v).seen
  seat-sound key None = map_sound Nothing tt
  seat-sound key (Some o) = (watch o).sound

  pub seat-reaches : (key : ℕ) (v : Option O)
      → need (seat_from watch key v).seen ≤ (seat_from watch key v).reach
  seat-reaches key None = omega arith
  seat-reaches key (Some o) = (watch o).reaches

  pub seat-key : (key : ℕ) (v : Option O) → (seat_from watch key v).key ≡ key
  seat-key key None = refl
  seat-key key (Some o) = refl

none_not : {A : Type 0} (v : Option A) → v ≡ None → IsSome v → ⊥
none_not None e h = cc
none_not (Some a) e h = cc

pub some_is : {A : Type 0} (v : Option A) (a : A) → v ≡ Some a → IsSome v
some_is None a e = cc
some_is (Some b) a e = refl

-- a seat that was told may be untold
pub could_untell : (c : Change) (old new : SeatSeen) → CanTell c old.seen → IsSound old.seen
    → need old.seen ≤ old.reach → Became (told c) old new → CanUntell c new.seen new.reach
could_untell c old new can sound far b =
    subst (λ s. CanUntell c s new.reach) (sym b.seen)
    (can_untell c old.seen new.reach can sound (le_trans far b.reach))

-- and then it is as before
pub told_back : (c : Change) (old mid new : SeatSeen) → CanTell c old.seen → IsSound old.seen
    → Became (told c) old mid → Became (untold c) mid new → Became (λ s. s) old new
told_back c old mid new can sound b u = record {
  key = u.key ∙ b.key;
  seen = u.seen ∙ ap (untold c) b.seen ∙ untold-told c old.seen can sound;
  room = le_trans b.room u.room;
  reach = le_trans b.reach u.reach;
}

pub refused_same : {E : Type 0} (r : Result E Veto) (veto : Veto) (old new next : Seen)
    → r ≡ Err veto → Answers r old new next → new ≡ old
refused_same (Ok x) veto old new next e h = cc
refused_same (Err Refused) veto old new next e h = h.0
refused_same (Err Memory) veto old new next e h = h

pub refused_law : {E : Type 0} (r : Result E Veto) (veto : Veto) (old new next : Seen)
    → r ≡ Err veto → Answers r old new next → veto ≡ Refused → Lawful next → ⊥
refused_law (Ok x) veto old new next e h v = cc
refused_law (Err Refused) veto old new next e h v = h.1
refused_law (Err Memory) veto old new next e h v = cc

module _ {O : Type 0} (watch : O → Watched) (g : Seen → Seen) (slab : Slab O) (veto : Veto) where
  pub refuses_at : (order : List ℕ) (i : ℕ) → i < length order
      → ((j : ℕ) → j < i → Lawful (g (seat_at watch slab (slice_index order j)).seen))
      → (veto ≡ Refused → Lawful (g (seat_at watch slab (slice_index order i)).seen) → ⊥)
      → Refuses g (seats_of watch slab order) (slice_index order i) veto
  refuses_at [] i l before here = absurd (omega arith)
  refuses_at (k ∷ ks) zero l before here = inl (seat-key watch k (get slab k), here)
  refuses_at (k ∷ ks) (suc i) l before here =
      inr (
        before 0 (omega arith),
        refuses_at ks i (omega (arith, l)) (λ j m. before (suc j) (omega (arith, m))) here,
      )

pub split_at : (j i : ℕ) → (j < i) ⊎ ((j ≡ i) ⊎ (i < j))
split_at zero zero = inr (inl refl)
split_at zero (suc i) = inl (omega arith)
split_at (suc j) zero = inr (inr (omega arith))
split_at (suc j) (suc i) =
    elim (split_at j i) as (λ _. (suc j < suc i) ⊎ ((suc j ≡ suc i) ⊎ (suc i < suc j))) [
      | inl h ↦ inl (omega (arith, h))
      | inr r ↦ elim r as (λ _. (suc j < suc i) ⊎ ((suc j ≡ suc i) ⊎ (suc i < suc j)))
          [ inl e ↦ inr (inl (ap (λ n. suc n) e)) | inr m ↦ inr (inr (omega (arith, m))) ]
    ]

module _ {O : Type 0} (watch : O → Watched) (key : ℕ) where
  pub became_same : (v w : Option O) → w ≡ v
      → Became (λ s. s) (seat_from watch key v) (seat_from watch key w)
  became_same v w e =
      subst (λ x. Became (λ s. s) (seat_from watch key v) (seat_from watch key x)) (sym e)
      (record { key = refl; seen = refl; room = omega arith; reach = omega arith })

  -- the seat that refused
  pub became_refused : (v told_v last : Option O) → last ≡ told_v
      → (seat_from watch key told_v).seen ≡ (seat_from watch key v).seen
      → (seat_from watch key v).room ≤ (seat_from watch key told_v).room
      → (seat_from watch key v).reach ≤ (seat_from watch key told_v).reach
      → Became (λ s. s) (seat_from watch key v) (seat_from watch key last)
  became_refused v told_v last e s m n =
      subst (λ x. Became (λ s. s) (seat_from watch key v) (seat_from watch key x)) (sym e)
      (record {
        key = seat-key watch key told_v
            ∙ sym (seat-key watch key v);
        seen = s;
        room = m;
        reach = n;
      })

module _ {O : Type 0} (watch : O → Watched) where
  pub between_each : (R : SeatSeen → SeatSeen → Type 0) (old new : Slab O) (order : List ℕ)
      → Between watch order R old new 0 (length order)
      → Each R (seats_of watch old order) (seats_of watch new order)
  between_each R old new [] h = tt
  between_each R old new (k ∷ ks) h = (
    h 0 (omega arith) (omega arith),
    between_each R old new ks (λ j z l. h (suc j) (omega arith) (omega (arith, l))),
  )

  pub all_below : (P : SeatSeen → Type 0) (slab : Slab O) (order : List ℕ)
      → AllSeats P (seats_of watch slab order) → (j : ℕ) → j < length order
      → P (seat_at watch slab (slice_index order j))
  all_below P slab [] h j l = absurd (omega arith)
  all_below P slab (k ∷ ks) h zero l = h.0
  all_below P slab (k ∷ ks) h (suc j) l = all_below P slab ks h.1 j (omega (arith, l))

pub on_ok : {T E : Type 0} {P Q : Type 0} (r : Result T E) → (P → Q) → OnOk r P → OnOk r Q
on_ok (Ok x) f h = f h
on_ok (Err e) f h = tt

pub on_err : {T E : Type 0} {P Q : Type 0} (r : Result T E) → (P → Q) → OnErr r P → OnErr r Q
on_err (Ok x) f h = tt
on_err (Err e) f h = f h

module _ {O : Type 0} (watch : O → Watched) (slab : Slab O) where
  pub find-at : (key : ℕ) (order : List ℕ) (j : ℕ) → j < length order → slice_index order j ≡ key
      → find_seat key (seats_of watch slab order) ≡ Some (seat_at watch slab key)
  find-at key [] j l e = absurd (omega arith)
  find-at key (k ∷ ks) zero l e =
      let n = seat-key watch k (get slab k) in let q : k ≡ key = e in
      subst (λ m. find_seat m (seats_of watch slab (k ∷ ks)) ≡ Some (seat_at watch slab m)) q
      (grind (arith, common_steps, n))
  find-at key (k ∷ ks) (suc j) l e =
      let n = seat-key watch k (get slab k) in
      let r = find-at key ks j (omega (arith, l)) e in
      elim ((seat_at watch slab k).key == key) as (λ b. ((seat_at watch slab k).key == key) ≡ b
      → (if b then Some (seat_at watch slab k) else find_seat key (seats_of watch slab ks))
      ≡ Some (seat_at watch slab key)) [
        | true ↦ λ t. let q : k ≡ key =
            grind (arith, common_steps, t, n) in ap (λ m. Some (seat_at watch slab m)) q
        | false ↦ λ t. r
      ] refl

  pub find-none : (key : ℕ) (order : List ℕ)
      → ((j : ℕ) → j < length order → slice_index order j ≢ key)
      → find_seat key (seats_of watch slab order) ≡ None
  find-none key [] h = refl
  find-none key (k ∷ ks) h =
      let n = seat-key watch k (get slab k) in
      let r = find-none key ks (λ j l. h (suc j) (omega (arith, l))) in
      let p : k ≢ key = h 0 (omega arith) in
      grind (arith, common_steps, n, r, p)

  -- a look-up in the slab is a look-up among the seats
  pub find-kept : (key : ℕ) (order : List ℕ) → IsKept slab order
      → seat_seen watch key (get slab key) ≡ find_seat key (seats_of watch slab order)
  find-kept key order kept =
      elim (get slab key) as (λ v. get slab key ≡ v
      → seat_seen watch key v ≡ find_seat key (seats_of watch slab order)) [
        | None ↦ λ e.
            sym (find-none key order
            (λ j l n. none_not (get slab key) e
            (subst (λ k. IsSome (get slab k)) n (kept.occupied j l))))
        | Some o ↦ λ e.
            let h = kept.known key (some_is (get slab key) o e) in
            ap (λ v. Some (seat_from watch key v)) (sym e) ∙ sym (find-at key order h.0 h.1 h.2)
      ] refl

module _ {O : Type 0} (watch : O → Watched) where
  -- seats whose values are the same
  pub seats_alike : (old new : Slab O) (order : List ℕ)
      → ((j : ℕ) → j < length order → get new (slice_index order j) ≡ get old (slice_index order j))
      → seats_of watch new order ≡ seats_of watch old order
  seats_alike old new [] h = refl
  seats_alike old new (k ∷ ks) h =
      let a = ap (seat_from watch k) (h 0 (omega arith)) in
      let r = seats_alike old new ks (λ j l. h (suc j) (omega (arith, l))) in
      λ i. a i ∷ r i

  pub seats-push : (slab : Slab O) (order : List ℕ) (key : ℕ)
      → seats_of watch slab (order ++ key ∷ []) ≡ seats_of watch slab order
      ++ seat_at watch slab key ∷ []
  seats-push slab [] key = refl
  seats-push slab (k ∷ ks) key = ap (λ l. seat_at watch slab k ∷ l) (seats-push slab ks key)

  -- a value put under a free key, which is put last
  pub attached : (old new : Slab O) (order : List
      ℕ) (key : ℕ) (o : O) (came : Watched) (next : Seen)
      → IsKept old order → get old key ≡ None → get new key ≡ Some o
      → ((k : ℕ) → k ≢ key → get new k ≡ get old k)
      → (watch o).seen ≡ next → came.room ≤ (watch o).room → came.reach ≤ (watch o).reach
      → Attached (seats_of watch old order) (seats_of watch new (order ++ key ∷ [])) key came next
  attached old new order key o came next kept free put others s a b =
      let differ : (j : ℕ) → j < length order → slice_index order j ≢ key =
      λ j l e. none_not (get old key) free
      (subst (λ k. IsSome (get old k)) e (kept.occupied j l)) in
      let alike = seats_alike old new order (λ j l. others (slice_index order j) (differ j l)) in
      record {
        seat = seat_from watch key (Some o);
        last = seats-push new order key ∙ (λ i. alike i ++ seat_from watch key (put i) ∷ []);
        name = refl;
        is_new = find-none watch old key order differ;
        seen = s;
        room = a;
        reach = b;
      }

-- what was told where no refusal came
pub accepted : {E : Type 0} (r : Result E Veto) (old new next : Seen) → ((v : Veto) → r ≡ Err v → ⊥)
    → Answers r old new next → new ≡ next
accepted (Ok x) old new next n h = h
accepted (Err v) old new next n h = absurd (n v refl)

module _ {O : Type 0} (watch : O → Watched) where
  put-elsewhere : (slab : Slab O) (order : List ℕ) (s : SeatSeen)
      → ((j : ℕ) → j < length order → slice_index order j ≢ s.key)
      → put_seat s (seats_of watch slab order) ≡ seats_of watch slab order
  put-elsewhere slab [] s h = refl
  put-elsewhere slab (k ∷ ks) s h =
      let n = seat-key watch k (get slab k) in
      let r = put-elsewhere slab ks s (λ j l. h (suc j) (omega (arith, l))) in
      let p : k ≢ s.key = h 0 (omega arith) in
      grind (arith, common_steps, n, r, p)

  -- the seats after a write through a lent observer
  pub seats-put : (old new : Slab O) (order : List ℕ) (key : ℕ) (o : O) → (j : ℕ) → j < length order
      → slice_index order j ≡ key
      → ((i k : ℕ) → i < k → k < length order → slice_index order i ≢ slice_index order k)
      → get new key ≡ Some o → ((k : ℕ) → k ≢ key → get new k ≡ get old k)
      → seats_of watch new order
      ≡ put_seat (record
      { key = key; seen = (watch o).seen; room = (watch o).room; reach = (watch o).reach })
      (seats_of watch old order)
  seats-put old new [] key o j l e d p q = absurd (omega arith)
  seats-put old new (k ∷ ks) key o zero l e d p q =
      let n = seat-key watch k (get old k) in
      let g : k ≡ key = e in
      let same : seats_of watch new ks ≡ seats_of watch old ks =
      seats_alike watch old new ks
      (λ j m. q (slice_index ks j)
      (λ h. d 0 (suc j) (omega arith) (omega (arith, m)) (g ∙ sym h))) in
      let here : seat_at watch new k
      ≡ record {
        key = key;
        seen = (watch o).seen;
        room = (watch o).room;
        reach =
            (watch o).reach;
      } =
      subst (λ m. seat_at watch new m
      ≡ record {
        key = key;
        seen = (watch o).seen;
        room = (watch o).room;
        reach =
            (watch o).reach;
      }) (sym g) (ap (seat_from watch key) p) in
      grind (arith, common_steps, n, g, same, here)
  seats-put old new (k ∷ ks) key o (suc j) l e d p q =
      let n = seat-key watch k (get old k) in
      let differ : k ≢ key = λ h. d 0 (suc j) (omega arith) l (h ∙ sym e) in
      let here : seat_at watch new k ≡ seat_at watch old k = ap (seat_from watch k) (q k differ) in
      let r = seats-put old new ks key o j (omega (arith, l)) e
      (λ a b m t. d (suc a) (suc b) (omega (arith, m)) (omega (arith, t))) p q in
      grind (arith, common_steps, n, differ, here, r)

set_at : {A : Type 0} (ss : List (Option A)) (k : ℕ) (w : A) → IsSome (get_or ss k None)
    → get_or (set ss k (Some w)) k None ≡ Some w
set_at [] k w h = cc
set_at (s ∷ ss) zero w h = refl
set_at (s ∷ ss) (suc k) w h = set_at ss k w h

module _ {O : Type 0} (watch : O → Watched) where
  -- the seats after a write into the slab
  pub seats-lent : (slab : Slab O) (order : List ℕ) (key : ℕ) → IsKept slab order
      → ContainsKey slab key → (w : O)
      → seats_of watch (with_value slab key w) order
      ≡ put_seat (record
      { key = key; seen = (watch w).seen; room = (watch w).room; reach = (watch w).reach })
      (seats_of watch slab order)
  seats-lent slab order key kept there w =
      let h = kept.known key there in
      seats-put watch slab (with_value slab key w) order key w h.0 h.1 h.2 kept.distinct
      (set_at slab.slots key w there) (λ k n. get_or-set_other slab.slots key k (Some w) None n)

  -- whatever is written
  pub seats-lent_any : (slab : Slab O) (order : List ℕ) (key : ℕ) → IsKept slab order
      → (lent : Option (MutBor O)) → option_copied_mut lent ≡ get slab key
      → IfSome lent (λ _. (w : O) → seats_of watch (with_value slab key w) order
      ≡ put_seat (seat_from watch key (Some w)) (seats_of watch slab order))
  seats-lent_any slab order key kept None e = tt
  seats-lent_any slab order key kept (Some o) e =
      seats-lent slab order key kept (ap is_some (sym e))

pub is_none_of : {A : Type 0} (v : Option A) → (IsSome v → ⊥) → v ≡ None
is_none_of None n = refl
is_none_of (Some a) n = absurd (n refl)

module _ {O : Type 0} (watch : O → Watched) where
  pub all_steady : (slab : Slab O) (order : List ℕ) → AllSeats Steady (seats_of watch slab order)
  all_steady slab [] = tt
  all_steady slab (k ∷ ks) =
      ((seat-sound watch k (get slab k), seat-reaches watch k (get slab k)), all_steady slab ks)

-- seats that were told may be untold
pub undo_ready : (c : Change) (old new : List SeatSeen) → AllSeats (λ s. CanTell c s.seen) old
    → AllSeats Steady old → Each (Became (told c)) old new
    → AllSeats (λ s. CanUntell c s.seen s.reach) new
undo_ready c [] [] can steady b = tt
undo_ready c [] (y ∷ ys) can steady b = absurd b
undo_ready c (x ∷ xs) [] can steady b = absurd b
undo_ready c (x ∷ xs) (y ∷ ys) can steady b =
    (could_untell c x y can.0 steady.0.0 steady.0.1 b.0, undo_ready c xs ys can.1 steady.1 b.1)

-- and then all are as before
pub undo_back : (c : Change) (old mid new : List SeatSeen) → AllSeats (λ s. CanTell c s.seen) old
    → AllSeats Steady old → Each (Became (told c)) old mid → Each (Became (untold c)) mid new
    → Each (Became (λ s. s)) old new
undo_back c [] [] [] can steady b u = tt
undo_back c [] [] (z ∷ zs) can steady b u = absurd u
undo_back c [] (y ∷ ys) new can steady b u = absurd b
undo_back c (x ∷ xs) [] new can steady b u = absurd b
undo_back c (x ∷ xs) (y ∷ ys) [] can steady b u = absurd u
undo_back c (x ∷ xs) (y ∷ ys) (z ∷ zs) can steady b u =
    (told_back c x y z can.0 steady.0.0 b.0 u.0, undo_back c xs ys zs can.1 steady.1 b.1 u.1)

pub each_same : (xs : List SeatSeen) → Each (Became (λ s. s)) xs xs
each_same [] = tt
each_same (x ∷ xs) =
    (record { key = refl; seen = refl; room = omega arith; reach = omega arith }, each_same xs)

pub ok_of : {T E P : Type 0} (r : Result T E) → ((e : E) → r ≡ Err e → ⊥) → OnOk r P → P
ok_of (Ok x) n h = h
ok_of (Err e) n h = absurd (n e refl)

-- a value put under a free key, which is put last
module _ {O : Type 0} (old new : Slab O) (order : List ℕ) (key : ℕ) (kept : IsKept old order)
    (free : get old key ≡ None)
    (there : ContainsKey new key) (others : (k : ℕ) → k ≢ key → get new k ≡ get old k) where
  at_front : (j : ℕ) → j < length order → slice_index (order ++ key ∷ []) j ≡ slice_index order j
  at_front j l = get_or-append order (key ∷ []) 0 j l

  at_end : (j : ℕ) → j ≡ length order → slice_index (order ++ key ∷ []) j ≡ key
  at_end j e = get_or_push order key 0 j (sym e)

  apart_from : (j : ℕ) → j < length order → slice_index order j ≢ key
  apart_from j l e =
      none_not (get old key) free (subst (λ k. IsSome (get old k)) e (kept.occupied j l))

  longer : length (order ++ key ∷ []) ≡ length order + 1
  longer = length-append order (key ∷ [])

  by_place : (j : ℕ) (P : Type 0) → j < length (order ++ key ∷ []) → (j < length order → P)
      → (j ≡ length order → P) → P
  by_place j P l front last =
      let e = longer in
      elim (split_at j (length order)) as (λ _. P) [
        | inl m ↦ front m
        | inr r ↦ elim r as (λ _. P) [ inl q ↦ last q | inr m ↦ absurd (omega (arith, l, e, m)) ]
      ]

  pub kept_pushed : IsKept new (order ++ key ∷ [])
  kept_pushed = record {
    occupied = λ j l. by_place j (ContainsKey new (slice_index (order ++ key ∷ []) j)) l
        (λ m. subst (ContainsKey new) (sym (at_front j m))
        (subst IsSome (sym (others (slice_index order j) (apart_from j m)))
        (kept.occupied j m)))
        (λ e. subst (ContainsKey new) (sym (at_end j e)) there);
    distinct = λ i j m l.
        by_place j (slice_index (order ++ key ∷ []) i ≢ slice_index (order ++ key ∷ []) j) l
        (λ n e. kept.distinct i j m n (sym (at_front i (omega (arith, m, n))) ∙ e ∙ at_front j n))
        (λ q e. apart_from i (omega (arith, m, q))
        (sym (at_front i (omega (arith, m, q))) ∙ e ∙ at_end j q));
    known = λ k h. elim (k == key) as (λ b. (k == key) ≡ b → HasKey (order ++ key ∷ []) k) [
      | true ↦ λ t. let q : key ≡ k =
          grind (arith, common_steps, t) in (
            length order,
            let e = longer in omega (arith, e),
            at_end (length order) refl ∙ q,
          )
      | false ↦ λ t.
          let n : k ≢ key = λ q. grind (arith, common_steps, t, q) in
          let w = kept.known k (subst IsSome (others k n) h) in
          let m : w.0 < length order = w.1 in
          (w.0, let e = longer in omega (arith, e, m), at_front w.0 m ∙ w.2)
    ] refl;
  }
