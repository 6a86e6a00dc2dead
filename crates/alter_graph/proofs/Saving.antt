-- One half and a notice: what it saves, and whether it is valid.
use Rattle.std.proofs.Common.{◌≡◌, ℕ, zero, suc, ◌+◌, ◌-◌, Bool, true, false, not, ◌&&◌}
use Rattle.std.proofs.Common.{nat_le, nat_eq}
use Rattle.std.proofs.Common.{◌==◌, if◌then◌else◌, IsTrue, List, [], ◌∷◌, map, length}
use Rattle.std.proofs.Common.{refl, sym, ap, subst, ◌∙◌, arith}
use Rattle.std.proofs.lemmas.Grind.{common_steps}
use Rattle.base_items.specs.declared.items.Fact.{Fact}
use Rattle.plain_digraph.specs.Lists.{AllOf}
use Rattle.plain_digraph.specs.Facts.{fact_id}
use Rattle.plain_digraph.specs.Rising.{without_item}
use Rattle.observe_core.specs.declared.kinds.Kind.{Kind}
use Rattle.observe_core.specs.declared.kinds.Kind.TheVariants.{Map}
use Rattle.observe_core.specs.declared.kinds.After.TheVariants.{Keep, Detach}
use Rattle.observe_core.specs.declared.changes.Change.TheVariants.{Add, Shift, Build}
use Rattle.observe_core.specs.declared.losses.Loss.{Loss}
use Rattle.observe_core.specs.declared.losses.Loss.TheVariants.{Erase, Clear}
use Rattle.observe_core.specs.Losses as losses
use Rattle.observe_core.specs.Changes.{told}
use Rattle.observe_core.specs.Items.{has_id, number_id, rises_from}
use Rattle.observe_core.specs.Guards.{fuse_part}
use Rattle.observe_core.specs.Held.{Held, Nothing, Values, Degree, Half, Kept, Ties, IsHeldSound}
use Rattle.observe_core.specs.Saved.{was_of, saved, saved_of}
use Rattle.observe_core.specs.Saved as whole
use Rattle.observe_core.specs.Seen.{Seen, map_seen}
use Rattle.observe_core.specs.Told.{held_added, held_shifted, held_erased, held_cleared}
use Rattle.observe_core.specs.Fits.{HeldFits}
use Rattle.observe_core.proofs.ItemLemmas.{and_left, and_right, contains-has}
use Rattle.observe_core.proofs.CountLemmas.{among-fewer}
use Rattle.observe_core.proofs.SaveLaws.{added-saves, shifted-saves, erased-saves, cleared-saves}
use Rattle.observe_core.proofs.SoundLemmas.{map_sound}
use Rattle.notify_chain.specs.Seats.{SeatSeen, AllSeats, Steady}
use Rattle.notify_chain.specs.Leaving.{goes, stayers}
use Rattle.alter_graph.specs.Chains.{seat_heard, seats_heard}
use Rattle.alter_graph.specs.Snaps.{half_held, half_of, held_at, kind_at, IsHalf, kept_of}
use Rattle.alter_graph.specs.Snaps.{has_any, IsHalfSeat}
use Rattle.alter_graph.specs.Steps.{Notice, Tells, Loses, seats_noticed}
use Rattle.alter_graph.proofs.Telling.{facts_noticed, CanHear}

abbrev pub held_noticed : Notice → Held → Held
held_noticed (Tells (Add fact)) h = held_added fact h
held_noticed (Tells (Shift old now)) h = held_shifted old now h
held_noticed (Tells (Build all)) h = h
held_noticed (Loses (Erase fact)) h = held_erased fact h
held_noticed (Loses Clear) h = held_cleared h

-- ---- look-ups

half_sound : (form : ℕ) (h : Held) → IsHeldSound h → IsHeldSound (half_held form h)
half_sound zero h sound = sound
half_sound (suc form) h sound = tt

-- what changes nothing where nothing is held
half_passed : (g : Held → Held) → g Nothing ≡ Nothing → (form : ℕ) (h : Held)
    → half_held form (g h) ≡ g (half_held form h)
half_passed g none zero h = refl
half_passed g none (suc form) h = sym none

pub sound_at : (key : ℕ) (ss : List SeatSeen) → AllSeats Steady ss → IsHeldSound (held_at key ss)
sound_at key [] h = tt
sound_at key (s ∷ ss) h =
    let r = sound_at key ss h.1 in
    elim (s.key == key) as (λ b. IsHeldSound (if b then half_of s.seen else held_at key ss))
    [ true ↦ half_sound s.seen.form s.seen.held h.0.0.held | false ↦ r ]

-- an addition or a move changes each record
pub heard_held : (key : ℕ) (f : Seen → Seen) (g : Held → Held)
    → ((s : Seen) → (f s).held ≡ g s.held) → ((s : Seen) → (f s).form ≡ s.form)
    → g Nothing ≡ Nothing → (ss : List SeatSeen)
    → held_at key (seats_heard f ss) ≡ g (held_at key ss)
heard_held key f g each same none [] = sym none
heard_held key f g each same none (s ∷ ss) =
    let r = heard_held key f g each same none ss in
    let form = same s.seen in
    let held = each s.seen in
    elim (s.key == key) as (λ b.
    (if b then half_of (f s.seen) else held_at key (seats_heard f ss))
    ≡ g (if b then half_of s.seen else held_at key ss)) [
      | true ↦
          (λ i. half_held (form i) (held i)) ∙ half_passed g none s.seen.form s.seen.held
      | false ↦ r
    ]

heard_kind : (key : ℕ) (f : Seen → Seen) → ((s : Seen) → (f s).kind ≡ s.kind)
    → (ss : List SeatSeen) → kind_at key (seats_heard f ss) ≡ kind_at key ss
heard_kind key f each [] = refl
heard_kind key f each (s ∷ ss) =
    let r = heard_kind key f each ss in
    elim (s.key == key) as (λ b.
    (if b then (f s.seen).kind else kind_at key (seats_heard f ss))
    ≡ (if b then s.seen.kind else kind_at key ss)) [ true ↦ each s.seen | false ↦ r ]

lost_held : (loss : Loss) (s : Seen)
    → half_of (losses.lost loss s) ≡ held_noticed (Loses loss) (half_of s)
lost_held (Erase f) s = half_passed (held_erased f) refl s.form s.held
lost_held Clear s = half_passed held_cleared refl s.form s.held

lost_kind : (loss : Loss) (s : Seen) → (losses.lost loss s).kind ≡ s.kind
lost_kind (Erase f) s = refl
lost_kind Clear s = refl

-- a map never leaves by itself
map_stays : (loss : Loss) (s : Seen) → s.kind ≡ Map → goes (losses.leaves_at loss s) ≡ false
map_stays (Erase f) s e =
    ap (λ (k : Kind). goes
    (if nat_eq (fuse_part k 1) 1 && nat_eq (s.left - fuse_part k 1) 0 then Detach else Keep)) e
map_stays Clear s e =
    ap (λ (k : Kind). goes
    (if nat_eq (fuse_part k 1) 1 && nat_eq 0 0 then Detach else Keep)) e

module _ (loss : Loss) (key : ℕ) where
  held_stays : (ss : List SeatSeen) → kind_at key ss ≡ Map
      → held_at key (stayers loss ss) ≡ held_noticed (Loses loss) (held_at key ss)
  held_stays [] m = none loss
    where
      none : (l : Loss) → Nothing ≡ held_noticed (Loses l) Nothing
      none (Erase f) = refl
      none Clear = refl
  held_stays (s ∷ ss) m =
      let hears = seat_heard (losses.lost loss) s in
      elim (s.key == key) as (λ b. (s.key == key) ≡ b
      → (if b then s.seen.kind else kind_at key ss) ≡ Map
      → held_at key (stayers loss (s ∷ ss))
      ≡ held_noticed (Loses loss) (if b then half_of s.seen else held_at key ss)) [
        | true ↦ λ e n.
            ap (λ b. held_at key (if b then stayers loss ss else hears ∷ stayers loss ss))
            (map_stays loss s.seen n)
            ∙ ap (λ b. if b then half_of (losses.lost loss s.seen) else held_at key
            (stayers loss ss))
            e
            ∙ lost_held loss s.seen
        | false ↦ λ e n.
            let r = held_stays ss n in
            elim (goes (losses.leaves_at loss s.seen)) as (λ b.
            held_at key (if b then stayers loss ss else hears ∷ stayers loss ss)
            ≡ held_noticed (Loses loss) (held_at key ss)) [
              | true ↦ r
              | false ↦
                  ap (λ b. if b then half_of (losses.lost loss s.seen) else held_at key
                  (stayers loss ss))
                  e ∙ r
            ]
      ] refl m

  kind_stays : (ss : List SeatSeen) → kind_at key ss ≡ Map → kind_at key (stayers loss ss) ≡ Map
  kind_stays [] m = refl
  kind_stays (s ∷ ss) m =
      let hears = seat_heard (losses.lost loss) s in
      elim (s.key == key) as (λ b. (s.key == key) ≡ b
      → (if b then s.seen.kind else kind_at key ss) ≡ Map
      → kind_at key (stayers loss (s ∷ ss)) ≡ Map) [
        | true ↦ λ e n.
            ap (λ b. kind_at key (if b then stayers loss ss else hears ∷ stayers loss ss))
            (map_stays loss s.seen n)
            ∙ ap (λ b. if b then (losses.lost loss s.seen).kind else kind_at key (stayers loss ss))
            e
            ∙ lost_kind loss s.seen ∙ n
        | false ↦ λ e n.
            let r = kind_stays ss n in
            elim (goes (losses.leaves_at loss s.seen)) as (λ b.
            kind_at key (if b then stayers loss ss else hears ∷ stayers loss ss) ≡ Map) [
              | true ↦ r
              | false ↦
                  ap (λ b. if b then (losses.lost loss s.seen).kind else kind_at key
                  (stayers loss ss))
                  e ∙ r
            ]
      ] refl m

-- what a key's map holds after a notice
pub held_next : (n : Notice) (live : List Fact) → CanHear n live → (key : ℕ) (ss : List SeatSeen)
    → kind_at key ss ≡ Map → held_at key (seats_noticed n ss) ≡ held_noticed n (held_at key ss)
held_next (Tells (Add f)) live can key ss m =
    heard_held key (told (Add f)) (held_added f) (λ s. refl) (λ s. refl) refl ss
held_next (Tells (Shift old now)) live can key ss m =
    heard_held key (told (Shift old now)) (held_shifted old now) (λ s. refl) (λ s. refl) refl ss
held_next (Tells (Build all)) live can key ss m = absurd can
held_next (Loses loss) live can key ss m = held_stays loss key ss m

pub kind_next : (n : Notice) (live : List Fact) → CanHear n live → (key : ℕ) (ss : List SeatSeen)
    → kind_at key ss ≡ Map → kind_at key (seats_noticed n ss) ≡ Map
kind_next (Tells (Add f)) live can key ss m =
    heard_kind key (told (Add f)) (λ s. refl) ss ∙ m
kind_next (Tells (Shift old now)) live can key ss m =
    heard_kind key (told (Shift old now)) (λ s. refl) ss ∙ m
kind_next (Tells (Build all)) live can key ss m = absurd can
kind_next (Loses loss) live can key ss m = kind_stays loss key ss m

-- ---- a half stays one

half_next : (n : Notice) (h : Held) → IsHalf h → IsHalf (held_noticed n h)
half_next n Nothing p = absurd p
half_next n (Values t es) p = absurd p
half_next n (Degree out ends) p = absurd p
half_next (Tells (Add f)) (Half added others kept valid) p = tt
half_next (Tells (Shift old now)) (Half added others kept valid) p = tt
half_next (Tells (Build all)) (Half added others kept valid) p = tt
half_next (Loses (Erase f)) (Half added others kept valid) p =
    elim (has_id number_id f.id added) as (λ b. IsHalf (if b then
    Half (without_item number_id f.id added) others (without_item fact_id f.id kept) valid
    else Half added (others - 1) (without_item fact_id f.id kept) false)) [ true ↦ tt | false ↦ tt ]
half_next (Loses Clear) (Half added others kept valid) p = tt
half_next n (Kept role all items) p = absurd p
half_next n (Ties ties) p = absurd p

pub seat_next : (n : Notice) (live : List Fact) → CanHear n live → (key : ℕ) (ss : List SeatSeen)
    → IsHalfSeat key ss → IsHalfSeat key (seats_noticed n ss)
seat_next n live can key ss h = record {
  kind = kind_next n live can key ss h.kind;
  half = subst IsHalf (sym (held_next n live can key ss h.kind))
      (half_next n (held_at key ss) h.half);
}

-- one that keeps nothing keeps nothing, but at a move
abbrev pub IsNoMove : Notice → Type 0
IsNoMove (Tells (Shift old now)) = ⊥
IsNoMove _ = Unit {0}

pub still_next : (n : Notice) (h : Held) → IsNoMove n → IsHalf h → kept_of h ≡ []
    → kept_of (held_noticed n h) ≡ []
still_next n Nothing calm p e = absurd p
still_next n (Values t es) calm p e = absurd p
still_next n (Degree out ends) calm p e = absurd p
still_next (Tells (Add f)) (Half added others kept valid) calm p e = e
still_next (Tells (Shift old now)) (Half added others kept valid) calm p e = absurd calm
still_next (Tells (Build all)) (Half added others kept valid) calm p e = e
still_next (Loses (Erase f)) (Half added others kept valid) calm p e =
    elim (has_id number_id f.id added) as (λ b. kept_of (if b then
    Half (without_item number_id f.id added) others (without_item fact_id f.id kept) valid
    else Half added (others - 1) (without_item fact_id f.id kept) false) ≡ [])
    [ true ↦ ap (without_item fact_id f.id) e | false ↦ ap (without_item fact_id f.id) e ]
still_next (Loses Clear) (Half added others kept valid) calm p e = refl
still_next n (Kept role all items) calm p e = absurd p
still_next n (Ties ties) calm p e = absurd p

-- ---- what it saves

pub saves_next : (n : Notice) (h : Held) (live : List Fact) → CanHear n live → HeldFits h live
    → IsHeldSound h → IsTrue (whole.is_valid (held_noticed n h))
    → saved_of (held_noticed n h) (facts_noticed n live) ≡ saved_of h live
saves_next (Tells (Add f)) h live can fits sound v = added-saves f (map_seen h) live can.untracked
saves_next (Tells (Shift old now)) h live can fits sound v =
    shifted-saves old now (map_seen h) live can.is_live (map_sound h sound) can.tracked can.same_id
saves_next (Tells (Build all)) h live can fits sound v = absurd can
saves_next (Loses (Erase f)) h live can fits sound v = erased-saves f (map_seen h) live v
saves_next (Loses Clear) h live can fits sound v =
    cleared-saves (map_seen h) live (record { guard = refl; held = fits }) can.0
    (map_sound h sound) v

-- ---- when it becomes stale

pub was_id : (k : List Fact) (g : Fact) → (was_of k g).id ≡ g.id
was_id [] g = refl
was_id (x ∷ xs) g =
    elim (x.id == g.id) as (λ b. (x.id == g.id) ≡ b
    → (if b then x else was_of xs g).id ≡ g.id) [
      | true ↦ λ q. grind (arith, common_steps, q)
      | false ↦ λ q. was_id xs g
    ] refl

module _ (a : List ℕ) (k : List Fact) where
  abbrev rest : Fact → List Fact → Bool → List Fact
  rest g gs t = if t then saved a k gs else was_of k g ∷ saved a k gs

  -- a live item is in the copy exactly where it isn't an added one
  pub added_out : (i : ℕ) (live : List Fact) → has_id number_id i a ≡ true
      → has_id fact_id i (saved a k live) ≡ false
  added_out i [] h = refl
  added_out i (g ∷ gs) h =
      let r = added_out i gs h in
      elim (has_id number_id g.id a) as (λ t. has_id number_id g.id a ≡ t
      → has_id fact_id i (rest g gs t) ≡ false) [
        | true ↦ λ _. r
        | false ↦ λ q.
            let n : (g.id == i) ≡ false = apart_ids g.id i h q in
            ap (λ j. if j == i then true else has_id fact_id i (saved a k gs)) (was_id k g)
            ∙ ap (λ b. if b then true else has_id fact_id i (saved a k gs)) n ∙ r
      ] refl
    where
      no : true ≡ false → ⊥
      no e = cc

      apart_ids : (m i : ℕ) → has_id number_id i a ≡ true → has_id number_id m a ≡ false
          → (m == i) ≡ false
      apart_ids m i h q = elim (m == i) as (λ b. (m == i) ≡ b → b ≡ false) [
        | true ↦ λ e.
            let s : m ≡ i = grind (arith, common_steps, e) in
            absurd (no (sym h ∙ ap (λ j. has_id number_id j a) (sym s) ∙ q))
        | false ↦ λ e. refl
      ] refl

  pub other_in : (i : ℕ) (live : List Fact) → has_id number_id i a ≡ false
      → IsTrue (has_id fact_id i live) → has_id fact_id i (saved a k live) ≡ true
  other_in i [] h t = cc
  other_in i (g ∷ gs) h t =
      elim (g.id == i) as (λ b. (g.id == i) ≡ b → IsTrue (if b then true else has_id fact_id i gs)
      → has_id fact_id i (saved a k (g ∷ gs)) ≡ true) [
        | true ↦ λ q u.
            let e : g.id ≡ i = grind (arith, common_steps, q) in
            let n : has_id number_id g.id a ≡ false = ap (λ j. has_id number_id j a) e ∙ h in
            ap (λ t. has_id fact_id i (rest g gs t)) n
            ∙ ap (λ j. if j == i then true else has_id fact_id i (saved a k gs)) (was_id k g)
            ∙ ap (λ b. if b then true else has_id fact_id i (saved a k gs)) q
        | false ↦ λ q u.
            let r = other_in i gs h u in
            elim (has_id number_id g.id a) as (λ t. has_id fact_id i (rest g gs t) ≡ true) [
              | true ↦ r
              | false ↦
                  ap (λ j. if j == i then true else has_id fact_id i (saved a k gs)) (was_id k g)
                  ∙ ap (λ b. if b then true else has_id fact_id i (saved a k gs)) q ∙ r
            ]
      ] refl t

  -- where the copy is empty, each live item is an added one
  none_left : (live : List Fact) → has_any (saved a k live) ≡ false
      → AllOf (λ i. IsTrue (has_id number_id i a)) (map fact_id live)
  none_left [] h = tt
  none_left (g ∷ gs) h =
      elim (has_id number_id g.id a) as (λ t. has_id number_id g.id a ≡ t
      → has_any (rest g gs t) ≡ false
      → AllOf (λ i. IsTrue (has_id number_id i a)) (map fact_id (g ∷ gs))) [
        | true ↦ λ q u. (q, none_left gs u)
        | false ↦ λ q u. cc
      ] refl h

pub ids_rise : (low : ℕ) (fs : List Fact) → IsTrue (rises_from fact_id low fs)
    → IsTrue (rises_from number_id low (map fact_id fs))
ids_rise low [] h = refl
ids_rise low (f ∷ fs) h =
    let a = and_left (nat_le low f.id) (rises_from fact_id (f.id + 1) fs) h in
    let r = ids_rise (f.id + 1) fs
    (and_right (nat_le low f.id) (rises_from fact_id (f.id + 1) fs) h) in
    grind (arith, common_steps, a, r)

as_many : (fs : List Fact) → length (map fact_id fs) ≡ length fs
as_many [] = refl
as_many (f ∷ fs) = let r = as_many fs in omega (arith, r)

-- whether the notice takes an item of the copy away
abbrev pub takes_half : Notice → List Fact → Bool
takes_half (Tells change) copy = false
takes_half (Loses (Erase f)) copy = has_id fact_id f.id copy
takes_half (Loses Clear) copy = has_any copy

and_not : (v : Bool) → v ≡ v && true
and_not true = refl
and_not false = refl

and_none : (v : Bool) → false ≡ v && false
and_none true = refl
and_none false = refl

pub flag_next : (n : Notice) (h : Held) (live : List Fact) → CanHear n live → HeldFits h live
    → IsHeldSound h → IsHalf h
    → whole.is_valid (held_noticed n h)
    ≡ whole.is_valid h && not (takes_half n (saved_of h live))
flag_next n Nothing live c fits sound p = absurd p
flag_next n (Values t es) live c fits sound p = absurd p
flag_next n (Degree out ends) live c fits sound p = absurd p
flag_next (Tells (Add f)) (Half a others k v) live c fits sound p = and_not v
flag_next (Tells (Shift old now)) (Half a others k v) live c fits sound p = and_not v
flag_next (Tells (Build all)) (Half a others k v) live c fits sound p = and_not v
flag_next (Loses (Erase f)) (Half a others k v) live c fits sound p =
    elim (has_id number_id f.id a) as (λ b. has_id number_id f.id a ≡ b
    → whole.is_valid (if b then
    Half (without_item number_id f.id a) others (without_item fact_id f.id k) v
    else Half a (others - 1) (without_item fact_id f.id k) false)
    ≡ v && not (has_id fact_id f.id (saved a k live))) [
      | true ↦ λ q. and_not v ∙ ap (λ b. v && not b) (sym (added_out a k f.id live q))
      | false ↦ λ q. and_none v ∙ ap (λ b. v && not b)
          (sym (other_in a k f.id live q (contains-has fact_id f live c.1.0)))
    ] refl
flag_next (Loses Clear) (Half a others k v) live c fits sound p =
    ap (λ b. v && b) (emptied (others == 0) (has_any (saved a k live)) none some)
  where
    -- with no others the copy is empty
    none : (others == 0) ≡ true → has_any (saved a k live) ≡ false
    none e = ap has_any
        (sym (saves_next (Loses Clear) (Half a others k true) live c fits sound e))

    some : has_any (saved a k live) ≡ false → (others == 0) ≡ true
    some e =
        let few = among-fewer number_id 0 (map fact_id live) a (ids_rise 0 live c.0.rising)
        sound.0 (none_left a k live e) in
        let n = as_many live in
        let m = fits.counted in
        let z : others ≡ 0 = omega (arith, few, n, m) in
        grind (arith, common_steps, z)

    emptied : (b d : Bool) → (b ≡ true → d ≡ false) → (d ≡ false → b ≡ true) → b ≡ not d
    emptied true true p q = ap not (sym (p refl))
    emptied true false p q = refl
    emptied false true p q = refl
    emptied false false p q = q refl
flag_next n (Kept role all items) live c fits sound p = absurd p
flag_next n (Ties ties) live c fits sound p = absurd p
