-- Columns as slots.
use Rattle.std.proofs.Common.{◌≡◌, ℕ, zero, suc, ◌+◌, ◌-◌, ◌<◌, ◌≤◌, nat_lt, Bool, true, false}
use Rattle.std.proofs.Common.{if◌then◌else◌, IsTrue, List, [], ◌∷◌, ◌++◌, length, replicate, take}
use Rattle.std.proofs.Common.{take_all, get_or, set, Option, Some, None, Contains, refl, sym, ap}
use Rattle.std.proofs.Common.{◌∙◌, arith}
use Rattle.std.proofs.lemmas.Grind.{common_steps}
use Rattle.observe_core.specs.Held.{Entry, entry_id}
use Rattle.plain_digraph.specs.Rising.{with_item, without_item, swapped}
use Rattle.observe_core.specs.Items.{Lacks, has_id}
use Rattle.observe_core.specs.Slots.{present, well_placed}
use Rattle.observe_core.proofs.ItemLemmas.{without-lacks, lacks-not_has}
use Rattle.observe_core.proofs.SlotLemmas.{present-put, present-taken, present-swapped, lacks-slot}
use Rattle.observe_core.proofs.SlotLemmas.{past-lacks, empty-lacks}
use Rattle.columns.specs.Slots.{slots_of}
use Rattle.columns.specs.Sound.{any, slots-placed}

some_is : {X : Type 0} (x y : X) → Some x ≡ Some y → x ≡ y
some_is {X} x y e = ap (λ o. elim o as (λ o. X) [ Some z ↦ z | None ↦ x ]) e

module _ {V : Type 0} where
  slots-length : (i : ℕ) (ls : List Bool) (vs : List V) → length ls ≤ length vs
      → length (slots_of i ls vs) ≡ length ls
  slots-length i [] vs l = refl
  slots-length i (b ∷ ls) [] l = absurd (omega (arith, l))
  slots-length i (b ∷ ls) (v ∷ vs) l = let r =
      slots-length (i + 1) ls vs (omega (arith, l)) in omega (arith, r)

  slots-put : (i at n : ℕ) (ls : List Bool) (vs : List V) (v : V) → at < length ls
      → length ls ≤ length vs → n ≡ i + at
      → slots_of i (set ls at true) (set vs at v)
      ≡ set (slots_of i ls vs) at (Some (record { id = n; value = v }))
  slots-put i at n [] vs v l m e = absurd (omega (arith, l))
  slots-put i at n (b ∷ ls) [] v l m e = absurd (omega (arith, m))
  slots-put i zero n (b ∷ ls) (w ∷ vs) v l m e =
      let q : i ≡ n = omega (arith, e) in
      ap (λ (j : ℕ). Some (record { id = j; value = v }) ∷ slots_of (i + 1) ls vs) q
  slots-put i (suc at) n (b ∷ ls) (w ∷ vs) v l m e =
      ap (λ r. (if b then Some (record { id = i; value = w }) else None) ∷ r)
      (slots-put (i + 1) at n ls vs v (omega (arith, l)) (omega (arith, m)) (omega (arith, e)))

  slots-taken : (i at : ℕ) (ls : List Bool) (vs : List V) (v : V) → at < length ls
      → length ls ≤ length vs
      → slots_of i (set ls at false) (set vs at v) ≡ set (slots_of i ls vs) at None
  slots-taken i at [] vs v l m = absurd (omega (arith, l))
  slots-taken i at (b ∷ ls) [] v l m = absurd (omega (arith, m))
  slots-taken i zero (b ∷ ls) (w ∷ vs) v l m = refl
  slots-taken i (suc at) (b ∷ ls) (w ∷ vs) v l m =
      ap (λ r. (if b then Some (record { id = i; value = w }) else None) ∷ r)
      (slots-taken (i + 1) at ls vs v (omega (arith, l)) (omega (arith, m)))

  -- a write to a live item
  slots-set : (i at n : ℕ) (ls : List Bool) (vs : List V) (v : V) → at < length ls
      → length ls ≤ length vs → n ≡ i + at → get_or ls at false ≡ true
      → slots_of i ls (set vs at v)
      ≡ set (slots_of i ls vs) at (Some (record { id = n; value = v }))
  slots-set i at n [] vs v l m e t = absurd (omega (arith, l))
  slots-set i at n (b ∷ ls) [] v l m e t = absurd (omega (arith, m))
  slots-set i zero n (true ∷ ls) (w ∷ vs) v l m e t =
      let q : i ≡ n = omega (arith, e) in
      ap (λ (j : ℕ). Some (record { id = j; value = v }) ∷ slots_of (i + 1) ls vs) q
  slots-set i zero n (false ∷ ls) (w ∷ vs) v l m e t = cc
  slots-set i (suc at) n (b ∷ ls) (w ∷ vs) v l m e t =
      ap (λ r. (if b then Some (record { id = i; value = w }) else None) ∷ r)
      (slots-set (i + 1) at n ls vs v (omega (arith, l)) (omega (arith, m)) (omega (arith, e))
      t)

  slots-read : (i at n : ℕ) (d : V) (ls : List Bool) (vs : List V) → at < length ls
      → length ls ≤ length vs → n ≡ i + at → get_or ls at false ≡ true
      → get_or (slots_of i ls vs) at None ≡ Some (record { id = n; value = get_or vs at d })
  slots-read i at n d [] vs l m e t = absurd (omega (arith, l))
  slots-read i at n d (b ∷ ls) [] l m e t = absurd (omega (arith, m))
  slots-read i zero n d (true ∷ ls) (w ∷ vs) l m e t = let q : i ≡ n =
      omega (arith, e) in ap (λ (j : ℕ). Some (record { id = j; value = w })) q
  slots-read i zero n d (false ∷ ls) (w ∷ vs) l m e t = cc
  slots-read i (suc at) n d (b ∷ ls) (w ∷ vs) l m e t =
      slots-read (i + 1) at n d ls vs (omega (arith, l)) (omega (arith, m)) (omega (arith, e)) t

  slots-dead : (i at : ℕ) (ls : List Bool) (vs : List V) → get_or ls at false ≡ false
      → get_or (slots_of i ls vs) at None ≡ None
  slots-dead i at [] vs t = refl
  slots-dead i at (b ∷ ls) [] t = refl
  slots-dead i zero (true ∷ ls) (w ∷ vs) t = cc
  slots-dead i zero (false ∷ ls) (w ∷ vs) t = refl
  slots-dead i (suc at) (b ∷ ls) (w ∷ vs) t = slots-dead (i + 1) at ls vs t

  -- more values, and then more flags
  pub more-values : (i : ℕ) (ls : List Bool) (vs ws : List V) → length ls ≤ length vs
      → slots_of i ls (vs ++ ws) ≡ slots_of i ls vs
  more-values i [] vs ws l = refl
  more-values i (b ∷ ls) [] ws l = absurd (omega (arith, l))
  more-values i (b ∷ ls) (v ∷ vs) ws l =
      ap (λ r. (if b then Some (record { id = i; value = v }) else None) ∷ r)
      (more-values (i + 1) ls vs ws (omega (arith, l)))

  flags-down : (i n : ℕ) (vs : List V) → present (slots_of i (replicate n false) vs) ≡ []
  flags-down i zero vs = refl
  flags-down i (suc n) [] = refl
  flags-down i (suc n) (v ∷ vs) = flags-down (i + 1) n vs

  pub more-flags : (i n : ℕ) (ls : List Bool) (vs : List V)
      → present (slots_of i (ls ++ replicate n false) vs) ≡ present (slots_of i ls vs)
  more-flags i n [] vs = flags-down i n vs
  more-flags i n (b ∷ ls) [] = refl
  more-flags i n (true ∷ ls) (v ∷ vs) =
      ap (λ r. record { id = i; value = v } ∷ r) (more-flags (i + 1) n ls vs)
  more-flags i n (false ∷ ls) (v ∷ vs) = more-flags (i + 1) n ls vs

  module _ (ls : List Bool) (vs : List V) (m : length ls ≤ length vs) (id : ℕ) where
    placed : IsTrue (well_placed entry_id any 0 (slots_of 0 ls vs))
    placed = slots-placed 0 ls vs

    within : id < length ls → id < length (slots_of 0 ls vs)
    within l = let e = slots-length 0 ls vs m in omega (arith, e, l)

    -- an id past the flags, and one whose flag is down, is no item's
    pub beyond-lacks : length ls ≤ id → Lacks entry_id id (present (slots_of 0 ls vs))
    beyond-lacks l = let e =
        slots-length 0 ls vs m in past-lacks entry_id any 0 id (slots_of 0 ls vs) placed
        (omega (arith, e, l))

    pub down-lacks : get_or ls id false ≡ false → Lacks entry_id id (present (slots_of 0 ls vs))
    down-lacks e =
        empty-lacks entry_id any 0 id id (slots_of 0 ls vs) placed (omega arith)
        (slots-dead 0 id ls vs e)

    -- a live item's flag is up
    pub flag-up : IsTrue (has_id entry_id id (present (slots_of 0 ls vs)))
        → get_or ls id false ≡ true
    flag-up t =
        elim (get_or ls id false) as (λ b. get_or ls id false ≡ b → b ≡ true) [
          | true ↦ λ e. refl
          | false ↦ λ e.
              let n = lacks-not_has entry_id id (present (slots_of 0 ls vs))
              (empty-lacks entry_id any 0 id id (slots_of 0 ls vs) placed (omega arith)
              (slots-dead 0 id ls vs e)) in
              cc
        ] refl

    pub put-entries : (v : V) → id < length ls → Lacks entry_id id (present (slots_of 0 ls vs))
        → present (slots_of 0 (set ls id true) (set vs id v))
        ≡ with_item entry_id (record { id = id; value = v }) (present (slots_of 0 ls vs))
    put-entries v l h =
        ap present (slots-put 0 id id ls vs v l m (omega arith))
        ∙ present-put entry_id any 0 id id (record { id = id; value = v }) (slots_of 0 ls vs) placed
        (within l) (lacks-slot entry_id any 0 id id (slots_of 0 ls vs) placed (omega arith) h)
        (omega arith) refl

    pub taken-entries : (v : V) → id < length ls
        → present (slots_of 0 (set ls id false) (set vs id v))
        ≡ without_item entry_id id (present (slots_of 0 ls vs))
    taken-entries v l =
        ap present (slots-taken 0 id ls vs v l m)
        ∙ present-taken entry_id any 0 id id (slots_of 0 ls vs) placed (within l) (omega arith)

    pub past-entries : length ls ≤ id
        → present (slots_of 0 ls vs) ≡ without_item entry_id id (present (slots_of 0 ls vs))
    past-entries l =
        let e = slots-length 0 ls vs m in
        sym (without-lacks entry_id id (present (slots_of 0 ls vs))
        (past-lacks entry_id any 0 id (slots_of 0 ls vs) placed (omega (arith, e, l))))

    pub set-entries : (v d : V) → id < length ls → get_or ls id false ≡ true
        → present (slots_of 0 ls (set vs id v))
        ≡ swapped entry_id (record { id = id; value = v }) (present (slots_of 0 ls vs))
    set-entries v d l t =
        ap present (slots-set 0 id id ls vs v l m (omega arith) t)
        ∙ present-swapped entry_id any 0 id id (record { id = id; value = v })
        (record { id = id; value = get_or vs id d }) (slots_of 0 ls vs) placed (within l)
        (slots-read 0 id id d ls vs l m (omega arith) t) (omega arith) refl

    pub read-entry : (d : V) → id < length ls → get_or ls id false ≡ true
        → Contains (present (slots_of 0 ls vs)) (record { id = id; value = get_or vs id d })
    read-entry d l t =
        there 0 id (slots_of 0 ls vs) (record { id = id; value = get_or vs id d })
        (slots-read 0 id id d ls vs l m (omega arith) t)
      where
        there : (i at : ℕ) (ss : List (Option (Entry V))) (x : Entry V) → get_or ss at None ≡ Some x
            → Contains (present ss) x
        there i at [] x e = cc
        there i zero (None ∷ ss) x e = cc
        there i zero (Some y ∷ ss) x e = (0, omega arith, some_is y x e)
        there i (suc at) (None ∷ ss) x e = there i at ss x e
        there i (suc at) (Some y ∷ ss) x e = let c =
            there i at ss x e in (suc c.0, omega (arith, c.1), c.2)

    -- an id that is there is a slot's
    pub has-within : IsTrue (has_id entry_id id (present (slots_of 0 ls vs))) → id < length ls
    has-within t =
        elim (nat_lt id (length ls)) as (λ b. nat_lt id (length ls) ≡ b → id < length ls) [
          | true ↦ λ e. grind (arith, common_steps, e)
          | false ↦ λ e.
              let l : length ls ≤ id = grind (arith, common_steps, e) in
              let q = slots-length 0 ls vs m in
              let n = lacks-not_has entry_id id (present (slots_of 0 ls vs))
              (past-lacks entry_id any 0 id (slots_of 0 ls vs) placed (omega (arith, q, l))) in
              cc
        ] refl

-- what resizes that may fail leave
pub resized-values : {V : Type 0} (d : V) (b : Bool) (n m : ℕ) (ls : List Bool) (vs : List V)
    → length ls ≤ length vs → length vs ≤ n
    → slots_of 0 ls (if b then take n vs ++ replicate (n - m) d else vs) ≡ slots_of 0 ls vs
resized-values d true n m ls vs k l =
    rw (take_all n vs l) (more-values 0 ls vs (replicate (n - m) d) k)
resized-values d false n m ls vs k l = refl

pub resized-flags : {V : Type 0} (b : Bool) (n m : ℕ) (ls : List Bool) (vs : List V) → length ls ≤ n
    → present (slots_of 0 (if b then take n ls ++ replicate (n - m) false else ls) vs)
    ≡ present (slots_of 0 ls vs)
resized-flags true n m ls vs l = rw (take_all n ls l) (more-flags 0 (n - m) ls vs)
resized-flags false n m ls vs l = refl

pub read-value : {X : Type 0} (i : ℕ) (x d : X) (xs : List X) → i < length xs → x ≡ get_or xs i x
    → get_or xs i d ≡ x
read-value i x d [] l e = absurd (omega (arith, l))
read-value zero x d (y ∷ ys) l e = sym e
read-value (suc i) x d (y ∷ ys) l e = read-value i x d ys (omega (arith, l)) e

-- what a push that may fail leaves
pub pushed-values : {V : Type 0} (v : V) (b : Bool) (ls : List Bool) (vs : List V)
    → length ls ≤ length vs
    → slots_of 0 ls (if b then vs ++ v ∷ [] else vs) ≡ slots_of 0 ls vs
pushed-values v true ls vs l = more-values 0 ls vs (v ∷ []) l
pushed-values v false ls vs l = refl
