-- The seats of a chain.
use Rattle.std.specs.Prelude.{refl, ◌≡◌, ◌≢◌, ℕ, ◌<◌, ◌≤◌, List, [], ◌∷◌, map, length, Option, Some}
use Rattle.std.specs.Prelude.{Result}
use Rattle.std.specs.Prelude.{None, slice_index, ◌⊎◌, ◌++◌, if◌then◌else◌, ◌==◌}
use Rattle.observe_core.specs.Seen.{Watched, Seen, Lawful, IsSound, map_seen, need}
use Rattle.base_items.specs.declared.items.Fact.{Fact}
use Rattle.observe_core.specs.Held.{Nothing}
use Rattle.plain_digraph.specs.Rising.{without_item}
use Rattle.observe_core.specs.Told.{built}
use Rattle.observe_core.specs.Conditions.{Answers}
use Rattle.observe_core.specs.declared.changes.Change.{Change}
use Rattle.observe_core.specs.Changes.{CanTell, CanUntell}
use Rattle.observe_core.specs.declared.kinds.Veto.{Veto}
use Rattle.observe_core.specs.declared.kinds.Veto.TheVariants.{Refused}
use Rattle.slab.specs.Slab.{Slab, get, ContainsKey, slab_code}
use Rattle.std.specs.Coded.{Coded, code_by, coded×, coded_ℕ, coded_list}

-- a seat: its key, and what contracts see of its observer
pub record SeatSeen : Type 0 where
  pub key : ℕ
  pub seen : Seen
  pub room : ℕ
  pub reach : ℕ

abbrev pub seat_key : SeatSeen → ℕ
seat_key s = s.key

-- the observers by key, the keys of the seats, oldest first, and the keys that left by themselves,
-- oldest departure first
pub record ChainOf (O : Type 0) : Type 0 where
  pub slots : Slab O
  pub order : List ℕ
  pub left : List ℕ

abbrev pub chain_code : {O : Type 0} → Coded O → Coded (ChainOf O)
chain_code {O} code =
    code_by
    (Slab O × (List ℕ × List ℕ))
    (coded× (slab_code code) (coded× (coded_list coded_ℕ) (coded_list coded_ℕ)))
    (λ c. (c.slots, (c.order, c.left)))
    (λ p. record { slots = p.0; order = p.1.0; left = p.1.1 })
    (λ _. refl)

abbrev pub nothing_seen : Seen
nothing_seen = map_seen Nothing

-- what every seat knows of its observer
abbrev pub Steady : SeatSeen → Type 0
Steady s = IsSound s.seen × (need s.seen ≤ s.reach)

module _ {O : Type 0} (watch : O → Watched) where
  abbrev pub seat_from : ℕ → Option O → SeatSeen
  seat_from key None = record { key = key; seen = nothing_seen; room = 0; reach = 0 }
  seat_from key (Some o) =
      record { key = key; seen = (watch o).seen; room = (watch o).room; reach = (watch o).reach }

  abbrev pub seat_at : Slab O → ℕ → SeatSeen
  seat_at slab key = seat_from key (get slab key)

  abbrev pub seen_at : Slab O → ℕ → Seen
  seen_at slab key = (seat_at slab key).seen

  abbrev pub seats_of : Slab O → List ℕ → List SeatSeen
  seats_of slab order = map (seat_at slab) order

  -- what contracts see of a chain: its seats, oldest first
  abbrev pub seats : ChainOf O → List SeatSeen
  seats c = seats_of c.slots c.order

-- the seat after its observer's record became g of what it was
pub record Became (g : Seen → Seen) (old new : SeatSeen) : Type 0 where
  pub key : new.key ≡ old.key
  pub seen : new.seen ≡ g old.seen
  pub room : old.room ≤ new.room
  pub reach : old.reach ≤ new.reach

-- a seat that may be told of a change, and one that may be told to undo it
abbrev pub MayHear : Change → SeatSeen → Type 0
MayHear c s = CanTell c s.seen

abbrev pub MayUndo : Change → SeatSeen → Type 0
MayUndo c s = CanUntell c s.seen s.reach

-- each seat of one list and the seat at its place in the other
abbrev pub Each : (SeatSeen → SeatSeen → Type 0) → List SeatSeen → List SeatSeen → Type 0
Each R [] [] = Unit {0}
Each R [] (y ∷ ys) = ⊥
Each R (x ∷ xs) [] = ⊥
Each R (x ∷ xs) (y ∷ ys) = R x y × Each R xs ys

-- each seat
abbrev pub AllSeats : (SeatSeen → Type 0) → List SeatSeen → Type 0
AllSeats P [] = Unit {0}
AllSeats P (x ∷ xs) = P x × AllSeats P xs

module _ {O : Type 0} (watch : O → Watched) where
  -- each seat's record became g of what it was, and nobody came or left
  abbrev pub AllBecame : (Seen → Seen) → ChainOf O → ChainOf O → Type 0
  AllBecame g old new = Each (Became g) (seats watch old) (seats watch new)

  -- each seat's record is what it was
  abbrev pub AreAsBefore : ChainOf O → ChainOf O → Type 0
  AreAsBefore old new = Each (Became (λ s. s)) (seats watch old) (seats watch new)

-- the key stands in the order
abbrev pub HasKey : List ℕ → ℕ → Type 0
HasKey order key = (j : ℕ) × (j < length order) × (slice_index order j ≡ key)

abbrev pub LacksKey : List ℕ → ℕ → Type 0
LacksKey order key = (j : ℕ) → j < length order → slice_index order j ≢ key

module _ {O : Type 0} where
  -- each key of the order has an observer, they differ, and there is no other observer
  pub record IsKept (slab : Slab O) (order : List ℕ) : Type 0 where
    pub occupied : (j : ℕ) → j < length order → ContainsKey slab (slice_index order j)
    pub distinct : (i j : ℕ) → i < j → j < length order → slice_index order i ≢ slice_index order j
    pub known : (k : ℕ) → ContainsKey slab k → HasKey order k

  -- only this key's value may differ
  abbrev pub Elsewhere : Slab O → Slab O → ℕ → Type 0
  Elsewhere old new key = (k : ℕ) → k ≢ key → get new k ≡ get old k

module _ {O : Type 0} (watch : O → Watched) (order : List ℕ) where
  -- at each place of the order from low on and below high
  abbrev pub Between : (SeatSeen → SeatSeen → Type 0) → Slab O → Slab O → ℕ → ℕ → Type 0
  Between R old new low high = (j : ℕ) → low ≤ j → j < high
      → R (seat_at watch old (slice_index order j)) (seat_at watch new (slice_index order j))

  abbrev pub Throughout : (SeatSeen → SeatSeen → Type 0) → Slab O → Slab O → Type 0
  Throughout R old new = Between R old new 0 (length order)

  -- the values at these places are the same
  abbrev pub Untouched : Slab O → Slab O → ℕ → ℕ → Type 0
  Untouched old new low high = (j : ℕ) → low ≤ j → j < high
      → get new (slice_index order j) ≡ get old (slice_index order j)

  -- each seat below high
  abbrev pub EachBelow : (SeatSeen → Type 0) → Slab O → ℕ → Type 0
  EachBelow P slab high = (j : ℕ) → j < high → P (seat_at watch slab (slice_index order j))

-- the observer at the key answered a change that makes g of its record
abbrev pub AnswersAt : {O E : Type 0} → (O → Watched) → ℕ → (Seen → Seen) → Result E Veto → Slab O
    → Slab O → Type 0
AnswersAt watch key g r old new =
    Answers r (seen_at watch old key) (seen_at watch new key) (g (seen_at watch old key))

-- the seat refuses the change, by its law or for want of memory, and no older one's law fails
abbrev pub Refuses : (Seen → Seen) → List SeatSeen → ℕ → Veto → Type 0
Refuses g [] key veto = ⊥
Refuses g (s ∷ ss) key veto =
    ((s.key ≡ key) × (veto ≡ Refused → Lawful (g s.seen) → ⊥))
    ⊎ (Lawful (g s.seen) × Refuses g ss key veto)

-- the seat of a key
abbrev pub find_seat : ℕ → List SeatSeen → Option SeatSeen
find_seat key [] = None
find_seat key (s ∷ ss) = if s.key == key then Some s else find_seat key ss

module _ {O : Type 0} (watch : O → Watched) where
  -- the seat that a look-up gave
  abbrev pub seat_seen : ℕ → Option O → Option SeatSeen
  seat_seen key None = None
  seat_seen key (Some o) =
      Some (record
      { key = key; seen = (watch o).seen; room = (watch o).room; reach = (watch o).reach })

-- the seat was put last, under a new key
pub record Attached (old new : List SeatSeen) (key : ℕ) (came : Watched) (next : Seen) : Type 0
  where
    pub seat : SeatSeen
    pub last : new ≡ old ++ seat ∷ []
    pub name : seat.key ≡ key
    pub is_new : find_seat key old ≡ None
    pub seen : seat.seen ≡ next
    pub room : came.room ≤ seat.room
    pub reach : came.reach ≤ seat.reach

-- an observer that was refused is as it was, and its law fails or memory was wanting
pub record IsAsItCame (came back : Watched) (veto : Veto) (next : Seen) : Type 0 where
  pub seen : back.seen ≡ came.seen
  pub room : came.room ≤ back.room
  pub reach : came.reach ≤ back.reach
  pub law : veto ≡ Refused → Lawful next → ⊥

module _ {O : Type 0} (watch : O → Watched) where
  -- the observer was told of the items that are there, and has the newest seat
  abbrev pub Seats : O → List Fact → ChainOf O → ChainOf O → ℕ → Type 0
  Seats o present old new key =
      Attached (seats watch old) (seats watch new) key (watch o) (built present (watch o).seen)

  -- the observer refused these items and is handed back
  abbrev pub HandsBack : O → List Fact → O → Veto → Type 0
  HandsBack o present back veto =
      IsAsItCame (watch o) (watch back) veto (built present (watch o).seen)

  -- the key is that of the oldest seat that refuses
  abbrev pub NamesRefuser : (Seen → Seen) → ChainOf O → ℕ → Veto → Type 0
  NamesRefuser g old key veto = Refuses g (seats watch old) key veto

  -- the seats without that of a key
  abbrev pub seats_but : ℕ → ChainOf O → List SeatSeen
  seats_but key c = without_item seat_key key (seats watch c)

  -- what was found is the observer of the key's seat
  abbrev pub FindsSeat : ChainOf O → ℕ → Option O → Type 0
  FindsSeat c key found = seat_seen watch key found ≡ find_seat key (seats watch c)

-- the seat of a key replaced
abbrev pub put_seat : SeatSeen → List SeatSeen → List SeatSeen
put_seat s [] = []
put_seat s (t ∷ ts) = if t.key == s.key then s ∷ ts else t ∷ put_seat s ts
