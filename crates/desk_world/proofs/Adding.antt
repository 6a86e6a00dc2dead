-- The labels of a world after an item was added.
use Rattle.std.proofs.Common.{◌≡◌, ℕ, zero, suc, ◌≤◌, true, false, cond, if◌then◌else◌, List}
use Rattle.std.proofs.Common.{[], ◌∷◌, refl, sym}
use Rattle.std.proofs.Common.{ap, subst, Option, Some, None, ◌∙◌, inl, inr, Contains, arith}
use Rattle.std.specs.Prelude.{IsTrue, nat_le, ◌==◌}
use Rattle.std.proofs.lemmas.Bool.{cases_eq, eq-eqb, ne_eqb}
use Rattle.std.proofs.lemmas.Option.{none-some, same_Some}
use Rattle.plain_digraph.specs.Rising.{with_item}
use Rattle.observe_core.specs.Held.{Entry, entry_id, LacksLabel}
use Rattle.observe_core.specs.Items.{has_id}
use Rattle.observe_core.specs.Seen.{Seen}
use Rattle.notify_chain.specs.Seats.{SeatSeen, Each, Became, find_seat, put_seat}
use Rattle.alter_graph.specs.Chains.{seats_heard}
use Rattle.plain_world.specs.Tables.{Name}
use Rattle.desk_world.specs.Looks.{room_at, seen_at}

abbrev Named : Type 0
Named = Entry (Option Name)

abbrev pub fresh : ℕ → Named
fresh id = record { id = id; value = None }

-- a new item is there, without a label
pub fresh_there : (id : ℕ) (es : List Named)
    → Contains (with_item entry_id (fresh id) es) (fresh id)
fresh_there id [] = (0, omega arith, refl)
fresh_there id (y ∷ ys) =
    let rest = fresh_there id ys in
    elim (nat_le id y.id) as (λ b. Contains (cond b (fresh id ∷ y ∷ ys)
    (y ∷ with_item entry_id (fresh id) ys)) (fresh id)) [
      | true ↦ (0, omega arith, refl)
      | false ↦ (suc rest.0, (let l = rest.1 in omega (arith, l)), rest.2)
    ]

-- and no other label is
pub fresh_free : (id : ℕ) (name : Name) (es : List Named) → LacksLabel (Some name) es
    → LacksLabel (Some name) (with_item entry_id (fresh id) es)
fresh_free id name [] free = ((λ is. none-some name is), tt)
fresh_free id name (y ∷ ys) free =
    let rest = fresh_free id name ys free.1 in
    elim (nat_le id y.id) as (λ b. LacksLabel (Some name) (cond b (fresh id ∷ y ∷ ys)
    (y ∷ with_item entry_id (fresh id) ys))) [
      | true ↦ ((λ is. none-some name is), free)
      | false ↦ (free.0, rest)
    ]

pub room_heard : (g : Seen → Seen) (key : ℕ) (ss : List SeatSeen)
    → room_at key (seats_heard g ss) ≡ room_at key ss
room_heard g key [] = refl
room_heard g key (s ∷ ss) = ap (cond (s.key == key) s.room) (room_heard g key ss)

pub room_same : (key : ℕ) (xs ys : List SeatSeen) → Each (Became (λ s. s)) xs ys
    → room_at key xs ≤ room_at key ys
room_same key [] [] each = omega arith
room_same key [] (y ∷ ys) each = absurd each
room_same key (x ∷ xs) [] each = absurd each
room_same key (x ∷ xs) (y ∷ ys) each =
    let rest = room_same key xs ys each.1 in
    subst (λ k. cond (x.key == key) x.room (room_at key xs)
    ≤ cond (k == key) y.room (room_at key ys))
    (sym each.0.key)
    (elim (x.key == key) as (λ b. cond b x.room (room_at key xs) ≤ cond b y.room (room_at key ys)) [
      | true ↦ each.0.room
      | false ↦ rest
    ])

-- ---- the room of a seat that was found, and of one that was put

pub room_found : (key : ℕ) (ss : List SeatSeen) (s : SeatSeen) → Some s ≡ find_seat key ss
    → room_at key ss ≡ s.room
room_found key [] s found = absurd (none-some s (sym found))
room_found key (x ∷ xs) s found =
    let rest = room_found key xs s in
    elim (x.key == key) as (λ b. Some s ≡ cond b (Some x) (find_seat key xs)
    → cond b x.room (room_at key xs) ≡ s.room) [
      | true ↦ λ is. sym (ap (λ (y : SeatSeen). y.room) (same_Some s x is))
      | false ↦ λ is. rest is
    ] found

pub room_put : (t : SeatSeen) (ss : List SeatSeen) (was : Seen) → seen_at t.key ss ≡ Some was
    → room_at t.key (put_seat t ss) ≡ t.room
room_put t [] was at = absurd (none-some was at)
room_put t (s ∷ ss) was at = elim (cases_eq s.key t.key) [
  | inl same ↦
      ap (λ b. room_at t.key (cond b (t ∷ ss) (s ∷ put_seat t ss))) (eq-eqb s.key t.key same)
      ∙ ap (λ b. cond b t.room (room_at t.key ss)) (eq-eqb t.key t.key refl)
  | inr apart ↦
      let rest = room_put t ss was
      (sym (ap (λ b. cond b (Some s.seen) (seen_at t.key ss)) (ne_eqb s.key t.key apart)) ∙ at) in
      ap (λ b. room_at t.key (cond b (t ∷ ss) (s ∷ put_seat t ss))) (ne_eqb s.key t.key apart)
      ∙ ap (λ b. cond b s.room (room_at t.key (put_seat t ss))) (ne_eqb s.key t.key apart)
      ∙ rest
]

-- an entry that is there has its id there
pub has_item : (x : Named) (es : List Named) → Contains es x → IsTrue (has_id entry_id x.id es)
has_item x [] (k, within, is) = absurd (omega (arith, within))
has_item x (y ∷ ys) (zero, within, is) =
    subst (λ b. IsTrue (if b then true else has_id entry_id x.id ys))
    (sym (eq-eqb y.id x.id (ap (λ (e : Named). e.id) is))) refl
has_item x (y ∷ ys) (suc k, within, is) =
    let rest = has_item x ys (k, omega (arith, within), is) in
    elim (y.id == x.id) as (λ b. IsTrue (if b then true else has_id entry_id x.id ys))
    [ true ↦ refl | false ↦ rest ]
