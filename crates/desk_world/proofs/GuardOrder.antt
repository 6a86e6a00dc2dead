-- The order of the guards where seats come, go, or are written to.
use Rattle.std.proofs.Common.{◌≡◌, ℕ, Bool, true, false, cond, not, List, [], ◌∷◌, ◌++◌, map, refl}
use Rattle.std.proofs.Common.{sym, ap, ◌∙◌, Some, ◌⊎◌, inl, inr}
use Rattle.std.specs.Prelude.{◌==◌, ◌&&◌, filter}
use Rattle.std.proofs.lemmas.Bool.{cases_eq, eq-eqb, ne_eqb}
use Rattle.std.proofs.lemmas.List.{append-nil}
use Rattle.std.proofs.lemmas.Option.{same_Some}
use Rattle.base_items.specs.declared.items.ItemSort.{ItemSort}
use Rattle.base_items.specs.declared.items.ItemSort.TheVariants as sorts
use Rattle.plain_digraph.specs.Lists.{AllOf}
use Rattle.plain_digraph.specs.Rising.{without_item}
use Rattle.observe_core.specs.Seen.{Seen}
use Rattle.notify_chain.specs.Seats.{SeatSeen, seat_key, Each, Became, put_seat}
use Rattle.alter_graph.specs.Chains.{ChainsSeen, chain_in, in_chain}
use Rattle.alter_graph.specs.Attaching.{with_seats, detached}
use Rattle.alter_graph.specs.Verdict.{is_sort}
use Rattle.desk_world.specs.declared.tables.MapKind.{MapKind}
use Rattle.desk_world.specs.declared.tables.MapKind.TheVariants as maps
use Rattle.desk_world.specs.Claims.{Claim, has_map_kind, is_map, role_of}
use Rattle.desk_world.specs.InStep.{is_guard_seat, is_guard_of, guards_claimed}
use Rattle.desk_world.specs.Looks.{seen_at}

-- the seat of a map holds no guard
pub map_role : (kind : MapKind) → has_map_kind (role_of kind) ≡ true
map_role maps.Ints = refl
map_role maps.Bools = refl
map_role maps.Texts = refl
map_role (maps.Degrees way) = refl
map_role (maps.Trues map) = refl

-- ---- seats

-- the keys of those that hold guards
abbrev pub guards_among : List SeatSeen → List ℕ
guards_among ss = map seat_key (filter is_guard_seat ss)

pub seat_first : (s : SeatSeen) (ss : List SeatSeen) → guards_among (s ∷ ss)
    ≡ cond (is_guard_seat s) (s.key ∷ guards_among ss) (guards_among ss)
seat_first s ss =
    elim (is_guard_seat s) as (λ b. map seat_key (cond b (s ∷ filter is_guard_seat ss)
    (filter is_guard_seat ss)) ≡ cond b (s.key ∷ guards_among ss) (guards_among ss)) [
      | true ↦ refl
      | false ↦ refl
    ]

pub guards_same : (xs ys : List SeatSeen) → Each (Became (λ s. s)) xs ys
    → guards_among ys ≡ guards_among xs
guards_same [] [] each = refl
guards_same [] (y ∷ ys) each = absurd each
guards_same (x ∷ xs) [] each = absurd each
guards_same (x ∷ xs) (y ∷ ys) each =
    let rest = guards_same xs ys each.1 in
    seat_first y ys
    ∙ (λ i. cond (not (is_map (each.0.seen i).kind)) (each.0.key i ∷ rest i) (rest i))
    ∙ sym (seat_first x xs)

pub guards_put : (t : SeatSeen) (ss : List SeatSeen) (was : Seen)
    → seen_at t.key ss ≡ Some was → is_map t.seen.kind ≡ is_map was.kind
    → guards_among (put_seat t ss) ≡ guards_among ss
guards_put t [] was at kind = refl
guards_put t (s ∷ ss) was at kind = elim (cases_eq s.key t.key) [
  | inl same ↦
      let here : s.seen ≡ was = same_Some s.seen was
      (sym (ap (λ b. cond b (Some s.seen) (seen_at t.key ss)) (eq-eqb s.key t.key same)) ∙ at) in
      ap (λ b. guards_among (cond b (t ∷ ss) (s ∷ put_seat t ss))) (eq-eqb s.key t.key same)
      ∙ seat_first t ss
      ∙ (λ i. cond (not ((kind ∙ ap (λ x. is_map x.kind) (sym here)) i))
      (sym same i ∷ guards_among ss) (guards_among ss))
      ∙ sym (seat_first s ss)
  | inr apart ↦
      let rest = guards_put t ss was
      (sym (ap (λ b. cond b (Some s.seen) (seen_at t.key ss)) (ne_eqb s.key t.key apart)) ∙ at)
      kind in
      ap (λ b. guards_among (cond b (t ∷ ss) (s ∷ put_seat t ss))) (ne_eqb s.key t.key apart)
      ∙ seat_first s (put_seat t ss)
      ∙ ap (λ keys. cond (is_guard_seat s) (s.key ∷ keys) keys) rest
      ∙ sym (seat_first s ss)
]

pub guards_last : (ss : List SeatSeen) (t : SeatSeen) → guards_among (ss ++ t ∷ [])
    ≡ guards_among ss ++ cond (is_guard_seat t) (t.key ∷ []) []
guards_last [] t = seat_first t []
guards_last (s ∷ ss) t =
    let rest = guards_last ss t in
    seat_first s (ss ++ t ∷ [])
    ∙ ap (λ keys. cond (is_guard_seat s) (s.key ∷ keys) keys) rest
    ∙ elim (is_guard_seat s) as (λ b.
    cond b (s.key ∷ guards_among ss ++ cond (is_guard_seat t) (t.key ∷ []) [])
    (guards_among ss ++ cond (is_guard_seat t) (t.key ∷ []) [])
    ≡ cond b (s.key ∷ guards_among ss) (guards_among ss)
    ++ cond (is_guard_seat t) (t.key ∷ []) []) [
      | true ↦ refl
      | false ↦ refl
    ]
    ∙ ap (λ keys. keys ++ cond (is_guard_seat t) (t.key ∷ []) []) (sym (seat_first s ss))

-- without one of the keys
abbrev pub key_gone : ℕ → List ℕ → List ℕ
key_gone key keys = without_item (λ k. k) key keys

pub guards_gone : (key : ℕ) (ss : List SeatSeen)
    → guards_among (without_item seat_key key ss) ≡ key_gone key (guards_among ss)
guards_gone key [] = refl
guards_gone key (s ∷ ss) =
    let rest = guards_gone key ss in
    let less = without_item seat_key key ss in
    let then = key_gone key (guards_among ss) in
    elim (s.key == key) as (λ b. guards_among (cond b less (s ∷ less))
    ≡ cond (is_guard_seat s) (cond b then (s.key ∷ then)) then) [
      | true ↦
          rest ∙ elim (is_guard_seat s) as (λ b. then ≡ cond b then then) [
            | true ↦ refl
            | false ↦ refl
          ]
      | false ↦ seat_first s less ∙ ap (λ keys. cond (is_guard_seat s) (s.key ∷ keys) keys) rest
    ]
    ∙ elim (is_guard_seat s) as (λ b.
    cond b (cond (s.key == key) then (s.key ∷ then)) then
    ≡ key_gone key (cond b (s.key ∷ guards_among ss) (guards_among ss))) [
      | true ↦ refl
      | false ↦ refl
    ]
    ∙ ap (key_gone key) (sym (seat_first s ss))

-- ---- claims

pub claim_first : (sort : ItemSort) (x : Claim) (list : List Claim)
    → guards_claimed sort (x ∷ list)
    ≡ cond (is_guard_of sort x) (x.key ∷ guards_claimed sort list) (guards_claimed sort list)
claim_first sort x list =
    elim (is_guard_of sort x) as (λ b. map (λ y. y.key) (cond b (x ∷ filter (is_guard_of sort) list)
    (filter (is_guard_of sort) list))
    ≡ cond b (x.key ∷ guards_claimed sort list) (guards_claimed sort list)) [
      | true ↦ refl
      | false ↦ refl
    ]

pub claims_joined : (sort : ItemSort) (xs ys : List Claim)
    → guards_claimed sort (xs ++ ys) ≡ guards_claimed sort xs ++ guards_claimed sort ys
claims_joined sort [] ys = refl
claims_joined sort (x ∷ xs) ys =
    claim_first sort x (xs ++ ys)
    ∙ ap (λ keys. cond (is_guard_of sort x) (x.key ∷ keys) keys) (claims_joined sort xs ys)
    ∙ elim (is_guard_of sort x) as (λ b.
    cond b (x.key ∷ guards_claimed sort xs ++ guards_claimed sort ys)
    (guards_claimed sort xs ++ guards_claimed sort ys)
    ≡ cond b (x.key ∷ guards_claimed sort xs) (guards_claimed sort xs)
    ++ guards_claimed sort ys) [
      | true ↦ refl
      | false ↦ refl
    ]
    ∙ ap (λ keys. keys ++ guards_claimed sort ys) (sym (claim_first sort x xs))

-- a claim of another sort, or of no guard, is passed over
pub claim_passed : (sort : ItemSort) (front : List Claim) (x : Claim) (back : List Claim)
    → is_guard_of sort x ≡ false
    → guards_claimed sort (front ++ x ∷ back) ≡ guards_claimed sort (front ++ back)
claim_passed sort front x back none =
    claims_joined sort front (x ∷ back)
    ∙ ap (λ keys. guards_claimed sort front ++ keys)
    (claim_first sort x back
    ∙ ap (λ b. cond b (x.key ∷ guards_claimed sort back) (guards_claimed sort back)) none)
    ∙ sym (claims_joined sort front back)

-- the new claim stands behind all guards of its sort, or is of no guard
abbrev pub IsLastGuard : List Claim → Claim → List Claim → Type 0
IsLastGuard front x back = (sort : ItemSort) → guards_claimed sort (front ++ x ∷ back)
    ≡ guards_claimed sort (front ++ back) ++ cond (is_guard_of sort x) (x.key ∷ []) []

pub no_guard_of : (sort : ItemSort) (x : Claim) → has_map_kind x.role ≡ true
    → is_guard_of sort x ≡ false
no_guard_of sort x map_kind =
    ap (λ b. is_sort x.sort sort && not b) map_kind ∙ no_both (is_sort x.sort sort)
  where
    no_both : (b : Bool) → (b && false) ≡ false
    no_both true = refl
    no_both false = refl

pub map_comes : (front : List Claim) (x : Claim) (back : List Claim)
    → has_map_kind x.role ≡ true → IsLastGuard front x back
map_comes front x back map_kind sort =
    let none = no_guard_of sort x map_kind in
    claim_passed sort front x back none ∙ sym (append-nil (guards_claimed sort (front ++ back)))
    ∙ ap (λ b. guards_claimed sort (front ++ back) ++ cond b (x.key ∷ []) []) (sym none)

no_guards_among : (sort : ItemSort) (list : List Claim)
    → AllOf (λ (x : Claim). has_map_kind x.role ≡ true) list → guards_claimed sort list ≡ []
no_guards_among sort [] all = refl
no_guards_among sort (x ∷ list) all =
    claim_first sort x list
    ∙ ap (λ b. cond b (x.key ∷ guards_claimed sort list) (guards_claimed sort list))
    (no_guard_of sort x all.0)
    ∙ no_guards_among sort list all.1

pub guard_comes : (front : List Claim) (x : Claim) (back : List Claim)
    → AllOf (λ (y : Claim). has_map_kind y.role ≡ true) back → IsLastGuard front x back
guard_comes front x back maps sort =
    let none = no_guards_among sort back maps in
    let ahead = guards_claimed sort front in
    claims_joined sort front (x ∷ back)
    ∙ ap (λ keys. ahead ++ keys)
    (claim_first sort x back
    ∙ ap (λ keys. cond (is_guard_of sort x) (x.key ∷ keys) keys) none)
    ∙ ap (λ keys. keys ++ cond (is_guard_of sort x) (x.key ∷ []) [])
    (sym (append-nil ahead) ∙ ap (λ keys. ahead ++ keys) (sym none)
    ∙ sym (claims_joined sort front back))

-- ---- a claim that goes

abbrev IsOther : ItemSort → ℕ → Claim → Type 0
IsOther sort key x = (is_sort x.sort sort && x.key == key) ≡ false

-- the key of a guard of the sort is another one
other_key : (sort : ItemSort) (key : ℕ) (x : Claim) → IsOther sort key x
    → (is_guard_of sort x ≡ false) ⊎ ((x.key == key) ≡ false)
other_key sort key x apart = by (is_sort x.sort sort) refl
  where
    by : (b : Bool) → is_sort x.sort sort ≡ b
        → (is_guard_of sort x ≡ false) ⊎ ((x.key == key) ≡ false)
    by false is = inl (ap (λ b. b && not (has_map_kind x.role)) is)
    by true is = inr (sym (ap (λ b. b && x.key == key) is) ∙ apart)

first_stays : (sort : ItemSort) (key : ℕ) (x : Claim) (list keys : List ℕ) → IsOther sort key x
    → key_gone key list ≡ keys
    → key_gone key (cond (is_guard_of sort x) (x.key ∷ list) list)
    ≡ cond (is_guard_of sort x) (x.key ∷ keys) keys
first_stays sort key x list keys apart rest = elim (other_key sort key x apart) [
  | inl none ↦
      ap (λ b. key_gone key (cond b (x.key ∷ list) list)) none ∙ rest
      ∙ ap (λ b. cond b (x.key ∷ keys) keys) (sym none)
  | inr other ↦ elim (is_guard_of sort x) as (λ b. key_gone key (cond b (x.key ∷ list) list)
      ≡ cond b (x.key ∷ keys) keys) [
        | true ↦
            ap (λ b. cond b (key_gone key list) (x.key ∷ key_gone key list)) other
            ∙ ap (λ more. x.key ∷ more) rest
        | false ↦ rest
      ]
]

claims_stay : (sort : ItemSort) (key : ℕ) (list : List Claim) → AllOf (IsOther sort key) list
    → key_gone key (guards_claimed sort list) ≡ guards_claimed sort list
claims_stay sort key [] all = refl
claims_stay sort key (x ∷ list) all =
    ap (key_gone key) (claim_first sort x list)
    ∙ first_stays sort key x (guards_claimed sort list) (guards_claimed sort list) all.0
    (claims_stay sort key list all.1)
    ∙ sym (claim_first sort x list)

pub claim_gone : (front : List Claim) (x : Claim) (back : List Claim)
    → AllOf (IsOther x.sort x.key) (front ++ back)
    → key_gone x.key (guards_claimed x.sort (front ++ x ∷ back))
    ≡ guards_claimed x.sort (front ++ back)
claim_gone [] x back all =
    ap (key_gone x.key) (claim_first x.sort x back)
    ∙ elim (is_guard_of x.sort x) as (λ b.
    key_gone x.key (cond b (x.key ∷ guards_claimed x.sort back) (guards_claimed x.sort back))
    ≡ key_gone x.key (guards_claimed x.sort back)) [
      | true ↦
          ap (λ b. cond b (key_gone x.key (guards_claimed x.sort back))
          (x.key ∷ key_gone x.key (guards_claimed x.sort back))) (eq-eqb x.key x.key refl)
      | false ↦ refl
    ]
    ∙ claims_stay x.sort x.key back all
claim_gone (y ∷ front) x back all =
    ap (key_gone x.key) (claim_first x.sort y (front ++ x ∷ back))
    ∙ first_stays x.sort x.key y (guards_claimed x.sort (front ++ x ∷ back))
    (guards_claimed x.sort (front ++ back)) all.0 (claim_gone front x back all.1)
    ∙ sym (claim_first x.sort y (front ++ back))

-- ---- those that left

pub left_stays : (sort other : ItemSort) (ss : List SeatSeen) (c : ChainsSeen)
    → (chain_in other (in_chain sort (with_seats ss) c)).left ≡ (chain_in other c).left
left_stays sorts.Node sorts.Node ss c = refl
left_stays sorts.Node sorts.Arc ss c = refl
left_stays sorts.Arc sorts.Node ss c = refl
left_stays sorts.Arc sorts.Arc ss c = refl

pub left_detached : (sort other : ItemSort) (key : ℕ) (c : ChainsSeen)
    → (chain_in other (detached sort key c)).left ≡ (chain_in other c).left
left_detached sorts.Node sorts.Node key c = refl
left_detached sorts.Node sorts.Arc key c = refl
left_detached sorts.Arc sorts.Node key c = refl
left_detached sorts.Arc sorts.Arc key c = refl
