-- Seats that come and go with their claims.
use Rattle.std.proofs.Common.{◌≡◌, ℕ, Bool, true, false, cond, List, ◌∷◌, ◌++◌, map, refl, sym, ap}
use Rattle.std.proofs.Common.{[]}
use Rattle.std.proofs.Common.{subst, Some, None, ◌∙◌, inl, inr}
use Rattle.std.specs.Prelude.{◌==◌, ◌&&◌, ◌||◌}
use Rattle.std.proofs.lemmas.Bool.{cases_eq, eq-eqb, ne_eqb, or_parts, or_from}
use Rattle.std.proofs.lemmas.List.Folds.{list_any-append}
use Rattle.std.proofs.lemmas.Option.{none-some}
use Rattle.base_items.specs.declared.items.ItemSort.{ItemSort}
use Rattle.base_items.specs.declared.items.ItemSort.TheVariants as sorts
use Rattle.plain_digraph.specs.Lists.{AllOf, has}
use Rattle.plain_digraph.specs.Rising.{without_item}
use Rattle.notify_chain.specs.Seats.{SeatSeen, seat_key, find_seat}
use Rattle.alter_graph.specs.Chains.{ChainsSeen}
use Rattle.alter_graph.specs.Verdict.{is_sort}
use Rattle.desk_world.specs.Claims.{Claim, Sits, is_claimed, ClaimsDiffer}
use Rattle.desk_world.specs.InStep.{Differ}
use Rattle.desk_world.specs.Looks.{look_in}
use Rattle.desk_world.proofs.Relabelled.{elsewhere}
use Rattle.desk_world.proofs.Seated.{SitsIn}
use Rattle.desk_world.proofs.Written.{IsElsewhere, same_seat}

-- ---- claims

sort_back : (a b : ItemSort) → is_sort a b ≡ is_sort b a
sort_back sorts.Node sorts.Node = refl
sort_back sorts.Node sorts.Arc = refl
sort_back sorts.Arc sorts.Node = refl
sort_back sorts.Arc sorts.Arc = refl

key_back : (m n : ℕ) → (m == n) ≡ (n == m)
key_back m n = elim (cases_eq m n) [
  | inl same ↦ eq-eqb m n same ∙ sym (eq-eqb n m (sym same))
  | inr other ↦ ne_eqb m n other ∙ sym (ne_eqb n m (λ e. other (sym e)))
]

apart_back : (s t : ItemSort) (k l : ℕ) → (is_sort s t && k == l) ≡ false
    → (is_sort t s && l == k) ≡ false
apart_back s t k l apart = (λ i. sort_back t s i && key_back l k i) ∙ apart

either_way : (a b c : Bool) → (a || (b || c)) ≡ (b || (a || c))
either_way true true c = refl
either_way true false c = refl
either_way false true c = refl
either_way false false c = refl

-- one claim more in the midst of others
pub claimed_more : (front : List Claim) (x : Claim) (back : List Claim) (sort : ItemSort) (key : ℕ)
    → is_claimed (front ++ x ∷ back) sort key
    ≡ ((is_sort x.sort sort && x.key == key) || is_claimed (front ++ back) sort key)
claimed_more [] x back sort key = refl
claimed_more (y ∷ front) x back sort key =
    ap (λ b. (is_sort y.sort sort && y.key == key) || b) (claimed_more front x back sort key)
    ∙ either_way (is_sort y.sort sort && y.key == key) (is_sort x.sort sort && x.key == key)
    (is_claimed (front ++ back) sort key)

pub differ_more : (front : List Claim) (x : Claim) (back : List Claim)
    → ClaimsDiffer (front ++ back)
    → is_claimed (front ++ back) x.sort x.key ≡ false → ClaimsDiffer (front ++ x ∷ back)
differ_more [] x back differ none = (none, differ)
differ_more (y ∷ front) x back differ none =
    let parts = or_parts (is_sort y.sort x.sort && y.key == x.key)
    (is_claimed (front ++ back) x.sort x.key) none in (
      claimed_more front x back y.sort y.key
          ∙ or_from (is_sort x.sort y.sort && x.key == y.key)
          (is_claimed (front ++ back) y.sort y.key)
          (apart_back y.sort x.sort y.key x.key parts.0) differ.0,
      differ_more front x back differ.1 parts.1,
    )

pub differ_less : (front : List Claim) (x : Claim) (back : List Claim)
    → ClaimsDiffer (front ++ x ∷ back)
    → ClaimsDiffer (front ++ back) × (is_claimed (front ++ back) x.sort x.key ≡ false)
differ_less [] x back differ = (differ.1, differ.0)
differ_less (y ∷ front) x back differ =
    let rest = differ_less front x back differ.1 in
    let parts = or_parts (is_sort x.sort y.sort && x.key == y.key)
    (is_claimed (front ++ back) y.sort y.key)
    (sym (claimed_more front x back y.sort y.key) ∙ differ.0) in (
      (parts.1, rest.0),
      or_from (is_sort y.sort x.sort && y.key == x.key) (is_claimed (front ++ back) x.sort x.key)
          (apart_back x.sort y.sort x.key y.key parts.0) rest.1,
    )

-- where claims differ, all others are of other seats
pub apart_all : (front : List Claim) (x : Claim) (back : List Claim)
    → ClaimsDiffer (front ++ x ∷ back) → AllOf (IsElsewhere x.sort x.key) (front ++ back)
apart_all front x back differ =
    elsewhere x.sort x.key (front ++ back) (differ_less front x back differ).1

pub all_more : (P : Claim → Type 0) (front : List Claim) (x : Claim) (back : List Claim) → P x
    → AllOf P (front ++ back) → AllOf P (front ++ x ∷ back)
all_more P [] x back p all = (p, all)
all_more P (y ∷ front) x back p all = (all.0, all_more P front x back p all.1)

pub all_less : (P : Claim → Type 0) (front : List Claim) (x : Claim) (back : List Claim)
    → AllOf P (front ++ x ∷ back) → AllOf P (front ++ back)
all_less P [] x back all = all.1
all_less P (y ∷ front) x back all = (all.0, all_less P front x back all.1)

-- a seat where nothing is seen isn't claimed
pub unclaimed : (c : ChainsSeen) (sort : ItemSort) (key : ℕ) (list : List Claim)
    → look_in c sort key ≡ None → AllOf (SitsIn c) list → is_claimed list sort key ≡ false
unclaimed c sort key [] none all = refl
unclaimed c sort key (x ∷ list) none all =
    let rest = unclaimed c sort key list none all.1 in
    elim (is_sort x.sort sort && x.key == key) as (λ b.
    (is_sort x.sort sort && x.key == key) ≡ b → (b || is_claimed list sort key) ≡ false) [
      | true ↦ λ is.
          let at = same_seat sort x.sort key x.key is in
          absurd (subst (Sits x.role) ((λ i. look_in c (at.0 i) (at.1 i)) ∙ none) all.0)
      | false ↦ λ is. rest
    ] refl

-- ---- keys

pub unfound_key : (key : ℕ) (ss : List SeatSeen) → find_seat key ss ≡ None
    → has (map seat_key ss) key ≡ false
unfound_key key [] none = refl
unfound_key key (s ∷ ss) none =
    let rest = unfound_key key ss in
    elim (s.key == key) as (λ b. cond b (Some s) (find_seat key ss) ≡ None
    → (b || has (map seat_key ss) key) ≡ false) [
      | true ↦ λ e. absurd (none-some s (sym e))
      | false ↦ λ e. rest e
    ] none

pub differ_last : (keys : List ℕ) (key : ℕ) → Differ keys → has keys key ≡ false
    → Differ (keys ++ key ∷ [])
differ_last [] key differ none = (refl, tt)
differ_last (k ∷ keys) key differ none =
    let parts = or_parts (k == key) (has keys key) none in (
      list_any-append (λ other. other == k) keys (key ∷ [])
          ∙ or_from (has keys k) (key == k || false) differ.0
          (or_from (key == k) false (key_back key k ∙ parts.0) refl),
      differ_last keys key differ.1 parts.1,
    )

-- the keys that are left are others than that of the seat that went
pub keys_left : (P : ℕ → Type 0) (gone : ℕ) (ss : List SeatSeen) → AllOf P (map seat_key ss)
    → AllOf (λ k. P k × (k ≡ gone → ⊥)) (map seat_key (without_item seat_key gone ss))
keys_left P gone [] all = tt
keys_left P gone (s ∷ ss) all =
    let rest = keys_left P gone ss all.1 in
    let less = without_item seat_key gone ss in
    elim (cases_eq s.key gone) [
      | inl same ↦ subst (λ b. AllOf (λ k. P k × (k ≡ gone → ⊥))
          (map seat_key (cond b less (s ∷ less)))) (sym (eq-eqb s.key gone same)) rest
      | inr other ↦ subst (λ b. AllOf (λ k. P k × (k ≡ gone → ⊥))
          (map seat_key (cond b less (s ∷ less)))) (sym (ne_eqb s.key gone other))
          ((all.0, other), rest)
    ]

has_left : (q gone : ℕ) (ss : List SeatSeen) → has (map seat_key ss) q ≡ false
    → has (map seat_key (without_item seat_key gone ss)) q ≡ false
has_left q gone [] none = refl
has_left q gone (s ∷ ss) none =
    let parts = or_parts (s.key == q) (has (map seat_key ss) q) none in
    let rest = has_left q gone ss parts.1 in
    let less = without_item seat_key gone ss in
    elim (s.key == gone) as (λ b. has (map seat_key (cond b less (s ∷ less))) q ≡ false) [
      | true ↦ rest
      | false ↦ or_from (s.key == q) (has (map seat_key less) q) parts.0 rest
    ]

pub differ_left : (gone : ℕ) (ss : List SeatSeen) → Differ (map seat_key ss)
    → Differ (map seat_key (without_item seat_key gone ss))
differ_left gone [] differ = tt
differ_left gone (s ∷ ss) differ =
    let rest = differ_left gone ss differ.1 in
    let less = without_item seat_key gone ss in
    elim (s.key == gone) as (λ b. Differ (map seat_key (cond b less (s ∷ less)))) [
      | true ↦ rest
      | false ↦ (has_left s.key gone ss differ.0, rest)
    ]
