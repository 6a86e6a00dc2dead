-- The seats of the claims that are still of a seat, and those of all claims where none has left.
use Rattle.std.proofs.Common.{◌≡◌, ℕ, Bool, true, false, cond, List, [], ◌∷◌, map, Option, Some}
use Rattle.std.proofs.Common.{None, refl, sym, ap, ◌∙◌, subst, is_some, filter, inl, inr}
use Rattle.std.specs.Prelude.{◌||◌, ◌&&◌, ◌==◌}
use Rattle.std.proofs.lemmas.Bool.{cases_eq, ne_eqb, true≢false}
use Rattle.base_items.specs.declared.items.ItemSort.{ItemSort}
use Rattle.base_items.specs.declared.items.ItemSort.TheVariants as sorts
use Rattle.plain_digraph.specs.Lists.{AllOf}
use Rattle.observe_core.specs.Seen.{Seen}
use Rattle.notify_chain.specs.Seats.{SeatSeen, AllSeats, Each, Became, seat_key}
use Rattle.alter_graph.specs.Chains.{ChainsSeen, chain_in, seats_in, IsSameChains}
use Rattle.alter_graph.specs.Verdict.{is_sort}
use Rattle.alter_graph.proofs.Sameness.{same_seats}
use Rattle.desk_world.specs.Claims.{Claim, Sits, Role, ClaimsDiffer, is_claimed, has_map_kind}
use Rattle.desk_world.specs.InStep.{AreSeated, Differ, keys_in, guards_seated, guards_claimed}
use Rattle.desk_world.specs.Leaving.{still_claimed, with_none_left}
use Rattle.desk_world.specs.Looks.{Look, look_in, seen_at}
use Rattle.desk_world.proofs.GuardOrder.{guards_among, guards_same}
use Rattle.desk_world.proofs.Heard.{each_seen}
use Rattle.desk_world.proofs.Looks.{seen_same}
use Rattle.desk_world.proofs.Remaining.{Remain, RemainIn, StillSits, still_by, sort_is, either_true}
use Rattle.desk_world.proofs.Seated.{all_so}

-- ---- lists of claims

all_filtered : (f : Claim → Bool) (P : Claim → Type 0) (xs : List Claim)
    → AllOf (λ x. f x ≡ true → P x) xs → AllOf P (filter f xs)
all_filtered f P [] all = tt
all_filtered f P (x ∷ xs) all = of (f x) all.0 (all_filtered f P xs all.1)
  where
    of : (b : Bool) → (b ≡ true → P x) → AllOf P (filter f xs)
        → AllOf P (cond b (x ∷ filter f xs) (filter f xs))
    of true here rest = (here refl, rest)
    of false here rest = rest

pub all_kept : (f : Claim → Bool) (xs : List Claim) → AllOf (λ x. f x ≡ true) xs → filter f xs ≡ xs
all_kept f [] all = refl
all_kept f (x ∷ xs) all =
    let rest = all_kept f xs all.1 in
    λ i. cond (all.0 i) (x ∷ rest i) (rest i)

abbrev is_here : ItemSort → ℕ → Claim → Bool
is_here sort key x = is_sort x.sort sort && x.key == key

unclaimed : (f : Claim → Bool) (sort : ItemSort) (key : ℕ) (xs : List Claim)
    → is_claimed xs sort key ≡ false → is_claimed (filter f xs) sort key ≡ false
unclaimed f sort key [] none = refl
unclaimed f sort key (x ∷ xs) none =
    of (is_here sort key x) refl (λ h. unclaimed f sort key xs h) none
  where
    of : (b : Bool) → is_here sort key x ≡ b
        → (is_claimed xs sort key ≡ false → is_claimed (filter f xs) sort key ≡ false)
        → (b || is_claimed xs sort key) ≡ false
        → is_claimed (cond (f x) (x ∷ filter f xs) (filter f xs)) sort key ≡ false
    of true is rest h = absurd (true≢false h)
    of false is rest h = elim (f x) as (λ k.
        is_claimed (cond k (x ∷ filter f xs) (filter f xs)) sort key ≡ false) [
          | true ↦ ap (λ b. b || is_claimed (filter f xs) sort key) is ∙ rest h
          | false ↦ rest h
        ]

differ_still : (f : Claim → Bool) (xs : List Claim) → ClaimsDiffer xs → ClaimsDiffer (filter f xs)
differ_still f [] differ = tt
differ_still f (x ∷ xs) differ =
    of (f x) (unclaimed f x.sort x.key xs differ.0) (differ_still f xs differ.1)
  where
    of : (b : Bool) → is_claimed (filter f xs) x.sort x.key ≡ false → ClaimsDiffer (filter f xs)
        → ClaimsDiffer (cond b (x ∷ filter f xs) (filter f xs))
    of true here rest = (here, rest)
    of false here rest = rest

and_first : (a b : Bool) → (a && b) ≡ true → a ≡ true
and_first true b is = refl
and_first false b is = absurd (true≢false (sym is))

and_last : (a b : Bool) → (a && b) ≡ true → b ≡ true
and_last true b is = is
and_last false b is = absurd (true≢false (sym is))

same_key : (a b : ℕ) → (a == b) ≡ true → a ≡ b
same_key a b is = elim (cases_eq a b) [
  | inl same ↦ same
  | inr other ↦ absurd (true≢false (sym is ∙ ne_eqb a b other))
]

-- the claim of a seat that is there is still of one
claimed_still : (look : Look) (sort : ItemSort) (key : ℕ) (xs : List Claim)
    → is_some (look sort key) ≡ true → is_claimed xs sort key ≡ true
    → is_claimed (filter (still_by look) xs) sort key ≡ true
claimed_still look sort key [] there is = is
claimed_still look sort key (x ∷ xs) there is =
    of (is_here sort key x) refl (λ h. claimed_still look sort key xs there h) is
  where
    seen : is_here sort key x ≡ true → still_by look x ≡ true
    seen here =
        (λ i. has_map_kind x.role || is_some (look
        (sort_is x.sort sort (and_first (is_sort x.sort sort) (x.key == key) here) i)
        (same_key x.key key (and_last (is_sort x.sort sort) (x.key == key) here) i)))
        ∙ ap (λ b. has_map_kind x.role || b) there
        ∙ either_true (has_map_kind x.role)

    of : (b : Bool) → is_here sort key x ≡ b
        → (is_claimed xs sort key ≡ true → is_claimed (filter (still_by look) xs) sort key ≡ true)
        → (b || is_claimed xs sort key) ≡ true
        → is_claimed (cond (still_by look x) (x ∷ filter (still_by look) xs)
        (filter (still_by look) xs)) sort key ≡ true
    of true here rest h =
        ap (λ k. is_claimed (cond k (x ∷ filter (still_by look) xs) (filter (still_by look) xs))
        sort key) (seen here)
        ∙ ap (λ b. b || is_claimed (filter (still_by look) xs) sort key) here
    of false here rest h = elim (still_by look x) as (λ k.
        is_claimed (cond k (x ∷ filter (still_by look) xs) (filter (still_by look) xs)) sort key
        ≡ true) [
          | true ↦ ap (λ b. b || is_claimed (filter (still_by look) xs) sort key) here ∙ rest h
          | false ↦ rest h
        ]

-- ---- the chains without the keys that left

pub look_left : (c : ChainsSeen) (sort : ItemSort) (key : ℕ)
    → look_in c sort key ≡ look_in (with_none_left c) sort key
look_left c sorts.Node key = refl
look_left c sorts.Arc key = refl

pub seats_left : (c : ChainsSeen) (sort : ItemSort)
    → seats_in sort c ≡ seats_in sort (with_none_left c)
seats_left c sorts.Node = refl
seats_left c sorts.Arc = refl

none_left : (c : ChainsSeen) (sort : ItemSort) → (chain_in sort (with_none_left c)).left ≡ []
none_left c sorts.Node = refl
none_left c sorts.Arc = refl

-- ---- keys that are there

keys_seen : (whole ss : List SeatSeen) → AllSeats (λ t. seen_at t.key whole ≡ Some t.seen) ss
    → AllOf (λ key. is_some (seen_at key whole) ≡ true) (map seat_key ss)
keys_seen whole [] all = tt
keys_seen whole (s ∷ ss) all = (ap is_some all.0, keys_seen whole ss all.1)

both_so : (P Q R : ℕ → Type 0) → ((key : ℕ) → P key → Q key → R key) → (keys : List ℕ)
    → AllOf P keys → AllOf Q keys → AllOf R keys
both_so P Q R so [] p q = tt
both_so P Q R so (key ∷ keys) p q = (so key p.0 q.0, both_so P Q R so keys p.1 q.1)

pub keys_alike : (xs ys : List SeatSeen) → Each (Became (λ s. s)) xs ys
    → map seat_key ys ≡ map seat_key xs
keys_alike [] [] each = refl
keys_alike [] (y ∷ ys) each = absurd each
keys_alike (x ∷ xs) [] each = absurd each
keys_alike (x ∷ xs) (y ∷ ys) each =
    let rest = keys_alike xs ys each.1 in
    λ i. each.0.key i ∷ rest i

module _ (claims : List Claim) (c : ChainsSeen) where
  -- ---- the seats that are there

  pub still_seated : RemainIn claims c → AreSeated (still_claimed c claims) (with_none_left c)
  still_seated remain = record {
    there = subst (λ (look : Look). AllOf (λ x. Sits x.role (look x.sort x.key))
        (still_claimed c claims)) (λ i sort key. look_left c sort key i)
        (all_filtered (still_by (look_in c)) (λ x. Sits x.role (look_in c x.sort x.key)) claims
        remain.there);
    no_other = λ sort. subst
        (λ ss. AllOf (λ key. is_claimed (still_claimed c claims) sort key ≡ true)
        (map seat_key ss)) (seats_left c sort)
        (both_so (λ key. is_some (look_in c sort key) ≡ true)
        (λ key. is_claimed claims sort key ≡ true)
        (λ key. is_claimed (still_claimed c claims) sort key ≡ true)
        (λ key there claimed. claimed_still (look_in c) sort key claims there claimed)
        (keys_in sort c)
        (keys_seen (seats_in sort c) (seats_in sort c)
        (each_seen (seats_in sort c) (remain.keys_differ sort))) (remain.no_other sort));
    claims_differ = differ_still (still_by (look_in c)) claims remain.claims_differ;
    keys_differ = λ sort. subst (λ ss. Differ (map seat_key ss)) (seats_left c sort)
        (remain.keys_differ sort);
    in_order = λ sort. subst (λ ss. guards_among ss ≡ guards_claimed sort (still_claimed c claims))
        (seats_left c sort) (remain.in_order sort);
    none_left = none_left c;
  }

  -- ---- where all claims sit

  pub each_still : AllOf (λ x. Sits x.role (look_in c x.sort x.key)) claims
      → AllOf (λ x. still_by (look_in c) x ≡ true) claims
  each_still all =
      all_so (λ x. Sits x.role (look_in c x.sort x.key)) (λ x. still_by (look_in c) x ≡ true)
      (λ x sits. ap (λ b. has_map_kind x.role || b) (some (look_in c x.sort x.key) x.role sits)
      ∙ either_true (has_map_kind x.role)) claims all
    where
      some : (o : Option Seen) (role : Role) → Sits role o → is_some o ≡ true
      some None role sits = absurd sits
      some (Some s) role sits = refl

  all_still : AllOf (λ x. Sits x.role (look_in c x.sort x.key)) claims
      → still_claimed c claims ≡ claims
  all_still all = all_kept (still_by (look_in c)) claims (each_still all)

  pub remain_all : AreSeated claims c → RemainIn claims c
  remain_all seated = record {
    there = all_so (λ x. Sits x.role (look_in c x.sort x.key)) (StillSits (look_in c))
        (λ x sits still. sits) claims seated.there;
    no_other = seated.no_other;
    claims_differ = seated.claims_differ;
    keys_differ = seated.keys_differ;
    in_order = λ sort.
        seated.in_order sort
        ∙ sym (ap (guards_claimed sort) (all_still seated.there));
  }

  pub seated_all : RemainIn claims c → AllOf (λ x. Sits x.role (look_in c x.sort x.key)) claims
      → ((sort : ItemSort) → (chain_in sort c).left ≡ []) → AreSeated claims c
  seated_all remain there left = record {
    there = there;
    no_other = remain.no_other;
    claims_differ = remain.claims_differ;
    keys_differ = remain.keys_differ;
    in_order = λ sort.
        remain.in_order sort
        ∙ ap (guards_claimed sort) (all_still there);
    none_left = left;
  }

  -- ---- chains that are the same but for room and reach

  module _ (d : ChainsSeen) (same : IsSameChains c d) where
    pub look_alike : look_in d ≡ look_in c
    look_alike = λ i sort key.
        seen_same key (seats_in sort c) (seats_in sort d) (same_seats sort c d same) i

    pub remain_alike : RemainIn claims c → RemainIn claims d
    remain_alike remain =
        let keys : (λ sort. keys_in sort d) ≡ (λ sort. keys_in sort c) =
        λ i sort. keys_alike (seats_in sort c) (seats_in sort d) (same_seats sort c d same) i in
        let guards : (λ sort. guards_seated sort d) ≡ (λ sort. guards_seated sort c) =
        λ i sort. guards_same (seats_in sort c) (seats_in sort d) (same_seats sort c d same) i in
        subst (λ look. Remain claims look (λ sort. keys_in sort d) (λ sort. guards_seated sort d))
        (sym look_alike)
        (subst (λ ks. Remain claims (look_in c) ks (λ sort. guards_seated sort d)) (sym keys)
        (subst (λ gs. Remain claims (look_in c) (λ sort. keys_in sort c) gs) (sym guards) remain))
