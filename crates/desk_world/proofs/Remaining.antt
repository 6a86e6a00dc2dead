-- The claims of seats that are still there, after observers heard of something or left.
use Rattle.std.proofs.Common.{◌≡◌, ℕ, Bool, true, false, cond, List, [], ◌∷◌, map, Option, Some}
use Rattle.std.proofs.Common.{None, refl, sym, ap, ◌∙◌, subst, is_some, filter, not}
use Rattle.std.specs.Prelude.{◌||◌, ◌&&◌, option_and_then}
use Rattle.std.proofs.lemmas.Bool.{true≢false}
use Rattle.std.proofs.lemmas.Option.{none-some}
use Rattle.base_items.specs.declared.items.ItemSort.{ItemSort}
use Rattle.base_items.specs.declared.items.ItemSort.TheVariants as sorts
use Rattle.plain_digraph.specs.Lists.{AllOf}
use Rattle.observe_core.specs.Laws.{IsMadeAs}
use Rattle.observe_core.specs.Seen.{Seen}
use Rattle.notify_chain.specs.Seats.{SeatSeen, AllSeats, seat_key}
use Rattle.alter_graph.specs.Chains.{ChainsSeen, seats_in}
use Rattle.alter_graph.specs.Verdict.{is_sort}
use Rattle.desk_world.specs.Claims.{Claim, Role, Plays, Sits, ClaimsDiffer, has_map_kind, is_map}
use Rattle.desk_world.specs.Claims.{is_claimed}
use Rattle.desk_world.specs.InStep.{Differ, keys_in, guards_seated, guards_claimed, is_guard_of}
use Rattle.desk_world.specs.Looks.{Look, look_in, seen_at}
use Rattle.desk_world.proofs.GuardOrder.{guards_among}
use Rattle.desk_world.proofs.Heard.{seats_by, keys_by, differ_by, seen_by, each_seen, guards_by}

-- whether the claim is one of a seat that is there, as every seat but that of a guard is
abbrev pub still_by : Look → Claim → Bool
still_by look x = has_map_kind x.role || is_some (look x.sort x.key)

abbrev pub StillSits : Look → Claim → Type 0
StillSits look x = still_by look x ≡ true → Sits x.role (look x.sort x.key)

-- the seats that there are, by what is seen in them, their keys and those of the guards' seats, are
-- those of the claims, of which some guards may have left
pub record Remain (claims : List Claim) (look : Look) (keys guards : ItemSort → List ℕ) : Type 0
  where
    pub there : AllOf (StillSits look) claims
    pub no_other : (sort : ItemSort) → AllOf (λ key. is_claimed claims sort key ≡ true) (keys sort)
    pub claims_differ : ClaimsDiffer claims
    pub keys_differ : (sort : ItemSort) → Differ (keys sort)
    pub in_order : (sort : ItemSort)
        → guards sort ≡ guards_claimed sort (filter (still_by look) claims)

abbrev pub RemainIn : List Claim → ChainsSeen → Type 0
RemainIn claims c =
    Remain claims (look_in c) (λ sort. keys_in sort c) (λ sort. guards_seated sort c)

-- ---- what passes two filters

both_filters : {X : Type 0} (f g : X → Bool) (xs : List X)
    → filter f (filter g xs) ≡ filter (λ x. g x && f x) xs
both_filters f g [] = refl
both_filters f g (x ∷ xs) =
    let rest = both_filters f g xs in
    elim (g x) as (λ b. filter f (cond b (x ∷ filter g xs) (filter g xs))
    ≡ cond (b && f x) (x ∷ filter (λ y. g y && f y) xs) (filter (λ y. g y && f y) xs)) [
      | true ↦ λ i. cond (f x) (x ∷ rest i) (rest i)
      | false ↦ rest
    ]

filter_keys : {X : Type 0} (key : X → ℕ) (stays : ℕ → Bool) (xs : List X)
    → filter stays (map key xs) ≡ map key (filter (λ x. stays (key x)) xs)
filter_keys key stays [] = refl
filter_keys key stays (x ∷ xs) =
    let rest = filter_keys key stays xs in
    elim (stays (key x)) as (λ b. cond b (key x ∷ filter stays (map key xs))
    (filter stays (map key xs))
    ≡ map key (cond b (x ∷ filter (λ y. stays (key y)) xs) (filter (λ y. stays (key y)) xs))) [
      | true ↦ λ i. key x ∷ rest i
      | false ↦ rest
    ]

-- of a claim: m is whether it is of a map, q whether it is of the sort, and a, b and l are whether
-- its seat was there, is there, and is there by the sort
passes : (m q a b l : Bool) → (q ≡ true → b ≡ l) → (a ≡ false → b ≡ false)
    → ((m || b) && (q && not m)) ≡ (((m || a) && (q && not m)) && l)
passes true true a b l same fewer = refl
passes true false a b l same fewer = refl
passes false false true true l same fewer = refl
passes false false true false l same fewer = refl
passes false false false true l same fewer = refl
passes false false false false l same fewer = refl
passes false true true true l same fewer = same refl
passes false true true false l same fewer = same refl
passes false true false true l same fewer = absurd (true≢false (fewer refl))
passes false true false false l same fewer = refl

pub sort_is : (a b : ItemSort) → is_sort a b ≡ true → a ≡ b
sort_is sorts.Node sorts.Node is = refl
sort_is sorts.Node sorts.Arc is = absurd (true≢false (sym is))
sort_is sorts.Arc sorts.Node is = absurd (true≢false (sym is))
sort_is sorts.Arc sorts.Arc is = refl

-- the claims of the guards that are still there are those of the ones that were, without those that
-- left since
guards_still : (look later : Look) (sort : ItemSort) (claims : List Claim)
    → ((sort : ItemSort) (key : ℕ) → is_some (look sort key) ≡ false
    → is_some (later sort key) ≡ false)
    → guards_claimed sort (filter (still_by later) claims)
    ≡ filter (λ key. is_some (later sort key))
    (guards_claimed sort (filter (still_by look) claims))
guards_still look later sort claims fewer =
    ap (map (λ x. x.key)) (both_filters (is_guard_of sort) (still_by later) claims)
    ∙ (λ i. map (λ (x : Claim). x.key) (filter (λ x. one x i) claims))
    ∙ sym (ap (map (λ x. x.key)) (both_filters (λ x. is_some (later sort x.key))
    (λ x. still_by look x && is_guard_of sort x) claims))
    ∙ sym (ap (λ xs. map (λ (x : Claim). x.key) (filter (λ x. is_some (later sort x.key)) xs))
    (both_filters (is_guard_of sort) (still_by look) claims))
    ∙ sym (filter_keys (λ (x : Claim). x.key) (λ key. is_some (later sort key))
    (filter (is_guard_of sort) (filter (still_by look) claims)))
  where
    one : (x : Claim) → (still_by later x && is_guard_of sort x)
        ≡ ((still_by look x && is_guard_of sort x) && is_some (later sort x.key))
    one x = passes (has_map_kind x.role) (is_sort x.sort sort) (is_some (look x.sort x.key))
        (is_some (later x.sort x.key)) (is_some (later sort x.key))
        (λ q. ap (λ s. is_some (later s x.key)) (sort_is x.sort sort q)) (fewer x.sort x.key)

-- ---- one notice

all_seats_so : (P Q : SeatSeen → Type 0) → ((s : SeatSeen) → P s → Q s) → (ss : List SeatSeen)
    → AllSeats P ss → AllSeats Q ss
all_seats_so P Q so [] all = tt
all_seats_so P Q so (s ∷ ss) all = (so s all.0, all_seats_so P Q so ss all.1)

all_claims_so : (P Q : Claim → Type 0) → ((x : Claim) → P x → Q x) → (xs : List Claim)
    → AllOf P xs → AllOf Q xs
all_claims_so P Q so [] all = tt
all_claims_so P Q so (x ∷ xs) all = (so x all.0, all_claims_so P Q so xs all.1)

pub plays_on : (role : Role) (was later : Seen) → IsMadeAs was later → Plays role was
    → Plays role later
plays_on role was later made plays = record {
  form = made.form ∙ plays.form;
  making = made.making ∙ plays.making;
  kind = ap is_map made.kind ∙ plays.kind;
}

pub either_true : (m : Bool) → (m || true) ≡ true
either_true true = refl
either_true false = refl

-- what was heard in each chain keeps how observers were made, and only guards leave at it
module _ (c d : ChainsSeen) (hear : ItemSort → Seen → Option Seen)
    (seats : (sort : ItemSort) → seats_in sort d ≡ seats_by (hear sort) (seats_in sort c))
    (made : (sort : ItemSort) (was later : Seen) → hear sort was ≡ Some later
    → IsMadeAs was later)
    (stays : (sort : ItemSort) (s : Seen) → is_map s.kind ≡ true → is_some (hear sort s) ≡ true)
    (differ : (sort : ItemSort) → Differ (keys_in sort c)) where
  pub look_by : (sort : ItemSort) (key : ℕ)
      → look_in d sort key ≡ option_and_then (hear sort) (look_in c sort key)
  look_by sort key =
      ap (seen_at key) (seats sort)
      ∙ seen_by (hear sort) key (seats_in sort c) (differ sort)

  -- who is there was there before, and heard of it
  pub record Before (sort : ItemSort) (key : ℕ) (later : Seen) : Type 0 where
    pub was : Seen
    pub seen : look_in c sort key ≡ Some was
    pub hears : hear sort was ≡ Some later

  pub before : (sort : ItemSort) (key : ℕ) (later : Seen) → look_in d sort key ≡ Some later
      → Before sort key later
  before sort key later is =
      of (look_in c sort key) refl (sym (look_by sort key) ∙ is)
    where
      of : (o : Option Seen) → look_in c sort key ≡ o
          → option_and_then (hear sort) o ≡ Some later → Before sort key later
      of None seen hears = absurd (none-some later hears)
      of (Some was) seen hears = record { was = was; seen = seen; hears = hears }

  sits_on : (x : Claim) → StillSits (look_in c) x → StillSits (look_in d) x
  sits_on x sits still =
      subst (Sits x.role) (sym (look_by x.sort x.key))
      (of (look_in c x.sort x.key)
      (subst (λ o. (has_map_kind x.role || is_some o) ≡ true) (look_by x.sort x.key) still) sits)
    where
      gone : (was : Seen) → Plays x.role was → hear x.sort was ≡ None → (m : Bool)
          → has_map_kind x.role ≡ m
          → (has_map_kind x.role || is_some (hear x.sort was)) ≡ true → ⊥
      gone was plays none true is still =
          true≢false (sym (stays x.sort was (plays.kind ∙ is)) ∙ ap is_some none)
      gone was plays none false is still =
          true≢false (sym still ∙ (λ i. is i || is_some (none i)))

      heard : (was : Seen) → Plays x.role was
          → (has_map_kind x.role || is_some (hear x.sort was)) ≡ true → (o : Option Seen)
          → hear x.sort was ≡ o → Sits x.role o
      heard was plays still None is =
          absurd (gone was plays is (has_map_kind x.role) refl still)
      heard was plays still (Some later) is =
          plays_on x.role was later (made x.sort was later is) plays

      of : (o : Option Seen)
          → (has_map_kind x.role || is_some (option_and_then (hear x.sort) o)) ≡ true
          → ((has_map_kind x.role || is_some o) ≡ true → Sits x.role o)
          → Sits x.role (option_and_then (hear x.sort) o)
      of None still sits = sits still
      of (Some was) still sits =
          heard was (sits (either_true (has_map_kind x.role))) still (hear x.sort was) refl

  fewer : (sort : ItemSort) (key : ℕ) → is_some (look_in c sort key) ≡ false
      → is_some (look_in d sort key) ≡ false
  fewer sort key none =
      ap is_some (look_by sort key) ∙ of (look_in c sort key) none
    where
      of : (o : Option Seen) → is_some o ≡ false
          → is_some (option_and_then (hear sort) o) ≡ false
      of None none = refl
      of (Some was) none = absurd (true≢false none)

  guards_stay : (sort : ItemSort) → guards_seated sort d
      ≡ filter (λ key. is_some (look_in d sort key)) (guards_seated sort c)
  guards_stay sort =
      ap guards_among (seats sort)
      ∙ guards_by (hear sort) (λ was later is. ap is_map (made sort was later is).kind)
      (λ key. is_some (look_in d sort key)) (seats_in sort c)
      (all_seats_so (λ t. seen_at t.key (seats_in sort c) ≡ Some t.seen)
      (λ t. is_some (look_in d sort t.key) ≡ is_some (hear sort t.seen))
      (λ t is. ap is_some (look_by sort t.key ∙ ap (option_and_then (hear sort)) is))
      (seats_in sort c) (each_seen (seats_in sort c) (differ sort)))

  pub remain_on : (claims : List Claim) → RemainIn claims c → RemainIn claims d
  remain_on claims remain = record {
    there = all_claims_so (StillSits (look_in c)) (StillSits (look_in d)) sits_on claims
        remain.there;
    no_other = λ sort. subst (λ ss. AllOf (λ key. is_claimed claims sort key ≡ true)
        (map seat_key ss)) (sym (seats sort))
        (keys_by (hear sort) (λ key. is_claimed claims sort key ≡ true) (seats_in sort c)
        (remain.no_other sort));
    claims_differ = remain.claims_differ;
    keys_differ = λ sort. subst (λ ss. Differ (map seat_key ss)) (sym (seats sort))
        (differ_by (hear sort) (seats_in sort c) (remain.keys_differ sort));
    in_order = λ sort.
        guards_stay sort
        ∙ ap (filter (λ key. is_some (look_in d sort key))) (remain.in_order sort)
        ∙ sym (guards_still (look_in c) (look_in d) sort claims fewer);
  }
