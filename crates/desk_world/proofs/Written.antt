-- A world after a write to what one of its seats holds.
use Rattle.std.proofs.Common.{◌≡◌, ℕ, suc, Bool, true, false, cond, List, [], ◌∷◌, map}
use Rattle.std.proofs.Common.{refl, sym}
use Rattle.std.proofs.Common.{ap, subst, Some, ◌∙◌, inl, inr}
use Rattle.std.specs.Prelude.{◌==◌, ◌&&◌}
use Rattle.std.proofs.lemmas.Bool.{cases_eq, eq-eqb, ne_eqb, true≢false}
use Rattle.base_items.specs.declared.items.Fact.{Fact}
use Rattle.base_items.specs.declared.items.ItemSort.{ItemSort}
use Rattle.base_items.specs.declared.items.ItemSort.TheVariants as sorts
use Rattle.plain_digraph.specs.Lists.{AllOf}
use Rattle.observe_core.specs.Held.{Held}
use Rattle.observe_core.specs.Seen.{Seen}
use Rattle.notify_chain.specs.Seats.{SeatSeen, seat_key, put_seat}
use Rattle.alter_graph.specs.Chains.{ChainsSeen, seats_in, in_chain}
use Rattle.alter_graph.specs.Attaching.{with_seats}
use Rattle.alter_graph.specs.Verdict.{is_sort}
use Rattle.alter_graph.specs.Snaps.{IsHalf, half_of, half_held}
use Rattle.alter_graph.specs.Lending.{Rewrites}
use Rattle.desk_seats.specs.Contents.{StillFits}
use Rattle.desk_world.specs.Claims.{Claim, Role, Guard, Sits, Plays, claim, is_claimed, is_map}
use Rattle.desk_world.specs.InStep.{AreSeated, Differ, keys_in, guards_seated}
use Rattle.desk_world.specs.Looks.{look_in, seen_at}
use Rattle.desk_world.proofs.Following.{same_sort}
use Rattle.desk_world.proofs.GuardOrder.{guards_among, guards_put, left_stays}
use Rattle.desk_world.proofs.Looks.{seen_put, seen_put_other}
use Rattle.desk_world.proofs.Seated.{SitsIn, all_so}

-- ---- another observer in one seat

pub keys_put : (t : SeatSeen) (ss : List SeatSeen) → map seat_key (put_seat t ss) ≡ map seat_key ss
keys_put t [] = refl
keys_put t (s ∷ ss) =
    let rest = keys_put t ss in
    elim (cases_eq s.key t.key) [
      | inl same ↦
          ap (λ b. map seat_key (cond b (t ∷ ss) (s ∷ put_seat t ss))) (eq-eqb s.key t.key same)
          ∙ ap (λ key. key ∷ map seat_key ss) (sym same)
      | inr other ↦
          ap (λ b. map seat_key (cond b (t ∷ ss) (s ∷ put_seat t ss))) (ne_eqb s.key t.key other)
          ∙ ap (λ keys. s.key ∷ keys) rest
    ]

-- the chains with another seat in the place of that of its key
abbrev pub reseated : ItemSort → SeatSeen → ChainsSeen → ChainsSeen
reseated sort t c = in_chain sort (with_seats (put_seat t (seats_in sort c))) c

pub seats_here : (sort : ItemSort) (t : SeatSeen) (c : ChainsSeen)
    → seats_in sort (reseated sort t c) ≡ put_seat t (seats_in sort c)
seats_here sorts.Node t c = refl
seats_here sorts.Arc t c = refl

there : (sort other : ItemSort) (t : SeatSeen) (c : ChainsSeen) → (sort ≡ other → ⊥)
    → seats_in other (reseated sort t c) ≡ seats_in other c
there sorts.Node sorts.Node t c apart = absurd (apart refl)
there sorts.Node sorts.Arc t c apart = refl
there sorts.Arc sorts.Node t c apart = refl
there sorts.Arc sorts.Arc t c apart = absurd (apart refl)

-- the claim is of another seat
abbrev pub IsElsewhere : ItemSort → ℕ → Claim → Type 0
IsElsewhere sort key x = (is_sort x.sort sort && x.key == key) ≡ false

pub no_sort : (a b : ItemSort) → (a ≡ b → ⊥) → is_sort a b ≡ false
no_sort sorts.Node sorts.Node apart = absurd (apart refl)
no_sort sorts.Node sorts.Arc apart = refl
no_sort sorts.Arc sorts.Node apart = refl
no_sort sorts.Arc sorts.Arc apart = absurd (apart refl)

no_key : (a b : Bool) → b ≡ false → (a && b) ≡ false
no_key true b is = is
no_key false b is = refl

pub sort_itself : (sort : ItemSort) → is_sort sort sort ≡ true
sort_itself sorts.Node = refl
sort_itself sorts.Arc = refl

-- the seat of the claim is that of the sort and the key
pub same_seat : (sort other : ItemSort) (key k : ℕ) → (is_sort other sort && k == key) ≡ true
    → (other ≡ sort) × (k ≡ key)
same_seat sort other key k is = (
  elim (same_sort other sort) [
    | inl same ↦ same
    | inr differ ↦
        absurd (true≢false (sym is ∙ ap (λ b. b && k == key) (no_sort other sort differ)))
  ],
  elim (cases_eq k key) [
    | inl same ↦ same
    | inr differ ↦
        absurd (true≢false (sym is
        ∙ no_key (is_sort other sort) (k == key) (ne_eqb k key differ)))
  ],
)

module _ (sort : ItemSort) (t : SeatSeen) (was : Seen) (c : ChainsSeen)
    (found : look_in c sort t.key ≡ Some was) where
  pub look_put : look_in (reseated sort t c) sort t.key ≡ Some t.seen
  look_put = ap (seen_at t.key) (seats_here sort t c) ∙ seen_put t (seats_in sort c) was found

  pub look_elsewhere : (x : Claim) → IsElsewhere sort t.key x
      → look_in (reseated sort t c) x.sort x.key ≡ look_in c x.sort x.key
  look_elsewhere x apart = elim (same_sort sort x.sort) [
    | inl same ↦
        let other : x.key ≡ t.key → ⊥ = λ is.
        true≢false (sym (ap (λ b. b && x.key == t.key)
        (ap (λ s. is_sort s sort) (sym same) ∙ sort_itself sort) ∙ eq-eqb x.key t.key is)
        ∙ apart) in
        subst (λ s. look_in (reseated sort t c) s x.key ≡ look_in c s x.key) same
        (ap (seen_at x.key) (seats_here sort t c) ∙ seen_put_other t x.key (seats_in sort c) other)
    | inr differ ↦ ap (seen_at x.key) (there sort x.sort t c differ)
  ]

  -- any look-up afterwards
  pub look_reseated : (s : ItemSort) (k : ℕ) → look_in (reseated sort t c) s k
      ≡ cond (is_sort s sort && k == t.key) (Some t.seen) (look_in c s k)
  look_reseated s k =
      elim (is_sort s sort && k == t.key) as (λ b. (is_sort s sort && k == t.key) ≡ b
      → look_in (reseated sort t c) s k ≡ cond b (Some t.seen) (look_in c s k)) [
        | false ↦ λ apart. look_elsewhere (claim s k Guard) apart
        | true ↦ λ is.
            let at = same_seat sort s t.key k is in
            (λ i. look_in (reseated sort t c) (at.0 i) (at.1 i)) ∙ look_put
      ] refl

  -- where the same is seen of the other observer, all look-ups are as before
  pub look_kept : t.seen ≡ was → look_in (reseated sort t c) ≡ look_in c
  look_kept same = λ i s k. one s k i
    where
      one : (s : ItemSort) (k : ℕ) → look_in (reseated sort t c) s k ≡ look_in c s k
      one s k =
          look_reseated s k
          ∙ elim (is_sort s sort && k == t.key) as (λ b. (is_sort s sort && k == t.key) ≡ b
          → cond b (Some t.seen) (look_in c s k) ≡ look_in c s k) [
            | false ↦ λ apart. refl
            | true ↦ λ is.
                let at = same_seat sort s t.key k is in
                ap Some same ∙ sym ((λ i. look_in c (at.0 i) (at.1 i)) ∙ found)
          ] refl

  pub keys_stay : (other : ItemSort) → keys_in other (reseated sort t c) ≡ keys_in other c
  keys_stay other = elim (same_sort sort other) [
    | inl same ↦
        subst (λ s. keys_in s (reseated sort t c) ≡ keys_in s c) same
        (ap (map seat_key) (seats_here sort t c) ∙ keys_put t (seats_in sort c))
    | inr differ ↦ ap (map seat_key) (there sort other t c differ)
  ]

  pub guards_stay : is_map t.seen.kind ≡ is_map was.kind → (other : ItemSort)
      → guards_seated other (reseated sort t c) ≡ guards_seated other c
  guards_stay kind other = elim (same_sort sort other) [
    | inl same ↦
        subst (λ s. guards_seated s (reseated sort t c) ≡ guards_seated s c) same
        (ap guards_among (seats_here sort t c) ∙ guards_put t (seats_in sort c) was found kind)
    | inr differ ↦ ap guards_among (there sort other t c differ)
  ]

  -- the claims stay
  pub seats_stay : (list : List Claim) → ((role : Role) → Plays role was → Plays role t.seen)
      → is_map t.seen.kind ≡ is_map was.kind → AreSeated list c
      → AreSeated list (reseated sort t c)
  seats_stay list goes kind seated = record {
    there = all_so (SitsIn c) (SitsIn (reseated sort t c)) stays list seated.there;
    no_other = λ other. subst (AllOf (λ key. is_claimed list other key ≡ true))
        (sym (keys_stay other)) (seated.no_other other);
    claims_differ = seated.claims_differ;
    keys_differ = λ other. subst Differ (sym (keys_stay other)) (seated.keys_differ other);
    in_order = λ other. guards_stay kind other ∙ seated.in_order other;
    none_left = λ other.
        left_stays sort other (put_seat t (seats_in sort c)) c ∙ seated.none_left other;
  }
    where
      stays : (x : Claim) → SitsIn c x → SitsIn (reseated sort t c) x
      stays x sits =
          elim (is_sort x.sort sort && x.key == t.key) as (λ b.
          (is_sort x.sort sort && x.key == t.key) ≡ b → SitsIn (reseated sort t c) x) [
            | false ↦ λ apart. subst (Sits x.role) (sym (look_elsewhere x apart)) sits
            | true ↦ λ is.
                let at = same_seat sort x.sort t.key x.key is in
                subst (λ s. Sits x.role (look_in (reseated sort t c) s x.key)) (sym at.0)
                (subst (λ k. Sits x.role (look_in (reseated sort t c) sort k)) (sym at.1)
                (subst (Sits x.role) (sym look_put) (goes x.role
                (subst (Sits x.role)
                ((λ i. look_in c (at.0 i) (at.1 i)) ∙ found) sits))))
          ] refl

-- what has another form than the first is no half of a snapshot
pub no_half : (n : ℕ) (s : Seen) → s.form ≡ suc n → IsHalf (half_of s) → ⊥
no_half n s form half = subst (λ m. IsHalf (half_held m s.held)) form half

-- what is written stands for the same items
pub rewrites : (live : List Fact) (old new : Seen) (held : Held)
    → new ≡ (record old { held = held })
    → StillFits old new → (IsHalf (half_of old) → ⊥) → Rewrites live old new
rewrites live old new held is fits none = record {
  kind = ap (λ s. s.kind) is;
  facts = ap (λ s. s.facts) is;
  added = ap (λ s. s.added) is;
  erased = ap (λ s. s.erased) is;
  moved = ap (λ s. s.moved) is;
  held = fits live;
  half = λ half. absurd (none half);
}
