-- Claims after a seat went.
use Rattle.std.proofs.Common.{◌≡◌, ℕ, true, false, List, ◌∷◌, ◌++◌, map, refl, sym, ap}
use Rattle.std.proofs.Common.{subst, ◌∙◌, inl, inr, not}
use Rattle.std.specs.Prelude.{◌==◌, ◌&&◌, ◌||◌}
use Rattle.std.proofs.lemmas.Bool.{eq-eqb, ne_eqb, true≢false}
use Rattle.base_items.specs.declared.items.ItemSort.{ItemSort}
use Rattle.base_items.specs.declared.items.ItemSort.TheVariants as sorts
use Rattle.plain_digraph.specs.Lists.{AllOf}
use Rattle.plain_digraph.specs.Rising.{without_item}
use Rattle.notify_chain.specs.Seats.{seat_key}
use Rattle.alter_graph.specs.Chains.{ChainsSeen, seats_in}
use Rattle.alter_graph.specs.Attaching.{detached}
use Rattle.alter_graph.specs.Verdict.{is_sort}
use Rattle.desk_world.specs.Claims.{Claim, Role, Sits, claim, is_claimed}
use Rattle.desk_world.specs.Claims.{has_map_kind}
use Rattle.desk_world.specs.InStep.{AreSeated, Differ, keys_in}
use Rattle.desk_world.specs.InStep.{guards_seated, guards_claimed}
use Rattle.desk_world.specs.Looks.{look_in, seen_at}
use Rattle.desk_world.proofs.Following.{same_sort}
use Rattle.desk_world.proofs.GuardOrder.{guards_among, guards_gone}
use Rattle.desk_world.proofs.GuardOrder.{key_gone, claim_gone, claim_passed}
use Rattle.desk_world.proofs.GuardOrder.{left_detached}
use Rattle.desk_world.proofs.Looks.{seen_without}
use Rattle.desk_world.proofs.Relabelled.{Agrees}
use Rattle.desk_world.proofs.Seated.{SitsIn, all_so, all_and}
use Rattle.desk_world.proofs.Written.{IsElsewhere, no_sort, sort_itself}
use Rattle.desk_world.proofs.Claimed.{claimed_more, differ_less, apart_all, all_less, keys_left}
use Rattle.desk_world.proofs.Claimed.{differ_left}

-- ---- a seat that went

module _ (key : ℕ) (c : ChainsSeen) where
  here : (s : ItemSort)
      → seats_in s (detached s key c) ≡ without_item seat_key key (seats_in s c)
  here sorts.Node = refl
  here sorts.Arc = refl

  there : (s other : ItemSort) → (s ≡ other → ⊥)
      → seats_in other (detached s key c) ≡ seats_in other c
  there sorts.Node sorts.Node apart = absurd (apart refl)
  there sorts.Node sorts.Arc apart = refl
  there sorts.Arc sorts.Node apart = refl
  there sorts.Arc sorts.Arc apart = absurd (apart refl)

  -- the same is seen elsewhere
  pub agrees : (sort : ItemSort) (x : Claim) → IsElsewhere sort key x
      → Agrees (look_in c) (look_in (detached sort key c)) x
  agrees sort x other = elim (same_sort sort x.sort) [
    | inl same ↦
        let differ : x.key ≡ key → ⊥ = λ is.
        true≢false (sym ((λ i. is_sort (sym same i) sort && x.key == key)
        ∙ (λ i. sort_itself sort i && eq-eqb x.key key is i)) ∙ other) in
        subst (λ s. look_in (detached sort key c) s x.key ≡ look_in c s x.key) same
        (ap (seen_at x.key) (here sort) ∙ seen_without key x.key (seats_in sort c) differ)
    | inr differ ↦ ap (seen_at x.key) (there sort x.sort differ)
  ]

module _ (sort : ItemSort) (key : ℕ) (role : Role) (front back : List Claim) (c : ChainsSeen)
    (seated : AreSeated (front ++ claim sort key role ∷ back) c) where
  abbrev d : ChainsSeen
  d = detached sort key c

  abbrev less : List Claim
  less = front ++ back

  abbrev gone : Claim
  gone = claim sort key role

  apart : AllOf (IsElsewhere sort key) less
  apart = apart_all front gone back seated.claims_differ

  -- the same is seen of all other claims
  pub agree_less : AllOf (Agrees (look_in c) (look_in d)) less
  agree_less =
      all_so (IsElsewhere sort key) (Agrees (look_in c) (look_in d)) (agrees key c sort) less apart

  -- all others are claimed as before
  pub seats_less : AreSeated less d
  seats_less = record {
    there = all_so (λ x. SitsIn c x × Agrees (look_in c) (look_in d) x) (SitsIn d)
        (λ x at. subst (Sits x.role) (sym at.1) at.0) less
        (all_and (SitsIn c) (Agrees (look_in c) (look_in d)) less
        (all_less (SitsIn c) front gone back seated.there) agree_less);
    no_other = claimed;
    claims_differ = (differ_less front gone back seated.claims_differ).0;
    keys_differ = differ;
    in_order = guards_now;
    none_left = λ s. left_detached sort s key c ∙ seated.none_left s;
  }
    where
      guards_now : (s : ItemSort) → guards_seated s d ≡ guards_claimed s less
      guards_now s = elim (same_sort sort s) [
        | inl same ↦
            subst (λ x. guards_seated x d ≡ guards_claimed x less) same
            (ap guards_among (here key c sort) ∙ guards_gone key (seats_in sort c)
            ∙ ap (key_gone key) (seated.in_order sort) ∙ claim_gone front gone back apart)
        | inr other ↦
            ap guards_among (there key c sort s other) ∙ seated.in_order s
            ∙ claim_passed s front gone back
            (ap (λ b. b && not (has_map_kind role)) (no_sort sort s other))
      ]

      left : (s : ItemSort) (k : ℕ) → (is_sort sort s && key == k) ≡ false
          → is_claimed (front ++ gone ∷ back) s k ≡ true → is_claimed less s k ≡ true
      left s k other is =
          sym (ap (λ b. b || is_claimed less s k) other)
          ∙ sym (claimed_more front gone back s k) ∙ is

      claimed : (s : ItemSort) → AllOf (λ k. is_claimed less s k ≡ true) (keys_in s d)
      claimed s = elim (same_sort sort s) [
        | inl same ↦
            subst (λ x. AllOf (λ k. is_claimed less x k ≡ true) (keys_in x d)) same
            (subst (λ list. AllOf (λ k. is_claimed less sort k ≡ true) (map seat_key list))
            (sym (here key c sort))
            (all_so
            (λ k. (is_claimed (front ++ gone ∷ back) sort k ≡ true) × (k ≡ key → ⊥))
            (λ k. is_claimed less sort k ≡ true)
            (λ k at. left sort k
            ((λ i. sort_itself sort i && key == k) ∙ ne_eqb key k (λ e. at.1 (sym e))) at.0)
            (map seat_key (without_item seat_key key (seats_in sort c)))
            (keys_left (λ k. is_claimed (front ++ gone ∷ back) sort k ≡ true) key
            (seats_in sort c) (seated.no_other sort))))
        | inr apart ↦
            subst (λ list. AllOf (λ k. is_claimed less s k ≡ true) (map seat_key list))
            (sym (there key c sort s apart))
            (all_so (λ k. is_claimed (front ++ gone ∷ back) s k ≡ true)
            (λ k. is_claimed less s k ≡ true)
            (λ k is. left s k (ap (λ b. b && key == k) (no_sort sort s apart)) is)
            (keys_in s c) (seated.no_other s))
      ]

      differ : (s : ItemSort) → Differ (keys_in s d)
      differ s = elim (same_sort sort s) [
        | inl same ↦
            subst (λ x. Differ (keys_in x d)) same
            (subst (λ list. Differ (map seat_key list)) (sym (here key c sort))
            (differ_left key (seats_in sort c) (seated.keys_differ sort)))
        | inr apart ↦
            subst (λ list. Differ (map seat_key list)) (sym (there key c sort s apart))
            (seated.keys_differ s)
      ]
