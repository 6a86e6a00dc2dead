-- Claims after a seat came, and after an observer was attached.
use Rattle.std.proofs.Common.{◌≡◌, ℕ, true, cond, List, ◌∷◌, ◌++◌, map, refl, sym, ap}
use Rattle.std.proofs.Common.{[]}
use Rattle.std.proofs.Common.{subst, Option, Some, None, ◌∙◌, inl, inr, not}
use Rattle.std.specs.Prelude.{◌==◌, ◌&&◌, option_map}
use Rattle.std.specs.Option.{option_or}
use Rattle.std.proofs.lemmas.Bool.{eq-eqb, or_left}
use Rattle.std.proofs.lemmas.Bool.{or_right}
use Rattle.std.proofs.lemmas.List.{append-nil}
use Rattle.base_items.specs.declared.items.ItemSort.{ItemSort}
use Rattle.plain_digraph.specs.Items.{facts}
use Rattle.plain_digraph.specs.Lists.{AllOf}
use Rattle.observe_core.specs.Seen.{Seen, Watched}
use Rattle.observe_core.specs.Told.{built}
use Rattle.notify_chain.specs.Seats.{SeatSeen, seat_key}
use Rattle.alter_graph.specs.Chains.{ChainsSeen, chain_in, seats_in, in_chain}
use Rattle.alter_graph.specs.Attaching.{Attaches, with_seats}
use Rattle.alter_graph.specs.State.{State}
use Rattle.alter_graph.specs.Verdict.{is_sort}
use Rattle.desk_world.specs.Claims.{Claim, Role, Plays, Sits, claim, is_claimed}
use Rattle.desk_world.specs.Claims.{has_map_kind, is_map}
use Rattle.desk_world.specs.InStep.{AreSeated, Differ, keys_in, is_guard_seat, is_guard_of}
use Rattle.desk_world.specs.InStep.{guards_seated, guards_claimed}
use Rattle.desk_world.specs.Looks.{look_in, seen_at}
use Rattle.desk_world.specs.Seating.{Comes}
use Rattle.desk_world.proofs.Following.{same_sort, chain_here, chain_there}
use Rattle.desk_world.proofs.GuardOrder.{IsLastGuard, guards_among, guards_last}
use Rattle.desk_world.proofs.GuardOrder.{left_stays}
use Rattle.desk_world.proofs.Looks.{seen_found, seen_last}
use Rattle.desk_world.proofs.Relabelled.{Agrees}
use Rattle.desk_world.proofs.Seated.{SitsIn, all_so, all_both}
use Rattle.desk_world.proofs.Written.{no_sort, sort_itself}
use Rattle.desk_world.proofs.Claimed.{claimed_more, differ_more, all_more, unclaimed, unfound_key}
use Rattle.desk_world.proofs.Claimed.{differ_last}

-- ---- a seat that came

module _ (sort : ItemSort) (key : ℕ) (role : Role) (front back : List Claim) (next : Seen)
    (old new : ChainsSeen) (comes : Comes sort key next old new) (plays : Plays role next) where
  abbrev t : SeatSeen
  t = comes.seat

  abbrev ss : List SeatSeen
  ss = seats_in sort old

  last : seats_in sort new ≡ ss ++ t ∷ []
  last = ap (seats_in sort) comes.is ∙ chain_here sort (with_seats (ss ++ t ∷ [])) old

  seats_there : (other : ItemSort) → (sort ≡ other → ⊥)
      → seats_in other new ≡ seats_in other old
  seats_there other apart =
      ap (seats_in other) comes.is ∙ chain_there sort other (with_seats (ss ++ t ∷ [])) old apart

  none_before : look_in old sort key ≡ None
  none_before =
      sym (seen_found key ss) ∙ ap (option_map (λ (s : SeatSeen). s.seen)) comes.is_new

  -- what is seen in the new seat
  pub look_comes : look_in new sort key ≡ Some next
  look_comes =
      ap (seen_at key) last ∙ seen_last key ss t
      ∙ (λ i. option_or (none_before i)
      (cond (eq-eqb t.key key comes.name i) (Some (comes.seen i)) None))

  pub look_stays : (s : ItemSort) (k : ℕ) (was : Seen) → look_in old s k ≡ Some was
      → look_in new s k ≡ Some was
  look_stays s k was is = elim (same_sort sort s) [
    | inl same ↦
        subst (λ x. look_in old x k ≡ Some was → look_in new x k ≡ Some was) same
        (λ at. ap (seen_at k) last ∙ seen_last k ss t
        ∙ ap (λ o. option_or o (cond (t.key == k) (Some t.seen) None)) at) is
    | inr apart ↦ ap (seen_at k) (seats_there s apart) ∙ is
  ]

  keys_more : keys_in sort new ≡ keys_in sort old ++ key ∷ []
  keys_more =
      ap (map seat_key) last ∙ pushed ss
      ∙ ap (λ k. map seat_key ss ++ k ∷ []) comes.name
    where
      pushed : (list : List SeatSeen)
          → map seat_key (list ++ t ∷ []) ≡ map seat_key list ++ t.key ∷ []
      pushed [] = refl
      pushed (s ∷ list) = ap (λ keys. s.key ∷ keys) (pushed list)

  module _ (seated : AreSeated (front ++ back) old) where
    stay : (x : Claim) → SitsIn old x
        → Agrees (look_in old) (look_in new) x × SitsIn new x
    stay x sits = by (look_in old x.sort x.key) refl sits
      where
        by : (o : Option Seen) → look_in old x.sort x.key ≡ o → Sits x.role o
            → Agrees (look_in old) (look_in new) x × SitsIn new x
        by None is sits = absurd sits
        by (Some was) is sits =
            let now = look_stays x.sort x.key was is in
            (now ∙ sym is, subst (Sits x.role) (sym now) sits)

    -- the same is seen of all other claims
    pub agree_comes : AllOf (Agrees (look_in old) (look_in new)) (front ++ back)
    agree_comes =
        all_so (SitsIn old) (Agrees (look_in old) (look_in new))
        (λ x sits. (stay x sits).0) (front ++ back) seated.there

    abbrev one : Claim
    one = claim sort key role

    -- the seat is claimed, and all others as before
    pub seats_comes : IsLastGuard front one back → AreSeated (front ++ one ∷ back) new
    seats_comes order = record {
      there = all_more (SitsIn new) front one back (subst (Sits role) (sym look_comes) plays)
          (all_so (SitsIn old) (SitsIn new) (λ x sits. (stay x sits).1)
          (front ++ back) seated.there);
      no_other = claimed;
      claims_differ = differ_more front one back seated.claims_differ
          (unclaimed old sort key (front ++ back) none_before seated.there);
      keys_differ = differ;
      in_order = λ s. guards_now s ∙ sym (order s);
      none_left = λ s. ap (λ c. (chain_in s c).left) comes.is
          ∙ left_stays sort s (ss ++ t ∷ []) old ∙ seated.none_left s;
    }
      where
        is_guard : is_guard_seat t ≡ not (has_map_kind role)
        is_guard = ap (λ x. not (is_map x.kind)) comes.seen ∙ ap not plays.kind

        guards_now : (s : ItemSort) → guards_seated s new
            ≡ guards_claimed s (front ++ back) ++ cond (is_guard_of s one) (key ∷ []) []
        guards_now s = elim (same_sort sort s) [
          | inl same ↦
              subst (λ x. guards_seated x new
              ≡ guards_claimed x (front ++ back) ++ cond (is_guard_of x one) (key ∷ []) []) same
              (ap guards_among last ∙ guards_last ss t
              ∙ (λ i. seated.in_order sort i
              ++ cond ((is_guard
              ∙ ap (λ b. b && not (has_map_kind role)) (sym (sort_itself sort))) i)
              (comes.name i ∷ []) []))
          | inr apart ↦
              ap guards_among (seats_there s apart) ∙ seated.in_order s
              ∙ sym (append-nil (guards_claimed s (front ++ back)))
              ∙ ap (λ b. guards_claimed s (front ++ back) ++ cond b (key ∷ []) [])
              (sym (ap (λ b. b && not (has_map_kind role)) (no_sort sort s apart)))
        ]

        still : (s : ItemSort) → AllOf (λ k. is_claimed (front ++ one ∷ back) s k ≡ true)
            (keys_in s old)
        still s = all_so (λ k. is_claimed (front ++ back) s k ≡ true)
            (λ k. is_claimed (front ++ one ∷ back) s k ≡ true)
            (λ k is. claimed_more front one back s k
            ∙ or_right (is_sort sort s && key == k) (is_claimed (front ++ back) s k) is)
            (keys_in s old) (seated.no_other s)

        own : is_claimed (front ++ one ∷ back) sort key ≡ true
        own = claimed_more front one back sort key
            ∙ or_left (is_sort sort sort && key == key) (is_claimed (front ++ back) sort key)
            (λ i. sort_itself sort i && eq-eqb key key refl i)

        claimed : (s : ItemSort) → AllOf (λ k. is_claimed (front ++ one ∷ back) s k ≡ true)
            (keys_in s new)
        claimed s = elim (same_sort sort s) [
          | inl same ↦
              subst (λ x. AllOf (λ k. is_claimed (front ++ one ∷ back) x k ≡ true)
              (keys_in x new)) same
              (subst (AllOf (λ k. is_claimed (front ++ one ∷ back) sort k ≡ true)) (sym keys_more)
              (all_both (λ k. is_claimed (front ++ one ∷ back) sort k ≡ true)
              (keys_in sort old) (key ∷ []) (still sort) (own, tt)))
          | inr apart ↦
              subst (λ list. AllOf (λ k. is_claimed (front ++ one ∷ back) s k ≡ true)
              (map seat_key list)) (sym (seats_there s apart)) (still s)
        ]

        differ : (s : ItemSort) → Differ (keys_in s new)
        differ s = elim (same_sort sort s) [
          | inl same ↦
              subst (λ x. Differ (keys_in x new)) same
              (subst Differ (sym keys_more)
              (differ_last (keys_in sort old) key (seated.keys_differ sort)
              (unfound_key key ss comes.is_new)))
          | inr apart ↦
              subst (λ list. Differ (map seat_key list)) (sym (seats_there s apart))
              (seated.keys_differ s)
        ]

-- ---- an observer that was attached

module _ (sort : ItemSort) (key : ℕ) (came : Watched) (old new : State)
    (attaches : Attaches sort key came old new) where
  pub comes_attached : Comes sort key (built (facts old.graph sort) came.seen) old.chains new.chains
  comes_attached = record {
    seat = attaches.seat.seat;
    name = attaches.seat.name;
    seen = attaches.seat.seen;
    is_new = attaches.seat.is_new;
    is = attaches.rest ∙ ap (λ ss. in_chain sort (with_seats ss) old.chains) attaches.seat.last;
  }

module _ (sort : ItemSort) (key : ℕ) (role : Role) (front back : List Claim) (came : Watched)
    (old new : State) (attaches : Attaches sort key came old new)
    (plays : Plays role (built (facts old.graph sort) came.seen)) where
  abbrev seen_next : Seen
  seen_next = built (facts old.graph sort) came.seen

  abbrev arrives : Comes sort key seen_next old.chains new.chains
  arrives = comes_attached sort key came old new attaches

  pub look_came : look_in new.chains sort key ≡ Some seen_next
  look_came = look_comes sort key role front back seen_next old.chains new.chains arrives plays

  pub agree_more : AreSeated (front ++ back) old.chains
      → AllOf (Agrees (look_in old.chains) (look_in new.chains)) (front ++ back)
  agree_more =
      agree_comes sort key role front back seen_next old.chains new.chains arrives plays

  pub seats_more : AreSeated (front ++ back) old.chains
      → IsLastGuard front (claim sort key role) back
      → AreSeated (front ++ claim sort key role ∷ back) new.chains
  seats_more =
      seats_comes sort key role front back seen_next old.chains new.chains arrives plays
