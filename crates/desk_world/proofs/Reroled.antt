-- The seats of claims, one of which is of another role.
use Rattle.std.proofs.Common.{◌≡◌, ℕ, true, List, [], ◌∷◌, ◌++◌, refl, sym, ap, subst, Some, ◌∙◌}
use Rattle.std.specs.Prelude.{◌==◌, ◌&&◌, ◌||◌}
use Rattle.base_items.specs.declared.items.ItemSort.{ItemSort}
use Rattle.plain_digraph.specs.Lists.{AllOf}
use Rattle.observe_core.specs.Seen.{Seen}
use Rattle.notify_chain.specs.Seats.{SeatSeen}
use Rattle.alter_graph.specs.Chains.{ChainsSeen, seats_in}
use Rattle.alter_graph.specs.Verdict.{is_sort}
use Rattle.notify_chain.specs.Seats.{put_seat}
use Rattle.desk_world.specs.Claims.{Claim, Role, Plays, Sits, ClaimsDiffer, claim, is_claimed}
use Rattle.desk_world.specs.Claims.{has_map_kind, is_map}
use Rattle.desk_world.specs.InStep.{AreSeated, Differ, keys_in}
use Rattle.desk_world.specs.Looks.{look_in}
use Rattle.desk_world.proofs.Claimed.{apart_all}
use Rattle.desk_world.proofs.GuardOrder.{claim_passed, no_guard_of, left_stays}
use Rattle.desk_world.proofs.Seated.{SitsIn, all_left, all_right, all_both, all_so, all_and}
use Rattle.desk_world.proofs.Written.{IsElsewhere, reseated, look_put, look_elsewhere, keys_stay}
use Rattle.desk_world.proofs.Written.{guards_stay}

-- whose seats are claimed doesn't hang on the roles
module _ (sort : ItemSort) (key : ℕ) (role now : Role) (back : List Claim) where
  claimed_alike : (front : List Claim) (other : ItemSort) (k : ℕ)
      → is_claimed (front ++ claim sort key now ∷ back) other k
      ≡ is_claimed (front ++ claim sort key role ∷ back) other k
  claimed_alike [] other k = refl
  claimed_alike (x ∷ front) other k =
      ap (λ b. (is_sort x.sort other && x.key == k) || b) (claimed_alike front other k)

  differ_alike : (front : List Claim) → ClaimsDiffer (front ++ claim sort key role ∷ back)
      → ClaimsDiffer (front ++ claim sort key now ∷ back)
  differ_alike [] differ = differ
  differ_alike (x ∷ front) differ =
      (claimed_alike front x.sort x.key ∙ differ.0, differ_alike front differ.1)

module _ (sort : ItemSort) (t : SeatSeen) (was : Seen) (c : ChainsSeen)
    (found : look_in c sort t.key ≡ Some was) (front back : List Claim) (role now : Role)
    (map_role : has_map_kind role ≡ true) (map_now : has_map_kind now ≡ true)
    (plays : Plays now t.seen) (kind : is_map t.seen.kind ≡ is_map was.kind) where
  abbrev d : ChainsSeen
  d = reseated sort t c

  abbrev before : List Claim
  before = front ++ claim sort t.key role ∷ back

  abbrev after : List Claim
  after = front ++ claim sort t.key now ∷ back

  others_sit : AreSeated before c → AllOf (SitsIn d) (front ++ back)
  others_sit seated =
      all_so (λ x. IsElsewhere sort t.key x × SitsIn c x) (SitsIn d)
      (λ x both. subst (Sits x.role) (sym (look_elsewhere sort t was c found x both.0)) both.1)
      (front ++ back)
      (all_and (IsElsewhere sort t.key) (SitsIn c) (front ++ back)
      (apart_all front (claim sort t.key role) back seated.claims_differ)
      (all_both (SitsIn c) front back
      (all_left (SitsIn c) front (claim sort t.key role ∷ back) seated.there)
      (all_right (SitsIn c) front (claim sort t.key role ∷ back) seated.there).1))

  -- a map of another role in the place of one
  pub seats_reroled : AreSeated before c → AreSeated after d
  seats_reroled seated = record {
    there = all_both (SitsIn d) front (claim sort t.key now ∷ back)
        (all_left (SitsIn d) front back (others_sit seated)) (
          subst (Sits now) (sym (look_put sort t was c found)) plays,
          all_right (SitsIn d) front back (others_sit seated),
        );
    no_other = λ other. subst (AllOf (λ key. is_claimed after other key ≡ true))
        (sym (keys_stay sort t was c found other))
        (all_so (λ key. is_claimed before other key ≡ true)
        (λ key. is_claimed after other key ≡ true)
        (λ key is. claimed_alike sort t.key role now back front other key ∙ is)
        (keys_in other c) (seated.no_other other));
    claims_differ = differ_alike sort t.key role now back front seated.claims_differ;
    keys_differ = λ other.
        subst Differ (sym (keys_stay sort t was c found other)) (seated.keys_differ other);
    in_order = λ other.
        guards_stay sort t was c found kind other
        ∙ seated.in_order other
        ∙ claim_passed other front (claim sort t.key role) back
        (no_guard_of other (claim sort t.key role) map_role)
        ∙ sym (claim_passed other front (claim sort t.key now) back
        (no_guard_of other (claim sort t.key now) map_now));
    none_left = λ other.
        left_stays sort other (put_seat t (seats_in sort c)) c ∙ seated.none_left other;
  }
