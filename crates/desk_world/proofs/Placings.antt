-- An item is placed anew in each kept view, one after another.
use Rattle.std.proofs.Common.{◌≡◌, ℕ, List, [], ◌∷◌, ◌++◌, map, refl, sym, ap}
use Rattle.std.proofs.Common.{subst, Some, is_some, not, Bool, ◌∙◌}
use Rattle.std.specs.List.{flat_map}
use Rattle.std.specs.Option.{option_map_or}
use Rattle.std.proofs.lemmas.List.{append_assoc}
use Rattle.base_items.specs.declared.items.ItemSort.{ItemSort}
use Rattle.base_items.specs.declared.items.ItemSort.TheVariants as sorts
use Rattle.plain_digraph.specs.Lists.{AllOf}
use Rattle.observe_core.specs.Held.{making_of}
use Rattle.observe_core.specs.Held as held
use Rattle.observe_core.specs.Seen.{Seen}
use Rattle.plain_world.specs.Tables.{Named}
use Rattle.kept_views.specs.declared.items.Marks.{Marks}
use Rattle.desk_seats.specs.Contents.{role_held, all_held}
use Rattle.desk_world.specs.declared.tables.KeptKeys.{KeptKeys}
use Rattle.desk_world.specs.declared.tables.KeptMaps.{KeptMaps}
use Rattle.desk_world.specs.declared.tables.ViewRow.{ViewRow}
use Rattle.desk_world.specs.declared.world.World.{World}
use Rattle.desk_world.specs.Claims as claims
use Rattle.desk_world.specs.Claims.{Claim, ClaimsDiffer, Plays, claims_of, own_claims}
use Rattle.desk_world.specs.Claims.{map_claim, guard_claim, snap_claims, view_claims, kept_claims}
use Rattle.desk_world.specs.Placing.{own_key, own_role}
use Rattle.desk_world.specs.Placing.{marked_with}
use Rattle.desk_world.proofs.Claimed.{apart_all}
use Rattle.desk_world.proofs.KeptFollowed.{as_kept}
use Rattle.desk_world.proofs.Seated.{all_left, all_right}
use Rattle.desk_world.proofs.Written.{IsElsewhere}

-- ---- the claims of views, in the midst of all others

pub seats_apart : (front back : List (Named ViewRow)) → flat_map view_claims (front ++ back)
    ≡ flat_map view_claims front ++ flat_map view_claims back
seats_apart [] back = refl
seats_apart (e ∷ front) back =
    ap (λ list. view_claims e ++ list) (seats_apart front back)
    ∙ sym (append_assoc (view_claims e) (flat_map view_claims front) (flat_map view_claims back))

module _ {O : Type 0} (w : World O) where
  abbrev node_maps : List Claim
  node_maps = map (map_claim sorts.Node) w.nodes.maps.rows

  abbrev arc_maps : List Claim
  arc_maps = map (map_claim sorts.Arc) w.arcs.maps.rows

  -- those that stand before the views, and those behind
  abbrev pub before_views : List Claim
  before_views = own_claims sorts.Node w.nodes ++ (own_claims sorts.Arc w.arcs
      ++ (node_maps ++ arc_maps))

  abbrev pub behind_views : List Claim
  behind_views = map guard_claim w.guards.rows ++ flat_map snap_claims w.snapshots.rows

  pub claims_around : claims_of w
      ≡ before_views ++ (flat_map view_claims w.views.rows ++ behind_views)
  claims_around =
      ap (λ list. own_claims sorts.Node w.nodes ++ (own_claims sorts.Arc w.arcs ++ list))
      (sym (append_assoc node_maps arc_maps (flat_map view_claims w.views.rows ++ behind_views)))

  -- a row in the midst
  pub claims_midst : (done : List (Named ViewRow)) (e : Named ViewRow)
      (rest : List (Named ViewRow)) → w.views.rows ≡ done ++ e ∷ rest
      → claims_of w ≡ (before_views ++ flat_map view_claims done)
      ++ (view_claims e ++ (flat_map view_claims rest ++ behind_views))
  claims_midst done e rest is =
      let front = flat_map view_claims done in
      let back = flat_map view_claims rest in
      claims_around
      ∙ ap (λ list. before_views ++ (list ++ behind_views))
      (ap (flat_map view_claims) is ∙ seats_apart done (e ∷ rest))
      ∙ ap (λ list. before_views ++ list) (append_assoc front (view_claims e ++ back) behind_views
      ∙ ap (λ list. front ++ list) (append_assoc (view_claims e) back behind_views))
      ∙ sym (append_assoc before_views front (view_claims e ++ (back ++ behind_views)))

  -- what holds of the claims around the views holds of those of each kind
  pub nodes_before : (P : Claim → Type 0) → AllOf P before_views → AllOf P node_maps
  nodes_before P all = all_left P node_maps arc_maps all.1.1.1.1

  pub arcs_before : (P : Claim → Type 0) → AllOf P before_views → AllOf P arc_maps
  arcs_before P all = all_right P node_maps arc_maps all.1.1.1.1

-- ---- a seat of a view is written to

-- who holds all claims but that of one seat of the row
pub record AroundSeat (P : Claim → Type 0) {O : Type 0} (w : World O)
    (done rest : List (Named ViewRow)) (other : Claim) : Type 0 where
  pub before : AllOf P (before_views w)
  pub behind : AllOf P (behind_views w)
  pub front : AllOf P (flat_map view_claims done)
  pub back : AllOf P (flat_map view_claims rest)
  pub own : P other

module _ {O : Type 0} (w : World O) (done : List (Named ViewRow)) (e : Named ViewRow)
    (rest : List (Named ViewRow)) (is : w.views.rows ≡ done ++ e ∷ rest) (keys : KeptKeys)
    (kept : e.value.kept ≡ Some keys) (differ : ClaimsDiffer (claims_of w)) where
  abbrev node_seat : Claim
  node_seat = claims.claim sorts.Node keys.nodes.0 (own_role sorts.Node keys.maps)

  abbrev arc_seat : Claim
  arc_seat = claims.claim sorts.Arc keys.arcs.0 (own_role sorts.Arc keys.maps)

  abbrev front_claims : List Claim
  front_claims = before_views w ++ flat_map view_claims done

  abbrev back_claims : List Claim
  back_claims = flat_map view_claims rest ++ behind_views w

  two_seats : claims_of w ≡ front_claims ++ node_seat ∷ arc_seat ∷ back_claims
  two_seats =
      claims_midst w done e rest is
      ∙ ap (λ o. front_claims ++ (option_map_or kept_claims o [] ++ back_claims)) kept

  abbrev pub other_seat : ItemSort → Claim
  other_seat sorts.Node = arc_seat
  other_seat sorts.Arc = node_seat

  pub around : (sort : ItemSort) → AroundSeat (IsElsewhere sort (own_key sort keys).0) w done rest
      (other_seat sort)
  around sorts.Node =
      let P = IsElsewhere sorts.Node keys.nodes.0 in
      let all = apart_all front_claims node_seat (arc_seat ∷ back_claims)
      (subst ClaimsDiffer two_seats differ) in
      let front = all_left P front_claims (arc_seat ∷ back_claims) all in
      let back = all_right P front_claims (arc_seat ∷ back_claims) all in
      record {
        before = all_left P (before_views w) (flat_map view_claims done) front;
        behind = all_right P (flat_map view_claims rest) (behind_views w) back.1;
        front = all_right P (before_views w) (flat_map view_claims done) front;
        back = all_left P (flat_map view_claims rest) (behind_views w) back.1;
        own = back.0;
      }
  around sorts.Arc =
      let P = IsElsewhere sorts.Arc keys.arcs.0 in
      let ahead = front_claims ++ node_seat ∷ [] in
      let all = apart_all ahead arc_seat back_claims
      (subst ClaimsDiffer (two_seats
      ∙ sym (append_assoc front_claims (node_seat ∷ []) (arc_seat ∷ back_claims))) differ) in
      let front = all_left P ahead back_claims all in
      let two = all_left P front_claims (node_seat ∷ []) front in
      let back = all_right P ahead back_claims all in
      record {
        before = all_left P (before_views w) (flat_map view_claims done) two;
        behind = all_right P (flat_map view_claims rest) (behind_views w) back;
        front = all_right P (before_views w) (flat_map view_claims done) two;
        back = all_left P (flat_map view_claims rest) (behind_views w) back;
        own = (all_right P front_claims (node_seat ∷ []) front).0;
      }

-- marks are all that is written
pub marked_made : (sort : ItemSort) (m : KeptMaps) (id : ℕ) (marked : Marks) (s : Seen)
    → Plays (own_role sort m) s → making_of (marked_with id marked s) ≡ making_of s.held
marked_made sort m id marked s plays = by sort plays
  where
    of : (role : held.KeptRole) (all : Bool) → making_of s.held ≡ held.OfKept role all
        → making_of (marked_with id marked s) ≡ making_of s.held
    of role all made =
        let kept = as_kept role all s.held made in
        (λ i. held.OfKept (role_held (kept.is i)) (all_held (kept.is i)))
        ∙ sym made

    by : (x : ItemSort) → Plays (own_role x m) s
        → making_of (marked_with id marked s) ≡ making_of s.held
    by sorts.Node plays = of held.KeptNodes (not (is_some m.node_filter)) plays.making
    by sorts.Arc plays = of (held.KeptArcs m.shape) (not (is_some m.arc_filter)) plays.making
