-- What carries over from step to step of an alteration.
use Rattle.std.proofs.Common.{◌≡◌, ℕ, Bool, true, false, cond, List, [], ◌∷◌, ◌++◌, map, Option}
use Rattle.std.proofs.Common.{Some, None, refl, sym, ap, ◌∙◌, subst, is_some}
use Rattle.std.specs.Prelude.{fold, ◌||◌, ◌==◌, option_and_then}
use Rattle.std.specs.List.{flat_map}
use Rattle.std.proofs.lemmas.Bool.{true≢false}
use Rattle.std.proofs.lemmas.Option.{none-some, same_Some}
use Rattle.base_items.specs.declared.items.Fact.{Fact}
use Rattle.base_items.specs.declared.items.ItemSort.{ItemSort}
use Rattle.base_items.specs.declared.items.ItemSort.TheVariants as sorts
use Rattle.script_words.specs.declared.commands.GuardWord.{GuardWord}
use Rattle.plain_digraph.specs.Lists.{AllOf}
use Rattle.plain_digraph.specs.Items.{facts}
use Rattle.plain_digraph.specs.PlainSteps.{PlainStep, sort_of, after_step}
use Rattle.plain_digraph.specs.Valid.{IsValid}
use Rattle.observe_core.specs.Fits.{Fits}
use Rattle.observe_core.specs.Seen.{Seen, IsSound}
use Rattle.notify_chain.specs.Seats.{SeatSeen, AllSeats, Steady}
use Rattle.alter_graph.specs.Chains.{ChainsSeen, chain_in, seats_in}
use Rattle.alter_graph.specs.Present.{present_of, facts_in}
use Rattle.alter_graph.specs.State as graph
use Rattle.alter_graph.specs.State.{State, Stands}
use Rattle.alter_graph.specs.Steps.{Notice, Tells, Loses, notice_of, took, altered, CanTake}
use Rattle.alter_graph.proofs.Telling.{CanHear, can_hear, present_next, next}
use Rattle.plain_world.specs.Tables.{Named}
use Rattle.plain_world.specs.World as plain
use Rattle.plain_world.specs.Following.{follow}
use Rattle.desk_world.specs.declared.tables.GuardRow.{GuardRow}
use Rattle.desk_world.specs.declared.tables.MapRow.{MapRow}
use Rattle.desk_world.specs.declared.world.World.{World}
use Rattle.desk_world.specs.Claims as claims
use Rattle.desk_world.specs.Claims.{Claim, Role, Plays, Sits, claims_of, guard_claim, map_claim}
use Rattle.desk_world.specs.Claims.{snap_claims, view_claims, role_of, has_map_kind}
use Rattle.desk_world.specs.Derived.{AreDerived}
use Rattle.desk_world.specs.KeptViews.{AreKept}
use Rattle.desk_world.specs.Looks.{Look, look_in, seen_at, room_at}
use Rattle.desk_world.specs.Plain.{seat_sort, tables_of, world_seen}
use Rattle.desk_world.proofs.FollowedStep.{AreStood, look_hears, world_follows}
use Rattle.desk_world.proofs.GuardOrder.{map_role}
use Rattle.desk_world.proofs.Guarded.{IsCharged, CanBurn}
use Rattle.desk_world.proofs.Heard.{room_by, seats_by}
use Rattle.desk_world.proofs.Hearing.{hears_in, seats_hear, made_hear, maps_hear, stood_hear}
use Rattle.desk_world.proofs.Hearing.{facts_sort, charged_hear, none_left_stay}
use Rattle.desk_world.proofs.Remaining.{RemainIn, StillSits, remain_on, before, still_by}
use Rattle.desk_world.proofs.Seated.{all_left, all_right, all_so}
use Rattle.desk_world.proofs.KeptStep.{kept_then}
use Rattle.desk_world.proofs.StillDerived.{derived_then}
use Rattle.desk_world.proofs.Stood.{Stood, stood_of_fits}
use Rattle.desk_world.proofs.Takes.{TakesAll}
use Rattle.plain_digraph.specs.Copies.{Copy}
use Rattle.plain_world.specs.Tables.{under}
use Rattle.plain_world.specs.Following.{snapshot_after}
use Rattle.desk_world.proofs.SnapsFollow.{snapshots_on}

-- ---- what each observer stands for

-- what is so of each seat's observer is so of what is seen under a key
seen_so : (P : SeatSeen → Type 0) (Q : Seen → Type 0) → ((t : SeatSeen) → P t → Q t.seen)
    → (key : ℕ) (ss : List SeatSeen) (s : Seen) → AllSeats P ss → seen_at key ss ≡ Some s → Q s
seen_so P Q so key [] s all at = absurd (none-some s at)
seen_so P Q so key (t ∷ ss) s all at =
    let rest = seen_so P Q so key ss s all.1 in
    elim (t.key == key) as (λ b. cond b (Some t.seen) (seen_at key ss) ≡ Some s → Q s) [
      | true ↦ λ h. subst Q (same_Some t.seen s h) (so t all.0)
      | false ↦ λ h. rest h
    ] at

pub seen_fits : (stamps : ℕ) (live : List Fact) (key : ℕ) (ss : List SeatSeen) (s : Seen)
    → AllSeats (Stands stamps live) ss → seen_at key ss ≡ Some s → Fits s live
seen_fits stamps live =
    seen_so (Stands stamps live) (λ s. Fits s live) (λ t stands. stands.fits)

-- what is seen under a key is sound
pub seen_sound : (key : ℕ) (ss : List SeatSeen) (s : Seen) → AllSeats Steady ss
    → seen_at key ss ≡ Some s → IsSound s
seen_sound = seen_so Steady IsSound (λ t steady. steady.0)

pub stood_in_step : (s : State) → graph.IsInStep s
    → ((sort : ItemSort) → AllSeats Steady (seats_in sort s.chains)) → AreStood s
stood_in_step s at steady sorts.Node key was is =
    stood_of_fits (facts s.graph sorts.Node) was
    (seen_fits s.graph.stamps (facts s.graph sorts.Node) key s.chains.nodes.seats was
    at.seats.nodes is)
    (seen_sound key s.chains.nodes.seats was (steady sorts.Node) is).held
stood_in_step s at steady sorts.Arc key was is =
    stood_of_fits (facts s.graph sorts.Arc) was
    (seen_fits s.graph.stamps (facts s.graph sorts.Arc) key s.chains.arcs.seats was
    at.seats.arcs is)
    (seen_sound key s.chains.arcs.seats was (steady sorts.Arc) is).held

-- ---- what is known of the rows of the tables

module _ (look : Look) where
  maps_still : (sort : ItemSort) (table : List (Named MapRow))
      → AllOf (StillSits look) (map (map_claim sort) table)
      → AllOf (λ e. Sits (role_of e.value.kind)
      (look (seat_sort sort e.value.kind) e.value.key.0)) table
  maps_still sort [] all = tt
  maps_still sort (e ∷ es) all = (
    all.0 (ap (λ m. m || is_some (look (seat_sort sort e.value.kind) e.value.key.0))
        (map_role e.value.kind)),
    maps_still sort es all.1,
  )

  -- a guard that is there may burn
  abbrev BurnsFor : Notice → GuardRow → Type 0
  BurnsFor n row = (was : Seen) → look row.sort row.key.0 ≡ Some was
      → Plays claims.Guard was × CanBurn n was

  abbrev pub MayBurn : Notice → GuardRow → Type 0
  MayBurn n row = (was : Seen) → look row.sort row.key.0 ≡ Some was → CanBurn n was

  guards_still : (n : Notice) (table : List (Named GuardRow))
      → AllOf (StillSits look) (map guard_claim table)
      → AllOf (λ e. MayBurn n e.value) table → AllOf (λ e. BurnsFor n e.value) table
  guards_still n [] all burn = tt
  guards_still n (e ∷ es) all burn = (
    λ was is. (subst (Sits claims.Guard) is (all.0 (ap is_some is)), burn.0 was is),
    guards_still n es all.1 burn.1,
  )

-- ---- the state of a world in the middle of an alteration

module _ {O : Type 0} (w : World O) where
  abbrev node_claims : List Claim
  node_claims = map (map_claim sorts.Node) w.nodes.maps.rows

  abbrev arc_claims : List Claim
  arc_claims = map (map_claim sorts.Arc) w.arcs.maps.rows

  abbrev guard_claims : List Claim
  guard_claims = map guard_claim w.guards.rows

  abbrev snapshot_claims : List Claim
  snapshot_claims = flat_map snap_claims w.snapshots.rows

  abbrev kept_seats : List Claim
  kept_seats = flat_map view_claims w.views.rows

  abbrev behind_maps : List Claim
  behind_maps = kept_seats ++ (guard_claims ++ snapshot_claims)

  -- no key of an observer that left is to be taken
  abbrev pub HaveNoneLeft : ChainsSeen → Type 0
  HaveNoneLeft c = (sort : ItemSort) → (chain_in sort c).left ≡ []

  -- the digraph is valid, each observer stands for its items, the seats are those of the tables,
  -- of which some guards may have left, indexes and ties are those of the maps and the attributes,
  -- and kept views are placed by the present values
  pub record Carries (s : State) : Type 0 where
    pub valid : IsValid s.graph
    pub stood : AreStood s
    pub remain : RemainIn (claims_of w) s.chains
    pub derived : AreDerived (look_in s.chains) w.nodes w.arcs w.attributes.rows
    pub kept : AreKept (look_in s.chains) w.nodes w.arcs w.views.rows
    pub all_there : HaveNoneLeft s.chains
        → AllOf (λ x. still_by (look_in s.chains) x ≡ true) (claims_of w)

  -- each fuse that is there has something left
  abbrev pub AreCharged : State → Type 0
  AreCharged s = AllOf (λ e. (was : Seen)
      → look_in s.chains e.value.sort e.value.key.0 ≡ Some was → IsCharged was.kind was.left)
      w.guards.rows

  -- ---- one step

  module _ (step : PlainStep) (s : State) (carries : Carries s) (can : CanTake step s.graph)
      (then_valid : IsValid (after_step s.graph step)) where
    abbrev n : Notice
    n = notice_of step s.graph

    abbrev d : ChainsSeen
    d = (took step s).chains

    -- what is there after the step was there before, and heard of it
    came : (sort : ItemSort) (key : ℕ) (later : Seen) → look_in d sort key ≡ Some later
        → (was : Seen) × (look_in s.chains sort key ≡ Some was)
        × (hears_in (sort_of step) sort n was ≡ Some later)
    came sort key later is =
        let b = before s.chains d (λ sort. hears_in (sort_of step) sort n)
        (seats_hear (sort_of step) n s.chains) (made_hear (sort_of step) n)
        (maps_hear (sort_of step) n) carries.remain.keys_differ sort key later is in
        (b.was, b.seen, b.hears)

    facts_then : (sort : ItemSort) → facts_in sort (next (sort_of step) n (present_of s.graph))
        ≡ facts (after_step s.graph step) sort
    facts_then sort =
        sym (ap (facts_in sort) (present_next step s.graph carries.valid can))
        ∙ facts_sort sort (after_step s.graph step)

    still_then : HaveNoneLeft d → (x : Claim) → still_by (look_in s.chains) x ≡ true
        → still_by (look_in d) x ≡ true
    still_then none x still =
        ap (λ o. has_map_kind x.role || is_some o)
        (look_hears step s carries.valid can then_valid carries.stood carries.remain.keys_differ
        x.sort x.key)
        ∙ of (has_map_kind x.role) (look_in s.chains x.sort x.key) refl still
      where
        of : (m : Bool) (o : Option Seen) → look_in s.chains x.sort x.key ≡ o
            → (m || is_some o) ≡ true
            → (m || is_some (option_and_then (hears_in (sort_of step) x.sort n) o)) ≡ true
        of true o is still = refl
        of false None is still = still
        of false (Some was) is still =
            (none_left_stay (sort_of step) n s.chains x.sort (none x.sort)).stay x.key was is

    -- who sits in the seats of the tables
    ties_sit : (sort : ItemSort)
        → Sits claims.Ties (look_in s.chains sort (tables_of w sort).ties.0)
    ties_sit sorts.Node = carries.remain.there.1.0 refl
    ties_sit sorts.Arc = carries.remain.there.1.1.1.0 refl

    abbrev MapsSit : ItemSort → List (Named MapRow) → Type 0
    MapsSit sort table = AllOf (λ e. Sits (role_of e.value.kind)
        (look_in s.chains (seat_sort sort e.value.kind) e.value.key.0)) table

    node_maps_sit : MapsSit sorts.Node w.nodes.maps.rows
    node_maps_sit =
        maps_still (look_in s.chains) sorts.Node w.nodes.maps.rows
        (all_left (StillSits (look_in s.chains)) node_claims
        (arc_claims ++ behind_maps) carries.remain.there.1.1.1.1)

    rows_there : AllOf (StillSits (look_in s.chains)) (arc_claims ++ behind_maps)
    rows_there =
        all_right (StillSits (look_in s.chains)) node_claims
        (arc_claims ++ behind_maps) carries.remain.there.1.1.1.1

    behind_there : AllOf (StillSits (look_in s.chains)) behind_maps
    behind_there = all_right (StillSits (look_in s.chains)) arc_claims behind_maps rows_there

    arc_maps_sit : MapsSit sorts.Arc w.arcs.maps.rows
    arc_maps_sit =
        maps_still (look_in s.chains) sorts.Arc w.arcs.maps.rows
        (all_left (StillSits (look_in s.chains)) arc_claims behind_maps rows_there)

    pub carries_on : Carries (took step s)
    carries_on = record {
      valid = then_valid;
      stood = λ sort key later is.
          let b = came sort key later is in
          subst (λ fs. Stood fs later) (facts_then sort)
          (stood_hear (sort_of step) n (present_of s.graph) sort b.0 later
          (subst (CanHear n) (sym (facts_sort (sort_of step) s.graph))
          (can_hear step s.graph carries.valid can then_valid))
          (subst (λ fs. Stood fs b.0) (sym (facts_sort sort s.graph))
          (carries.stood sort key b.0 b.1)) b.2);
      remain = remain_on s.chains d (λ sort. hears_in (sort_of step) sort n)
          (seats_hear (sort_of step) n s.chains) (made_hear (sort_of step) n)
          (maps_hear (sort_of step) n) carries.remain.keys_differ (claims_of w) carries.remain;
      derived = derived_then step s carries.valid can then_valid carries.stood
          carries.remain.keys_differ w.nodes w.arcs w.attributes.rows (ties_sit sorts.Node)
          (ties_sit sorts.Arc) node_maps_sit arc_maps_sit carries.derived;
      kept = kept_then step s carries.valid can then_valid carries.stood
          carries.remain.keys_differ w.nodes w.arcs w.views.rows node_maps_sit arc_maps_sit
          (all_left (StillSits (look_in s.chains)) kept_seats (guard_claims ++ snapshot_claims)
          behind_there) carries.kept;
      all_there = λ none. all_so (λ x. still_by (look_in s.chains) x ≡ true)
          (λ x. still_by (look_in d) x ≡ true) (still_then none) (claims_of w)
          (carries.all_there
          (λ sort. (none_left_stay (sort_of step) n s.chains sort (none sort)).none));
    }

    charged_then : AreCharged s → AreCharged (took step s)
    charged_then charged = rows_then w.guards.rows charged
      where
        rows_then : (table : List (Named GuardRow))
            → AllOf (λ e. (was : Seen) → look_in s.chains e.value.sort e.value.key.0 ≡ Some was
            → IsCharged was.kind was.left) table
            → AllOf (λ e. (was : Seen) → look_in d e.value.sort e.value.key.0 ≡ Some was
            → IsCharged was.kind was.left) table
        rows_then [] all = tt
        rows_then (e ∷ es) all = (
          λ later is.
              let b = came e.value.sort e.value.key.0 later is in
              charged_hear (sort_of step) n e.value.sort b.0 later (all.0 b.0 b.1) b.2,
          rows_then es all.1,
        )

    -- the world that is seen follows the step, whatever table of snapshots stands in it
    pub step_follows : (pool : List GuardWord) (table : List (Named (Option Copy)))
        → AllOf (λ e. MayBurn (look_in s.chains) n e.value) w.guards.rows
        → record (world_seen (after_step s.graph step) (look_in d) pool w) {
          snapshots = map (λ e. under e.name (snapshot_after s.graph step e.value)) table;
        }
        ≡ follow (record (world_seen s.graph (look_in s.chains) pool w) { snapshots = table }) step
    step_follows pool table burn =
        let look = look_in s.chains in
        let there = carries.remain.there in
        let guards = all_right (StillSits look) kept_seats (guard_claims ++ snapshot_claims)
        behind_there in
        world_follows step s carries.valid can then_valid carries.stood
        carries.remain.keys_differ w pool table (there.0 refl) (there.1.1.0 refl) ties_sit
        node_maps_sit arc_maps_sit
        (guards_still look n w.guards.rows
        (all_left (StillSits look) guard_claims snapshot_claims guards) burn)

    -- a map keeps the room that it has
    pub room_then : (role : Role) (sort : ItemSort) (key : ℕ) → has_map_kind role ≡ true
        → Sits role (look_in s.chains sort key)
        → room_at key (seats_in sort d) ≡ room_at key (seats_in sort s.chains)
    room_then role sort key is_map sits =
        ap (room_at key) (seats_hear (sort_of step) n s.chains sort)
        ∙ of (look_in s.chains sort key) refl sits
      where
        stays : (was : Seen) (o : Option Seen) → look_in s.chains sort key ≡ Some was
            → hears_in (sort_of step) sort n was ≡ o → is_some o ≡ true
            → room_at key (seats_by (hears_in (sort_of step) sort n)
            (seats_in sort s.chains))
            ≡ room_at key (seats_in sort s.chains)
        stays was None at hears some = absurd (true≢false (sym some))
        stays was (Some later) at hears some =
            room_by (hears_in (sort_of step) sort n) key (seats_in sort s.chains) was later at hears

        of : (o : Option Seen) → look_in s.chains sort key ≡ o → Sits role o
            → room_at key (seats_by (hears_in (sort_of step) sort n)
            (seats_in sort s.chains))
            ≡ room_at key (seats_in sort s.chains)
        of None at sits = absurd sits
        of (Some was) at sits =
            stays was (hears_in (sort_of step) sort n was) at refl
            (maps_hear (sort_of step) n sort was (sits.kind ∙ is_map))

  -- ---- all steps

  pub all_carry : (steps : List PlainStep) (s : State) → Carries s → TakesAll steps s.graph
      → Carries (altered steps s)
  all_carry [] s carries takes = carries
  all_carry (step ∷ steps) s carries takes =
      all_carry steps (took step s) (carries_on step s carries takes.0 takes.1.0) takes.1.1

  burn_charged : (n : Notice) (look : Look) (table : List (Named GuardRow))
      → AllOf (λ e. (was : Seen) → look e.value.sort e.value.key.0 ≡ Some was
      → IsCharged was.kind was.left) table
      → AllOf (λ e. MayBurn look n e.value) table
  burn_charged n look [] all = tt
  burn_charged (Tells change) look (e ∷ es) all =
      (λ was is. tt, burn_charged (Tells change) look es all.1)
  burn_charged (Loses loss) look (e ∷ es) all = (all.0, burn_charged (Loses loss) look es all.1)

  pub all_follow : (steps : List PlainStep) (s : State) (pool : List GuardWord)
      (table : List (Named (Option Copy))) → Carries s → AreCharged s → TakesAll steps s.graph
      → record (world_seen (altered steps s).graph (look_in (altered steps s).chains) pool w) {
        snapshots = snapshots_on steps s.graph table;
      }
      ≡ fold follow (record (world_seen s.graph (look_in s.chains) pool w) { snapshots = table })
      steps
  all_follow [] s pool table carries charged takes = refl
  all_follow (step ∷ steps) s pool table carries charged takes =
      all_follow steps (took step s) pool
      (map (λ e. under e.name (snapshot_after s.graph step e.value)) table)
      (carries_on step s carries takes.0 takes.1.0)
      (charged_then step s carries takes.0 takes.1.0 charged) takes.1.1
      ∙ ap (λ (x : plain.World). fold follow x steps)
      (step_follows step s carries takes.0 takes.1.0 pool table
      (burn_charged (notice_of step s.graph) (look_in s.chains) w.guards.rows charged))

  -- the labels of the sort keep their room
  labels_there : (s : State) → Carries s → (sort : ItemSort)
      → Sits claims.Labels (look_in s.chains sort (tables_of w sort).labels.0)
  labels_there s carries sorts.Node = carries.remain.there.0 refl
  labels_there s carries sorts.Arc = carries.remain.there.1.1.0 refl

  pub all_roomy : (steps : List PlainStep) (s : State) → Carries s → TakesAll steps s.graph
      → (sort : ItemSort)
      → room_at (tables_of w sort).labels.0 (seats_in sort (altered steps s).chains)
      ≡ room_at (tables_of w sort).labels.0 (seats_in sort s.chains)
  all_roomy [] s carries takes sort = refl
  all_roomy (step ∷ steps) s carries takes sort =
      all_roomy steps (took step s) (carries_on step s carries takes.0 takes.1.0) takes.1.1 sort
      ∙ room_then step s carries takes.0 takes.1.0 claims.Labels sort (tables_of w sort).labels.0
      refl (labels_there s carries sort)
