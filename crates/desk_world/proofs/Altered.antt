-- A world whose digraph took all steps of an alteration, at some of which guards may have left.
use Rattle.std.proofs.Common.{◌≡◌, ℕ, ◌≤◌, Bool, true, false, cond, List, [], ◌∷◌, Option, map}
use Rattle.std.proofs.Common.{Some, None, refl, sym, ◌∙◌, subst, arith}
use Rattle.std.specs.Prelude.{fold, ◌==◌, ◌<◌, All, option_map}
use Rattle.std.specs.List.{cons_option}
use Rattle.std.proofs.lemmas.List.Elements.{All-head, All-tail}
use Rattle.std.proofs.lemmas.Option.{none-some, same_Some}
use Rattle.base_items.specs.declared.items.ItemSort.{ItemSort}
use Rattle.base_items.specs.declared.items.ItemSort.TheVariants as sorts
use Rattle.plain_digraph.specs.Lists.{AllOf}
use Rattle.plain_digraph.specs.PlainSteps.{PlainStep, after_steps}
use Rattle.plain_digraph.specs.Valid.{IsValid}
use Rattle.observe_core.specs.Seen.{Seen, Watched}
use Rattle.observe_core.specs.declared.kinds.Kind.{Kind}
use Rattle.observe_core.specs.declared.kinds.Kind.TheVariants as kinds
use Rattle.notify_chain.specs.Seats.{SeatSeen, Each, Became}
use Rattle.alter_graph.specs.Chains.{ChainsSeen, chain_in, seats_in, IsSameChains}
use Rattle.alter_graph.specs.State.{State, AlterOf, state_of}
use Rattle.alter_graph.specs.Steps.{altered}
use Rattle.alter_graph.specs.Outcome.{Goes}
use Rattle.alter_graph.proofs.Parting.{graph_on}
use Rattle.alter_graph.proofs.Sameness.{same_seats}
use Rattle.alter_graph.proofs.Taking.{steady_in}
use Rattle.plain_world.specs.Tables.{Named, under}
use Rattle.plain_world.specs.World as plain
use Rattle.plain_world.specs.Following.{follow}
use Rattle.plain_world.specs.Valid.{IsWorld, IsGuard, HasLeft}
use Rattle.desk_world.specs.declared.tables.GuardRow.{GuardRow}
use Rattle.desk_world.specs.declared.world.World.{World}
use Rattle.desk_world.specs.Claims.{claims_of}
use Rattle.desk_world.specs.Derived.{AreDerived}
use Rattle.desk_world.specs.KeptViews.{AreKept}
use Rattle.desk_world.specs.Entries.{room_for_labels}
use Rattle.desk_world.specs.InStep.{AreInStep, AreSeated}
use Rattle.desk_world.specs.Leaving.{AreAltered, still_claimed, with_none_left}
use Rattle.desk_world.specs.Looks.{Look, look_in, looked, room_at}
use Rattle.desk_world.specs.Plain.{plain_of, guard_seen, guard_by, word_of, tables_of, world_seen}
use Rattle.desk_world.specs.Plain.{kinds_of}
use Rattle.desk_world.proofs.Carried.{Carries, AreCharged, stood_in_step, all_carry, all_follow}
use Rattle.desk_world.proofs.Carried.{all_roomy}
use Rattle.desk_world.proofs.Guarded.{IsCharged}
use Rattle.desk_world.proofs.Remaining.{still_by}
use Rattle.desk_world.proofs.SnapTables.{snaps_altered}
use Rattle.desk_world.proofs.StillClaimed.{all_kept, each_still, remain_all, remain_alike}
use Rattle.desk_world.proofs.StillClaimed.{look_alike, still_seated}
use Rattle.desk_world.proofs.Takes.{TakesAll}
use Rattle.desk_world.proofs.SnapsFollow.{snapshots_on, snapshots_follow, halves_sit, halves_still}
use Rattle.desk_world.proofs.Seated.{SitsIn, last_claims}
use Rattle.alter_graph.specs.Snaps.{Follows}
use Rattle.alter_graph.specs.Present.{present_of}
use Rattle.desk_world.specs.Plain.{snapshot_seen}
use Rattle.desk_world.proofs.Remaining.{RemainIn, StillSits}

-- ---- the fuses of a valid world have something left

left_charged : (kind : Kind) (left : ℕ) (guard : plain.Guard) → guard.left ≡ left
    → HasLeft (word_of kind) guard → IsCharged kind left
left_charged kinds.Map left guard is has = tt
left_charged kinds.Quota left guard is has = tt
left_charged kinds.Loopless left guard is has = tt
left_charged kinds.Simple left guard is has = tt
left_charged kinds.OutCap left guard is has = tt
left_charged kinds.Fuse left guard is has = subst (λ n. 0 < n) is has.0
left_charged kinds.Tally left guard is has = tt

module _ (look : Look) (world : plain.World) where
  abbrev AreGuards : List (Named plain.Guard) → Type 0
  AreGuards table = All (λ e. IsGuard world e.value) table

  -- the table of guards where this is seen in the first row
  abbrev with_seen : Named GuardRow → List (Named GuardRow) → Option Seen
      → List (Named plain.Guard)
  with_seen e es o =
      cons_option (option_map (under e.name) (option_map (guard_by e.value.sort) o))
      (looked (guard_seen look) es)

  rows_charged : (table : List (Named GuardRow)) → AreGuards (looked (guard_seen look) table)
      → AllOf (λ e. (was : Seen) → look e.value.sort e.value.key.0 ≡ Some was
      → IsCharged was.kind was.left) table
  rows_charged [] all = tt
  rows_charged (e ∷ es) all = (
    λ was is. here (look e.value.sort e.value.key.0) was is all,
    rows_charged es (rest (look e.value.sort e.value.key.0) all),
  )
    where
      here : (o : Option Seen) (was : Seen) → o ≡ Some was → AreGuards (with_seen e es o)
          → IsCharged was.kind was.left
      here None was is all = absurd (none-some was is)
      here (Some s) was is all =
          let guard = All-head (λ (x : Named plain.Guard). IsGuard world x.value)
          (under e.name (guard_by e.value.sort s)) (looked (guard_seen look) es) all in
          subst (λ (x : Seen). IsCharged x.kind x.left) (same_Some s was is)
          (left_charged s.kind s.left (guard_by e.value.sort s) refl guard.has_left)

      rest : (o : Option Seen) → AreGuards (with_seen e es o)
          → AreGuards (looked (guard_seen look) es)
      rest None all = all
      rest (Some s) all =
          All-tail (λ (x : Named plain.Guard). IsGuard world x.value)
          (under e.name (guard_by e.value.sort s)) (looked (guard_seen look) es) all

-- ---- keys to be taken, and room

pub left_alike : (c d : ChainsSeen) (sort : ItemSort) → IsSameChains c d
    → (chain_in sort d).left ≡ (chain_in sort c).left
left_alike c d sorts.Node same = same.nodes.left
left_alike c d sorts.Arc same = same.arcs.left

room_alike : (key : ℕ) (xs ys : List SeatSeen) → Each (Became (λ s. s)) xs ys
    → room_at key xs ≤ room_at key ys
room_alike key [] [] each = omega arith
room_alike key [] (y ∷ ys) each = absurd each
room_alike key (x ∷ xs) [] each = absurd each
room_alike key (x ∷ xs) (y ∷ ys) each =
    subst (λ k. cond (x.key == key) x.room (room_at key xs)
    ≤ cond (k == key) y.room (room_at key ys)) (sym each.0.key)
    (of (x.key == key) (room_alike key xs ys each.1))
  where
    of : (b : Bool) → room_at key xs ≤ room_at key ys
        → cond b x.room (room_at key xs) ≤ cond b y.room (room_at key ys)
    of true rest = each.0.room
    of false rest = rest

-- ---- the world

module _ {O : Type 0} (watch : O → Watched) (w : World O) (in_step : AreInStep watch w) where
  abbrev s : State
  s = state_of watch w.graph

  pub carries_in_step : Carries w s
  carries_in_step = record {
    valid = in_step.graph.valid;
    stood = stood_in_step s in_step.graph (λ sort. steady_in watch sort w.graph.chains);
    remain = remain_all (claims_of w) s.chains in_step.seated;
    derived = in_step.derived;
    kept = in_step.kept;
    all_there = λ none. each_still (claims_of w) s.chains in_step.seated.there;
  }

  charged_valid : IsWorld (plain_of watch w) → AreCharged w s
  charged_valid valid =
      rows_charged (look_in s.chains) (plain_of watch w) w.guards.rows valid.guards_ok

-- ---- a state after all steps

module _ {O : Type 0} (watch : O → Watched) (w : World O) (t : State) (steps : List PlainStep)
    (in_step : AreInStep watch w) (goes : Goes steps (state_of watch w.graph) t)
    (takes : TakesAll steps w.graph.graph.graph) where
  abbrev last : State
  last = altered steps (state_of watch w.graph)

  carried : Carries w last
  carried = all_carry w steps (state_of watch w.graph) (carries_in_step watch w in_step) takes

  looks_on : look_in t.chains ≡ look_in last.chains
  looks_on = look_alike (claims_of w) last.chains t.chains goes.took.chains

  remain_on : RemainIn (claims_of w) t.chains
  remain_on = remain_alike (claims_of w) last.chains t.chains goes.took.chains carried.remain

  pub seated_on : AreSeated (still_claimed t.chains (claims_of w)) (with_none_left t.chains)
  seated_on = still_seated (claims_of w) t.chains remain_on

  pub snaps_on : t.chains.snaps ≡ map (λ e. e.value) w.snapshots.rows
  snaps_on =
      goes.took.chains.snaps ∙ snaps_altered steps (state_of watch w.graph) ∙ in_step.snaps

  pub derived_on : AreDerived (look_in t.chains) w.nodes w.arcs w.attributes.rows
  derived_on =
      subst (λ look. AreDerived look w.nodes w.arcs w.attributes.rows) (sym looks_on)
      carried.derived

  pub kept_on : AreKept (look_in t.chains) w.nodes w.arcs w.views.rows
  kept_on =
      subst (λ look. AreKept look w.nodes w.arcs w.views.rows) (sym looks_on) carried.kept

  -- where no key of a guard that left is to be taken, none has left
  pub still_on : ((sort : ItemSort) → (chain_in sort t.chains).left ≡ [])
      → AllOf (λ x. still_by (look_in t.chains) x ≡ true) (claims_of w)
  still_on none =
      subst (λ look. AllOf (λ x. still_by look x ≡ true) (claims_of w)) (sym looks_on)
      (carried.all_there
      (λ sort. sym (left_alike last.chains t.chains sort goes.took.chains) ∙ none sort))

  -- a fuse of a valid world has something left
  pub follows_on : IsWorld (plain_of watch w)
      → world_seen t.graph (look_in t.chains) (kinds_of watch w.pool.items) w
      ≡ fold follow (plain_of watch w) steps
  follows_on valid =
      let g : t.graph ≡ last.graph = goes.took.graph in
      let s = state_of watch w.graph in
      let pool = kinds_of watch w.pool.items in
      let table = looked (snapshot_seen s.graph (look_in s.chains)) w.snapshots.rows in
      let shown = snapshots_follow steps s.graph t.graph s.chains t.chains w.snapshots.rows
      (halves_sit s.chains w.snapshots.rows (last_claims (SitsIn s.chains) w in_step.seated.there))
      (halves_still (look_in t.chains) w.snapshots.rows
      (last_claims (StillSits (look_in t.chains)) w remain_on.there))
      (subst (AllOf (Follows steps (present_of s.graph) s.chains (present_of t.graph) t.chains))
      in_step.snaps goes.snaps.each) in
      (λ i. record (world_seen t.graph (look_in t.chains) pool w) { snapshots = shown i })
      ∙ (λ i. record (world_seen (g i) (looks_on i) pool w) {
        snapshots = snapshots_on steps s.graph table;
      })
      ∙ all_follow w steps s pool table
      (carries_in_step watch w in_step) (charged_valid watch w in_step valid) takes

-- ---- a world

module _ {O : Type 0} (watch : O → Watched) (w : World O) (a : AlterOf O) (steps : List PlainStep)
    (in_step : AreInStep watch w)
    (goes : Goes steps (state_of watch w.graph) (state_of watch a)) where
  abbrev t : State
  t = state_of watch a

  -- the digraph after the steps is valid, which the steps of an alteration need
  pub valid_then : IsValid (after_steps w.graph.graph.graph steps)
  valid_then =
      subst IsValid (graph_on steps (state_of watch w.graph) t goes.took) goes.in_step.valid

  module _ (takes : TakesAll steps w.graph.graph.graph) where
    pub altered_in_step : AreAltered watch (record w { graph = a })
    altered_in_step = record {
      graph = goes.in_step;
      seated = seated_on watch w t steps in_step goes takes;
      boxes = in_step.boxes;
      snaps = snaps_on watch w t steps in_step goes takes;
      derived = derived_on watch w t steps in_step goes takes;
      kept = kept_on watch w t steps in_step goes takes;
      all_there = λ none. all_kept (still_by (look_in t.chains)) (claims_of w)
          (still_on watch w t steps in_step goes takes none);
    }

    pub altered_follows : IsWorld (plain_of watch w)
        → plain_of watch (record w { graph = a }) ≡ fold follow (plain_of watch w) steps
    altered_follows valid = follows_on watch w t steps in_step goes takes valid

    pub altered_room : (sort : ItemSort) → room_for_labels watch w sort
        ≤ room_for_labels watch (record w { graph = a }) sort
    altered_room sort =
        let key = (tables_of w sort).labels.0 in
        let last : State = altered steps (state_of watch w.graph) in
        let same = all_roomy w steps (state_of watch w.graph) (carries_in_step watch w in_step)
        takes sort in
        subst (λ room. room ≤ room_for_labels watch (record w { graph = a }) sort) same
        (subst (λ (k : ℕ). room_at key (seats_in sort last.chains)
        ≤ room_at k (seats_in sort t.chains))
        (of sort)
        (room_alike key (seats_in sort last.chains) (seats_in sort t.chains)
        (same_seats sort last.chains t.chains goes.took.chains)))
      where
        of : (sort : ItemSort) → (tables_of w sort).labels.0
            ≡ (tables_of (record w { graph = a }) sort).labels.0
        of sorts.Node = refl
        of sorts.Arc = refl
