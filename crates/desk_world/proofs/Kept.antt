-- A world after a step that guards may refuse: all of them are there still.
use Rattle.std.proofs.Common.{◌≡◌, true, List, [], ◌∷◌, refl, sym, ap, subst, ◌∙◌}
use Rattle.std.proofs.Common.{Option, Some, None, is_some}
use Rattle.std.specs.Prelude.{option_and_then}
use Rattle.std.proofs.lemmas.Bool.{true≢false}
use Rattle.base_items.specs.declared.items.ItemSort.{ItemSort}
use Rattle.base_items.specs.declared.items.ItemSort.TheVariants as sorts
use Rattle.plain_digraph.specs.Digraph.{Digraph}
use Rattle.plain_digraph.specs.Lists.{AllOf}
use Rattle.plain_digraph.specs.PlainSteps.{PlainStep, AddNode, AddArc, MoveFrom, MoveTo, Turn}
use Rattle.plain_digraph.specs.PlainSteps.{PlaceBack, EraseArc, EraseNode, ClearArcs, ClearNodes}
use Rattle.plain_digraph.specs.PlainSteps.{is_refusable, sort_of, after_step}
use Rattle.plain_digraph.specs.Valid.{IsValid}
use Rattle.observe_core.specs.declared.changes.Change.{Change}
use Rattle.observe_core.specs.Seen.{Seen, Watched}
use Rattle.alter_graph.specs.Chains.{ChainsSeen, chain_in, in_chain}
use Rattle.alter_graph.specs.State as graph
use Rattle.alter_graph.specs.State.{State, IsSame, AlterOf, state_of}
use Rattle.alter_graph.specs.Steps.{Tells, notice_of, noticed, took, CanTake}
use Rattle.plain_world.specs.Tables.{Named}
use Rattle.plain_world.specs.Following.{follow}
use Rattle.desk_world.specs.declared.tables.GuardRow.{GuardRow}
use Rattle.desk_world.specs.declared.world.World.{World}
use Rattle.desk_world.specs.Claims.{Claim, Sits, Plays, claims_of}
use Rattle.desk_world.specs.Derived.{AreDerived}
use Rattle.desk_world.specs.KeptViews.{AreKept}
use Rattle.desk_world.specs.InStep.{AreInStep}
use Rattle.desk_world.specs.Looks.{Look, look_in}
use Rattle.desk_world.specs.Plain.{plain_of, world_seen, kinds_of}
use Rattle.desk_world.proofs.Altered.{carries_in_step, left_alike}
use Rattle.desk_world.proofs.Carried.{Carries, MayBurn, carries_on, step_follows}
use Rattle.desk_world.proofs.FollowedStep.{look_hears}
use Rattle.desk_world.proofs.Hearing.{hears_in, made_hear}
use Rattle.desk_world.proofs.Remaining.{plays_on}
use Rattle.desk_world.proofs.Seated.{all_so}
use Rattle.desk_world.proofs.SnapTables.{snaps_told}
use Rattle.desk_world.proofs.StillClaimed.{look_alike, remain_alike, seated_all}
use Rattle.desk_world.proofs.SnapsFollow.{snapshots_on, snapshots_follow, halves_sit}
use Rattle.desk_world.proofs.Seated.{SitsIn, last_claims}
use Rattle.alter_graph.specs.Snaps.{Follows}
use Rattle.alter_graph.specs.Present.{present_of}
use Rattle.desk_world.specs.Plain.{snapshot_seen}
use Rattle.desk_world.specs.Looks.{looked}
use Rattle.alter_graph.specs.State.{SnapsFollow}

-- ---- a step that may be refused is told as a change

pub record IsTold (step : PlainStep) (g : Digraph) : Type 0 where
  pub change : Change
  pub is : notice_of step g ≡ Tells change

pub as_told : (step : PlainStep) (g : Digraph) → is_refusable step ≡ true → IsTold step g
as_told AddNode g may = record { change = _; is = refl }
as_told (AddArc from to) g may = record { change = _; is = refl }
as_told (MoveFrom arc node) g may = record { change = _; is = refl }
as_told (MoveTo arc node) g may = record { change = _; is = refl }
as_told (Turn arc) g may = record { change = _; is = refl }
as_told (PlaceBack fact) g may = record { change = _; is = refl }
as_told (EraseArc arc) g may = absurd (true≢false (sym may))
as_told (EraseNode node) g may = absurd (true≢false (sym may))
as_told ClearArcs g may = absurd (true≢false (sym may))
as_told ClearNodes g may = absurd (true≢false (sym may))

-- ---- the seats

-- nobody leaves at a change
all_hear : (told sort : ItemSort) (change : Change) (s : Seen)
    → is_some (hears_in told sort (Tells change) s) ≡ true
all_hear sorts.Node sorts.Node change s = refl
all_hear sorts.Node sorts.Arc change s = refl
all_hear sorts.Arc sorts.Node change s = refl
all_hear sorts.Arc sorts.Arc change s = refl

left_told : (told sort : ItemSort) (change : Change) (c : ChainsSeen)
    → (chain_in sort (in_chain told (noticed (Tells change)) c)).left ≡ (chain_in sort c).left
left_told sorts.Node sorts.Node change c = refl
left_told sorts.Node sorts.Arc change c = refl
left_told sorts.Arc sorts.Node change c = refl
left_told sorts.Arc sorts.Arc change c = refl

-- ---- the world

module _ {O : Type 0} (watch : O → Watched) (step : PlainStep) (w : World O) (a : AlterOf O)
    (may : is_refusable step ≡ true) (in_step : AreInStep watch w)
    (can : CanTake step w.graph.graph.graph)
    (went : IsSame (took step (state_of watch w.graph)) (state_of watch a))
    (then : graph.IsInStep (state_of watch a))
    (follows : SnapsFollow (step ∷ []) (state_of watch w.graph) (state_of watch a)) where
  abbrev later : World O
  later = record w { graph = a }

  abbrev s : State
  s = state_of watch w.graph

  abbrev t : State
  t = state_of watch a

  abbrev d : ChainsSeen
  d = (took step s).chains

  then_valid : IsValid (after_step s.graph step)
  then_valid = subst IsValid went.graph then.valid

  carries : Carries w s
  carries = carries_in_step watch w in_step

  -- who was there is there
  sits_then : (x : Claim) → Sits x.role (look_in s.chains x.sort x.key)
      → Sits x.role (look_in d x.sort x.key)
  sits_then x sits =
      let tells = as_told step s.graph may in
      let hears = look_hears step s carries.valid can then_valid carries.stood
      carries.remain.keys_differ x.sort x.key in
      subst (Sits x.role) (sym hears)
      (subst (λ n. Sits x.role
      (option_and_then (hears_in (sort_of step) x.sort n) (look_in s.chains x.sort x.key)))
      (sym tells.is) (of tells.change (look_in s.chains x.sort x.key) sits))
    where
      on : (change : Change) (was : Seen) → Plays x.role was → (o : Option Seen)
          → hears_in (sort_of step) x.sort (Tells change) was ≡ o → Sits x.role o
      on change was plays None is =
          absurd (true≢false
          (sym (all_hear (sort_of step) x.sort change was) ∙ ap is_some is))
      on change was plays (Some next) is =
          plays_on x.role was next
          (made_hear (sort_of step) (Tells change) x.sort was next is) plays

      of : (change : Change) (o : Option Seen) → Sits x.role o
          → Sits x.role (option_and_then (hears_in (sort_of step) x.sort (Tells change)) o)
      of change None sits = absurd sits
      of change (Some was) sits =
          on change was sits (hears_in (sort_of step) x.sort (Tells change) was) refl

  none_left : (sort : ItemSort) → (chain_in sort t.chains).left ≡ []
  none_left sort =
      let tells = as_told step s.graph may in
      left_alike d t.chains sort went.chains
      ∙ ap (λ n. (chain_in sort (in_chain (sort_of step) (noticed n) s.chains)).left) tells.is
      ∙ left_told (sort_of step) sort tells.change s.chains
      ∙ in_step.seated.none_left sort

  pub stays_in_step : AreInStep watch later
  stays_in_step =
      let next = carries_on w step s carries can then_valid in
      let looks = look_alike (claims_of w) d t.chains went.chains in
      record {
        graph = then;
        seated = seated_all (claims_of w) t.chains
            (remain_alike (claims_of w) d t.chains went.chains next.remain)
            (all_so (λ x. Sits x.role (look_in s.chains x.sort x.key))
            (λ x. Sits x.role (look_in t.chains x.sort x.key))
            (λ x sits. subst (λ (look : Look). Sits x.role (look x.sort x.key)) (sym looks)
            (sits_then x sits)) (claims_of w) in_step.seated.there)
            none_left;
        boxes = in_step.boxes;
        snaps = went.chains.snaps ∙ snaps_told step s ∙ in_step.snaps;
        derived = subst (λ look. AreDerived look w.nodes w.arcs w.attributes.rows) (sym looks)
            next.derived;
        kept = subst (λ look. AreKept look w.nodes w.arcs w.views.rows) (sym looks) next.kept;
      }

  pub plain_follows : plain_of watch later ≡ follow (plain_of watch w) step
  plain_follows =
      let looks = look_alike (claims_of w) d t.chains went.chains in
      let g : a.graph.graph ≡ after_step s.graph step = went.graph in
      let tells = as_told step s.graph may in
      let pool = kinds_of watch w.pool.items in
      let table = looked (snapshot_seen s.graph (look_in s.chains)) w.snapshots.rows in
      let shown = snapshots_follow (step ∷ []) s.graph a.graph.graph s.chains t.chains
      w.snapshots.rows
      (halves_sit s.chains w.snapshots.rows (last_claims (SitsIn s.chains) w in_step.seated.there))
      (halves_sit t.chains w.snapshots.rows
      (last_claims (SitsIn t.chains) w stays_in_step.seated.there))
      (subst (AllOf (Follows (step ∷ []) (present_of s.graph) s.chains (present_of a.graph.graph)
      t.chains)) in_step.snaps follows.each) in
      (λ i. record (world_seen a.graph.graph (look_in t.chains) pool w) { snapshots = shown i })
      ∙ (λ i. record (world_seen (g i) (looks i) pool w) {
        snapshots = snapshots_on (step ∷ []) s.graph table;
      })
      ∙ step_follows w step s carries can then_valid pool table
      (subst (λ n. AllOf (λ e. MayBurn (look_in s.chains) n e.value) w.guards.rows) (sym tells.is)
      (none_burns tells.change w.guards.rows))
    where
      none_burns : (change : Change) (table : List (Named GuardRow))
          → AllOf (λ e. MayBurn (look_in s.chains) (Tells change) e.value) table
      none_burns change [] = tt
      none_burns change (e ∷ es) = (λ was is. tt, none_burns change es)
