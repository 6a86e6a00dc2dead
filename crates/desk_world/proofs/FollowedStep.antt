-- A world after one step of an alteration.
use Rattle.std.proofs.Common.{◌≡◌, ℕ, true, false, List, [], ◌∷◌, map, Option}
use Rattle.std.proofs.Common.{Some}
use Rattle.std.proofs.Common.{None, refl, sym, ap, ◌∙◌, subst, inl, inr}
use Rattle.std.specs.Prelude.{option_map, option_and_then, IsTrue}
use Rattle.std.specs.FinMap as fin
use Rattle.std.specs.List.{cons_option}
use Rattle.std.specs.Option.{option_map_or}
use Rattle.base_items.specs.declared.items.ItemSort.{ItemSort}
use Rattle.base_items.specs.declared.items.ItemSort.TheVariants as sorts
use Rattle.script_words.specs.declared.commands.Direction.{Direction}
use Rattle.script_words.specs.declared.commands.GuardWord.{GuardWord}
use Rattle.plain_digraph.specs.Lists.{AllOf}
use Rattle.plain_digraph.specs.Items.{facts, count_of}
use Rattle.plain_digraph.specs.PlainSteps.{PlainStep}
use Rattle.plain_digraph.specs.PlainSteps.{Change, Untouched, change_of, sort_of, after_step}
use Rattle.plain_digraph.specs.Valid.{IsValid}
use Rattle.observe_core.specs.Held.{Held, making_of, tie_id}
use Rattle.observe_core.specs.Items.{rises_from}
use Rattle.observe_core.specs.Seen.{Seen}
use Rattle.alter_graph.specs.Chains.{ChainsSeen, chain_in, seats_in}
use Rattle.alter_graph.specs.State.{State}
use Rattle.alter_graph.specs.Steps.{Notice, notice_of, noticed, took, CanTake}
use Rattle.alter_graph.proofs.Rooms.{facts_counted}
use Rattle.alter_graph.proofs.Telling.{CanHear, can_hear}
use Rattle.alter_graph.proofs.Saving.{held_noticed}
use Rattle.plain_world.specs.Tables.{Name, Named, under, each_changed}
use Rattle.plain_world.specs.World as plain
use Rattle.plain_world.specs.Following.{held_after, labels_after, attached_after, guard_after}
use Rattle.plain_world.specs.Following.{attribute_after, snapshot_after, follow}
use Rattle.desk_seats.specs.Contents.{ties_held}
use Rattle.desk_world.specs.declared.tables.MapKind.{MapKind}
use Rattle.desk_world.specs.declared.tables.MapKind.TheVariants as maps
use Rattle.desk_world.specs.declared.tables.GuardRow.{GuardRow}
use Rattle.desk_world.specs.declared.tables.MapRow.{MapRow}
use Rattle.desk_world.specs.declared.tables.ItemTables.{ItemTables}
use Rattle.desk_world.specs.declared.tables.AttributeRow.{AttributeRow}
use Rattle.desk_world.specs.declared.world.World.{World}
use Rattle.desk_world.specs.Claims as claims
use Rattle.desk_world.specs.Claims.{Role, Plays, Sits, has_map_kind, is_map, made_for, role_of}
use Rattle.desk_world.specs.Columns.{labels_of}
use Rattle.desk_world.specs.Derived.{ties_at}
use Rattle.desk_world.specs.InStep.{Differ, keys_in}
use Rattle.desk_world.specs.Looks.{look_in, looked, seen_at}
use Rattle.desk_world.specs.Plain.{held_by, map_seen, attached_seen, labels_seen, seat_sort}
use Rattle.desk_world.specs.Plain.{guard_by, guard_seen, attribute_seen, world_seen}
use Rattle.desk_world.specs.Plain.{ties_seen, tables_of}
use Rattle.desk_world.proofs.Guarded.{CanBurn, becomes, guard_hears, guard_unheard}
use Rattle.desk_world.proofs.Hearing.{hears_in, hears_same, hears_other, seats_hear, made_hear}
use Rattle.desk_world.proofs.Hearing.{maps_hear}
use Rattle.desk_world.proofs.Noticed.{seen_noticed, map_hears, change_by, held_follows, map_kind}
use Rattle.desk_world.proofs.Noticed.{labels_follow, heard_by, ValuesFit}
use Rattle.desk_world.proofs.Remaining.{look_by}
use Rattle.desk_world.proofs.Seated.{all_so}
use Rattle.desk_world.proofs.Stood.{Stood}
use Rattle.desk_world.proofs.TiesAfter.{ties_after, ties_noticed}
use Rattle.desk_world.proofs.TiesAfter as tied
use Rattle.plain_digraph.specs.Copies.{Copy}
use Rattle.desk_world.proofs.Following.{same_sort, chain_here, chain_there, each_follows, all_of}
use Rattle.desk_world.proofs.Following.{change_here, change_there}

-- ---- one step

-- what is seen under each key stands for the live items of its sort
abbrev pub AreStood : State → Type 0
AreStood s = (sort : ItemSort) (key : ℕ) (was : Seen) → look_in s.chains sort key ≡ Some was
    → Stood (facts s.graph sort) was

-- who sits there
pub seat_of : (role : Role) (o : Option Seen) → Sits role o
    → (was : Seen) × (o ≡ Some was) × Plays role was
seat_of role None sits = absurd sits
seat_of role (Some was) sits = (was, refl, sits)

module _ (step : PlainStep) (s : State) (valid : IsValid s.graph) (can : CanTake step s.graph)
    (then_valid : IsValid (after_step s.graph step)) (stood : AreStood s)
    (differ : (sort : ItemSort) → Differ (keys_in sort s.chains)) where
  abbrev n : Notice
  n = notice_of step s.graph

  abbrev d : ChainsSeen
  d = (took step s).chains

  hears : CanHear n (facts s.graph (sort_of step))
  hears = can_hear step s.graph valid can then_valid

  look_here : (key : ℕ) → look_in d (sort_of step) key
      ≡ seen_at key (noticed n (chain_in (sort_of step) s.chains)).seats
  look_here key = ap (seen_at key) (chain_here (sort_of step) (noticed n) s.chains)

  look_there : (other : ItemSort) (key : ℕ) → (sort_of step ≡ other → ⊥)
      → look_in d other key ≡ look_in s.chains other key
  look_there other key apart =
      ap (seen_at key) (chain_there (sort_of step) other (noticed n) s.chains apart)

  -- what a map's seat shows after the step
  pub record Followed {Y : Type 0} (read : Held → Y) (after : Change → Y → Y) (role : Role)
      (sort : ItemSort) (key : ℕ) (was : Seen) : Type 0 where
    pub later : Seen
    pub seen : look_in d sort key ≡ Some later
    pub plays : Plays role later
    pub reads : read later.held ≡ after (change_of s.graph step sort) (read was.held)

  module _ {Y : Type 0} (read : Held → Y) (after : Change → Y → Y) (role : Role)
      (no_guard : has_map_kind role ≡ true) (keeps : (y : Y) → after Untouched y ≡ y)
      (goes : (h : Held) → making_of h ≡ made_for role → ValuesFit h (facts s.graph (sort_of step))
      → read (held_noticed n h) ≡ after (change_by n (count_of s.graph (sort_of step)))
      (read h)) where
    followed_here : (key : ℕ) (was : Seen) → look_in s.chains (sort_of step) key ≡ Some was
        → Plays role was → Followed read after role (sort_of step) key was
    followed_here key was is plays =
        let heard = map_hears n (facts s.graph (sort_of step)) was hears
        (map_kind was.kind (plays.kind ∙ no_guard)) in
        let stands = stood (sort_of step) key was is in
        record {
          later = heard.later;
          seen = look_here key
              ∙ seen_noticed n key (seats_in (sort_of step) s.chains) (differ (sort_of step))
              ∙ ap (option_and_then (heard_by n)) is ∙ heard.hears;
          plays = record {
            form = heard.made.form ∙ plays.form;
            making = heard.made.making ∙ plays.making;
            kind = ap is_map heard.made.kind ∙ plays.kind;
          };
          reads = ap read heard.held ∙ goes was.held plays.making stands.values
              ∙ ap (λ c. after c (read was.held))
              (sym (change_here step s.graph valid can));
        }

    pub followed : (sort : ItemSort) (key : ℕ) (was : Seen) → look_in s.chains sort key ≡ Some was
        → Plays role was → Followed read after role sort key was
    followed sort key was is plays = elim (same_sort (sort_of step) sort) [
      | inl same ↦
          subst (λ t. look_in s.chains t key ≡ Some was → Followed read after role t key was) same
          (λ here. followed_here key was here plays) is
      | inr apart ↦ record {
        later = was;
        seen = look_there sort key apart ∙ is;
        plays = plays;
        reads = sym (keeps (read was.held))
            ∙ ap (λ c. after c (read was.held)) (sym (change_there step s.graph sort apart));
      }
    ]

    -- and what is read under its key
    pub reads_follow : (none : Y) (sort : ItemSort) (key : ℕ)
        → Sits role (look_in s.chains sort key)
        → option_map_or (λ (x : Seen). read x.held) (look_in d sort key) none
        ≡ after (change_of s.graph step sort)
        (option_map_or (λ (x : Seen). read x.held) (look_in s.chains sort key) none)
    reads_follow none sort key sits =
        let seat = seat_of role (look_in s.chains sort key) sits in
        let next = followed sort key seat.0 seat.1 seat.2 in
        ap (λ o. option_map_or (λ (x : Seen). read x.held) o none) next.seen
        ∙ next.reads
        ∙ sym (ap (λ o. after (change_of s.graph step sort)
        (option_map_or (λ (x : Seen). read x.held) o none)) seat.1)

  -- ---- tables

  no_guard_row : (kind : MapKind) → has_map_kind (role_of kind) ≡ true
  no_guard_row maps.Ints = refl
  no_guard_row maps.Bools = refl
  no_guard_row maps.Texts = refl
  no_guard_row (maps.Degrees way) = refl
  no_guard_row (maps.Trues map) = refl

  untouched_held : (h : plain.Held) → held_after Untouched h ≡ h
  untouched_held (plain.Ints column) = refl
  untouched_held (plain.Bools column) = refl
  untouched_held (plain.Texts column) = refl
  untouched_held (plain.Degrees way) = refl
  untouched_held (plain.Trues map) = refl

  -- the map of a row, in the chain of its own sort
  row_follows : (sort : ItemSort) (kind : MapKind) (key : ℕ)
      → Sits (role_of kind) (look_in s.chains sort key)
      → option_map (λ (x : Seen). held_by kind x.held) (look_in d sort key)
      ≡ option_map (held_after (change_of s.graph step sort))
      (option_map (λ (x : Seen). held_by kind x.held) (look_in s.chains sort key))
  row_follows sort kind key sits =
      let seat = seat_of (role_of kind) (look_in s.chains sort key) sits in
      let next =
      followed (held_by kind) held_after (role_of kind) (no_guard_row kind) untouched_held
      (held_follows n (facts s.graph (sort_of step)) (count_of s.graph (sort_of step)) hears kind)
      sort key seat.0 seat.1 seat.2 in
      ap (option_map (λ (x : Seen). held_by kind x.held)) next.seen
      ∙ ap Some next.reads
      ∙ sym (ap (λ o. option_map (held_after (change_of s.graph step sort))
      (option_map (λ (x : Seen). held_by kind x.held) o)) seat.1)

  -- degrees have nothing of their own
  degrees_follow : (sort : ItemSort) (way : Direction) (key : ℕ)
      → Sits (role_of (maps.Degrees way)) (look_in s.chains sorts.Arc key)
      → (change : Change)
      → option_map (λ (x : Seen). held_by (maps.Degrees way) x.held) (look_in d sorts.Arc key)
      ≡ option_map (held_after change)
      (option_map (λ (x : Seen). held_by (maps.Degrees way) x.held)
      (look_in s.chains sorts.Arc key))
  degrees_follow sort way key sits change =
      let role = role_of (maps.Degrees way) in
      let seat = seat_of role (look_in s.chains sorts.Arc key) sits in
      let next = followed (held_by (maps.Degrees way)) held_after role refl untouched_held
      (λ h made fits. refl) sorts.Arc key seat.0 seat.1 seat.2 in
      ap (option_map (λ (x : Seen). held_by (maps.Degrees way) x.held)) next.seen
      ∙ sym (ap (λ o. option_map (held_after change)
      (option_map (λ (x : Seen). held_by (maps.Degrees way) x.held) o)) seat.1)

  abbrev SitsRow : ItemSort → MapRow → Type 0
  SitsRow sort row =
      Sits (role_of row.kind) (look_in s.chains (seat_sort sort row.kind) row.key.0)

  map_follows : (sort : ItemSort) (kind : MapKind) (key : ℕ)
      → Sits (role_of kind) (look_in s.chains (seat_sort sort kind) key)
      → option_map (λ (x : Seen). held_by kind x.held) (look_in d (seat_sort sort kind) key)
      ≡ option_map (held_after (change_of s.graph step sort))
      (option_map (λ (x : Seen). held_by kind x.held) (look_in s.chains (seat_sort sort kind) key))
  map_follows sort maps.Ints key sits = row_follows sort maps.Ints key sits
  map_follows sort maps.Bools key sits = row_follows sort maps.Bools key sits
  map_follows sort maps.Texts key sits = row_follows sort maps.Texts key sits
  map_follows sort (maps.Degrees way) key sits =
      degrees_follow sort way key sits (change_of s.graph step sort)
  map_follows sort (maps.Trues map) key sits = row_follows sort (maps.Trues map) key sits

  maps_follow : (sort : ItemSort) (table : List (Named MapRow))
      → AllOf (λ e. SitsRow sort e.value) table
      → looked (map_seen (look_in d) sort) table
      ≡ map (λ e. under e.name (held_after (change_of s.graph step sort) e.value))
      (looked (map_seen (look_in s.chains) sort) table)
  maps_follow sort [] sit = refl
  maps_follow sort (e ∷ es) sit =
      let rest = maps_follow sort es sit.1 in
      let here = map_follows sort e.value.kind e.value.key.0 sit.0 in
      (λ i. cons_option (option_map (under e.name) (here i)) (rest i))
      ∙ put_under e.name (map_seen (look_in s.chains) sort e.value)
      (looked (map_seen (look_in s.chains) sort) es)
    where
      put_under : (name : Name) (o : Option plain.Held) (more : List (Named plain.Held))
          → cons_option
          (option_map (under name) (option_map (held_after (change_of s.graph step sort)) o))
          (map (λ e. under e.name (held_after (change_of s.graph step sort) e.value)) more)
          ≡ map (λ e. under e.name (held_after (change_of s.graph step sort) e.value))
          (cons_option (option_map (under name) o) more)
      put_under name None more = refl
      put_under name (Some held) more = refl

  labels_after_step : (sort : ItemSort) (key : ℕ) → Sits claims.Labels (look_in s.chains sort key)
      → labels_seen (look_in d sort key)
      ≡ labels_after (change_of s.graph step sort) (labels_seen (look_in s.chains sort key))
  labels_after_step =
      reads_follow labels_of labels_after claims.Labels refl (λ labels. refl)
      (labels_follow n (facts s.graph (sort_of step)) (count_of s.graph (sort_of step)) hears)
      fin.empty

  attached_follows : (sort : ItemSort) (items : ItemTables)
      → Sits claims.Labels (look_in s.chains sort items.labels.0)
      → AllOf (λ e. SitsRow sort e.value) items.maps.rows
      → attached_seen (look_in d) sort items
      ≡ attached_after (change_of s.graph step sort) (attached_seen (look_in s.chains) sort items)
  attached_follows sort items labels sit =
      let named = labels_after_step sort items.labels.0 labels in
      let held = maps_follow sort items.maps.rows sit in
      λ i. record { labels = named i; maps = held i }

  -- the ties of a sort are left where their items are
  pub ties_follow : (sort : ItemSort) (key : ℕ) → Sits claims.Ties (look_in s.chains sort key)
      → ties_at (look_in d sort key)
      ≡ ties_after (change_of s.graph step sort) (ties_at (look_in s.chains sort key))
  ties_follow =
      reads_follow ties_held ties_after claims.Ties refl (λ ties. refl)
      (λ h made fits. ties_noticed n (count_of s.graph (sort_of step)) h) []

  ties_rise : (sort : ItemSort) (key : ℕ) → Sits claims.Ties (look_in s.chains sort key)
      → IsTrue (rises_from tie_id 0 (ties_at (look_in s.chains sort key)))
  ties_rise sort key sits =
      let seat = seat_of claims.Ties (look_in s.chains sort key) sits in
      subst (λ o. IsTrue (rises_from tie_id 0 (ties_at o))) (sym seat.1)
      (stood sort key seat.0 seat.1).rise

  attributes_follow : {O : Type 0} (w : World O) (table : List (Named AttributeRow))
      → ((sort : ItemSort) → Sits claims.Ties (ties_seen (look_in s.chains) w sort))
      → looked (attribute_seen (ties_seen (look_in d) w)) table
      ≡ each_changed (attribute_after (change_of s.graph step))
      (looked (attribute_seen (ties_seen (look_in s.chains) w)) table)
  attributes_follow w table sit =
      each_follows (attribute_seen (ties_seen (look_in s.chains) w))
      (attribute_seen (ties_seen (look_in d) w)) (attribute_after (change_of s.graph step)) table
      (all_of (λ row. attribute_seen (ties_seen (look_in d) w) row
      ≡ option_and_then (attribute_after (change_of s.graph step))
      (attribute_seen (ties_seen (look_in s.chains) w) row))
      (tied.row_follows (change_of s.graph step) (ties_seen (look_in s.chains) w)
      (ties_seen (look_in d) w)
      (λ sort. ties_follow sort (tables_of w sort).ties.0 (sit sort))
      (λ sort. ties_rise sort (tables_of w sort).ties.0 (sit sort)))
      table)

  -- ---- guards

  pub look_hears : (sort : ItemSort) (key : ℕ) → look_in d sort key
      ≡ option_and_then (hears_in (sort_of step) sort n) (look_in s.chains sort key)
  look_hears =
      look_by s.chains d (λ sort. hears_in (sort_of step) sort n)
      (seats_hear (sort_of step) n s.chains) (made_hear (sort_of step) n)
      (maps_hear (sort_of step) n) differ

  -- a guard that is there has something left where it may burn
  abbrev pub Burns : ItemSort → ℕ → Type 0
  Burns sort key = (was : Seen) → look_in s.chains sort key ≡ Some was
      → Plays claims.Guard was × CanBurn n was

  guard_follows : (sort : ItemSort) (was : Seen) → Stood (facts s.graph sort) was
      → is_map was.kind ≡ false → CanBurn n was
      → option_map (guard_by sort) (hears_in (sort_of step) sort n was)
      ≡ guard_after (change_of s.graph step) (guard_by sort was)
  guard_follows sort was stands no_map burns = elim (same_sort (sort_of step) sort) [
    | inl same ↦
        subst (λ t. Stood (facts s.graph t) was
        → option_map (guard_by t) (hears_in (sort_of step) t n was)
        ≡ guard_after (change_of s.graph step) (guard_by t was)) same
        (λ here.
        ap (λ h. option_map (guard_by (sort_of step)) (h was)) (hears_same (sort_of step) n)
        ∙ guard_hears n (facts s.graph (sort_of step)) (count_of s.graph (sort_of step))
        (sort_of step) was hears here (facts_counted s.graph (sort_of step) valid) no_map burns
        ∙ ap (λ c. becomes c (guard_by (sort_of step) was))
        (sym (change_here step s.graph valid can))) stands
    | inr apart ↦
        ap (λ h. option_map (guard_by sort) (h was)) (hears_other (sort_of step) sort n apart)
        ∙ guard_unheard sort was
        ∙ ap (λ c. becomes c (guard_by sort was)) (sym (change_there step s.graph sort apart))
  ]

  row_guarded : (sort : ItemSort) (key : ℕ) → Burns sort key
      → option_map (guard_by sort) (look_in d sort key)
      ≡ option_and_then (guard_after (change_of s.graph step))
      (option_map (guard_by sort) (look_in s.chains sort key))
  row_guarded sort key burns =
      ap (option_map (guard_by sort)) (look_hears sort key)
      ∙ of (look_in s.chains sort key) refl
    where
      of : (o : Option Seen) → look_in s.chains sort key ≡ o
          → option_map (guard_by sort) (option_and_then (hears_in (sort_of step) sort n) o)
          ≡ option_and_then (guard_after (change_of s.graph step)) (option_map (guard_by sort) o)
      of None is = refl
      of (Some was) is =
          let here = burns was is in
          guard_follows sort was (stood sort key was is) here.0.kind here.1

  guards_follow : (table : List (Named GuardRow))
      → AllOf (λ e. Burns e.value.sort e.value.key.0) table
      → looked (guard_seen (look_in d)) table
      ≡ each_changed (guard_after (change_of s.graph step))
      (looked (guard_seen (look_in s.chains)) table)
  guards_follow table burn =
      each_follows (guard_seen (look_in s.chains)) (guard_seen (look_in d))
      (guard_after (change_of s.graph step)) table
      (all_so (λ (e : Named GuardRow). Burns e.value.sort e.value.key.0)
      (λ (e : Named GuardRow). guard_seen (look_in d) e.value
      ≡ option_and_then (guard_after (change_of s.graph step))
      (guard_seen (look_in s.chains) e.value))
      (λ e burns. row_guarded e.value.sort e.value.key.0 burns) table burn)

  -- the world that is seen after the step is the one that follows it, whatever table of snapshots
  -- stands in it
  pub world_follows : {O : Type 0} (w : World O) (pool : List GuardWord)
      (table : List (Named (Option Copy)))
      → Sits claims.Labels (look_in s.chains sorts.Node w.nodes.labels.0)
      → Sits claims.Labels (look_in s.chains sorts.Arc w.arcs.labels.0)
      → ((sort : ItemSort) → Sits claims.Ties (ties_seen (look_in s.chains) w sort))
      → AllOf (λ e. SitsRow sorts.Node e.value) w.nodes.maps.rows
      → AllOf (λ e. SitsRow sorts.Arc e.value) w.arcs.maps.rows
      → AllOf (λ e. Burns e.value.sort e.value.key.0) w.guards.rows
      → record (world_seen (after_step s.graph step) (look_in d) pool w) {
        snapshots = map (λ e. under e.name (snapshot_after s.graph step e.value)) table;
      }
      ≡ follow (record (world_seen s.graph (look_in s.chains) pool w) { snapshots = table }) step
  world_follows w pool table node_labels arc_labels ties node_maps arc_maps burn =
      let nodes = attached_follows sorts.Node w.nodes node_labels node_maps in
      let arcs = attached_follows sorts.Arc w.arcs arc_labels arc_maps in
      let guards = guards_follow w.guards.rows burn in
      let attributes = attributes_follow w w.attributes.rows ties in
      λ i. record (world_seen s.graph (look_in s.chains) pool w) {
        graph = after_step s.graph step;
        nodes = nodes i;
        arcs = arcs i;
        guards = guards i;
        snapshots = map (λ e. under e.name (snapshot_after s.graph step e.value)) table;
        attributes = attributes i;
      }
