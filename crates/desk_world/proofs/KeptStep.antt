-- Kept views after a step of the digraph: still placed by the present values.
use Rattle.std.proofs.Common.{◌≡◌, ℕ, Bool, true, false, not, List, [], ◌∷◌, ◌++◌, map}
use Rattle.std.proofs.Common.{Option, Some, None, IfSome, is_some, refl, sym, ap, ◌∙◌, subst}
use Rattle.std.specs.Prelude.{ℤ, pos, int_lt, unwrap_or}
use Rattle.std.specs.FinMap as fin
use Rattle.std.specs.List.{flat_map}
use Rattle.std.specs.Option.{option_map_or}
use Rattle.base_items.specs.declared.items.ItemSort.{ItemSort}
use Rattle.base_items.specs.declared.items.ItemSort.TheVariants as sorts
use Rattle.notify_chain.specs.declared.key.SeatKey.{SeatKey}
use Rattle.plain_digraph.specs.Items.{facts, count_of}
use Rattle.plain_digraph.specs.Lists.{AllOf}
use Rattle.plain_digraph.specs.PlainSteps.{PlainStep, Change, Untouched, sort_of, after_step}
use Rattle.plain_digraph.specs.PlainSteps.{change_of}
use Rattle.plain_digraph.specs.Valid.{IsValid}
use Rattle.observe_core.specs.Held as held
use Rattle.observe_core.specs.Held.{Held, Values, Entry}
use Rattle.observe_core.specs.Seen.{Seen}
use Rattle.alter_graph.specs.Chains.{ChainsSeen}
use Rattle.alter_graph.specs.State.{State}
use Rattle.alter_graph.specs.Steps.{notice_of, took, CanTake}
use Rattle.alter_graph.proofs.Telling.{CanHear, can_hear}
use Rattle.kept_views.specs.declared.items.Marks.{Marks}
use Rattle.kept_views.specs.ItemViews.{marks}
use Rattle.kept_walks.specs.Present.{AreMarked, can_grow, can_fall}
use Rattle.plain_world.specs.Tables.{Named}
use Rattle.desk_world.specs.declared.tables.ItemTables.{ItemTables}
use Rattle.desk_world.specs.declared.tables.KeptKeys.{KeptKeys}
use Rattle.desk_world.specs.declared.tables.MapRow.{MapRow}
use Rattle.desk_world.specs.declared.tables.ViewRow.{ViewRow}
use Rattle.desk_world.specs.Claims as claims
use Rattle.desk_world.specs.Claims.{Claim, Role, Sits, made_for, role_of, kept_claims, view_claims}
use Rattle.desk_world.specs.Columns.{ints_of, bools_of}
use Rattle.desk_world.specs.InStep.{Differ, keys_in}
use Rattle.desk_world.specs.KeptMaps.{passes, amount, bool_seen, int_seen, ReadsMaps}
use Rattle.desk_world.specs.KeptViews.{IsPlaced, AreKept, AreReading, ArePlaced, items_at}
use Rattle.desk_world.specs.KeptViews.{views_of}
use Rattle.desk_world.specs.Looks.{Look, look_in}
use Rattle.desk_world.specs.Placing.{SitsGiven, SitMaps, own_role}
use Rattle.desk_world.specs.Plain.{seat_sort}
use Rattle.desk_world.proofs.FollowedStep.{AreStood, reads_follow}
use Rattle.desk_world.proofs.KeptFollowed.{mark_entry, marks_held, Says, to_marks, of_marks}
use Rattle.desk_world.proofs.KeptFollowed.{marks_follow, value_of, values_after, with_new}
use Rattle.desk_world.proofs.KeptFollowed.{value_kept, value_new, Keeps, keeps_same, keeps_fixed}
use Rattle.desk_world.proofs.KeptFollowed.{keeps_both, marks_then}
use Rattle.desk_world.proofs.KeptSeats.{maps_sit}
use Rattle.desk_world.proofs.Noticed.{entries_after, change_by, of_values, entries_noticed}
use Rattle.desk_world.proofs.Noticed.{entries_changed, ValuesFit}
use Rattle.desk_world.proofs.Remaining.{StillSits}
use Rattle.desk_world.proofs.Seated.{all_right}

module _ (step : PlainStep) (s : State) (valid : IsValid s.graph) (can : CanTake step s.graph)
    (then_valid : IsValid (after_step s.graph step)) (stood : AreStood s)
    (differ : (sort : ItemSort) → Differ (keys_in sort s.chains)) where
  abbrev d : ChainsSeen
  d = (took step s).chains

  abbrev look : Look
  look = look_in s.chains

  abbrev later : Look
  later = look_in d

  abbrev change : ItemSort → Change
  change sort = change_of s.graph step sort

  hears : CanHear (notice_of step s.graph) (facts s.graph (sort_of step))
  hears = can_hear step s.graph valid can then_valid

  -- ---- values

  untouched_same : {V : Type 0} (default : V) (f : ℕ → V) → values_after default Untouched f ≡ f
  untouched_same default f = refl

  -- a map of the type in a seat, read by the ids
  module _ (t : held.MapType) (role : Role) (made : made_for role ≡ held.OfValues t)
      (no_guard : claims.has_map_kind role ≡ true) (read : Held → ℕ → held.ValueOf t)
      (reads : (es : List (Entry (held.ValueOf t)))
      → read (Values t es) ≡ value_of (held.default_of t) es) where
    abbrev default : held.ValueOf t
    default = held.default_of t

    follows : (after : Change → (ℕ → held.ValueOf t) → (ℕ → held.ValueOf t))
        → ((f : ℕ → held.ValueOf t) → after Untouched f ≡ f)
        → ((es : List (Entry (held.ValueOf t)))
        → ValuesFit (Values t es) (facts s.graph (sort_of step))
        → value_of default (entries_after default
        (change_by (notice_of step s.graph) (count_of s.graph (sort_of step))) es)
        ≡ after (change_by (notice_of step s.graph) (count_of s.graph (sort_of step)))
        (value_of default es))
        → (sort : ItemSort) (key : ℕ) → Sits role (look sort key)
        → option_map_or (λ (x : Seen). read x.held) (later sort key) (λ id. default)
        ≡ after (change sort)
        (option_map_or (λ (x : Seen). read x.held) (look sort key) (λ id. default))
    follows after still goes sort key sits =
        reads_follow step s valid can then_valid stood differ read after role no_guard still
        (λ h makes fits. of_values (notice_of step s.graph) (facts s.graph (sort_of step))
        (count_of s.graph (sort_of step)) hears t read
        (after (change_by (notice_of step s.graph) (count_of s.graph (sort_of step)))) h
        (makes ∙ made) fits
        (λ es fit. reads (entries_noticed t (notice_of step s.graph) es)
        ∙ ap (value_of default) (entries_changed t (notice_of step s.graph)
        (count_of s.graph (sort_of step)) es)
        ∙ goes es fit
        ∙ sym (ap (after (change_by (notice_of step s.graph) (count_of s.graph (sort_of step))))
        (reads es))))
        (λ id. default) sort key sits

    -- they are kept by the change
    keeps_seen : (sort : ItemSort) (key : ℕ) → Sits role (look sort key)
        → Keeps default (change sort)
        (option_map_or (λ (x : Seen). read x.held) (look sort key) (λ id. default))
        (option_map_or (λ (x : Seen). read x.held) (later sort key) (λ id. default))
    keeps_seen sort key sits =
        let live = facts s.graph (sort_of step) in
        let count = count_of s.graph (sort_of step) in
        let n = notice_of step s.graph in
        keeps_same default (change sort)
        (option_map_or (λ (x : Seen). read x.held) (look sort key) (λ id. default))
        (option_map_or (λ (x : Seen). read x.held) (later sort key) (λ id. default))
        (follows (values_after default) (λ f. refl)
        (λ es fit. value_kept default n live count hears es fit) sort key sits)
        (follows (with_new default) (λ f. refl)
        (λ es fit. value_new default n live count hears es fit) sort key sits)

  abbrev bools_by : Held → ℕ → Bool
  bools_by h id = unwrap_or (fin.get (bools_of h) id) false

  abbrev ints_by : Held → ℕ → ℤ
  ints_by h id = unwrap_or (fin.get (ints_of h) id) (pos 0)

  bool_is : (o : Option Seen)
      → option_map_or (λ (x : Seen). bools_by x.held) o (λ id. false) ≡ bool_seen o
  bool_is None = refl
  bool_is (Some x) = refl

  int_is : (o : Option Seen)
      → option_map_or (λ (x : Seen). ints_by x.held) o (λ id. pos 0) ≡ int_seen o
  int_is None = refl
  int_is (Some x) = refl

  passes_kept : (sort : ItemSort) (key : Option SeatKey)
      → SitsGiven claims.Bools (look sort) key
      → Keeps (not (is_some key)) (change sort) (passes (look sort) key)
      (passes (later sort) key)
  passes_kept sort None sits = keeps_fixed true (change sort)
  passes_kept sort (Some key) sits =
      subst (λ f. Keeps false (change sort) f (bool_seen (later sort key.0)))
      (bool_is (look sort key.0))
      (subst (λ g. Keeps false (change sort)
      (option_map_or (λ (x : Seen). bools_by x.held) (look sort key.0) (λ id. false)) g)
      (bool_is (later sort key.0))
      (keeps_seen held.Bools claims.Bools refl refl bools_by (λ es. refl) sort key.0 sits))

  amount_kept : (key : Option SeatKey) → SitsGiven claims.Ints (look sorts.Arc) key
      → Keeps (pos 0) (change sorts.Arc) (amount (look sorts.Arc) key)
      (amount (later sorts.Arc) key)
  amount_kept None sits = keeps_fixed (pos 0) (change sorts.Arc)
  amount_kept (Some key) sits =
      subst (λ f. Keeps (pos 0) (change sorts.Arc) f (int_seen (later sorts.Arc key.0)))
      (int_is (look sorts.Arc key.0))
      (subst (λ g. Keeps (pos 0) (change sorts.Arc)
      (option_map_or (λ (x : Seen). ints_by x.held) (look sorts.Arc key.0) (λ id. pos 0)) g)
      (int_is (later sorts.Arc key.0))
      (keeps_seen held.Ints claims.Ints refl refl ints_by (λ es. refl) sorts.Arc key.0 sits))

  -- ---- marks

  marks_is : (o : Option Seen) → option_map_or (λ (x : Seen). marks_held x.held) o []
      ≡ map mark_entry (items_at o)
  marks_is None = refl
  marks_is (Some x) = refl

  -- marks of the items in a seat
  marked_then : (sort : ItemSort) (key : ℕ) (role : held.KeptRole) (all : Bool) (own : Role)
      → made_for own ≡ held.OfKept role all → claims.has_map_kind own ≡ true
      → Sits own (look sort key)
      → (mark : Marks → Bool) (says now : ℕ → Bool)
      → Keeps (mark (marks all false false)) (change sort) says now
      → AreMarked mark says (items_at (look sort key))
      → AreMarked mark now (items_at (later sort key))
  marked_then sort key role all own made no_guard sits mark says now keeps marked =
      let first = marks all false false in
      of_marks mark now (items_at (later sort key))
      (subst (AllOf (Says mark now))
      (sym (sym (marks_is (later sort key))
      ∙ reads_follow step s valid can then_valid stood differ marks_held (entries_after first) own
      no_guard (λ es. refl)
      (λ h makes fits. marks_follow (notice_of step s.graph) (count_of s.graph (sort_of step))
      role all (facts s.graph (sort_of step)) hears h (makes ∙ made)) [] sort key sits
      ∙ ap (entries_after first (change sort)) (marks_is (look sort key))))
      (marks_then mark first (change sort) says now keeps
      (map mark_entry (items_at (look sort key)))
      (to_marks mark says (items_at (look sort key)) marked)))

  -- ---- a kept view

  pub placed_then : (keys : KeptKeys) → SitMaps look keys.maps
      → Sits (own_role sorts.Node keys.maps) (look sorts.Node keys.nodes.0)
      → Sits (own_role sorts.Arc keys.maps) (look sorts.Arc keys.arcs.0)
      → IsPlaced look keys → IsPlaced later keys
  placed_then keys maps nodes arcs placed =
      let m = keys.maps in
      let all = not (is_some m.node_filter) in
      let shows = not (is_some m.arc_filter) in
      let role = held.KeptArcs m.shape in
      let caps = amount (look sorts.Arc) m.cap in
      let flows = amount (look sorts.Arc) m.flow in
      let caps_now = amount (later sorts.Arc) m.cap in
      let flows_now = amount (later sorts.Arc) m.flow in
      let cap = amount_kept m.cap maps.cap in
      let flow = amount_kept m.flow maps.flow in
      record {
        filtered = record {
          nodes = marked_then sorts.Node keys.nodes.0 held.KeptNodes all
              (own_role sorts.Node m) refl refl nodes (λ x. x.shown)
              (passes (look sorts.Node) m.node_filter) (passes (later sorts.Node) m.node_filter)
              (passes_kept sorts.Node m.node_filter maps.node_filter) placed.filtered.nodes;
          arcs = marked_then sorts.Arc keys.arcs.0 role shows (own_role sorts.Arc m) refl refl
              arcs (λ x. x.shown) (passes (look sorts.Arc) m.arc_filter)
              (passes (later sorts.Arc) m.arc_filter)
              (passes_kept sorts.Arc m.arc_filter maps.arc_filter) placed.filtered.arcs;
        };
        roomy = record {
          forward = marked_then sorts.Arc keys.arcs.0 role shows (own_role sorts.Arc m) refl refl
              arcs (λ x. x.forward) (can_grow caps flows) (can_grow caps_now flows_now)
              (keeps_both int_lt (pos 0) (change sorts.Arc) flows flows_now caps caps_now flow
              cap) placed.roomy.forward;
          backward = marked_then sorts.Arc keys.arcs.0 role shows (own_role sorts.Arc m) refl refl
              arcs (λ x. x.backward) (can_fall flows) (can_fall flows_now)
              (keeps_both int_lt (pos 0) (change sorts.Arc) (λ id. pos 0) (λ id. pos 0) flows
              flows_now (keeps_fixed (pos 0) (change sorts.Arc)) flow) placed.roomy.backward;
        };
      }

  -- ---- all kept views

  -- the row's map sits in its seat
  abbrev SitsRow : ItemSort → MapRow → Type 0
  SitsRow sort row = Sits (role_of row.kind) (look (seat_sort sort row.kind) row.key.0)

  pub kept_then : (nodes arcs : ItemTables) (rows : List (Named ViewRow))
      → AllOf (λ e. SitsRow sorts.Node e.value) nodes.maps.rows
      → AllOf (λ e. SitsRow sorts.Arc e.value) arcs.maps.rows
      → AllOf (StillSits look) (flat_map view_claims rows)
      → AreKept look nodes arcs rows → AreKept later nodes arcs rows
  kept_then nodes arcs rows node_maps arc_maps seats kept = record {
    reading = kept.reading;
    placed = each rows seats kept.reading kept.placed;
  }
    where
      one : (e : Named ViewRow) (keys : Option KeptKeys) (rest : List Claim)
          → AllOf (StillSits look) (option_map_or kept_claims keys [] ++ rest)
          → IfSome keys (λ k. ReadsMaps nodes arcs (views_of rows) e.name k.maps)
          → IfSome keys (IsPlaced look) → IfSome keys (IsPlaced later)
      one e None rest sit reads placed = tt
      one e (Some keys) rest sit reads placed =
          placed_then keys
          (maps_sit look reads.layers nodes.maps.rows arcs.maps.rows keys.maps node_maps arc_maps
          reads.maps)
          (sit.0 refl) (sit.1.0 refl) placed

      each : (es : List (Named ViewRow)) → AllOf (StillSits look) (flat_map view_claims es)
          → AreReading nodes arcs (views_of rows) es → ArePlaced look es → ArePlaced later es
      each [] sit reads placed = tt
      each (e ∷ es) sit reads placed = (
        one e e.value.kept (flat_map view_claims es) sit reads.0 placed.0,
        each es (all_right (StillSits look) (view_claims e) (flat_map view_claims es) sit)
            reads.1 placed.1,
      )
