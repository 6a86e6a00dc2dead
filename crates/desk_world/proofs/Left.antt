-- A world whose guards that left go out of its table.
use Rattle.std.proofs.Common.{◌≡◌, ℕ, ◌≤◌, Bool, true, false, cond, List, [], ◌∷◌, ◌++◌, map}
use Rattle.std.proofs.Common.{filter, Option, Some, None, refl, sym, ap, ◌∙◌, subst, is_some, arith}
use Rattle.std.specs.Prelude.{◌||◌, option_map}
use Rattle.std.specs.List.{flat_map, cons_option}
use Rattle.std.specs.Option.{option_map_or}
use Rattle.std.proofs.lemmas.List.Elements.{filter-append}
use Rattle.base_items.specs.declared.items.ItemSort.{ItemSort}
use Rattle.base_items.specs.declared.items.ItemSort.TheVariants as sorts
use Rattle.plain_digraph.specs.Lists.{AllOf}
use Rattle.observe_core.specs.Seen.{Seen, Watched}
use Rattle.notify_chain.specs.Seats.{find_seat, seat_seen}
use Rattle.alter_graph.specs.declared.snaps.SnapKeys.{SnapKeys}
use Rattle.alter_graph.specs.Chains.{ChainsSeen, chain_in, chains_seen, seats_in}
use Rattle.alter_graph.specs.State as graph
use Rattle.alter_graph.specs.State.{AlterOf, state_of}
use Rattle.plain_world.specs.Tables.{Named, under}
use Rattle.desk_names.specs.Rows.{Rows}
use Rattle.desk_seats.specs.Contents.{labels_in}
use Rattle.desk_world.specs.declared.tables.GuardRow.{GuardRow}
use Rattle.desk_world.specs.declared.tables.KeptKeys.{KeptKeys}
use Rattle.desk_world.specs.declared.tables.ViewRow.{ViewRow}
use Rattle.desk_world.specs.declared.tables.MapRow.{MapRow}
use Rattle.desk_world.specs.declared.world.World.{World}
use Rattle.desk_world.specs.Claims.{claims_of, guard_claim, map_claim}
use Rattle.desk_world.specs.Claims.{own_claims, snap_claims, view_claims, Claim}
use Rattle.desk_world.specs.Claims.{kept_claims as seats_of}
use Rattle.desk_world.specs.Derived.{AreDerived}
use Rattle.desk_world.specs.KeptViews.{AreKept}
use Rattle.desk_world.specs.Entries.{labels_at, room_for_labels}
use Rattle.desk_world.specs.InStep.{AreInStep, AreSeated}
use Rattle.desk_world.specs.Leaving.{AreAltered, still_claimed, with_none_left, is_still}
use Rattle.desk_world.specs.Looks.{Look, look_in, looked, room_at}
use Rattle.desk_world.specs.Plain.{plain_of, guard_seen, guard_by, kinds_of, world_seen}
use Rattle.desk_world.proofs.GuardOrder.{map_role}
use Rattle.desk_world.proofs.Seated.{none_there, seen_there}
use Rattle.desk_world.proofs.StillClaimed.{all_kept, look_left}

-- the rows of the guards that are there
abbrev pub is_there : Look → GuardRow → Bool
is_there look row = is_some (look row.sort row.key.0)

abbrev pub there_rows : Look → List (Named GuardRow) → List (Named GuardRow)
there_rows look table = filter (λ e. is_there look e.value) table

-- ---- claims

module _ (c : ChainsSeen) where
  maps_kept : (sort : ItemSort) (table : List (Named MapRow))
      → filter (is_still c) (map (map_claim sort) table) ≡ map (map_claim sort) table
  maps_kept sort table = all_kept (is_still c) (map (map_claim sort) table) (of table)
    where
      of : (table : List (Named MapRow))
          → AllOf (λ x. is_still c x ≡ true) (map (map_claim sort) table)
      of [] = tt
      of (e ∷ es) = (
        ap (λ m. m || is_some (look_in c (map_claim sort e).sort (map_claim sort e).key))
            (map_role e.value.kind),
        of es,
      )

  views_kept : (table : List (Named ViewRow))
      → filter (is_still c) (flat_map view_claims table) ≡ flat_map view_claims table
  views_kept table = all_kept (is_still c) (flat_map view_claims table) (of table)
    where
      one : (kept : Option KeptKeys) (more : List Claim) → AllOf (λ x. is_still c x ≡ true) more
          → AllOf (λ x. is_still c x ≡ true) (option_map_or seats_of kept [] ++ more)
      one None more rest = rest
      one (Some keys) more rest = (refl, (refl, rest))

      of : (table : List (Named ViewRow))
          → AllOf (λ x. is_still c x ≡ true) (flat_map view_claims table)
      of [] = tt
      of (e ∷ es) = one e.value.kept (flat_map view_claims es) (of es)

  halves_kept : (table : List (Named SnapKeys))
      → filter (is_still c) (flat_map snap_claims table) ≡ flat_map snap_claims table
  halves_kept table = all_kept (is_still c) (flat_map snap_claims table) (of table)
    where
      of : (table : List (Named SnapKeys))
          → AllOf (λ x. is_still c x ≡ true) (flat_map snap_claims table)
      of [] = tt
      of (e ∷ es) = (refl, (refl, of es))

  guards_kept : (table : List (Named GuardRow))
      → filter (is_still c) (map guard_claim table) ≡ map guard_claim (there_rows (look_in c) table)
  guards_kept [] = refl
  guards_kept (e ∷ es) =
      let rest = guards_kept es in
      elim (is_there (look_in c) e.value) as (λ b.
      cond b (guard_claim e ∷ filter (is_still c) (map guard_claim es))
      (filter (is_still c) (map guard_claim es))
      ≡ map guard_claim (cond b (e ∷ there_rows (look_in c) es) (there_rows (look_in c) es))) [
        | true ↦ λ i. guard_claim e ∷ rest i
        | false ↦ rest
      ]

  pub claims_kept : {O : Type 0} (w : World O)
      → still_claimed c (claims_of w)
      ≡ own_claims sorts.Node w.nodes
      ++ (own_claims sorts.Arc w.arcs
      ++ (map (map_claim sorts.Node) w.nodes.maps.rows
      ++ (map (map_claim sorts.Arc) w.arcs.maps.rows
      ++ (flat_map view_claims w.views.rows
      ++ (map guard_claim (there_rows (look_in c) w.guards.rows)
      ++ flat_map snap_claims w.snapshots.rows)))))
  claims_kept w =
      let f = is_still c in
      let nodes = map (map_claim sorts.Node) w.nodes.maps.rows in
      let arcs = map (map_claim sorts.Arc) w.arcs.maps.rows in
      let guards = map guard_claim w.guards.rows in
      let halves = flat_map snap_claims w.snapshots.rows in
      let first = filter-append f guards halves
      ∙ (λ i. guards_kept w.guards.rows i ++ halves_kept w.snapshots.rows i) in
      let views = flat_map view_claims w.views.rows in
      let kept = filter-append f views (guards ++ halves)
      ∙ (λ i. views_kept w.views.rows i ++ first i) in
      let second = filter-append f arcs (views ++ (guards ++ halves))
      ∙ (λ i. maps_kept sorts.Arc w.arcs.maps.rows i ++ kept i) in
      let third = filter-append f nodes (arcs ++ (views ++ (guards ++ halves)))
      ∙ (λ i. maps_kept sorts.Node w.nodes.maps.rows i ++ second i) in
      λ i. own_claims sorts.Node w.nodes ++ (own_claims sorts.Arc w.arcs ++ third i)

-- ---- what is seen

pub there_seen : (look : Look) (table : List (Named GuardRow))
    → looked (guard_seen look) (there_rows look table) ≡ looked (guard_seen look) table
there_seen look [] = refl
there_seen look (e ∷ es) =
    of (look e.value.sort e.value.key.0) refl (there_seen look es)
  where
    of : (o : Option Seen) → look e.value.sort e.value.key.0 ≡ o
        → looked (guard_seen look) (there_rows look es) ≡ looked (guard_seen look) es
        → looked (guard_seen look) (cond (is_some (look e.value.sort e.value.key.0))
        (e ∷ there_rows look es) (there_rows look es))
        ≡ cons_option (option_map (under e.name)
        (option_map (guard_by e.value.sort) (look e.value.sort e.value.key.0)))
        (looked (guard_seen look) es)
    of None is rest =
        ap (λ b. looked (guard_seen look) (cond b (e ∷ there_rows look es) (there_rows look es)))
        (ap is_some is)
        ∙ rest
        ∙ sym (ap (λ o. cons_option (option_map (under e.name)
        (option_map (guard_by e.value.sort) o)) (looked (guard_seen look) es)) is)
    of (Some s) is rest =
        ap (λ b. looked (guard_seen look) (cond b (e ∷ there_rows look es) (there_rows look es)))
        (ap is_some is)
        ∙ ap (cons_option (option_map (under e.name)
        (option_map (guard_by e.value.sort) (look e.value.sort e.value.key.0)))) rest

-- ---- the world

module _ {O : Type 0} (watch : O → Watched) (w : World O) (a : AlterOf O) (guards : Rows GuardRow)
    (altered : AreAltered watch w) (same_graph : a.graph ≡ w.graph.graph)
    (taken : chains_seen watch a.chains ≡ with_none_left (chains_seen watch w.graph.chains))
    (then : graph.IsInStep (state_of watch a)) where
  abbrev c : ChainsSeen
  c = chains_seen watch w.graph.chains

  abbrev later : World O
  later = record w { graph = a; guards = guards }

  pub same_look : look_in (chains_seen watch a.chains) ≡ look_in c
  same_look = ap look_in taken ∙ sym (λ i sort key. look_left c sort key i)

  module _ (claims_are : claims_of later ≡ still_claimed c (claims_of w))
      (seen_are : looked (guard_seen (look_in c)) guards.rows
      ≡ looked (guard_seen (look_in c)) w.guards.rows) where
    -- all is in step again
    gone_in_step : AreInStep watch later
    gone_in_step = record {
      graph = then;
      seated = subst (AreSeated (claims_of later)) (sym taken)
          (subst (λ list. AreSeated list (with_none_left c)) (sym claims_are) altered.seated);
      boxes = altered.boxes;
      snaps = ap (λ x. x.snaps) taken ∙ altered.snaps;
      derived = subst (λ look. AreDerived look w.nodes w.arcs w.attributes.rows) (sym same_look)
          altered.derived;
      kept = subst (λ look. AreKept look w.nodes w.arcs w.views.rows) (sym same_look) altered.kept;
    }

    -- nothing else is seen than before
    gone_same : plain_of watch later ≡ plain_of watch w
    gone_same =
        (λ i. world_seen (same_graph i).graph (same_look i) (kinds_of watch w.pool.items) later)
        ∙ (λ i. record (plain_of watch w) { guards = seen_are i })

  gone_labels : (sort : ItemSort) → labels_at watch later sort ≡ labels_at watch w sort
  gone_labels sorts.Node =
      ap (λ (look : Look). option_map_or labels_in (look sorts.Node w.nodes.labels.0) []) same_look
  gone_labels sorts.Arc =
      ap (λ (look : Look). option_map_or labels_in (look sorts.Arc w.arcs.labels.0) []) same_look

  same_room : (sort : ItemSort) → room_for_labels watch later sort ≡ room_for_labels watch w sort
  same_room sorts.Node = ap (λ d. room_at w.nodes.labels.0 (seats_in sorts.Node d)) taken
  same_room sorts.Arc = ap (λ d. room_at w.arcs.labels.0 (seats_in sorts.Arc d)) taken

  pub gone_room : (sort : ItemSort) → room_for_labels watch w sort
      ≤ room_for_labels watch later sort
  gone_room sort = let same = same_room sort in omega (arith, same)

  -- where the rows that are there were kept
  module _ (kept : guards.rows ≡ there_rows (look_in c) w.guards.rows) where
    kept_claims : claims_of later ≡ still_claimed c (claims_of w)
    kept_claims =
        (λ i. own_claims sorts.Node w.nodes
        ++ (own_claims sorts.Arc w.arcs
        ++ (map (map_claim sorts.Node) w.nodes.maps.rows
        ++ (map (map_claim sorts.Arc) w.arcs.maps.rows
        ++ (flat_map view_claims w.views.rows
        ++ (map guard_claim (kept i) ++ flat_map snap_claims w.snapshots.rows))))))
        ∙ sym (claims_kept c w)

    kept_seen : looked (guard_seen (look_in c)) guards.rows
        ≡ looked (guard_seen (look_in c)) w.guards.rows
    kept_seen = ap (looked (guard_seen (look_in c))) kept ∙ there_seen (look_in c) w.guards.rows

    pub kept_in_step : AreInStep watch later
    kept_in_step = gone_in_step kept_claims kept_seen

    pub kept_same : plain_of watch later ≡ plain_of watch w
    kept_same = gone_same kept_claims kept_seen

  -- where no key was to be taken, and the table is as it was
  module _ (none : (sort : ItemSort) → (chain_in sort c).left ≡ [])
      (kept : guards ≡ w.guards) where
    none_claims : claims_of later ≡ still_claimed c (claims_of w)
    none_claims = ap (λ (t : Rows GuardRow). claims_of (record w { graph = a; guards = t })) kept
        ∙ sym (altered.all_there none)

    none_seen : looked (guard_seen (look_in c)) guards.rows
        ≡ looked (guard_seen (look_in c)) w.guards.rows
    none_seen = ap (λ (t : Rows GuardRow). looked (guard_seen (look_in c)) t.rows) kept

    pub none_in_step : AreInStep watch later
    none_in_step = gone_in_step none_claims none_seen

    pub none_same : plain_of watch later ≡ plain_of watch w
    none_same = gone_same none_claims none_seen

-- ---- a look-up of a seat

-- it finds one exactly where something is seen
pub found_there : {O : Type 0} (watch : O → Watched) (c : ChainsSeen) (sort : ItemSort) (key : ℕ)
    (o : Option O) → seat_seen watch key o ≡ find_seat key (seats_in sort c)
    → is_some o ≡ is_some (look_in c sort key)
found_there watch c sort key None found = sym (ap is_some (none_there watch c sort key found))
found_there watch c sort key (Some o) found = sym (ap is_some (seen_there watch c sort key o found))
