-- A world with another table of maps.
use Rattle.std.proofs.Common.{◌≡◌, List, [], ◌∷◌, ◌++◌, map, refl, sym, ap}
use Rattle.std.proofs.Common.{subst}
use Rattle.std.proofs.Common.{◌∙◌}
use Rattle.std.specs.List.{flat_map}
use Rattle.std.proofs.lemmas.List.{append_assoc, map-append}
use Rattle.base_items.specs.declared.items.ItemSort.{ItemSort}
use Rattle.base_items.specs.declared.items.ItemSort.TheVariants as sorts
use Rattle.script_words.specs.declared.commands.GuardWord.{GuardWord}
use Rattle.plain_digraph.specs.Digraph.{Digraph}
use Rattle.plain_digraph.specs.Lists.{AllOf}
use Rattle.observe_core.specs.Seen.{Watched}
use Rattle.alter_graph.specs.Chains.{chains_seen}
use Rattle.alter_graph.specs.State as graph
use Rattle.alter_graph.specs.State.{AlterOf, state_of}
use Rattle.plain_world.specs.Tables.{Named}
use Rattle.plain_world.specs.World as plain
use Rattle.plain_world.specs.World.{attached}
use Rattle.plain_world.specs.Effects.{with_maps}
use Rattle.desk_names.specs.Rows.{Rows}
use Rattle.desk_world.specs.declared.tables.MapRow.{MapRow}
use Rattle.desk_world.specs.declared.world.World.{World}
use Rattle.desk_world.specs.Claims.{Claim, claims_of, own_claims, map_claim, guard_claim}
use Rattle.desk_world.specs.Claims.{snap_claims, view_claims}
use Rattle.desk_world.specs.InStep.{AreInStep, AreSeated}
use Rattle.desk_world.specs.Derived.{AreDerived}
use Rattle.desk_world.specs.KeptViews.{AreKept}
use Rattle.desk_world.specs.Looks.{Look, looked, look_in}
use Rattle.desk_world.specs.MapTables.{with_table}
use Rattle.desk_world.specs.Plain.{world_seen, map_seen, labels_seen, ties_seen}
use Rattle.desk_world.specs.Plain.{guard_seen, snapshot_seen, tables_of, plain_of, look_of}
use Rattle.desk_world.specs.Plain.{kinds_of}
use Rattle.desk_world.proofs.Derived.{derived_rows}
use Rattle.desk_world.proofs.KeptAgree.{kept_rows}
use Rattle.desk_world.proofs.Relabelled.{Agrees, rows_agree, guards_agree, attributes_agree}
use Rattle.desk_world.proofs.Relabelled.{snapshots_agree}
use Rattle.desk_world.proofs.Seated.{all_left, all_right}

module _ {O : Type 0} where
  -- other maps of the sort, over another digraph
  abbrev pub with_rows : World O → ItemSort → Rows MapRow → AlterOf O → World O
  with_rows w sort rows a = record (with_table w sort rows) { graph = a }

  -- with the maps that there are
  pub same_rows_world : (w : World O) (sort : ItemSort) (a : AlterOf O)
      → with_rows w sort (tables_of w sort).maps a ≡ record w { graph = a }
  same_rows_world w sorts.Node a = refl
  same_rows_world w sorts.Arc a = refl

  -- the same put together in other ways
  pub table_first : (w : World O) (sort : ItemSort) (rows : Rows MapRow)
      → with_table w sort rows ≡ with_rows w sort rows w.graph
  table_first w sorts.Node rows = refl
  table_first w sorts.Arc rows = refl

  pub table_twice : (w : World O) (sort : ItemSort) (first rows : Rows MapRow) (a : AlterOf O)
      → with_table (with_rows w sort first a) sort rows ≡ with_rows w sort rows a
  table_twice w sorts.Node first rows a = refl
  table_twice w sorts.Arc first rows a = refl

  pub table_now : (w : World O) (sort : ItemSort) (rows : Rows MapRow) (a : AlterOf O)
      → (tables_of (with_rows w sort rows a) sort).maps ≡ rows
  table_now w sorts.Node rows a = refl
  table_now w sorts.Arc rows a = refl

  pub pool_stays : (w : World O) (sort : ItemSort) (rows : Rows MapRow) (a : AlterOf O)
      → (with_rows w sort rows a).pool ≡ w.pool
  pool_stays w sorts.Node rows a = refl
  pool_stays w sorts.Arc rows a = refl

  -- ---- its claims

  abbrev pub last_claims : World O → List Claim
  last_claims w = map guard_claim w.guards.rows ++ flat_map snap_claims w.snapshots.rows

  abbrev pub other_claims : World O → List Claim
  other_claims w = flat_map view_claims w.views.rows ++ last_claims w

  -- those before the maps of the sort, and those behind
  abbrev pub before : World O → ItemSort → List Claim
  before w sorts.Node = own_claims sorts.Node w.nodes ++ own_claims sorts.Arc w.arcs
  before w sorts.Arc =
      own_claims sorts.Node w.nodes
      ++ (own_claims sorts.Arc w.arcs ++ map (map_claim sorts.Node) w.nodes.maps.rows)

  abbrev pub behind : World O → ItemSort → List Claim
  behind w sorts.Node = map (map_claim sorts.Arc) w.arcs.maps.rows ++ other_claims w
  behind w sorts.Arc = other_claims w

  -- the claims, the maps of the sort being these
  abbrev pub claims_with : World O → ItemSort → List (Named MapRow) → List Claim
  claims_with w sort rows = before w sort ++ (map (map_claim sort) rows ++ behind w sort)

  pub claims_now : (w : World O) (sort : ItemSort) (rows : Rows MapRow) (a : AlterOf O)
      → claims_of (with_rows w sort rows a) ≡ claims_with w sort rows.rows
  claims_now w sorts.Node rows a = refl
  claims_now w sorts.Arc rows a = refl

  pub claims_are : (w : World O) (sort : ItemSort)
      → claims_of w ≡ claims_with w sort (tables_of w sort).maps.rows
  claims_are w sorts.Node = refl
  claims_are w sorts.Arc = refl

  -- all but the maps of the other sort stand behind
  pub others_behind : (P : Claim → Type 0) (w : World O) (sort : ItemSort)
      → AllOf P (behind w sort) → AllOf P (other_claims w)
  others_behind P w sorts.Node all =
      all_right P (map (map_claim sorts.Arc) w.arcs.maps.rows) (other_claims w) all
  others_behind P w sorts.Arc all = all

  -- the halves of snapshots stand behind the maps
  pub halves_behind : (P : Claim → Type 0) (w : World O) (sort : ItemSort)
      → AllOf P (behind w sort) → AllOf P (flat_map snap_claims w.snapshots.rows)
  halves_behind P w sort all =
      all_right P (map guard_claim w.guards.rows) (flat_map snap_claims w.snapshots.rows)
      (all_right P (flat_map view_claims w.views.rows) (last_claims w)
      (others_behind P w sort all))

  -- a map in the midst of others
  pub claims_midst : (w : World O) (sort : ItemSort) (front : List (Named MapRow))
      (e : Named MapRow) (back : List (Named MapRow))
      → claims_with w sort (front ++ e ∷ back)
      ≡ (before w sort ++ map (map_claim sort) front)
      ++ map_claim sort e ∷ (map (map_claim sort) back ++ behind w sort)
  claims_midst w sort front e back =
      ap (λ list. before w sort ++ (list ++ behind w sort))
      (map-append (map_claim sort) front (e ∷ back))
      ∙ ap (λ list. before w sort ++ list)
      (append_assoc (map (map_claim sort) front) (map (map_claim sort) (e ∷ back)) (behind w sort))
      ∙ sym (append_assoc (before w sort) (map (map_claim sort) front)
      (map (map_claim sort) (e ∷ back) ++ behind w sort))

  pub claims_apart : (w : World O) (sort : ItemSort) (front back : List (Named MapRow))
      → claims_with w sort (front ++ back)
      ≡ (before w sort ++ map (map_claim sort) front)
      ++ (map (map_claim sort) back ++ behind w sort)
  claims_apart w sort front back =
      ap (λ list. before w sort ++ (list ++ behind w sort))
      (map-append (map_claim sort) front back)
      ∙ ap (λ list. before w sort ++ list)
      (append_assoc (map (map_claim sort) front) (map (map_claim sort) back) (behind w sort))
      ∙ sym (append_assoc (before w sort) (map (map_claim sort) front)
      (map (map_claim sort) back ++ behind w sort))

  -- ---- its plain world

  module _ (w : World O) (g : Digraph) (look later : Look)
      (pool : List GuardWord) (a : AlterOf O) where
    last : AllOf (Agrees look later) (other_claims w)
        → AllOf (Agrees look later) (last_claims w)
    last agree =
        all_right (Agrees look later) (flat_map view_claims w.views.rows) (last_claims w) agree

    others : AllOf (Agrees look later) (other_claims w)
        → (looked (guard_seen later) w.guards.rows ≡ looked (guard_seen look) w.guards.rows)
        × (looked (snapshot_seen g later) w.snapshots.rows
        ≡ looked (snapshot_seen g look) w.snapshots.rows)
    others agree = (
      guards_agree look later w.guards.rows
          (all_left (Agrees look later) (map guard_claim w.guards.rows)
          (flat_map snap_claims w.snapshots.rows) (last agree)),
      snapshots_agree look later g w.snapshots.rows
          (all_right (Agrees look later) (map guard_claim w.guards.rows)
          (flat_map snap_claims w.snapshots.rows) (last agree)),
    )

    -- where the same is seen of all other claims, the maps of the sort alone are others
    pub maps_seen : (sort : ItemSort) (rows : Rows MapRow)
        → AllOf (Agrees look later) (claims_with w sort [])
        → world_seen g later pool (with_rows w sort rows a)
        ≡ with_maps (world_seen g look pool w) sort (looked (map_seen later sort) rows.rows)
    maps_seen sorts.Node rows all =
        let labels = ap labels_seen all.0 in
        let arc_labels = ap labels_seen all.1.1.0 in
        let arc_maps = rows_agree look later sorts.Arc w.arcs.maps.rows
        (all_left (Agrees look later) (map (map_claim sorts.Arc) w.arcs.maps.rows)
        (other_claims w) all.1.1.1.1) in
        let rest = others (all_right (Agrees look later)
        (map (map_claim sorts.Arc) w.arcs.maps.rows) (other_claims w) all.1.1.1.1) in
        let attributes = attributes_agree (ties_seen look w)
        (ties_seen later (with_rows w sorts.Node rows a)) w.attributes.rows
        (elim [ sorts.Node ↦ all.1.0 | sorts.Arc ↦ all.1.1.1.0 ]) in
        λ i. record (world_seen g look pool w) {
          nodes = record {
            labels = labels i;
            maps = looked (map_seen later sorts.Node) rows.rows;
          };
          arcs = record { labels = arc_labels i; maps = arc_maps i };
          guards = rest.0 i;
          snapshots = rest.1 i;
          attributes = attributes i;
        }
    maps_seen sorts.Arc rows all =
        let labels = ap labels_seen all.1.1.0 in
        let node_labels = ap labels_seen all.0 in
        let node_maps = rows_agree look later sorts.Node w.nodes.maps.rows
        (all_left (Agrees look later) (map (map_claim sorts.Node) w.nodes.maps.rows)
        (other_claims w) all.1.1.1.1) in
        let rest = others (all_right (Agrees look later)
        (map (map_claim sorts.Node) w.nodes.maps.rows) (other_claims w) all.1.1.1.1) in
        let attributes = attributes_agree (ties_seen look w)
        (ties_seen later (with_rows w sorts.Arc rows a)) w.attributes.rows
        (elim [ sorts.Node ↦ all.1.0 | sorts.Arc ↦ all.1.1.1.0 ]) in
        λ i. record (world_seen g look pool w) {
          nodes = record { labels = node_labels i; maps = node_maps i };
          arcs = record {
            labels = labels i;
            maps = looked (map_seen later sorts.Arc) rows.rows;
          };
          guards = rest.0 i;
          snapshots = rest.1 i;
          attributes = attributes i;
        }

module _ {O : Type 0} (watch : O → Watched) (w : World O) where
  pub plain_later : (sort : ItemSort) (rows : Rows MapRow) (a : AlterOf O)
      → plain_of watch (with_rows w sort rows a)
      ≡ world_seen a.graph.graph (look_in (chains_seen watch a.chains))
      (kinds_of watch w.pool.items) (with_rows w sort rows a)
  plain_later sorts.Node rows a = refl
  plain_later sorts.Arc rows a = refl

  pub maps_plain : (sort : ItemSort) → (attached (plain_of watch w) sort).maps
      ≡ looked (map_seen (look_of watch w) sort) (tables_of w sort).maps.rows
  maps_plain sorts.Node = refl
  maps_plain sorts.Arc = refl

-- ---- it is in step

module _ {O : Type 0} (watch : O → Watched) (w : World O) (rows : Rows MapRow) (a : AlterOf O)
    (in_step : AreInStep watch w) (then : graph.IsInStep (state_of watch a))
  where
    pub rows_in_step : (sort : ItemSort)
        → AreDerived (look_in (chains_seen watch a.chains)) (with_table w sort rows).nodes
        (with_table w sort rows).arcs w.attributes.rows
        → AreKept (look_in (chains_seen watch a.chains)) (with_table w sort rows).nodes
        (with_table w sort rows).arcs w.views.rows
        → (chains_seen watch a.chains).snaps ≡ (chains_seen watch w.graph.chains).snaps
        → AreSeated (claims_with w sort rows.rows) (chains_seen watch a.chains)
        → AreInStep watch (with_rows w sort rows a)
    rows_in_step sorts.Node derived kept snaps seated = record {
      graph = then;
      seated = seated;
      boxes = in_step.boxes;
      snaps = snaps ∙ in_step.snaps;
      derived = derived;
      kept = kept;
    }
    rows_in_step sorts.Arc derived kept snaps seated = record {
      graph = then;
      seated = seated;
      boxes = in_step.boxes;
      snaps = snaps ∙ in_step.snaps;
      derived = derived;
      kept = kept;
    }

-- ---- the same rows, with more room

all_agree : (look : Look) (list : List Claim) → AllOf (Agrees look look) list
all_agree look [] = tt
all_agree look (x ∷ list) = (refl, all_agree look list)

pub own_maps : (world : plain.World) (sort : ItemSort)
    → with_maps world sort (attached world sort).maps ≡ world
own_maps world sorts.Node = refl
own_maps world sorts.Arc = refl

module _ {O : Type 0} (watch : O → Watched) (w : World O) (sort : ItemSort) (rows : Rows MapRow)
    (in_step : AreInStep watch w)
    (same : rows.rows ≡ (tables_of w sort).maps.rows) where
  pub same_in_step : AreInStep watch (with_rows w sort rows w.graph)
  same_in_step =
      rows_in_step watch w rows w.graph in_step in_step.graph sort
      (derived_rows (look_of watch w) w sort rows same in_step.derived)
      (kept_rows (look_of watch w) w sort rows same in_step.kept) refl
      (subst (λ list. AreSeated list (chains_seen watch w.graph.chains))
      (claims_are w sort ∙ ap (claims_with w sort) (sym same)) in_step.seated)

  pub same_plain : plain_of watch (with_rows w sort rows w.graph) ≡ plain_of watch w
  same_plain =
      let look = look_of watch w in
      plain_later watch w sort rows w.graph
      ∙ maps_seen w w.graph.graph.graph look look (kinds_of watch w.pool.items) w.graph
      sort rows (all_agree look (claims_with w sort []))
      ∙ ap (with_maps (plain_of watch w) sort)
      (ap (looked (map_seen look sort)) same ∙ sym (maps_plain watch w sort))
      ∙ own_maps (plain_of watch w) sort
