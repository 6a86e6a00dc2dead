-- A world with other guards, another pool and other seats.
use Rattle.std.proofs.Common.{◌≡◌, List, [], ◌∷◌, ◌++◌, map, refl, sym, ap, ◌∙◌, subst}
use Rattle.std.proofs.Common.{true}
use Rattle.std.specs.List.{flat_map}
use Rattle.std.proofs.lemmas.List.{append_assoc, map-append}
use Rattle.base_items.specs.declared.items.ItemSort.TheVariants as sorts
use Rattle.script_words.specs.declared.commands.GuardWord.{GuardWord}
use Rattle.plain_digraph.specs.Digraph.{Digraph}
use Rattle.plain_digraph.specs.Lists.{AllOf}
use Rattle.observe_core.specs.Seen.{Watched}
use Rattle.alter_graph.specs.declared.snaps.SnapKeys.{SnapKeys}
use Rattle.alter_graph.specs.Chains.{chains_seen}
use Rattle.alter_graph.specs.State as graph
use Rattle.alter_graph.specs.State.{AlterOf, state_of}
use Rattle.plain_world.specs.Tables.{Named}
use Rattle.desk_names.specs.Rows.{Rows}
use Rattle.desk_world.specs.declared.tables.GuardRow.{GuardRow}
use Rattle.desk_world.specs.declared.world.World.{World}
use Rattle.desk_world.specs.Claims.{Claim, claims_of, own_claims, map_claim, guard_claim}
use Rattle.desk_world.specs.Claims.{snap_claims, view_claims, has_map_kind}
use Rattle.desk_world.specs.InStep.{AreInStep, AreSeated, AreBoxes}
use Rattle.desk_world.specs.Looks.{Look, looked, look_in}
use Rattle.desk_world.specs.Plain.{look_of, world_seen, labels_seen, ties_seen, guard_seen}
use Rattle.desk_world.specs.Plain.{snapshot_seen}
use Rattle.desk_world.proofs.Derived.{derived_agrees}
use Rattle.desk_world.proofs.KeptAgree.{kept_agrees}
use Rattle.desk_world.proofs.Relabelled.{Agrees, rows_agree, attributes_agree, snapshots_agree}
use Rattle.desk_world.proofs.Seated.{all_left, all_right}

module _ {O : Type 0} (w : World O) where
  -- ---- its claims

  abbrev node_maps : List Claim
  node_maps = map (map_claim sorts.Node) w.nodes.maps.rows

  abbrev arc_maps : List Claim
  arc_maps = map (map_claim sorts.Arc) w.arcs.maps.rows

  abbrev kept_seats : List Claim
  kept_seats = flat_map view_claims w.views.rows

  -- those of the maps and of kept views, and all that stand before the guards
  abbrev pub maps_claimed : List Claim
  maps_claimed = node_maps ++ (arc_maps ++ kept_seats)

  abbrev pub ahead : List Claim
  ahead = own_claims sorts.Node w.nodes ++ (own_claims sorts.Arc w.arcs ++ maps_claimed)

  -- what holds of them holds of those of each kind
  pub nodes_ahead : (P : Claim → Type 0) → AllOf P ahead → AllOf P node_maps
  nodes_ahead P all = all_left P node_maps (arc_maps ++ kept_seats) all.1.1.1.1

  pub arcs_ahead : (P : Claim → Type 0) → AllOf P ahead → AllOf P arc_maps
  arcs_ahead P all =
      all_left P arc_maps kept_seats
      (all_right P node_maps (arc_maps ++ kept_seats) all.1.1.1.1)

  pub views_ahead : (P : Claim → Type 0) → AllOf P ahead → AllOf P kept_seats
  views_ahead P all =
      all_right P arc_maps kept_seats
      (all_right P node_maps (arc_maps ++ kept_seats) all.1.1.1.1)

  maps_first : (rest : List Claim)
      → node_maps ++ (arc_maps ++ (kept_seats ++ rest)) ≡ maps_claimed ++ rest
  maps_first rest =
      sym (append_assoc node_maps (arc_maps ++ kept_seats) rest
      ∙ ap (λ list. node_maps ++ list) (append_assoc arc_maps kept_seats rest))

  abbrev pub after : List Claim
  after = flat_map snap_claims w.snapshots.rows

  -- the claims, the guards being these
  abbrev pub claims_with : List (Named GuardRow) → List Claim
  claims_with rows = ahead ++ (map guard_claim rows ++ after)

  -- the same put together in other ways
  pub claims_are : claims_of w ≡ claims_with w.guards.rows
  claims_are =
      ap (λ list. own_claims sorts.Node w.nodes ++ (own_claims sorts.Arc w.arcs ++ list))
      (maps_first (map guard_claim w.guards.rows ++ after))

  -- a guard in the midst of others
  pub claims_midst : (front : List (Named GuardRow)) (e : Named GuardRow)
      (back : List (Named GuardRow)) → claims_with (front ++ e ∷ back)
      ≡ (ahead ++ map guard_claim front) ++ guard_claim e ∷ (map guard_claim back ++ after)
  claims_midst front e back =
      ap (λ list. ahead ++ (list ++ after)) (map-append guard_claim front (e ∷ back))
      ∙ ap (λ list. ahead ++ list)
      (append_assoc (map guard_claim front) (map guard_claim (e ∷ back)) after)
      ∙ sym (append_assoc ahead (map guard_claim front) (map guard_claim (e ∷ back) ++ after))

  pub claims_apart : (front back : List (Named GuardRow)) → claims_with (front ++ back)
      ≡ (ahead ++ map guard_claim front) ++ (map guard_claim back ++ after)
  claims_apart front back =
      ap (λ list. ahead ++ (list ++ after)) (map-append guard_claim front back)
      ∙ ap (λ list. ahead ++ list)
      (append_assoc (map guard_claim front) (map guard_claim back) after)
      ∙ sym (append_assoc ahead (map guard_claim front) (map guard_claim back ++ after))

  -- no snapshot claims a seat that could be one of a guard
  pub after_maps : AllOf (λ (x : Claim). has_map_kind x.role ≡ true) after
  after_maps = each w.snapshots.rows
    where
      each : (table : List (Named SnapKeys))
          → AllOf (λ (x : Claim). has_map_kind x.role ≡ true) (flat_map snap_claims table)
      each [] = tt
      each (e ∷ es) = (refl, (refl, each es))

  -- ---- the world with other guards

  module _ (rows : Rows GuardRow) (boxes : World O) (a : AlterOf O) where
    -- the pool is that of another world
    abbrev pub with_guards : World O
    with_guards = record w { graph = a; guards = rows; pool = boxes.pool }

    pub claims_now : claims_of with_guards ≡ claims_with rows.rows
    claims_now =
        ap (λ list. own_claims sorts.Node w.nodes ++ (own_claims sorts.Arc w.arcs ++ list))
        (maps_first (map guard_claim rows.rows ++ after))

  -- where the same is seen of all other claims, the guards and the pool alone are others
  pub guards_seen : (g : Digraph) (look later : Look)
      (pool kinds : List GuardWord) (rows : Rows GuardRow) (boxes : World O) (a : AlterOf O)
      → AllOf (Agrees look later) ahead → AllOf (Agrees look later) after
      → world_seen g later kinds (with_guards rows boxes a)
      ≡ record (world_seen g look pool w) {
        guards = looked (guard_seen later) rows.rows;
        pool = kinds;
      }
  guards_seen g look later pool kinds rows boxes a all halves =
      let node_labels = ap labels_seen all.0 in
      let arc_labels = ap labels_seen all.1.1.0 in
      let nodes = rows_agree look later sorts.Node w.nodes.maps.rows
      (nodes_ahead (Agrees look later) all) in
      let arcs = rows_agree look later sorts.Arc w.arcs.maps.rows
      (arcs_ahead (Agrees look later) all) in
      let snapshots : looked (snapshot_seen g later) w.snapshots.rows
      ≡ looked (snapshot_seen g look) w.snapshots.rows =
      snapshots_agree look later g w.snapshots.rows halves in
      let attributes = attributes_agree (ties_seen look w)
      (ties_seen later (with_guards rows boxes a)) w.attributes.rows
      (elim [ sorts.Node ↦ all.1.0 | sorts.Arc ↦ all.1.1.1.0 ]) in
      λ i. record (world_seen g look pool w) {
        nodes = record { labels = node_labels i; maps = nodes i };
        arcs = record { labels = arc_labels i; maps = arcs i };
        guards = looked (guard_seen later) rows.rows;
        pool = kinds;
        snapshots = snapshots i;
        attributes = attributes i;
      }

-- ---- it is in step

module _ {O : Type 0} (watch : O → Watched) (w : World O) (rows : Rows GuardRow) (boxes : World O)
    (a : AlterOf O) (in_step : AreInStep watch w) (then : graph.IsInStep (state_of watch a))
    (told_nothing : AreBoxes watch boxes.pool.items)
    (agree : AllOf (Agrees (look_of watch w) (look_in (chains_seen watch a.chains))) (ahead w))
    (snaps : (chains_seen watch a.chains).snaps ≡ (chains_seen watch w.graph.chains).snaps)
  where
    pub guards_in_step : AreSeated (claims_with w rows.rows) (chains_seen watch a.chains)
        → AreInStep watch (with_guards w rows boxes a)
    guards_in_step seated = record {
      graph = then;
      seated = subst (λ list. AreSeated list (chains_seen watch a.chains))
          (sym (claims_now w rows boxes a)) seated;
      boxes = told_nothing;
      snaps = snaps ∙ in_step.snaps;
      derived = derived_agrees (look_of watch w) (look_in (chains_seen watch a.chains)) w.nodes
          w.arcs w.attributes.rows agree.1.0 agree.1.1.1.0
          (nodes_ahead w (Agrees (look_of watch w) (look_in (chains_seen watch a.chains))) agree)
          (arcs_ahead w (Agrees (look_of watch w) (look_in (chains_seen watch a.chains))) agree)
          in_step.derived;
      kept = kept_agrees (look_of watch w) (look_in (chains_seen watch a.chains)) w.nodes w.arcs
          w.views.rows
          (views_ahead w (Agrees (look_of watch w) (look_in (chains_seen watch a.chains))) agree)
          (nodes_ahead w (Agrees (look_of watch w) (look_in (chains_seen watch a.chains))) agree)
          (arcs_ahead w (Agrees (look_of watch w) (look_in (chains_seen watch a.chains))) agree)
          in_step.kept;
    }
