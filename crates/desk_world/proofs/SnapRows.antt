-- A world with other snapshots and other seats.
use Rattle.std.proofs.Common.{◌≡◌, ℕ, true, false, not, cond, List, [], ◌∷◌, ◌++◌, map, refl}
use Rattle.std.proofs.Common.{sym, ap, ◌∙◌, subst, filter}
use Rattle.std.specs.List.{flat_map}
use Rattle.std.proofs.lemmas.List.{append_assoc}
use Rattle.base_items.specs.declared.items.ItemSort.{ItemSort}
use Rattle.base_items.specs.declared.items.ItemSort.TheVariants as sorts
use Rattle.script_words.specs.declared.commands.GuardWord.{GuardWord}
use Rattle.plain_digraph.specs.Digraph.{Digraph}
use Rattle.plain_digraph.specs.Lists.{AllOf}
use Rattle.observe_core.specs.Seen.{Watched}
use Rattle.alter_graph.specs.declared.snaps.SnapKeys.{SnapKeys}
use Rattle.alter_graph.specs.Attaching.{uses_key}
use Rattle.alter_graph.specs.Chains.{chains_seen}
use Rattle.alter_graph.specs.State as graph
use Rattle.alter_graph.specs.State.{AlterOf, state_of}
use Rattle.plain_world.specs.Tables.{Named}
use Rattle.desk_names.specs.Rows.{Rows}
use Rattle.desk_world.specs.declared.world.World.{World}
use Rattle.desk_world.specs.Claims.{Claim, claims_of, guard_claim, snap_claims}
use Rattle.desk_world.specs.InStep.{AreInStep, AreSeated}
use Rattle.desk_world.specs.Looks.{Look, look_in, looked}
use Rattle.desk_world.specs.Plain.{look_of, world_seen, labels_seen, ties_seen, snapshot_seen}
use Rattle.desk_world.proofs.Derived.{derived_agrees}
use Rattle.desk_world.proofs.GuardTables.{ahead, after, claims_are, nodes_ahead, arcs_ahead}
use Rattle.desk_world.proofs.GuardTables.{views_ahead}
use Rattle.desk_world.proofs.KeptAgree.{kept_agrees}
use Rattle.desk_world.proofs.Relabelled.{Agrees, rows_agree, guards_agree, attributes_agree}
use Rattle.desk_world.proofs.Seated.{all_left, all_right}
use Rattle.desk_world.proofs.SnapTables.{snaps_left}
use Rattle.desk_world.proofs.Written.{IsElsewhere}

-- ---- rows

pub claims_apart : (front back : List (Named SnapKeys)) → flat_map snap_claims (front ++ back)
    ≡ flat_map snap_claims front ++ flat_map snap_claims back
claims_apart [] back = refl
claims_apart (e ∷ front) back = ap (λ list. snap_claims e ++ list) (claims_apart front back)

pub values_apart : (front back : List (Named SnapKeys))
    → map (λ (e : Named SnapKeys). e.value) (front ++ back)
    ≡ map (λ (e : Named SnapKeys). e.value) front ++ map (λ (e : Named SnapKeys). e.value) back
values_apart [] back = refl
values_apart (e ∷ front) back = ap (λ list. e.value ∷ list) (values_apart front back)

-- the snapshot of the key goes, and no other has it
pub snap_taken : (sort : ItemSort) (key : ℕ) (front : List (Named SnapKeys)) (e : Named SnapKeys)
    (back : List (Named SnapKeys)) → uses_key sort key e.value ≡ true
    → AllOf (IsElsewhere sort key) (flat_map snap_claims front)
    → AllOf (IsElsewhere sort key) (flat_map snap_claims back)
    → filter (λ k. not (uses_key sort key k)) (map (λ (e : Named SnapKeys). e.value)
    (front ++ e ∷ back)) ≡ map (λ (e : Named SnapKeys). e.value) (front ++ back)
snap_taken sort key [] e back used before behind =
    let rest = snaps_left sort key back behind in
    λ i. cond (not (used i)) (e.value ∷ rest i) (rest i)
snap_taken sort key (f ∷ front) e back used before behind =
    let rest = snap_taken sort key front e back used before.1.1 behind in
    let unused = by sort before in
    λ i. cond (not (unused i)) (f.value ∷ rest i) (rest i)
  where
    by : (sort : ItemSort) → AllOf (IsElsewhere sort key) (flat_map snap_claims (f ∷ front))
        → uses_key sort key f.value ≡ false
    by sorts.Node before = before.0
    by sorts.Arc before = before.1.0

module _ {O : Type 0} (w : World O) where
  -- all other claims
  abbrev pub others : List Claim
  others = ahead w ++ map guard_claim w.guards.rows

  pub claims_before : claims_of w ≡ others ++ flat_map snap_claims w.snapshots.rows
  claims_before =
      claims_are w ∙ sym (append_assoc (ahead w) (map guard_claim w.guards.rows) (after w))

  module _ (rows : Rows SnapKeys) (a : AlterOf O) where
    abbrev pub with_snaps : World O
    with_snaps = record w { graph = a; snapshots = rows }

    pub claims_now : claims_of with_snaps ≡ others ++ flat_map snap_claims rows.rows
    claims_now =
        claims_are with_snaps
        ∙ sym (append_assoc (ahead w) (map guard_claim w.guards.rows)
        (flat_map snap_claims rows.rows))

    -- where the same is seen of all other claims, the snapshots alone are others
    pub snaps_show : (g : Digraph) (look later : Look) (pool : List GuardWord)
        → AllOf (Agrees look later) others
        → world_seen g later pool with_snaps
        ≡ record (world_seen g look pool w) {
          snapshots = looked (snapshot_seen g later) rows.rows;
        }
    snaps_show g look later pool agree =
        let all = all_left (Agrees look later) (ahead w) (map guard_claim w.guards.rows) agree in
        let node_labels = ap labels_seen all.0 in
        let arc_labels = ap labels_seen all.1.1.0 in
        let nodes = rows_agree look later sorts.Node w.nodes.maps.rows
        (nodes_ahead w (Agrees look later) all) in
        let arcs = rows_agree look later sorts.Arc w.arcs.maps.rows
        (arcs_ahead w (Agrees look later) all) in
        let guards = guards_agree look later w.guards.rows
        (all_right (Agrees look later) (ahead w) (map guard_claim w.guards.rows) agree) in
        let attributes = attributes_agree (ties_seen look w) (ties_seen later with_snaps)
        w.attributes.rows (elim [ sorts.Node ↦ all.1.0 | sorts.Arc ↦ all.1.1.1.0 ]) in
        λ i. record (world_seen g look pool w) {
          nodes = record { labels = node_labels i; maps = nodes i };
          arcs = record { labels = arc_labels i; maps = arcs i };
          guards = guards i;
          snapshots = looked (snapshot_seen g later) rows.rows;
          attributes = attributes i;
        }

-- ---- it is in step

module _ {O : Type 0} (watch : O → Watched) (w : World O) (rows : Rows SnapKeys) (a : AlterOf O)
    (in_step : AreInStep watch w) (then : graph.IsInStep (state_of watch a))
    (agree : AllOf (Agrees (look_of watch w) (look_in (chains_seen watch a.chains))) (others w))
    (names : (chains_seen watch a.chains).snaps ≡ map (λ e. e.value) rows.rows)
    (seated : AreSeated (others w ++ flat_map snap_claims rows.rows)
    (chains_seen watch a.chains)) where
  abbrev look : Look
  look = look_of watch w

  abbrev later : Look
  later = look_in (chains_seen watch a.chains)

  pub snaps_in_step : AreInStep watch (with_snaps w rows a)
  snaps_in_step =
      let all = all_left (Agrees look later) (ahead w) (map guard_claim w.guards.rows) agree in
      record {
        graph = then;
        seated = subst (λ list. AreSeated list (chains_seen watch a.chains))
            (sym (claims_now w rows a)) seated;
        boxes = in_step.boxes;
        snaps = names;
        derived = derived_agrees look later w.nodes w.arcs w.attributes.rows all.1.0 all.1.1.1.0
            (nodes_ahead w (Agrees look later) all) (arcs_ahead w (Agrees look later) all)
            in_step.derived;
        kept = kept_agrees look later w.nodes w.arcs w.views.rows
            (views_ahead w (Agrees look later) all) (nodes_ahead w (Agrees look later) all)
            (arcs_ahead w (Agrees look later) all) in_step.kept;
      }
