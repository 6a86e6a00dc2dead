-- A world with other views, and other seats of kept views.
use Rattle.std.proofs.Common.{◌≡◌, List, [], ◌∷◌, ◌++◌, map, refl, sym, ap, ◌∙◌, subst}
use Rattle.std.specs.List.{flat_map}
use Rattle.std.proofs.lemmas.List.{append_assoc}
use Rattle.base_items.specs.declared.items.ItemSort.TheVariants as sorts
use Rattle.script_words.specs.declared.commands.GuardWord.{GuardWord}
use Rattle.plain_digraph.specs.Digraph.{Digraph}
use Rattle.plain_digraph.specs.Lists.{AllOf}
use Rattle.observe_core.specs.Seen.{Watched}
use Rattle.alter_graph.specs.Chains.{chains_seen}
use Rattle.alter_graph.specs.State as graph
use Rattle.alter_graph.specs.State.{AlterOf, state_of}
use Rattle.plain_world.specs.Tables.{Named}
use Rattle.desk_names.specs.Rows.{Rows}
use Rattle.desk_world.specs.declared.tables.ViewRow.{ViewRow}
use Rattle.desk_world.specs.declared.world.World.{World}
use Rattle.desk_world.specs.Claims.{Claim, claims_of, own_claims, map_claim, guard_claim}
use Rattle.desk_world.specs.Claims.{snap_claims, view_claims}
use Rattle.desk_world.specs.InStep.{AreInStep, AreSeated}
use Rattle.desk_world.specs.KeptViews.{AreKept, views_of}
use Rattle.desk_world.specs.Looks.{Look, look_in}
use Rattle.desk_world.specs.Plain.{plain_of, look_of, kinds_of, world_seen, labels_seen, ties_seen}
use Rattle.desk_world.proofs.Derived.{derived_agrees}
use Rattle.desk_world.proofs.KeptAgree.{kept_agrees}
use Rattle.desk_world.proofs.Relabelled.{Agrees, rows_agree, guards_agree, attributes_agree}
use Rattle.desk_world.proofs.Relabelled.{snapshots_agree}
use Rattle.desk_world.proofs.Seated.{all_left, all_right}

-- ---- claims

pub seats_apart : (front back : List (Named ViewRow)) → flat_map view_claims (front ++ back)
    ≡ flat_map view_claims front ++ flat_map view_claims back
seats_apart [] back = refl
seats_apart (e ∷ front) back =
    ap (λ list. view_claims e ++ list) (seats_apart front back)
    ∙ sym (append_assoc (view_claims e) (flat_map view_claims front) (flat_map view_claims back))

module _ {O : Type 0} (w : World O) where
  abbrev node_maps : List Claim
  node_maps = map (map_claim sorts.Node) w.nodes.maps.rows

  abbrev arc_maps : List Claim
  arc_maps = map (map_claim sorts.Arc) w.arcs.maps.rows

  -- those before the seats of kept views, and those behind
  abbrev pub before : List Claim
  before = own_claims sorts.Node w.nodes ++ (own_claims sorts.Arc w.arcs ++ (node_maps ++ arc_maps))

  abbrev guards : List Claim
  guards = map guard_claim w.guards.rows

  abbrev snaps : List Claim
  snaps = flat_map snap_claims w.snapshots.rows

  abbrev pub behind : List Claim
  behind = guards ++ snaps

  around : (seats : List Claim) → own_claims sorts.Node w.nodes ++ (own_claims sorts.Arc w.arcs
      ++ (node_maps ++ (arc_maps ++ (seats ++ behind)))) ≡ before ++ (seats ++ behind)
  around seats =
      ap (λ list. own_claims sorts.Node w.nodes ++ (own_claims sorts.Arc w.arcs ++ list))
      (sym (append_assoc node_maps arc_maps (seats ++ behind)))

  pub claims_around : claims_of w ≡ before ++ (flat_map view_claims w.views.rows ++ behind)
  claims_around = around (flat_map view_claims w.views.rows)

  module _ (rows : Rows ViewRow) (a : AlterOf O) where
    abbrev pub with_rows : World O
    with_rows = record w { graph = a; views = rows }

    pub claims_then : claims_of with_rows ≡ before ++ (flat_map view_claims rows.rows ++ behind)
    claims_then = around (flat_map view_claims rows.rows)

-- ---- where the same is seen of all other claims

module _ {O : Type 0} (watch : O → Watched) (w : World O) (rows : Rows ViewRow) (a : AlterOf O)
    (in_step : AreInStep watch w) (then : graph.IsInStep (state_of watch a))
    (agree : AllOf (Agrees (look_of watch w) (look_in (chains_seen watch a.chains)))
    (before w ++ behind w)) where
  abbrev look : Look
  look = look_of watch w

  abbrev later : Look
  later = look_in (chains_seen watch a.chains)

  agree_before : AllOf (Agrees look later) (before w)
  agree_before = all_left (Agrees look later) (before w) (behind w) agree

  agree_behind : AllOf (Agrees look later) (behind w)
  agree_behind = all_right (Agrees look later) (before w) (behind w) agree

  pub agree_nodes : AllOf (Agrees look later) (node_maps w)
  agree_nodes = all_left (Agrees look later) (node_maps w) (arc_maps w) agree_before.1.1.1.1

  pub agree_arcs : AllOf (Agrees look later) (arc_maps w)
  agree_arcs = all_right (Agrees look later) (node_maps w) (arc_maps w) agree_before.1.1.1.1

  -- the views alone are others
  pub rows_plain : a.graph.graph ≡ w.graph.graph.graph → plain_of watch (with_rows w rows a)
      ≡ record (plain_of watch w) { views = views_of rows.rows }
  rows_plain same =
      let g : Digraph = w.graph.graph.graph in
      let pool : List GuardWord = kinds_of watch w.pool.items in
      let node_labels = ap labels_seen agree_before.0 in
      let arc_labels = ap labels_seen agree_before.1.1.0 in
      let nodes = rows_agree look later sorts.Node w.nodes.maps.rows agree_nodes in
      let arcs = rows_agree look later sorts.Arc w.arcs.maps.rows agree_arcs in
      let guarded = guards_agree look later w.guards.rows
      (all_left (Agrees look later) (guards w) (snaps w) agree_behind) in
      let copies = snapshots_agree look later g w.snapshots.rows
      (all_right (Agrees look later) (guards w) (snaps w) agree_behind) in
      let attributes = attributes_agree (ties_seen look w) (ties_seen later (with_rows w rows a))
      w.attributes.rows
      (elim [ sorts.Node ↦ agree_before.1.0 | sorts.Arc ↦ agree_before.1.1.1.0 ]) in
      ap (λ (h : Digraph). world_seen h later pool (with_rows w rows a)) same
      ∙ (λ i. record (world_seen g look pool w) {
        nodes = record { labels = node_labels i; maps = nodes i };
        arcs = record { labels = arc_labels i; maps = arcs i };
        guards = guarded i;
        snapshots = copies i;
        views = views_of rows.rows;
        attributes = attributes i;
      })

  -- views that are kept by what was seen are kept by what is seen now
  pub kept_later : AllOf (Agrees look later) (flat_map view_claims rows.rows)
      → AreKept look w.nodes w.arcs rows.rows → AreKept later w.nodes w.arcs rows.rows
  kept_later seats =
      kept_agrees look later w.nodes w.arcs rows.rows seats agree_nodes agree_arcs

  pub rows_in_step
      : AreSeated (before w ++ (flat_map view_claims rows.rows ++ behind w))
      (chains_seen watch a.chains)
      → (chains_seen watch a.chains).snaps ≡ (chains_seen watch w.graph.chains).snaps
      → AreKept later w.nodes w.arcs rows.rows → AreInStep watch (with_rows w rows a)
  rows_in_step seated names kept = record {
    graph = then;
    seated = subst (λ list. AreSeated list (chains_seen watch a.chains))
        (sym (claims_then w rows a)) seated;
    boxes = in_step.boxes;
    snaps = names ∙ in_step.snaps;
    derived = derived_agrees look later w.nodes w.arcs w.attributes.rows agree_before.1.0
        agree_before.1.1.1.0 agree_nodes agree_arcs in_step.derived;
    kept = kept;
  }
