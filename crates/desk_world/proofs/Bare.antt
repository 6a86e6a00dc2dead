-- A world with the seats of labels and ties alone.
use Rattle.std.proofs.Common.{◌≡◌, ℕ, suc, List, [], ◌∷◌, ◌++◌, map, Option, Some, None, refl, sym}
use Rattle.std.proofs.Common.{ap}
use Rattle.std.proofs.Common.{◌∙◌, subst, true, false}
use Rattle.std.specs.Prelude.{nat_le, option_map, cond}
use Rattle.std.specs.List.{filter_map, cons_option, flat_map}
use Rattle.std.specs.Ordering.{nat_cmp}
use Rattle.std.specs.Cmp.{nat_cmp_total}
use Rattle.std.specs.FinMap as fin
use Rattle.base_items.specs.declared.items.Fact.{Fact}
use Rattle.base_items.specs.declared.items.ItemSort.{ItemSort}
use Rattle.base_items.specs.declared.items.ItemSort.TheVariants.{Node, Arc}
use Rattle.plain_digraph.specs.Items.{facts}
use Rattle.plain_digraph.specs.Rising.{with_item}
use Rattle.observe_core.specs.Held as held
use Rattle.observe_core.specs.Held.{Entry, entry_id}
use Rattle.observe_core.specs.Items.{place_all}
use Rattle.observe_core.specs.Seen.{Seen, Watched}
use Rattle.observe_core.specs.Told.{built, new_entry}
use Rattle.alter_graph.specs.Chains.{no_chains}
use Rattle.alter_graph.specs.State as graph
use Rattle.alter_graph.specs.State.{State, state_of}
use Rattle.plain_world.specs.Tables.{Name, Named, under}
use Rattle.plain_world.specs.World as plain
use Rattle.alter_graph.specs.declared.snaps.SnapKeys.{SnapKeys}
use Rattle.desk_world.specs.declared.tables.GuardRow.{GuardRow}
use Rattle.desk_world.specs.declared.tables.MapRow.{MapRow}
use Rattle.desk_world.specs.declared.tables.ViewRow.{ViewRow}
use Rattle.desk_world.specs.declared.tables.AttributeRow.{AttributeRow}
use Rattle.desk_world.specs.declared.tables.AttributeRow.TheVariants as rows
use Rattle.desk_world.specs.declared.world.World.{World}
use Rattle.desk_world.specs.Blank.{plain_attributes, blank_world}
use Rattle.desk_world.specs.Claims.{Claim, Plays, Labels, Ties, claims_of, own_claims, map_claim}
use Rattle.desk_world.specs.Claims.{guard_claim, snap_claims, view_claims}
use Rattle.desk_world.specs.Columns.{labelled}
use Rattle.desk_world.specs.Founding.{Founds, new_labels, new_ties}
use Rattle.desk_world.specs.KeptViews.{AreKept}
use Rattle.desk_world.specs.Derived.{AreIndexed, AreNumbered, AreOfRows, ties_at}
use Rattle.desk_world.specs.InStep.{AreInStep, AreBoxes, AreSeated}
use Rattle.desk_world.specs.Looks.{looked}
use Rattle.desk_world.specs.Plain.{plain_of, kinds_of, look_of, labels_seen, attribute_seen}
use Rattle.desk_world.specs.Plain.{ties_seen, map_seen, guard_seen, snapshot_seen, view_of}
use Rattle.desk_world.proofs.Founded.{AreFounded, founded, four_claims, four_seated}
use Rattle.desk_world.proofs.Founded.{node_labels_seen, arc_labels_seen, node_ties_seen}
use Rattle.desk_world.proofs.Founded.{arc_ties_seen}
use Rattle.desk_world.proofs.SnapTables.{snaps_attached}

-- ---- no item has a label

abbrev Labelled : Type 0
Labelled = List (Entry (Option Name))

abbrev AllNone : Labelled → Type 0
AllNone [] = Unit {0}
AllNone (e ∷ es) = (e.value ≡ None) × AllNone es

none_with : (e : Entry (Option Name)) (es : Labelled) → e.value ≡ None → AllNone es
    → AllNone (with_item entry_id e es)
none_with e [] is all = (is, tt)
none_with e (y ∷ ys) is all =
    let rest = none_with e ys is all.1 in
    elim (nat_le e.id y.id) as (λ b.
    AllNone (cond b (e ∷ y ∷ ys) (y ∷ with_item entry_id e ys))) [
      | true ↦ (is, all)
      | false ↦ (all.0, rest)
    ]

none_place : (es ys : Labelled) → AllNone es → AllNone ys → AllNone (place_all entry_id es ys)
none_place [] ys all more = more
none_place (e ∷ es) ys all more =
    none_place es (with_item entry_id e ys) all.1 (none_with e ys all.0 more)

abbrev new_names : List Fact → Labelled
new_names live = map (λ f. new_entry held.Labels f.id) live

none_new : (live : List Fact) → AllNone (new_names live)
none_new [] = tt
none_new (f ∷ live) = (refl, none_new live)

abbrev pair_of : Entry (Option Name) → Option (ℕ × Name)
pair_of e = option_map (λ (name : Name). (e.id, name)) e.value

no_pairs : (es : Labelled) → AllNone es → filter_map pair_of es ≡ []
no_pairs [] all = refl
no_pairs (e ∷ es) all =
    let rest = no_pairs es all.1 in
    (λ i. cons_option (option_map (λ (name : Name). (e.id, name)) (all.0 i)) (rest i))

no_entries : fin.from_entries {X = Name} {R = nat_cmp} [] ≡ fin.empty
no_entries =
    fin.same_map nat_cmp_total fin.nat_cmp-IsAntisymmetric (fin.from_entries []) fin.empty
    (λ q. fin.get-from_entries nat_cmp_total [] q ∙ sym (fin.get-empty nat_cmp q))

pub unlabelled : (live : List Fact)
    → labelled (place_all entry_id (new_names live) []) ≡ fin.empty
unlabelled live =
    ap fin.from_entries (no_pairs (place_all entry_id (new_names live) [])
    (none_place (new_names live) [] (none_new live) tt))
    ∙ no_entries

-- ---- attributes

abbrev plain_table : List (Name × Name) → List (Named AttributeRow)
plain_table attributes = map (λ a. under a.0 (rows.Plain a.1)) attributes

plain_seen : (ties : ItemSort → Option Seen) (attributes : List (Name × Name))
    → looked (attribute_seen ties) (plain_table attributes) ≡ plain_attributes attributes
plain_seen ties [] = refl
plain_seen ties (a ∷ attributes) =
    ap (λ more. under a.0 (plain.Plain a.1) ∷ more) (plain_seen ties attributes)

plain_numbered : (place : ℕ) (attributes : List (Name × Name))
    → AreNumbered place (plain_table attributes)
plain_numbered place [] = tt
plain_numbered place (a ∷ attributes) = (tt, plain_numbered (suc place) attributes)

-- ---- the world

module _ {O : Type 0} (watch : O → Watched) (w : World O) (s0 s2 : State)
    (attributes : List (Name × Name)) (none : s0.chains ≡ no_chains)
    (nodes : Founds Node w.nodes s0 s2) (arcs : Founds Arc w.arcs s2 (state_of watch w.graph))
    (no_guards : w.guards.rows ≡ []) (no_snapshots : w.snapshots.rows ≡ [])
    (no_views : w.views.rows ≡ []) (plain_rows : w.attributes.rows ≡ plain_table attributes) where
  abbrev a : ℕ
  a = w.nodes.labels.0

  abbrev b : ℕ
  b = w.nodes.ties.0

  abbrev c : ℕ
  c = w.arcs.labels.0

  abbrev d : ℕ
  d = w.arcs.ties.0

  abbrev last : State
  last = state_of watch w.graph

  abbrev x : Seen
  x = built (facts s0.graph Node) nodes.labels.seen

  abbrev y : Seen
  y = built (facts nodes.mid.graph Node) nodes.ties.seen

  abbrev z : Seen
  z = built (facts s2.graph Arc) arcs.labels.seen

  abbrev u : Seen
  u = built (facts arcs.mid.graph Arc) arcs.ties.seen

  are : AreFounded a b c d x y z u last.chains
  are = founded a b c d nodes.labels nodes.ties arcs.labels arcs.ties s0 nodes.mid s2 arcs.mid last
      none nodes.first nodes.second arcs.first arcs.second

  labels_play : (live : List Fact) (s t : Seen) → t ≡ built live s → s ≡ new_labels
      → Plays Labels t
  labels_play live s t built_is is =
      subst (Plays Labels) (sym (built_is ∙ ap (built live) is))
      (record { form = refl; making = refl; kind = refl })

  ties_play : (live : List Fact) (s t : Seen) → t ≡ built live s → s ≡ new_ties → Plays Ties t
  ties_play live s t built_is is =
      subst (Plays Ties) (sym (built_is ∙ ap (built live) is))
      (record { form = refl; making = refl; kind = refl })

  -- the claims with these of maps, of kept views, of guards and of snapshots
  abbrev claiming : (node_maps arc_maps : List (Named MapRow)) → List (Named ViewRow)
      → List (Named GuardRow) → List (Named SnapKeys) → List Claim
  claiming node_maps arc_maps views guards snapshots =
      own_claims Node w.nodes
      ++ (own_claims Arc w.arcs
      ++ (map (map_claim Node) node_maps
      ++ (map (map_claim Arc) arc_maps
      ++ (flat_map view_claims views
      ++ (map guard_claim guards ++ flat_map snap_claims snapshots)))))

  four : claims_of w ≡ four_claims a b c d
  four = λ i. claiming (nodes.no_maps i) (arcs.no_maps i) (no_views i) (no_guards i)
      (no_snapshots i)

  seated : AreSeated (claims_of w) last.chains
  seated =
      subst (λ claims. AreSeated claims last.chains) (sym four)
      (four_seated a b c d x y z u last.chains are
      (labels_play (facts s0.graph Node) nodes.labels.seen are.node_labels.seen
      are.node_labels_are nodes.labels_are)
      (ties_play (facts nodes.mid.graph Node) nodes.ties.seen are.node_ties.seen
      are.node_ties_are nodes.ties_are)
      (labels_play (facts s2.graph Arc) arcs.labels.seen are.arc_labels.seen are.arc_labels_are
      arcs.labels_are)
      (ties_play (facts arcs.mid.graph Arc) arcs.ties.seen are.arc_ties.seen are.arc_ties_are
      arcs.ties_are))

  no_ties : (o : Option Seen) (live : List Fact) (s t : Seen) → o ≡ Some t → t ≡ built live s
      → s ≡ new_ties → ties_at o ≡ []
  no_ties o live s t there built_is is =
      ap ties_at (there ∙ ap Some (built_is ∙ ap (built live) is))

  pub bare_in_step : graph.IsInStep last → AreBoxes watch w.pool.items → AreInStep watch w
  bare_in_step in_step boxes = record {
    graph = in_step;
    seated = seated;
    boxes = boxes;
    snaps = snaps_attached Arc d arcs.ties arcs.mid last arcs.second
        ∙ snaps_attached Arc c arcs.labels s2 arcs.mid arcs.first
        ∙ snaps_attached Node b nodes.ties nodes.mid s2 nodes.second
        ∙ snaps_attached Node a nodes.labels s0 nodes.mid nodes.first
        ∙ ap (λ x. x.snaps) none ∙ sym (ap (map (λ e. e.value)) no_snapshots);
    derived = record {
      node_indexes = subst (AreIndexed (look_of watch w Node)) (sym nodes.no_maps) tt;
      arc_indexes = subst (AreIndexed (look_of watch w Arc)) (sym arcs.no_maps) tt;
      numbered = subst (AreNumbered 0) (sym plain_rows) (plain_numbered 0 attributes);
      node_ties = subst (AreOfRows Node w.attributes.rows)
          (sym (no_ties (look_of watch w Node b) (facts nodes.mid.graph Node) nodes.ties.seen
          are.node_ties.seen (node_ties_seen a b c d x y z u last.chains are)
          are.node_ties_are nodes.ties_are)) tt;
      arc_ties = subst (AreOfRows Arc w.attributes.rows)
          (sym (no_ties (look_of watch w Arc d) (facts arcs.mid.graph Arc) arcs.ties.seen
          are.arc_ties.seen (arc_ties_seen a b c d x y z u last.chains are)
          are.arc_ties_are arcs.ties_are)) tt;
    };
    kept = subst (AreKept (look_of watch w) w.nodes w.arcs) (sym no_views)
        (record { reading = tt; placed = tt });
  }

  no_labels : (sort : ItemSort) (key : ℕ) (live : List Fact) (s t : Seen)
      → look_of watch w sort key ≡ Some t → t ≡ built live s → s ≡ new_labels
      → labels_seen (look_of watch w sort key) ≡ fin.empty
  no_labels sort key live s t there built_is is =
      ap labels_seen (there ∙ ap Some (built_is ∙ ap (built live) is)) ∙ unlabelled live

  same_graph : w.graph.graph.graph ≡ s0.graph
  same_graph =
      arcs.second.graph ∙ arcs.first.graph ∙ nodes.second.graph ∙ nodes.first.graph

  pub bare_plain : plain_of watch w
      ≡ blank_world [] [] (kinds_of watch w.pool.items) attributes s0.graph fin.empty fin.empty
  bare_plain =
      let node_labels = no_labels Node a (facts s0.graph Node) nodes.labels.seen
      are.node_labels.seen (node_labels_seen a b c d x y z u last.chains are)
      are.node_labels_are nodes.labels_are in
      let arc_labels = no_labels Arc c (facts s2.graph Arc) arcs.labels.seen
      are.arc_labels.seen (arc_labels_seen a b c d x y z u last.chains are)
      are.arc_labels_are arcs.labels_are in
      let node_maps = nodes.no_maps in
      let arc_maps = arcs.no_maps in
      let ties = ties_seen (look_of watch w) w in
      let told = ap (looked (attribute_seen ties)) plain_rows ∙ plain_seen ties attributes in
      λ i. record {
        graph = same_graph i;
        nodes = record {
          labels = node_labels i;
          maps = looked (map_seen (look_of watch w) Node) (node_maps i);
        };
        arcs = record {
          labels = arc_labels i;
          maps = looked (map_seen (look_of watch w) Arc) (arc_maps i);
        };
        guards = looked (guard_seen (look_of watch w)) (no_guards i);
        pool = kinds_of watch w.pool.items;
        snapshots = looked (snapshot_seen w.graph.graph.graph (look_of watch w))
            (no_snapshots i);
        views = map (λ e. under e.name (view_of e.value)) (no_views i);
        attributes = told i;
      }
