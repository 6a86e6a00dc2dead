-- A world in which an item got a label.
use Rattle.std.proofs.Common.{◌≡◌, ℕ, false, List, [], ◌∷◌, ◌++◌, map, refl, ap}
use Rattle.std.proofs.Common.{Option}
use Rattle.std.specs.Prelude.{option_map, ◌==◌, ◌&&◌}
use Rattle.std.specs.FinMap as fin
use Rattle.std.specs.List.{flat_map}
use Rattle.std.proofs.lemmas.Bool.{or_parts, true≢false}
use Rattle.base_items.specs.declared.items.ItemSort.{ItemSort}
use Rattle.base_items.specs.declared.items.ItemSort.TheVariants as sorts
use Rattle.plain_digraph.specs.Digraph.{Digraph}
use Rattle.plain_digraph.specs.Lists.{AllOf}
use Rattle.script_words.specs.declared.commands.GuardWord.{GuardWord}
use Rattle.observe_core.specs.Seen.{Seen}
use Rattle.alter_graph.specs.Verdict.{is_sort}
use Rattle.plain_world.specs.Tables.{Name, Named}
use Rattle.plain_world.specs.Following.{labelled}
use Rattle.desk_world.specs.declared.tables.MapRow.{MapRow}
use Rattle.desk_world.specs.declared.tables.GuardRow.{GuardRow}
use Rattle.desk_world.specs.declared.tables.AttributeRow.{AttributeRow}
use Rattle.desk_world.specs.declared.world.World.{World}
use Rattle.desk_world.specs.Claims as claims
use Rattle.desk_world.specs.Claims.{Claim, claims_of, is_claimed, ClaimsDiffer, map_claim}
use Rattle.desk_world.specs.Claims.{guard_claim}
use Rattle.desk_world.specs.Claims.{snap_claims, view_claims, role_of}
use Rattle.desk_world.specs.Looks.{Look, looked}
use Rattle.desk_world.specs.Plain.{world_seen, map_seen, labels_seen, attribute_seen, ties_seen}
use Rattle.desk_world.specs.Plain.{guard_seen, guard_by, snapshot_seen, held_by}
use Rattle.desk_world.specs.Plain.{tables_of}
use Rattle.desk_world.proofs.Changing.{same_rows}
use Rattle.desk_world.proofs.Seated.{all_left, all_right}
use Rattle.desk_world.proofs.Written.{IsElsewhere}
use Rattle.std.specs.Prelude.{option_and_then}
use Rattle.alter_graph.specs.declared.snaps.SnapKeys.{SnapKeys}
use Rattle.desk_world.specs.Copies.{copy_of_halves}

-- ---- claims of other seats

pub elsewhere : (sort : ItemSort) (key : ℕ) (list : List Claim) → is_claimed list sort key ≡ false
    → AllOf (IsElsewhere sort key) list
elsewhere sort key [] none = tt
elsewhere sort key (x ∷ list) none =
    let parts = or_parts (is_sort x.sort sort && x.key == key) (is_claimed list sort key) none in
    (parts.0, elsewhere sort key list parts.1)

module _ (look later : Look) where
  abbrev pub Agrees : Claim → Type 0
  Agrees x = later x.sort x.key ≡ look x.sort x.key

  pub rows_agree : (sort : ItemSort) (table : List (Named MapRow))
      → AllOf Agrees (map (map_claim sort) table)
      → looked (map_seen later sort) table ≡ looked (map_seen look sort) table
  rows_agree sort table all =
      same_rows (map_seen look sort) (map_seen later sort) table (each table all)
    where
      each : (table : List (Named MapRow)) → AllOf Agrees (map (map_claim sort) table)
          → AllOf (λ (e : Named MapRow). map_seen later sort e.value
          ≡ map_seen look sort e.value) table
      each [] all = tt
      each (e ∷ es) all = (
        ap (option_map (λ (s : Seen). held_by e.value.kind s.held)) all.0,
        each es all.1,
      )

  pub guards_agree : (table : List (Named GuardRow)) → AllOf Agrees (map guard_claim table)
      → looked (guard_seen later) table ≡ looked (guard_seen look) table
  guards_agree table all = same_rows (guard_seen look) (guard_seen later) table (each table all)
    where
      each : (table : List (Named GuardRow)) → AllOf Agrees (map guard_claim table)
          → AllOf (λ (e : Named GuardRow). guard_seen later e.value ≡ guard_seen look e.value) table
      each [] all = tt
      each (e ∷ es) all = (ap (option_map (guard_by e.value.sort)) all.0, each es all.1)

  pub snapshots_agree : (g : Digraph) (table : List (Named SnapKeys))
      → AllOf Agrees (flat_map snap_claims table)
      → looked (snapshot_seen g later) table ≡ looked (snapshot_seen g look) table
  snapshots_agree g table all =
      same_rows (snapshot_seen g look) (snapshot_seen g later) table (each table all)
    where
      each : (table : List (Named SnapKeys)) → AllOf Agrees (flat_map snap_claims table)
          → AllOf (λ (e : Named SnapKeys). snapshot_seen g later e.value
          ≡ snapshot_seen g look e.value) table
      each [] all = tt
      each (e ∷ es) all = (
        λ i. option_and_then (λ (nodes : Seen). option_map
            (λ (arcs : Seen). copy_of_halves g nodes.held arcs.held) (all.1.0 i)) (all.0 i),
        each es all.1.1,
      )

-- attributes hang on the seats of ties alone
pub attributes_agree : (ties others : ItemSort → Option Seen) (table : List (Named AttributeRow))
    → ((sort : ItemSort) → others sort ≡ ties sort)
    → looked (attribute_seen others) table ≡ looked (attribute_seen ties) table
attributes_agree ties others table same = λ i. looked (attribute_seen (λ sort. same sort i)) table

-- ---- the world

module _ {O : Type 0} (w : World O) (g : Digraph) (look later : Look) (pool : List GuardWord) where
  -- what hangs on no item of the sorts
  others_agree : ((sort : ItemSort)
      → later sort (tables_of w sort).ties.0 ≡ look sort (tables_of w sort).ties.0)
      → AllOf (Agrees look later) (map guard_claim w.guards.rows)
      → AllOf (Agrees look later) (flat_map snap_claims w.snapshots.rows)
      → (looked (guard_seen later) w.guards.rows ≡ looked (guard_seen look) w.guards.rows)
      × (looked (snapshot_seen g later) w.snapshots.rows
      ≡ looked (snapshot_seen g look) w.snapshots.rows)
      × (looked (attribute_seen (ties_seen later w)) w.attributes.rows
      ≡ looked (attribute_seen (ties_seen look w)) w.attributes.rows)
  others_agree ties guards snaps = (
    guards_agree look later w.guards.rows guards,
    snapshots_agree look later g w.snapshots.rows snaps,
    attributes_agree (ties_seen look w) (ties_seen later w) w.attributes.rows ties,
  )

  -- the labels of one sort have one more, and all else is as before
  pub one_label : (sort : ItemSort) (id : ℕ) (name : Name)
      → labels_seen (later sort (tables_of w sort).labels.0)
      ≡ fin.insert (labels_seen (look sort (tables_of w sort).labels.0)) id name
      → ((other : ItemSort) → (sort ≡ other → ⊥)
      → later other (tables_of w other).labels.0 ≡ look other (tables_of w other).labels.0)
      → ((other : ItemSort)
      → later other (tables_of w other).ties.0 ≡ look other (tables_of w other).ties.0)
      → ((other : ItemSort) → AllOf (Agrees look later)
      (map (map_claim other) (tables_of w other).maps.rows))
      → AllOf (Agrees look later) (map guard_claim w.guards.rows)
      → AllOf (Agrees look later) (flat_map snap_claims w.snapshots.rows)
      → world_seen g later pool w ≡ labelled (world_seen g look pool w) sort id name
  one_label sorts.Node id name here apart ties agree guards snaps =
      let o = others_agree ties guards snaps in
      let node_maps = rows_agree look later sorts.Node w.nodes.maps.rows (agree sorts.Node) in
      let arc_maps = rows_agree look later sorts.Arc w.arcs.maps.rows (agree sorts.Arc) in
      let arc_labels = ap labels_seen (apart sorts.Arc (λ e. no_arc e)) in
      λ i. record (world_seen g look pool w) {
        nodes = record { labels = here i; maps = node_maps i };
        arcs = record { labels = arc_labels i; maps = arc_maps i };
        guards = o.0 i;
        snapshots = o.1 i;
        attributes = o.2 i;
      }
    where
      no_arc : sorts.Node ≡ sorts.Arc → ⊥
      no_arc e = true≢false (ap (λ s. is_sort s sorts.Node) e)
  one_label sorts.Arc id name here apart ties agree guards snaps =
      let o = others_agree ties guards snaps in
      let node_maps = rows_agree look later sorts.Node w.nodes.maps.rows (agree sorts.Node) in
      let arc_maps = rows_agree look later sorts.Arc w.arcs.maps.rows (agree sorts.Arc) in
      let node_labels = ap labels_seen (apart sorts.Node (λ e. no_node e)) in
      λ i. record (world_seen g look pool w) {
        nodes = record { labels = node_labels i; maps = node_maps i };
        arcs = record { labels = here i; maps = arc_maps i };
        guards = o.0 i;
        snapshots = o.1 i;
        attributes = o.2 i;
      }
    where
      no_node : sorts.Arc ≡ sorts.Node → ⊥
      no_node e = true≢false (ap (λ s. is_sort s sorts.Arc) e)

-- ---- where the claims of labels are

module _ {O : Type 0} (w : World O) (differ : ClaimsDiffer (claims_of w)) where
  abbrev after_views : List Claim
  after_views = map guard_claim w.guards.rows ++ flat_map snap_claims w.snapshots.rows

  abbrev after_arcs : List Claim
  after_arcs = flat_map view_claims w.views.rows ++ after_views

  abbrev after_nodes : List Claim
  after_nodes = map (map_claim sorts.Arc) w.arcs.maps.rows ++ after_arcs

  abbrev tables : List Claim
  tables = map (map_claim sorts.Node) w.nodes.maps.rows ++ after_nodes

  all_elsewhere : (x : ItemSort) → AllOf (IsElsewhere x (tables_of w x).labels.0) tables
  all_elsewhere sorts.Node =
      (elsewhere sorts.Node w.nodes.labels.0
      (claims.claim sorts.Node w.nodes.ties.0 claims.Ties
      ∷ claims.claim sorts.Arc w.arcs.labels.0 claims.Labels
      ∷ claims.claim sorts.Arc w.arcs.ties.0 claims.Ties ∷ tables) differ.0).1.1.1
  all_elsewhere sorts.Arc =
      (elsewhere sorts.Arc w.arcs.labels.0
      (claims.claim sorts.Arc w.arcs.ties.0 claims.Ties ∷ tables) differ.1.1.0).1

  behind_elsewhere : (sort : ItemSort)
      → AllOf (IsElsewhere sort (tables_of w sort).labels.0) after_arcs
  behind_elsewhere sort =
      all_right (IsElsewhere sort (tables_of w sort).labels.0)
      (map (map_claim sorts.Arc) w.arcs.maps.rows) after_arcs
      (all_right (IsElsewhere sort (tables_of w sort).labels.0)
      (map (map_claim sorts.Node) w.nodes.maps.rows) after_nodes (all_elsewhere sort))

  -- every seat of a kept view is another than that of the labels
  pub views_elsewhere : (sort : ItemSort)
      → AllOf (IsElsewhere sort (tables_of w sort).labels.0) (flat_map view_claims w.views.rows)
  views_elsewhere sort =
      all_left (IsElsewhere sort (tables_of w sort).labels.0) (flat_map view_claims w.views.rows)
      after_views (behind_elsewhere sort)

  -- every guard sits elsewhere than the labels
  pub guards_elsewhere : (sort : ItemSort)
      → AllOf (IsElsewhere sort (tables_of w sort).labels.0) (map guard_claim w.guards.rows)
  guards_elsewhere sort =
      all_left (IsElsewhere sort (tables_of w sort).labels.0) (map guard_claim w.guards.rows)
      (flat_map snap_claims w.snapshots.rows)
      (all_right (IsElsewhere sort (tables_of w sort).labels.0)
      (flat_map view_claims w.views.rows) after_views (behind_elsewhere sort))

  -- every half of a snapshot sits elsewhere than the labels
  pub halves_elsewhere : (sort : ItemSort)
      → AllOf (IsElsewhere sort (tables_of w sort).labels.0) (flat_map snap_claims w.snapshots.rows)
  halves_elsewhere sort =
      all_right (IsElsewhere sort (tables_of w sort).labels.0) (map guard_claim w.guards.rows)
      (flat_map snap_claims w.snapshots.rows)
      (all_right (IsElsewhere sort (tables_of w sort).labels.0)
      (flat_map view_claims w.views.rows) after_views (behind_elsewhere sort))

  -- every map sits elsewhere than the labels
  pub maps_elsewhere : (sort other : ItemSort)
      → AllOf (IsElsewhere sort (tables_of w sort).labels.0)
      (map (map_claim other) (tables_of w other).maps.rows)
  maps_elsewhere sort other = pick other (all_elsewhere sort)
    where
      pick : (y : ItemSort) → AllOf (IsElsewhere sort (tables_of w sort).labels.0) tables
          → AllOf (IsElsewhere sort (tables_of w sort).labels.0)
          (map (map_claim y) (tables_of w y).maps.rows)
      pick sorts.Node list =
          all_left (IsElsewhere sort (tables_of w sort).labels.0)
          (map (map_claim sorts.Node) w.nodes.maps.rows) after_nodes list
      pick sorts.Arc list =
          all_left (IsElsewhere sort (tables_of w sort).labels.0)
          (map (map_claim sorts.Arc) w.arcs.maps.rows) after_arcs
          (all_right (IsElsewhere sort (tables_of w sort).labels.0)
          (map (map_claim sorts.Node) w.nodes.maps.rows) after_nodes list)

  -- and so do the labels of the other sort
  pub labels_elsewhere : (sort other : ItemSort) → (sort ≡ other → ⊥) → (key : ℕ)
      → IsElsewhere sort key (claims.claim other (tables_of w other).labels.0 claims.Labels)
  labels_elsewhere sorts.Node sorts.Node apart key = absurd (apart refl)
  labels_elsewhere sorts.Node sorts.Arc apart key = refl
  labels_elsewhere sorts.Arc sorts.Node apart key = refl
  labels_elsewhere sorts.Arc sorts.Arc apart key = absurd (apart refl)

  -- and all ties
  pub ties_elsewhere : (sort other : ItemSort)
      → IsElsewhere sort (tables_of w sort).labels.0
      (claims.claim other (tables_of w other).ties.0 claims.Ties)
  ties_elsewhere sorts.Node sorts.Node =
      (elsewhere sorts.Node w.nodes.labels.0
      (claims.claim sorts.Node w.nodes.ties.0 claims.Ties
      ∷ claims.claim sorts.Arc w.arcs.labels.0 claims.Labels
      ∷ claims.claim sorts.Arc w.arcs.ties.0 claims.Ties ∷ tables) differ.0).0
  ties_elsewhere sorts.Node sorts.Arc = refl
  ties_elsewhere sorts.Arc sorts.Node = refl
  ties_elsewhere sorts.Arc sorts.Arc =
      (elsewhere sorts.Arc w.arcs.labels.0
      (claims.claim sorts.Arc w.arcs.ties.0 claims.Ties ∷ tables) differ.1.1.0).0
