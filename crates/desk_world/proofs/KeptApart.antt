-- All kept views but the place of one item.
use Rattle.std.proofs.Common.{ℕ, Bool, true, List, [], ◌∷◌, ◌++◌, map}
use Rattle.std.proofs.Common.{Option, Some, None, IfSome, refl}
use Rattle.std.specs.List.{flat_map}
use Rattle.std.specs.Option.{option_map_or}
use Rattle.base_items.specs.declared.items.ItemSort.{ItemSort}
use Rattle.base_items.specs.declared.items.ItemSort.TheVariants as sorts
use Rattle.plain_digraph.specs.Lists.{AllOf}
use Rattle.observe_core.specs.Held.{Entry}
use Rattle.plain_world.specs.Tables.{Name, Named}
use Rattle.plain_world.specs.World.{View}
use Rattle.desk_world.specs.declared.tables.ItemTables.{ItemTables}
use Rattle.desk_world.specs.declared.tables.KeptKeys.{KeptKeys}
use Rattle.desk_world.specs.declared.tables.KeptMaps.{KeptMaps}
use Rattle.desk_world.specs.declared.tables.MapKind.TheVariants as maps
use Rattle.desk_world.specs.declared.tables.MapRow.{MapRow}
use Rattle.desk_world.specs.declared.tables.ViewRow.{ViewRow}
use Rattle.desk_world.specs.declared.values.Value.{Value}
use Rattle.desk_world.specs.declared.world.World.{World}
use Rattle.desk_world.specs.Claims.{Claim, map_claim, kept_claims, view_claims}
use Rattle.desk_world.specs.KeptMaps.{AreMapsOf, ReadsMaps, KeptLayers}
use Rattle.desk_world.specs.KeptMaps.{node_filter, arc_filter, cap_map, flow_map}
use Rattle.desk_world.specs.KeptViews.{IsPlaced, AreKept, AreReading, ArePlaced}
use Rattle.desk_world.specs.Looks.{Look}
use Rattle.desk_world.specs.Placing.{is_due, IsPlacedBut}
use Rattle.desk_world.specs.Plain.{tables_of}
use Rattle.desk_world.proofs.KeptAgree.{seats_show, passes_same, amount_same}
use Rattle.desk_world.proofs.MapTables.{claims_with, other_claims, last_claims}
use Rattle.desk_world.proofs.MapsWritten.{Shows}
use Rattle.desk_world.proofs.Relabelled.{Agrees}
use Rattle.desk_world.proofs.Seated.{all_left, all_right}
use Rattle.desk_world.proofs.KeptUnplaced.{SameMapsBut, unplaced, written_passes, written_amount}

module _ (was later : Look) (id : ℕ) (name : Name) (value : Value) (now : List (Entry Bool))
    (layers : KeptLayers) (nodes arcs : List (Named MapRow)) (m : KeptMaps)
    (are : AreMapsOf layers nodes arcs m) where
  nodes_written : AllOf (Shows was sorts.Node name value id now true later) nodes
      → AllOf (Agrees was later) (map (map_claim sorts.Arc) arcs)
      → SameMapsBut was later sorts.Node id m
  nodes_written done agree =
      let shows = seats_show was later sorts.Arc arcs in
      let filter = passes_same was later sorts.Arc m.arc_filter
      (shows maps.Bools refl agree (arc_filter layers) m.arc_filter are.arc_filter) in
      let cap = amount_same was later m.cap
      (shows maps.Ints refl agree (cap_map layers) m.cap are.cap) in
      let flow = amount_same was later m.flow
      (shows maps.Ints refl agree (flow_map layers) m.flow are.flow) in
      record {
        node_filter = written_passes was later sorts.Node id name value now nodes done
            (node_filter layers) m.node_filter are.node_filter;
        arc_filter = λ other not_due i. filter i other;
        cap = λ other not_due i. cap i other;
        flow = λ other not_due i. flow i other;
      }

  arcs_written : AllOf (Shows was sorts.Arc name value id now true later) arcs
      → AllOf (Agrees was later) (map (map_claim sorts.Node) nodes)
      → SameMapsBut was later sorts.Arc id m
  arcs_written done agree =
      let filter = passes_same was later sorts.Node m.node_filter
      (seats_show was later sorts.Node nodes maps.Bools refl agree (node_filter layers)
      m.node_filter are.node_filter) in
      record {
        node_filter = λ other not_due i. filter i other;
        arc_filter = written_passes was later sorts.Arc id name value now arcs done
            (arc_filter layers) m.arc_filter are.arc_filter;
        cap = written_amount was later sorts.Arc id name value now arcs done (cap_map layers)
            m.cap are.cap;
        flow = written_amount was later sorts.Arc id name value now arcs done (flow_map layers)
            m.flow are.flow;
      }

-- ---- all kept views

module _ (was later : Look) (sort : ItemSort) (id : ℕ) where
  abbrev AreSame : List (Named ViewRow) → Type 0
  AreSame rows = AllOf (λ (e : Named ViewRow). IfSome e.value.kept
      (λ keys. SameMapsBut was later sort id keys.maps)) rows

  abbrev pub AreUnplacedRows : List (Named ViewRow) → Type 0
  AreUnplacedRows rows = AllOf (λ (e : Named ViewRow). IfSome e.value.kept
      (IsPlacedBut later (is_due sort id))) rows

  all_unplaced : (rows : List (Named ViewRow))
      → AllOf (Agrees was later) (flat_map view_claims rows) → AreSame rows
      → ArePlaced was rows → AreUnplacedRows rows
  all_unplaced [] agree same placed = tt
  all_unplaced (e ∷ es) agree same placed = (
    one e.value.kept (flat_map view_claims es) agree same.0 placed.0,
    all_unplaced es
        (all_right (Agrees was later) (view_claims e) (flat_map view_claims es) agree)
        same.1 placed.1,
  )
    where
      one : (kept : Option KeptKeys) (rest : List Claim)
          → AllOf (Agrees was later) (option_map_or kept_claims kept [] ++ rest)
          → IfSome kept (λ keys. SameMapsBut was later sort id keys.maps)
          → IfSome kept (IsPlaced was) → IfSome kept (IsPlacedBut later (is_due sort id))
      one None rest agree same placed = tt
      one (Some keys) rest agree same placed =
          unplaced was later sort id keys same agree.0 agree.1.0 placed

  all_same : (nodes arcs : ItemTables) (views : List (Named View)) (rows : List (Named ViewRow))
      → ((layers : KeptLayers) (m : KeptMaps)
      → AreMapsOf layers nodes.maps.rows arcs.maps.rows m → SameMapsBut was later sort id m)
      → AreReading nodes arcs views rows → AreSame rows
  all_same nodes arcs views [] same reads = tt
  all_same nodes arcs views (e ∷ es) same reads =
      (one e.value.kept reads.0, all_same nodes arcs views es same reads.1)
    where
      one : (kept : Option KeptKeys)
          → IfSome kept (λ keys. ReadsMaps nodes arcs views e.name keys.maps)
          → IfSome kept (λ keys. SameMapsBut was later sort id keys.maps)
      one None reads = tt
      one (Some keys) reads = same reads.layers keys.maps reads.maps

-- the rows of the maps of the sort having been written
pub written_views : {O : Type 0} (was later : Look) (w : World O) (sort : ItemSort) (id : ℕ)
    (name : Name) (value : Value) (now : List (Entry Bool))
    → AllOf (Shows was sort name value id now true later) (tables_of w sort).maps.rows
    → AllOf (Agrees was later) (claims_with w sort []) → AreKept was w.nodes w.arcs w.views.rows
    → AreUnplacedRows was later sort id w.views.rows
written_views was later w sorts.Node id name value now done agree kept =
    let P = Agrees was later in
    let arc_maps = map (map_claim sorts.Arc) w.arcs.maps.rows in
    all_unplaced was later sorts.Node id w.views.rows
    (all_left P (flat_map view_claims w.views.rows) (last_claims w)
    (all_right P arc_maps (other_claims w) agree.1.1.1.1))
    (all_same was later sorts.Node id w.nodes w.arcs _ w.views.rows
    (λ layers m are. nodes_written was later id name value now layers w.nodes.maps.rows
    w.arcs.maps.rows m are done (all_left P arc_maps (other_claims w) agree.1.1.1.1))
    kept.reading)
    kept.placed
written_views was later w sorts.Arc id name value now done agree kept =
    let P = Agrees was later in
    let node_maps = map (map_claim sorts.Node) w.nodes.maps.rows in
    all_unplaced was later sorts.Arc id w.views.rows
    (all_left P (flat_map view_claims w.views.rows) (last_claims w)
    (all_right P node_maps (other_claims w) agree.1.1.1.1))
    (all_same was later sorts.Arc id w.nodes w.arcs _ w.views.rows
    (λ layers m are. arcs_written was later id name value now layers w.nodes.maps.rows
    w.arcs.maps.rows m are done (all_left P node_maps (other_claims w) agree.1.1.1.1))
    kept.reading)
    kept.placed
