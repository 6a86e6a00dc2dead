-- Kept views where the same is seen.
use Rattle.std.proofs.Common.{◌≡◌, List, [], ◌∷◌, ◌++◌, map, refl, sym, ap, subst}
use Rattle.std.proofs.Common.{Option, Some, None, IfSome, ◌∙◌}
use Rattle.std.specs.List.{flat_map}
use Rattle.std.specs.Option.{option_map_or}
use Rattle.base_items.specs.declared.items.ItemSort.{ItemSort}
use Rattle.base_items.specs.declared.items.ItemSort.TheVariants as sorts
use Rattle.notify_chain.specs.declared.key.SeatKey.{SeatKey}
use Rattle.plain_digraph.specs.Lists.{AllOf}
use Rattle.plain_world.specs.Tables.{Name, Named}
use Rattle.plain_world.specs.World.{View}
use Rattle.desk_names.specs.Rows.{Rows}
use Rattle.desk_world.specs.declared.tables.ItemTables.{ItemTables}
use Rattle.desk_world.specs.declared.tables.KeptKeys.{KeptKeys}
use Rattle.desk_world.specs.declared.tables.KeptMaps.{KeptMaps}
use Rattle.desk_world.specs.declared.tables.MapKind.{MapKind}
use Rattle.desk_world.specs.declared.tables.MapKind.TheVariants as maps
use Rattle.desk_world.specs.declared.tables.MapRow.{MapRow}
use Rattle.desk_world.specs.declared.tables.ViewRow.{ViewRow}
use Rattle.desk_world.specs.Claims.{Claim, map_claim, kept_claims, view_claims}
use Rattle.desk_world.specs.KeptMaps.{IsSeatOf, AreSeatsOf, AreMapsOf, ReadsMaps, KeptLayers}
use Rattle.desk_world.specs.KeptMaps.{passes, amount, bool_seen, int_seen, present_in}
use Rattle.desk_world.specs.KeptMaps.{node_filter, arc_filter, cap_map, flow_map}
use Rattle.desk_world.specs.KeptViews.{IsPlaced, AreMarkedBy, AreKept, AreReading, ArePlaced}
use Rattle.desk_world.specs.KeptViews.{items_at, views_of}
use Rattle.desk_world.specs.declared.world.World.{World}
use Rattle.desk_world.specs.Looks.{Look}
use Rattle.desk_world.specs.MapTables.{with_table}
use Rattle.desk_world.specs.Plain.{seat_sort, tables_of}
use Rattle.desk_world.proofs.Derived.{RowAgrees, rows_show}
use Rattle.desk_world.proofs.MapsFound.{of_entry}
use Rattle.desk_world.proofs.Relabelled.{Agrees}
use Rattle.desk_world.proofs.Seated.{all_right}

module _ (look later : Look) where
  -- the seat shows what it showed, if one is known
  abbrev pub SameAt : ItemSort → Option SeatKey → Type 0
  SameAt sort key = IfSome key (λ (k : SeatKey). later sort k.0 ≡ look sort k.0)

  pub passes_same : (sort : ItemSort) (key : Option SeatKey) → SameAt sort key
      → passes (later sort) key ≡ passes (look sort) key
  passes_same sort None same = refl
  passes_same sort (Some key) same = λ i id. bool_seen (same i) id

  pub amount_same : (key : Option SeatKey) → SameAt sorts.Arc key
      → amount (later sorts.Arc) key ≡ amount (look sorts.Arc) key
  amount_same None same = refl
  amount_same (Some key) same = λ i id. int_seen (same i) id

  -- all maps that a kept view reads show what they showed
  pub record SameMaps (m : KeptMaps) : Type 0 where
    pub node_filter : SameAt sorts.Node m.node_filter
    pub arc_filter : SameAt sorts.Arc m.arc_filter
    pub cap : SameAt sorts.Arc m.cap
    pub flow : SameAt sorts.Arc m.flow

  pub present_same : (m : KeptMaps) → SameMaps m → present_in later m ≡ present_in look m
  present_same m same =
      let nodes = passes_same sorts.Node m.node_filter same.node_filter in
      let arcs = passes_same sorts.Arc m.arc_filter same.arc_filter in
      let caps = amount_same m.cap same.cap in
      let flows = amount_same m.flow same.flow in
      λ i. record { keeps_node = nodes i; keeps_arc = arcs i; cap = caps i; flow = flows i }

  -- so it is placed still, where its own seats show what they showed
  pub placed_same : (keys : KeptKeys) → SameMaps keys.maps
      → later sorts.Node keys.nodes.0 ≡ look sorts.Node keys.nodes.0
      → later sorts.Arc keys.arcs.0 ≡ look sorts.Arc keys.arcs.0
      → IsPlaced look keys → IsPlaced later keys
  placed_same keys same nodes arcs placed =
      subst (λ v. AreMarkedBy v (items_at (later sorts.Node keys.nodes.0))
      (items_at (later sorts.Arc keys.arcs.0))) (sym (present_same keys.maps same))
      (subst (λ o. AreMarkedBy (present_in look keys.maps) (items_at o)
      (items_at (later sorts.Arc keys.arcs.0))) (sym nodes)
      (subst (λ o. AreMarkedBy (present_in look keys.maps)
      (items_at (look sorts.Node keys.nodes.0)) (items_at o)) (sym arcs) placed))

  -- ---- by the tables

  -- the maps of a kind that sits in the chain of its items
  pub seat_shows : (sort : ItemSort) (table : List (Named MapRow)) (kind : MapKind)
      → seat_sort sort kind ≡ sort
      → AllOf (Agrees look later) (map (map_claim sort) table) → (name : Name) (key : SeatKey)
      → IsSeatOf table kind name key → later sort key.0 ≡ look sort key.0
  seat_shows sort table kind own agree name key is =
      let shows : RowAgrees look later sort is.row =
      of_entry (RowAgrees look later sort) table name is.row
      (rows_show look later sort table agree) is.found in
      let at : later sort is.row.key.0 ≡ look sort is.row.key.0 =
      subst (λ (s : ItemSort). later s is.row.key.0 ≡ look s is.row.key.0)
      (ap (seat_sort sort) is.typed ∙ own) shows in
      subst (λ (k : SeatKey). later sort k.0 ≡ look sort k.0) is.same at

  pub seats_show : (sort : ItemSort) (table : List (Named MapRow)) (kind : MapKind)
      → seat_sort sort kind ≡ sort → AllOf (Agrees look later) (map (map_claim sort) table)
      → (name : Option Name) (key : Option SeatKey) → AreSeatsOf table kind name key
      → SameAt sort key
  seats_show sort table kind own agree None None are = tt
  seats_show sort table kind own agree None (Some key) are = absurd are
  seats_show sort table kind own agree (Some name) None are = absurd are
  seats_show sort table kind own agree (Some name) (Some key) are =
      seat_shows sort table kind own agree name key are

  pub maps_show : (layers : KeptLayers) (nodes arcs : List (Named MapRow)) (m : KeptMaps)
      → AllOf (Agrees look later) (map (map_claim sorts.Node) nodes)
      → AllOf (Agrees look later) (map (map_claim sorts.Arc) arcs) → AreMapsOf layers nodes arcs m
      → SameMaps m
  maps_show layers nodes arcs m node_maps arc_maps are = record {
    node_filter = seats_show sorts.Node nodes maps.Bools refl node_maps (node_filter layers)
        m.node_filter are.node_filter;
    arc_filter = seats_show sorts.Arc arcs maps.Bools refl arc_maps (arc_filter layers)
        m.arc_filter are.arc_filter;
    cap = seats_show sorts.Arc arcs maps.Ints refl arc_maps (cap_map layers) m.cap are.cap;
    flow = seats_show sorts.Arc arcs maps.Ints refl arc_maps (flow_map layers) m.flow are.flow;
  }

  -- ---- all kept views

  -- each shows the same where its own seats and the maps that it reads do
  pub all_placed : (rows : List (Named ViewRow))
      → AllOf (Agrees look later) (flat_map view_claims rows)
      → AllOf (λ (e : Named ViewRow). IfSome e.value.kept (λ keys. SameMaps keys.maps)) rows
      → ArePlaced look rows → ArePlaced later rows
  all_placed [] agree same placed = tt
  all_placed (e ∷ es) agree same placed = (
    one e.value.kept (flat_map view_claims es) agree same.0 placed.0,
    all_placed es
        (all_right (Agrees look later) (view_claims e) (flat_map view_claims es) agree)
        same.1 placed.1,
  )
    where
      one : (kept : Option KeptKeys) (rest : List Claim)
          → AllOf (Agrees look later) (option_map_or kept_claims kept [] ++ rest)
          → IfSome kept (λ keys. SameMaps keys.maps) → IfSome kept (IsPlaced look)
          → IfSome kept (IsPlaced later)
      one None rest agree same placed = tt
      one (Some keys) rest agree same placed =
          placed_same keys same agree.0 agree.1.0 placed

  pub all_same : (nodes arcs : ItemTables) (views : List (Named View))
      (rows : List (Named ViewRow))
      → AllOf (Agrees look later) (map (map_claim sorts.Node) nodes.maps.rows)
      → AllOf (Agrees look later) (map (map_claim sorts.Arc) arcs.maps.rows)
      → AreReading nodes arcs views rows
      → AllOf (λ (e : Named ViewRow). IfSome e.value.kept (λ keys. SameMaps keys.maps)) rows
  all_same nodes arcs views [] node_maps arc_maps reading = tt
  all_same nodes arcs views (e ∷ es) node_maps arc_maps reading =
      (one e.value.kept reading.0, all_same nodes arcs views es node_maps arc_maps reading.1)
    where
      one : (kept : Option KeptKeys)
          → IfSome kept (λ keys. ReadsMaps nodes arcs views e.name keys.maps)
          → IfSome kept (λ keys. SameMaps keys.maps)
      one None reads = tt
      one (Some keys) reads =
          maps_show reads.layers nodes.maps.rows arcs.maps.rows keys.maps node_maps arc_maps
          reads.maps

  -- where the same is seen of kept views and of maps
  pub kept_agrees : (nodes arcs : ItemTables) (rows : List (Named ViewRow))
      → AllOf (Agrees look later) (flat_map view_claims rows)
      → AllOf (Agrees look later) (map (map_claim sorts.Node) nodes.maps.rows)
      → AllOf (Agrees look later) (map (map_claim sorts.Arc) arcs.maps.rows)
      → AreKept look nodes arcs rows → AreKept later nodes arcs rows
  kept_agrees nodes arcs rows views node_maps arc_maps kept = record {
    reading = kept.reading;
    placed = all_placed rows views
        (all_same nodes arcs (views_of rows) rows node_maps arc_maps kept.reading) kept.placed;
  }

-- with a table of maps that has the same rows
pub kept_rows : {O : Type 0} (look : Look) (w : World O) (sort : ItemSort) (rows : Rows MapRow)
    → rows.rows ≡ (tables_of w sort).maps.rows → AreKept look w.nodes w.arcs w.views.rows
    → AreKept look (with_table w sort rows).nodes (with_table w sort rows).arcs w.views.rows
kept_rows look w sort rows same kept = record {
  reading = by sort same;
  placed = kept.placed;
}
  where
    views : List (Named View)
    views = views_of w.views.rows

    one : (nodes arcs nodes_now arcs_now : ItemTables) → nodes_now.maps.rows ≡ nodes.maps.rows
        → arcs_now.maps.rows ≡ arcs.maps.rows → (es : List (Named ViewRow))
        → AreReading nodes arcs views es → AreReading nodes_now arcs_now views es
    one nodes arcs nodes_now arcs_now same_nodes same_arcs [] reads = tt
    one nodes arcs nodes_now arcs_now same_nodes same_arcs (e ∷ es) reads =
        (of e.value.kept reads.0, one nodes arcs nodes_now arcs_now same_nodes same_arcs es reads.1)
      where
        of : (kept : Option KeptKeys)
            → IfSome kept (λ keys. ReadsMaps nodes arcs views e.name keys.maps)
            → IfSome kept (λ keys. ReadsMaps nodes_now arcs_now views e.name keys.maps)
        of None reads = tt
        of (Some keys) reads = record {
          layers = reads.layers;
          are = reads.are;
          maps = subst (λ table. AreMapsOf reads.layers table arcs_now.maps.rows keys.maps)
              (sym same_nodes)
              (subst (λ table. AreMapsOf reads.layers nodes.maps.rows table keys.maps)
              (sym same_arcs) reads.maps);
        }

    by : (sort : ItemSort) → rows.rows ≡ (tables_of w sort).maps.rows
        → AreReading (with_table w sort rows).nodes (with_table w sort rows).arcs views w.views.rows
    by sorts.Node same =
        one w.nodes w.arcs (with_table w sorts.Node rows).nodes w.arcs same refl w.views.rows
        kept.reading
    by sorts.Arc same =
        one w.nodes w.arcs w.nodes (with_table w sorts.Arc rows).arcs refl same w.views.rows
        kept.reading
