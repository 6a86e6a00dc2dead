-- Kept views where another table of maps comes.
use Rattle.std.proofs.Common.{◌≡◌, ℕ, Bool, false, List, [], ◌∷◌, ◌++◌, map}
use Rattle.std.proofs.Common.{Option, Some, None, IfSome, refl, sym, ap, ◌∙◌, subst}
use Rattle.std.specs.Prelude.{zero, suc, ◌||◌}
use Rattle.std.specs.List.{flat_map}
use Rattle.std.specs.Option.{option_map_or}
use Rattle.std.specs.Str.{bytes_eq}
use Rattle.std.proofs.lemmas.Bool.{or_parts}
use Rattle.base_items.specs.declared.items.ItemSort.{ItemSort}
use Rattle.base_items.specs.declared.items.ItemSort.TheVariants as sorts
use Rattle.base_items.specs.declared.limits.TheConstants.{MAX_LAYERS}
use Rattle.script_words.specs.declared.commands.LayerWord.{LayerWord}
use Rattle.script_words.specs.declared.commands.LayerWord.TheVariants as words
use Rattle.report_text.specs.declared.faults.Fault.TheVariants as faults
use Rattle.notify_chain.specs.declared.key.SeatKey.{SeatKey}
use Rattle.plain_digraph.specs.Lists.{AllOf}
use Rattle.observe_core.specs.Seen.{Watched}
use Rattle.plain_views.specs.Towers as towers
use Rattle.plain_views.specs.Towers.{Layer}
use Rattle.plain_world.specs.Demands as demands
use Rattle.plain_world.specs.Refusals.{breach, is_index_of}
use Rattle.plain_world.specs.Tables.{Name, Named, entry, with_entry, oldest}
use Rattle.plain_world.specs.World.{View, attached}
use Rattle.plain_world.specs.Views.{reads, layer_of, layers_up_to}
use Rattle.plain_world.proofs.TableChanges.{other_without}
use Rattle.desk_names.specs.Rows.{Rows}
use Rattle.desk_world.specs.declared.tables.ItemTables.{ItemTables}
use Rattle.desk_world.specs.declared.tables.KeptKeys.{KeptKeys}
use Rattle.desk_world.specs.declared.tables.KeptMaps.{KeptMaps}
use Rattle.desk_world.specs.declared.tables.MapKind.{MapKind}
use Rattle.desk_world.specs.declared.tables.MapKind.TheVariants as maps
use Rattle.desk_world.specs.declared.tables.MapRow.{MapRow}
use Rattle.desk_world.specs.declared.tables.ViewRow.{ViewRow}
use Rattle.desk_world.specs.declared.world.World.{World}
use Rattle.desk_world.specs.Claims.{map_claim, view_claims}
use Rattle.desk_world.specs.KeptMaps.{IsSeatOf, AreSeatsOf, AreMapsOf, ReadsMaps, KeptLayers}
use Rattle.desk_world.specs.KeptMaps.{OneSub, OneResidual, Both, layers_in}
use Rattle.desk_world.specs.KeptMaps.{node_filter, arc_filter, cap_map, flow_map}
use Rattle.desk_world.specs.KeptViews.{AreKept, AreReading, views_of}
use Rattle.desk_world.specs.Looks.{Look}
use Rattle.desk_world.specs.MapTables.{with_table}
use Rattle.desk_world.specs.Plain.{plain_of, seat_sort, tables_of}
use Rattle.desk_world.proofs.Indexed.{still_stands, none_found, nothing_mapped, first_none}
use Rattle.desk_world.proofs.KeptAgree.{SameAt, SameMaps, seat_shows, seats_show, all_placed}
use Rattle.desk_world.proofs.MapTables.{claims_with, other_claims, last_claims}
use Rattle.desk_world.proofs.MapsFound.{of_entry}
use Rattle.desk_world.proofs.NamedRows.{Stands}
use Rattle.desk_world.proofs.Relabelled.{Agrees}
use Rattle.desk_world.proofs.Seated.{all_left, all_right}

-- ---- the maps that layers name

-- whether the layer names the map of the sort
abbrev pub names : ItemSort → Name → Layer Name → Bool
names sorts.Node map towers.Reverse = false
names sorts.Node map towers.Undirect = false
names sorts.Node map towers.Split = false
names sorts.Node map (towers.Sub nodes arcs) = option_map_or (bytes_eq map) nodes false
names sorts.Node map (towers.Residual cap flow) = false
names sorts.Arc map towers.Reverse = false
names sorts.Arc map towers.Undirect = false
names sorts.Arc map towers.Split = false
names sorts.Arc map (towers.Sub nodes arcs) = option_map_or (bytes_eq map) arcs false
names sorts.Arc map (towers.Residual cap flow) = bytes_eq map cap || bytes_eq map flow

names_word : (sort : ItemSort) (map : Name) (word : LayerWord)
    → names sort map (layer_of word) ≡ reads sort map word
names_word sorts.Node map words.Reverse = refl
names_word sorts.Node map words.Undirect = refl
names_word sorts.Node map words.Split = refl
names_word sorts.Node map (words.Sub nodes arcs) = refl
names_word sorts.Node map (words.Residual cap flow) = refl
names_word sorts.Arc map words.Reverse = refl
names_word sorts.Arc map words.Undirect = refl
names_word sorts.Arc map words.Split = refl
names_word sorts.Arc map (words.Sub nodes arcs) = refl
names_word sorts.Arc map (words.Residual cap flow) = refl

-- where no view names the map, no tower does
tower_apart : (sort : ItemSort) (map : Name) (views : List (Named View))
    → AllOf (λ (e : Named View). reads sort map e.value.layer ≡ false) views
    → (most : ℕ) (view : Name)
    → AllOf (λ l. names sort map l ≡ false) (layers_up_to most views view)
tower_apart sort map views none zero view = tt
tower_apart sort map views none (suc most) view =
    by (λ other. tower_apart sort map views none most other) (entry views view) refl
  where
    by : ((other : Name) → AllOf (λ l. names sort map l ≡ false) (layers_up_to most views other))
        → (o : Option View) → entry views view ≡ o → AllOf (λ l. names sort map l ≡ false)
        (option_map_or (λ v. layer_of v.layer ∷ layers_up_to most views v.below) o [])
    by rest None is = tt
    by rest (Some v) is = (
      names_word sort map v.layer
          ∙ of_entry (λ (x : View). reads sort map x.layer ≡ false) views view v none is,
      rest v.below,
    )

-- another name than this one, if there is a name
abbrev pub IsApart : Name → Name → Type 0
IsApart gone name = bytes_eq gone name ≡ false

-- what holds of the names of the maps of a sort
abbrev pub OfNames : (Name → Type 0) → ItemSort → KeptLayers → Type 0
OfNames ok sorts.Node layers = IfSome (node_filter layers) ok
OfNames ok sorts.Arc layers =
    IfSome (arc_filter layers) ok × IfSome (cap_map layers) ok × IfSome (flow_map layers) ok

given_apart : (gone : Name) (name : Option Name) → option_map_or (bytes_eq gone) name false ≡ false
    → IfSome name (IsApart gone)
given_apart gone None is = tt
given_apart gone (Some name) is = is

pub names_apart : (sort : ItemSort) (gone : Name) (layers : KeptLayers)
    → AllOf (λ l. names sort gone l ≡ false) (layers_in layers) → OfNames (IsApart gone) sort layers
names_apart sorts.Node gone (OneSub nodes arcs) all = given_apart gone nodes all.0
names_apart sorts.Node gone (OneResidual cap flow) all = tt
names_apart sorts.Node gone (Both cap flow nodes arcs) all = given_apart gone nodes all.1.0
names_apart sorts.Arc gone (OneSub nodes arcs) all = (given_apart gone arcs all.0, tt, tt)
names_apart sorts.Arc gone (OneResidual cap flow) all =
    let parts = or_parts (bytes_eq gone cap) (bytes_eq gone flow) all.0 in
    (tt, parts.0, parts.1)
names_apart sorts.Arc gone (Both cap flow nodes arcs) all =
    let parts = or_parts (bytes_eq gone cap) (bytes_eq gone flow) all.0 in
    (given_apart gone arcs all.1.0, parts.0, parts.1)

-- ---- seats in another table

module _ (look later : Look) where
  -- the seat of a map with such a name is one of the other table too, and shows the same
  abbrev pub Stays : (Name → Type 0) → ItemSort → (table now : List (Named MapRow)) → Type 0
  Stays ok sort table now = (kind : MapKind) → seat_sort sort kind ≡ sort → (name : Name)
      → ok name → (key : SeatKey) → IsSeatOf table kind name key
      → IsSeatOf now kind name key × (later sort key.0 ≡ look sort key.0)

  seats_move : (ok : Name → Type 0) (sort : ItemSort) (table now : List (Named MapRow))
      → Stays ok sort table now → (kind : MapKind) → seat_sort sort kind ≡ sort
      → (name : Option Name) → IfSome name ok → (key : Option SeatKey)
      → AreSeatsOf table kind name key
      → AreSeatsOf now kind name key × SameAt look later sort key
  seats_move ok sort table now stays kind own None fine None are = (tt, tt)
  seats_move ok sort table now stays kind own None fine (Some key) are = absurd are
  seats_move ok sort table now stays kind own (Some name) fine None are = absurd are
  seats_move ok sort table now stays kind own (Some name) fine (Some key) are =
      stays kind own name fine key are

  nodes_move : (ok : Name → Type 0) (nodes now arcs : List (Named MapRow))
      → Stays ok sorts.Node nodes now
      → AllOf (Agrees look later) (map (map_claim sorts.Arc) arcs)
      → (layers : KeptLayers) (m : KeptMaps) → OfNames ok sorts.Node layers
      → AreMapsOf layers nodes arcs m → AreMapsOf layers now arcs m × SameMaps look later m
  nodes_move ok nodes now arcs stays agree layers m fine are =
      let moved = seats_move ok sorts.Node nodes now stays maps.Bools refl (node_filter layers)
      fine m.node_filter are.node_filter in
      let shows = seats_show look later sorts.Arc arcs in (
        record {
          shape = are.shape;
          node_filter = moved.0;
          arc_filter = are.arc_filter;
          cap = are.cap;
          flow = are.flow;
        },
        record {
          node_filter = moved.1;
          arc_filter = shows maps.Bools refl agree (arc_filter layers) m.arc_filter
              are.arc_filter;
          cap = shows maps.Ints refl agree (cap_map layers) m.cap are.cap;
          flow = shows maps.Ints refl agree (flow_map layers) m.flow are.flow;
        },
      )

  arcs_move : (ok : Name → Type 0) (nodes arcs now : List (Named MapRow))
      → Stays ok sorts.Arc arcs now
      → AllOf (Agrees look later) (map (map_claim sorts.Node) nodes)
      → (layers : KeptLayers) (m : KeptMaps) → OfNames ok sorts.Arc layers
      → AreMapsOf layers nodes arcs m → AreMapsOf layers nodes now m × SameMaps look later m
  arcs_move ok nodes arcs now stays agree layers m fine are =
      let move = seats_move ok sorts.Arc arcs now stays in
      let filter = move maps.Bools refl (arc_filter layers) fine.0 m.arc_filter are.arc_filter in
      let cap = move maps.Ints refl (cap_map layers) fine.1 m.cap are.cap in
      let flow = move maps.Ints refl (flow_map layers) fine.2 m.flow are.flow in (
        record {
          shape = are.shape;
          node_filter = are.node_filter;
          arc_filter = filter.0;
          cap = cap.0;
          flow = flow.0;
        },
        record {
          node_filter = seats_show look later sorts.Node nodes maps.Bools refl agree
              (node_filter layers) m.node_filter are.node_filter;
          arc_filter = filter.1;
          cap = cap.1;
          flow = flow.1;
        },
      )

  -- ---- all kept views

  -- what is so of the layers of each kept view
  abbrev pub OfLayers : (KeptLayers → Type 0) → List (Named View) → Type 0
  OfLayers fine views = (name : Name) (layers : KeptLayers)
      → layers_up_to MAX_LAYERS views name ≡ layers_in layers → fine layers

  abbrev Moves : (nodes arcs nodes_now arcs_now : List (Named MapRow)) → (KeptLayers → Type 0)
      → Type 0
  Moves nodes arcs nodes_now arcs_now fine = (layers : KeptLayers) (m : KeptMaps) → fine layers
      → AreMapsOf layers nodes arcs m
      → AreMapsOf layers nodes_now arcs_now m × SameMaps look later m

  module _ (nodes arcs nodes_now arcs_now : ItemTables) (fine : KeptLayers → Type 0)
      (moves : Moves nodes.maps.rows arcs.maps.rows nodes_now.maps.rows arcs_now.maps.rows fine)
      (views : List (Named View)) (all_fine : OfLayers fine views) where
    one_moves : (name : Name) (kept : Option KeptKeys)
        → IfSome kept (λ keys. ReadsMaps nodes arcs views name keys.maps)
        → IfSome kept (λ keys. ReadsMaps nodes_now arcs_now views name keys.maps)
        × IfSome kept (λ keys. SameMaps look later keys.maps)
    one_moves name None reads = (tt, tt)
    one_moves name (Some keys) reads =
        let moved = moves reads.layers keys.maps (all_fine name reads.layers reads.are)
        reads.maps in
        (record { layers = reads.layers; are = reads.are; maps = moved.0 }, moved.1)

    all_move : (es : List (Named ViewRow)) → AreReading nodes arcs views es
        → AreReading nodes_now arcs_now views es
        × AllOf (λ (e : Named ViewRow). IfSome e.value.kept
        (λ keys. SameMaps look later keys.maps)) es
    all_move [] reads = (tt, tt)
    all_move (e ∷ es) reads =
        let here = one_moves e.name e.value.kept reads.0 in
        let rest = all_move es reads.1 in
        ((here.0, rest.0), (here.1, rest.1))

  tables_move : (nodes arcs nodes_now arcs_now : ItemTables) (fine : KeptLayers → Type 0)
      → Moves nodes.maps.rows arcs.maps.rows nodes_now.maps.rows arcs_now.maps.rows fine
      → (rows : List (Named ViewRow)) → OfLayers fine (views_of rows)
      → AllOf (Agrees look later) (flat_map view_claims rows)
      → AreKept look nodes arcs rows → AreKept later nodes_now arcs_now rows
  tables_move nodes arcs nodes_now arcs_now fine moves rows all_fine agree kept =
      let moved = all_move nodes arcs nodes_now arcs_now fine moves (views_of rows) all_fine rows
      kept.reading in
      record {
        reading = moved.0;
        placed = all_placed look later rows agree moved.1 kept.placed;
      }

  -- with another table of the maps of a sort
  pub kept_table : {O : Type 0} (w : World O) (ok : Name → Type 0) (sort : ItemSort)
      (rows : Rows MapRow)
      → AllOf (Agrees look later) (claims_with w sort [])
      → Stays ok sort (tables_of w sort).maps.rows rows.rows
      → OfLayers (OfNames ok sort) (views_of w.views.rows)
      → AreKept look w.nodes w.arcs w.views.rows
      → AreKept later (with_table w sort rows).nodes (with_table w sort rows).arcs w.views.rows
  kept_table w ok sorts.Node rows agree stays fine kept =
      let P = Agrees look later in
      let arc_maps = map (map_claim sorts.Arc) w.arcs.maps.rows in
      tables_move w.nodes w.arcs (with_table w sorts.Node rows).nodes w.arcs
      (OfNames ok sorts.Node)
      (nodes_move ok w.nodes.maps.rows rows.rows w.arcs.maps.rows stays
      (all_left P arc_maps (other_claims w) agree.1.1.1.1))
      w.views.rows fine
      (all_left P (flat_map view_claims w.views.rows) (last_claims w)
      (all_right P arc_maps (other_claims w) agree.1.1.1.1)) kept
  kept_table w ok sorts.Arc rows agree stays fine kept =
      let P = Agrees look later in
      let node_maps = map (map_claim sorts.Node) w.nodes.maps.rows in
      tables_move w.nodes w.arcs w.nodes (with_table w sorts.Arc rows).arcs
      (OfNames ok sorts.Arc)
      (arcs_move ok w.nodes.maps.rows w.arcs.maps.rows rows.rows stays
      (all_left P node_maps (other_claims w) agree.1.1.1.1))
      w.views.rows fine
      (all_left P (flat_map view_claims w.views.rows) (last_claims w)
      (all_right P node_maps (other_claims w) agree.1.1.1.1)) kept

  -- ---- a map more

  all_names : (sort : ItemSort) (layers : KeptLayers) → OfNames (λ name. Unit {0}) sort layers
  all_names sorts.Node (OneSub nodes arcs) = given nodes
    where
      given : (name : Option Name) → IfSome name (λ x. Unit {0})
      given None = tt
      given (Some x) = tt
  all_names sorts.Node (OneResidual cap flow) = tt
  all_names sorts.Node (Both cap flow nodes arcs) = given nodes
    where
      given : (name : Option Name) → IfSome name (λ x. Unit {0})
      given None = tt
      given (Some x) = tt
  all_names sorts.Arc (OneSub nodes arcs) = (given arcs, tt, tt)
    where
      given : (name : Option Name) → IfSome name (λ x. Unit {0})
      given None = tt
      given (Some x) = tt
  all_names sorts.Arc (OneResidual cap flow) = (tt, tt, tt)
  all_names sorts.Arc (Both cap flow nodes arcs) = (given arcs, tt, tt)
    where
      given : (name : Option Name) → IfSome name (λ x. Unit {0})
      given None = tt
      given (Some x) = tt

  pub kept_more : {O : Type 0} (w : World O) (sort : ItemSort) (rows : Rows MapRow) (name : Name)
      (row : MapRow) → rows.rows ≡ with_entry (tables_of w sort).maps.rows name row
      → AllOf (Agrees look later) (claims_with w sort [])
      → AllOf (Agrees look later) (map (map_claim sort) (tables_of w sort).maps.rows)
      → AreKept look w.nodes w.arcs w.views.rows
      → AreKept later (with_table w sort rows).nodes (with_table w sort rows).arcs w.views.rows
  kept_more w sort rows name row put others own kept =
      kept_table w (λ other. Unit {0}) sort rows others stays
      (λ view layers are. all_names sort layers) kept
    where
      stays : Stays (λ other. Unit {0}) sort (tables_of w sort).maps.rows rows.rows
      stays kind chain other fine key is = (
        record {
          row = is.row;
          found = ap (λ table. entry table other) put
              ∙ still_stands (tables_of w sort).maps.rows name other row is.row is.found;
          typed = is.typed;
          same = is.same;
        },
        seat_shows look later sort (tables_of w sort).maps.rows kind chain own other key is,
      )

  -- ---- without a map, or with another in its place

  pub kept_but : {O : Type 0} (w : World O) (sort : ItemSort) (rows : Rows MapRow) (name : Name)
      (row : MapRow) (at : Stands (tables_of w sort).maps.rows name row)
      → ((other : Name) → IsApart name other
      → entry rows.rows other ≡ entry (tables_of w sort).maps.rows other)
      → AllOf (λ (e : Named View). reads sort name e.value.layer ≡ false) (views_of w.views.rows)
      → AllOf (Agrees look later) (claims_with w sort [])
      → AllOf (Agrees look later) (map (map_claim sort) (at.front ++ at.back))
      → AreKept look w.nodes w.arcs w.views.rows
      → AreKept later (with_table w sort rows).nodes (with_table w sort rows).arcs w.views.rows
  kept_but w sort rows name row at finds unread others rest kept =
      kept_table w (IsApart name) sort rows others stays
      (λ view layers are. names_apart sort name layers
      (subst (AllOf (λ l. names sort name l ≡ false)) are
      (tower_apart sort name (views_of w.views.rows) unread MAX_LAYERS view))) kept
    where
      stays : Stays (IsApart name) sort (tables_of w sort).maps.rows rows.rows
      stays kind chain other apart key is = (
        record {
          row = is.row;
          found = finds other apart ∙ is.found;
          typed = is.typed;
          same = is.same;
        },
        seat_shows look later sort (at.front ++ at.back) kind chain rest other key (record {
          row = is.row;
          found = ap (λ list. entry list other) (sym at.less)
              ∙ other_without (tables_of w sort).maps.rows name other apart ∙ is.found;
          typed = is.typed;
          same = is.same;
        }),
      )

-- no view names a map that nothing reads
pub unread_views : {O : Type 0} (watch : O → Watched) (w : World O) (sort : ItemSort) (name : Name)
    → breach (plain_of watch w) (demands.NoneReads sort name) ≡ None
    → AllOf (λ (e : Named View). reads sort name e.value.layer ≡ false) (views_of w.views.rows)
unread_views watch w sort name unread =
    let world = plain_of watch w in
    let reader = nothing_mapped faults.InUse _ unread in
    let view = first_none (oldest (λ view. reads sort name view.layer) world.views)
    (oldest (is_index_of name) (attached world sort).maps) reader in
    none_found (λ (e : Named View). reads sort name e.value.layer) (views_of w.views.rows)
    (nothing_mapped (λ (e : Named View). e.name) _ view)
