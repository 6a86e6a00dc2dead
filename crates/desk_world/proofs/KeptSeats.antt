-- The maps that kept views read sit in their seats.
use Rattle.std.proofs.Common.{◌≡◌, List, Option, Some, None, refl, subst}
use Rattle.base_items.specs.declared.items.ItemSort.{ItemSort}
use Rattle.base_items.specs.declared.items.ItemSort.TheVariants as sorts
use Rattle.notify_chain.specs.declared.key.SeatKey.{SeatKey}
use Rattle.plain_digraph.specs.Lists.{AllOf}
use Rattle.plain_world.specs.Tables.{Name, Named}
use Rattle.desk_world.specs.declared.tables.KeptMaps.{KeptMaps}
use Rattle.desk_world.specs.declared.tables.MapKind.{MapKind}
use Rattle.desk_world.specs.declared.tables.MapKind.TheVariants as maps
use Rattle.desk_world.specs.declared.tables.MapRow.{MapRow}
use Rattle.desk_world.specs.Claims.{Sits, role_of}
use Rattle.desk_world.specs.KeptMaps.{IsSeatOf, AreSeatsOf, AreMapsOf, KeptLayers}
use Rattle.desk_world.specs.KeptMaps.{node_filter, arc_filter, cap_map, flow_map}
use Rattle.desk_world.specs.Looks.{Look}
use Rattle.desk_world.specs.Placing.{SitsGiven, SitMaps}
use Rattle.desk_world.specs.Plain.{seat_sort}
use Rattle.desk_world.proofs.MapsFound.{of_entry}

module _ (look : Look) where
  abbrev pub SitsRow : ItemSort → MapRow → Type 0
  SitsRow sort row = Sits (role_of row.kind) (look (seat_sort sort row.kind) row.key.0)

  seat_sits : (sort : ItemSort) (table : List (Named MapRow)) (kind : MapKind)
      → seat_sort sort kind ≡ sort → AllOf (λ e. SitsRow sort e.value) table → (name : Name)
      (key : SeatKey) → IsSeatOf table kind name key → Sits (role_of kind) (look sort key.0)
  seat_sits sort table kind own sit name key is =
      let row : SitsRow sort is.row = of_entry (SitsRow sort) table name is.row sit is.found in
      subst (λ (k : SeatKey). Sits (role_of kind) (look sort k.0)) is.same
      (subst (λ s. Sits (role_of kind) (look s is.row.key.0)) own
      (subst (λ k. Sits (role_of k) (look (seat_sort sort k) is.row.key.0)) is.typed row))

  pub seats_sit : (sort : ItemSort) (table : List (Named MapRow)) (kind : MapKind)
      → seat_sort sort kind ≡ sort → AllOf (λ e. SitsRow sort e.value) table
      → (name : Option Name) (key : Option SeatKey) → AreSeatsOf table kind name key
      → SitsGiven (role_of kind) (look sort) key
  seats_sit sort table kind own sit None None are = tt
  seats_sit sort table kind own sit None (Some key) are = absurd are
  seats_sit sort table kind own sit (Some name) None are = absurd are
  seats_sit sort table kind own sit (Some name) (Some key) are =
      seat_sits sort table kind own sit name key are

  pub maps_sit : (layers : KeptLayers) (nodes arcs : List (Named MapRow)) (m : KeptMaps)
      → AllOf (λ e. SitsRow sorts.Node e.value) nodes
      → AllOf (λ e. SitsRow sorts.Arc e.value) arcs → AreMapsOf layers nodes arcs m
      → SitMaps look m
  maps_sit layers nodes arcs m node_maps arc_maps are = record {
    node_filter = seats_sit sorts.Node nodes maps.Bools refl node_maps (node_filter layers)
        m.node_filter are.node_filter;
    arc_filter = seats_sit sorts.Arc arcs maps.Bools refl arc_maps (arc_filter layers)
        m.arc_filter are.arc_filter;
    cap = seats_sit sorts.Arc arcs maps.Ints refl arc_maps (cap_map layers) m.cap are.cap;
    flow = seats_sit sorts.Arc arcs maps.Ints refl arc_maps (flow_map layers) m.flow are.flow;
  }
