-- A world in which the ties of a sort were written to, and the attributes with them.
use Rattle.std.proofs.Common.{◌≡◌, ℕ, List, [], ◌∷◌, ◌++◌, map, refl, sym, ap}
use Rattle.std.proofs.Common.{subst, Some, ◌∙◌, inl, inr}
use Rattle.std.specs.List.{flat_map}
use Rattle.base_items.specs.declared.items.ItemSort.{ItemSort}
use Rattle.base_items.specs.declared.items.ItemSort.TheVariants as sorts
use Rattle.plain_digraph.specs.Items.{facts}
use Rattle.plain_digraph.specs.Lists.{AllOf}
use Rattle.observe_core.specs.Fits.{HeldFits}
use Rattle.observe_core.specs.Held.{Tie, Ties, making_of}
use Rattle.observe_core.specs.Seen.{Seen, Watched}
use Rattle.notify_chain.specs.Seats.{SeatSeen, seat_from}
use Rattle.alter_graph.specs.Chains.{ChainsSeen, chains_seen}
use Rattle.alter_graph.specs.Lending.{Writes, Rewrites, MayWrite, graph_with}
use Rattle.desk_names.specs.Rows.{Rows}
use Rattle.desk_seats.specs.Contents.{holding}
use Rattle.desk_world.specs.declared.tables.AttributeRow.{AttributeRow}
use Rattle.desk_world.specs.declared.world.World.{World}
use Rattle.desk_world.specs.Claims as claims
use Rattle.desk_world.specs.Claims.{Claim, Role, Plays, claims_of, own_claims, map_claim}
use Rattle.desk_world.specs.Claims.{guard_claim, snap_claims, view_claims}
use Rattle.desk_world.specs.Derived.{AreDerived, AreNumbered, AreOfRows, ties_at}
use Rattle.desk_world.specs.KeptViews.{AreKept}
use Rattle.desk_world.specs.InStep.{AreInStep, AreSeated}
use Rattle.desk_world.specs.Looks.{Look, look_in, looked}
use Rattle.desk_world.specs.Plain.{plain_of, look_of, tables_of, labels_seen, world_seen, kinds_of}
use Rattle.desk_world.specs.Plain.{attribute_seen, ties_seen}
use Rattle.desk_world.proofs.Claimed.{apart_all}
use Rattle.desk_world.proofs.Derived.{indexes_agree}
use Rattle.desk_world.proofs.Following.{same_sort}
use Rattle.desk_world.proofs.KeptAgree.{kept_agrees}
use Rattle.desk_world.proofs.Relabelled.{Agrees, rows_agree, guards_agree, snapshots_agree}
use Rattle.desk_world.proofs.Seated.{all_left, all_right, all_so}
use Rattle.desk_world.proofs.SnapTables.{snaps_stay}
use Rattle.alter_graph.specs.Attaching.{with_seats}
use Rattle.alter_graph.specs.Chains.{seats_in}
use Rattle.notify_chain.specs.Seats.{put_seat}
use Rattle.desk_world.proofs.Written.{reseated, look_put, look_elsewhere, look_kept, seats_stay}
use Rattle.desk_world.proofs.Written.{no_half, IsElsewhere}

-- ---- all claims but that of the ties of a sort

module _ {O : Type 0} (w : World O) where
  abbrev labels_claim : ItemSort → Claim
  labels_claim sort = claims.claim sort (tables_of w sort).labels.0 claims.Labels

  abbrev ties_claim : ItemSort → Claim
  ties_claim sort = claims.claim sort (tables_of w sort).ties.0 claims.Ties

  abbrev guard_claims : List Claim
  guard_claims = map guard_claim w.guards.rows

  abbrev last_claims : List Claim
  last_claims = guard_claims ++ flat_map snap_claims w.snapshots.rows

  abbrev other_claims : List Claim
  other_claims = flat_map view_claims w.views.rows ++ last_claims

  abbrev map_claims : ItemSort → List Claim
  map_claims sort = map (map_claim sort) (tables_of w sort).maps.rows

  abbrev table_claims : List Claim
  table_claims = map_claims sorts.Node ++ (map_claims sorts.Arc ++ other_claims)

  record HoldsElsewhere (P : Claim → Type 0) (sort : ItemSort) : Type 0 where
    labels : (other : ItemSort) → P (labels_claim other)
    ties : (other : ItemSort) → (sort ≡ other → ⊥) → P (ties_claim other)
    tables : AllOf P table_claims

  maps_hold : (P : Claim → Type 0) → AllOf P table_claims → (sort : ItemSort)
      → AllOf P (map_claims sort)
  maps_hold P all sorts.Node =
      all_left P (map_claims sorts.Node) (map_claims sorts.Arc ++ other_claims) all
  maps_hold P all sorts.Arc =
      all_left P (map_claims sorts.Arc) other_claims
      (all_right P (map_claims sorts.Node) (map_claims sorts.Arc ++ other_claims) all)

  others_hold : (P : Claim → Type 0) → AllOf P table_claims → AllOf P other_claims
  others_hold P all =
      all_right P (map_claims sorts.Arc) other_claims
      (all_right P (map_claims sorts.Node) (map_claims sorts.Arc ++ other_claims) all)

  views_hold : (P : Claim → Type 0) → AllOf P table_claims
      → AllOf P (flat_map view_claims w.views.rows)
  views_hold P all =
      all_left P (flat_map view_claims w.views.rows) last_claims (others_hold P all)

  guards_hold : (P : Claim → Type 0) → AllOf P table_claims → AllOf P guard_claims
  guards_hold P all =
      all_left P guard_claims (flat_map snap_claims w.snapshots.rows)
      (all_right P (flat_map view_claims w.views.rows) last_claims (others_hold P all))

  halves_hold : (P : Claim → Type 0) → AllOf P table_claims
      → AllOf P (flat_map snap_claims w.snapshots.rows)
  halves_hold P all =
      all_right P guard_claims (flat_map snap_claims w.snapshots.rows)
      (all_right P (flat_map view_claims w.views.rows) last_claims (others_hold P all))

  nodes_apart : (P : Claim → Type 0)
      → AllOf P (labels_claim sorts.Node ∷ own_claims sorts.Arc w.arcs ++ table_claims)
      → HoldsElsewhere P sorts.Node
  nodes_apart P all = record {
    labels = labels;
    ties = ties;
    tables = all.1.1.1;
  }
    where
      labels : (other : ItemSort) → P (labels_claim other)
      labels sorts.Node = all.0
      labels sorts.Arc = all.1.0

      ties : (other : ItemSort) → (sorts.Node ≡ other → ⊥) → P (ties_claim other)
      ties sorts.Node apart = absurd (apart refl)
      ties sorts.Arc apart = all.1.1.0

  arcs_apart : (P : Claim → Type 0)
      → AllOf P (own_claims sorts.Node w.nodes ++ labels_claim sorts.Arc ∷ table_claims)
      → HoldsElsewhere P sorts.Arc
  arcs_apart P all = record {
    labels = labels;
    ties = ties;
    tables = all.1.1.1;
  }
    where
      labels : (other : ItemSort) → P (labels_claim other)
      labels sorts.Node = all.0
      labels sorts.Arc = all.1.1.0

      ties : (other : ItemSort) → (sorts.Arc ≡ other → ⊥) → P (ties_claim other)
      ties sorts.Node apart = all.1.0
      ties sorts.Arc apart = absurd (apart refl)

  -- what holds of all claims of other seats
  elsewhere : (P : Claim → Type 0) (c : ChainsSeen) → AreSeated (claims_of w) c
      → (sort : ItemSort)
      → ((x : Claim) → IsElsewhere sort (tables_of w sort).ties.0 x → P x)
      → HoldsElsewhere P sort
  elsewhere P c seated sorts.Node so =
      nodes_apart P (all_so (IsElsewhere sorts.Node w.nodes.ties.0) P so
      (labels_claim sorts.Node ∷ own_claims sorts.Arc w.arcs ++ table_claims)
      (apart_all (labels_claim sorts.Node ∷ []) (ties_claim sorts.Node)
      (own_claims sorts.Arc w.arcs ++ table_claims) seated.claims_differ))
  elsewhere P c seated sorts.Arc so =
      arcs_apart P (all_so (IsElsewhere sorts.Arc w.arcs.ties.0) P so
      (own_claims sorts.Node w.nodes ++ labels_claim sorts.Arc ∷ table_claims)
      (apart_all (own_claims sorts.Node w.nodes ++ labels_claim sorts.Arc ∷ [])
      (ties_claim sorts.Arc) table_claims seated.claims_differ))

-- ---- the world

module _ {O : Type 0} (watch : O → Watched) (w : World O) (sort : ItemSort) (old now : O)
    (in_step : AreInStep watch w)
    (seen : look_of watch w sort (tables_of w sort).ties.0 ≡ Some (watch old).seen)
    (plays : Plays claims.Ties (watch old).seen)
    (may : MayWrite watch sort (tables_of w sort).ties.0 w.graph old) (held : List Tie)
    (wrote : (watch now).seen ≡ holding (Ties held) (watch old).seen)
    (keeps : HeldFits (watch old).seen.held (facts w.graph.graph.graph sort)
    → HeldFits (watch now).seen.held (facts w.graph.graph.graph sort))
    (attributes : Rows AttributeRow) where
  abbrev key : ℕ
  key = (tables_of w sort).ties.0

  abbrev pub later : World O
  later = record w { graph = graph_with sort key now w.graph; attributes = attributes }

  abbrev t : SeatSeen
  t = seat_from watch key (Some now)

  abbrev c : ChainsSeen
  c = chains_seen watch w.graph.chains

  abbrev look : Look
  look = look_of watch w

  abbrev pub then : Look
  then = look_in (reseated sort t c)

  writes : Writes watch sort key w.graph old now
  writes = may now

  rewrote : Rewrites (facts w.graph.graph.graph sort) (watch old).seen (watch now).seen
  rewrote = record {
    kind = ap (λ s. s.kind) wrote;
    facts = ap (λ s. s.facts) wrote;
    added = ap (λ s. s.added) wrote;
    erased = ap (λ s. s.erased) wrote;
    moved = ap (λ s. s.moved) wrote;
    held = keeps;
    half = λ half. absurd (no_half 8 (watch old).seen plays.form half);
  }

  same_role : (role : Role) → Plays role (watch old).seen → Plays role (watch now).seen
  same_role role p = record {
    form = ap (λ s. s.form) wrote ∙ p.form;
    making = ap (λ s. making_of s.held) wrote ∙ sym plays.making ∙ p.making;
    kind = ap (λ s. claims.is_map s.kind) wrote ∙ p.kind;
  }

  looks : look_in (chains_seen watch (graph_with sort key now w.graph).chains) ≡ then
  looks = ap look_in writes.seats

  agree : HoldsElsewhere w (Agrees look then) sort
  agree =
      elsewhere w (Agrees look then) c in_step.seated sort
      (λ x apart. look_elsewhere sort t (watch old).seen c seen x apart)

  here : then sort key ≡ Some (watch now).seen
  here = look_put sort t (watch old).seen c seen

  held_now : ties_at (Some (watch now).seen) ≡ held
  held_now = ap (λ (s : Seen). ties_at (Some s)) wrote

  -- the ties of the other sort
  pub ties_there : (other : ItemSort) → (sort ≡ other → ⊥)
      → then other (tables_of w other).ties.0 ≡ look other (tables_of w other).ties.0
  ties_there other apart = agree.ties other apart

  -- ---- it is in step

  module _ (numbered : AreNumbered 0 attributes.rows)
      (own : AreOfRows sort attributes.rows held)
      (others : (other : ItemSort) → (sort ≡ other → ⊥)
      → AreOfRows other attributes.rows (ties_at (look other (tables_of w other).ties.0))) where
    of_rows : (x : ItemSort)
        → AreOfRows x attributes.rows (ties_at (then x (tables_of w x).ties.0))
    of_rows x = elim (same_sort sort x) [
      | inl same ↦
          subst (λ s. AreOfRows s attributes.rows (ties_at (then s (tables_of w s).ties.0))) same
          (subst (AreOfRows sort attributes.rows) (sym (ap ties_at here ∙ held_now)) own)
      | inr differ ↦
          subst (λ o. AreOfRows x attributes.rows (ties_at o)) (sym (ties_there x differ))
          (others x differ)
    ]

    derived : AreDerived then w.nodes w.arcs attributes.rows
    derived = record {
      node_indexes = indexes_agree look then sorts.Node w.nodes.maps.rows
          (maps_hold w (Agrees look then) agree.tables sorts.Node) in_step.derived.node_indexes;
      arc_indexes = indexes_agree look then sorts.Arc w.arcs.maps.rows
          (maps_hold w (Agrees look then) agree.tables sorts.Arc) in_step.derived.arc_indexes;
      numbered = numbered;
      node_ties = of_rows sorts.Node;
      arc_ties = of_rows sorts.Arc;
    }

    pub ties_in_step : AreInStep watch later
    ties_in_step = record {
      graph = writes.in_step in_step.graph rewrote;
      seated = subst (AreSeated (claims_of w)) (sym writes.seats)
          (seats_stay sort t (watch old).seen c seen (claims_of w) same_role
          (ap (λ s. claims.is_map s.kind) wrote) in_step.seated);
      boxes = in_step.boxes;
      snaps = ap (λ x. x.snaps) writes.seats
          ∙ snaps_stay sort (with_seats (put_seat t (seats_in sort c))) c ∙ in_step.snaps;
      derived = subst (λ l. AreDerived l w.nodes w.arcs attributes.rows) (sym looks) derived;
      kept = subst (λ l. AreKept l w.nodes w.arcs w.views.rows) (sym looks)
          (kept_agrees look then w.nodes w.arcs w.views.rows
          (views_hold w (Agrees look then) agree.tables)
          (maps_hold w (Agrees look then) agree.tables sorts.Node)
          (maps_hold w (Agrees look then) agree.tables sorts.Arc) in_step.kept);
    }

  -- ---- the plain world

  same_ties : ties_seen then later ≡ ties_seen then w
  same_ties = λ i x. by x i
    where
      by : (x : ItemSort) → ties_seen then later x ≡ ties_seen then w x
      by sorts.Node = refl
      by sorts.Arc = refl

  -- the attributes alone are others
  pub ties_plain : plain_of watch later ≡ (record (plain_of watch w) {
    attributes = looked (attribute_seen (ties_seen then w)) attributes.rows;
  })
  ties_plain =
      let node_labels = ap labels_seen (agree.labels sorts.Node) in
      let arc_labels = ap labels_seen (agree.labels sorts.Arc) in
      let node_maps = rows_agree look then sorts.Node w.nodes.maps.rows
      (maps_hold w (Agrees look then) agree.tables sorts.Node) in
      let arc_maps = rows_agree look then sorts.Arc w.arcs.maps.rows
      (maps_hold w (Agrees look then) agree.tables sorts.Arc) in
      let guards = guards_agree look then w.guards.rows
      (guards_hold w (Agrees look then) agree.tables) in
      let g = w.graph.graph.graph in
      let snapshots = snapshots_agree look then g w.snapshots.rows
      (halves_hold w (Agrees look then) agree.tables) in
      (λ i. world_seen g (looks i) (kinds_of watch w.pool.items) later)
      ∙ (λ i. record (plain_of watch w) {
        nodes = record { labels = node_labels i; maps = node_maps i };
        arcs = record { labels = arc_labels i; maps = arc_maps i };
        guards = guards i;
        snapshots = snapshots i;
        attributes = looked (attribute_seen (same_ties i)) attributes.rows;
      })

  -- where the same is seen and the rows are as before, so is the plain world
  pub plain_kept : (watch now).seen ≡ (watch old).seen → attributes ≡ w.attributes
      → plain_of watch later ≡ plain_of watch w
  plain_kept same rows =
      let still = looks ∙ look_kept sort t (watch old).seen c seen same in
      λ i. world_seen w.graph.graph.graph (still i) (kinds_of watch w.pool.items)
      (record w { graph = graph_with sort key now w.graph; attributes = rows i })

  -- what the ties of the sort are then
  pub then_here : ties_seen then w sort ≡ Some (watch now).seen
  then_here = here
