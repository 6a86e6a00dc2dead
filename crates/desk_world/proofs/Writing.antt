-- A world whose seat of labels was written to.
use Rattle.std.proofs.Common.{◌≡◌, ℕ, [], map, refl, sym}
use Rattle.std.proofs.Common.{ap}
use Rattle.std.proofs.Common.{subst, Some, ◌∙◌}
use Rattle.std.specs.Prelude.{IsTrue}
use Rattle.std.specs.FinMap as fin
use Rattle.std.specs.List.{flat_map}
use Rattle.std.specs.Option.{option_map_or}
use Rattle.base_items.specs.declared.items.ItemSort.{ItemSort}
use Rattle.base_items.specs.declared.items.ItemSort.TheVariants as sorts
use Rattle.plain_digraph.specs.Lists.{AllOf}
use Rattle.plain_digraph.specs.Items.{facts}
use Rattle.plain_digraph.specs.Rising.{swapped}
use Rattle.observe_core.specs.Held.{Held, Values, Labels, OfValues, making_of, entry_id}
use Rattle.observe_core.specs.Items.{has_id}
use Rattle.observe_core.specs.Seen.{Seen, Watched}
use Rattle.notify_chain.specs.Seats.{SeatSeen, seat_from, put_seat}
use Rattle.alter_graph.specs.Attaching.{with_seats}
use Rattle.alter_graph.specs.Chains.{ChainsSeen, chains_seen, seats_in}
use Rattle.notify_chain.specs.Seats.{SeatSeen, seat_from}
use Rattle.alter_graph.specs.Chains.{ChainsSeen, chains_seen}
use Rattle.alter_graph.specs.Lending.{Writes, Rewrites, MayWrite, graph_with}
use Rattle.index_maps.specs.RefViews.{with_label}
use Rattle.plain_world.specs.Tables.{Name}
use Rattle.plain_world.specs.Following.{labelled as labelled_world}
use Rattle.desk_seats.specs.Contents.{labels_in, among, labels_among, holding, StillFits}
use Rattle.desk_world.specs.declared.world.World.{World}
use Rattle.desk_world.specs.Claims as claims
use Rattle.desk_world.specs.Claims.{Claim, Role, Plays, claims_of, map_claim, guard_claim}
use Rattle.desk_world.specs.Claims.{snap_claims, view_claims}
use Rattle.desk_world.specs.Columns.{labelled}
use Rattle.desk_world.specs.Derived.{AreDerived}
use Rattle.desk_world.specs.KeptViews.{AreKept}
use Rattle.desk_world.specs.InStep.{AreInStep, AreSeated}
use Rattle.desk_world.specs.Looks.{Look, look_in}
use Rattle.desk_world.specs.Plain.{plain_of, look_of, tables_of, labels_seen, world_seen, kinds_of}
use Rattle.desk_world.proofs.LabelColumns.{labels_swapped}
use Rattle.desk_world.proofs.Derived.{derived_agrees}
use Rattle.desk_world.proofs.Labelled.{HasLabels}
use Rattle.desk_world.proofs.Relabelled.{one_label, maps_elsewhere, labels_elsewhere, Agrees}
use Rattle.desk_world.proofs.KeptAgree.{kept_agrees}
use Rattle.desk_world.proofs.Relabelled.{guards_elsewhere, ties_elsewhere, halves_elsewhere}
use Rattle.desk_world.proofs.Relabelled.{views_elsewhere}
use Rattle.desk_world.proofs.Seated.{all_so}
use Rattle.desk_world.proofs.SnapTables.{snaps_stay}
use Rattle.desk_world.specs.Entries.{labels_at}
use Rattle.desk_world.proofs.Written.{reseated, look_put, look_elsewhere, look_kept, seats_stay}
use Rattle.desk_world.proofs.Written.{rewrites, no_half, IsElsewhere}

module _ {O : Type 0} (watch : O → Watched) (w : World O) (sort : ItemSort) (old now : O)
    (in_step : AreInStep watch w) (has : HasLabels watch w sort old)
    (may : MayWrite watch sort (tables_of w sort).labels.0 w.graph old) (held : Held)
    (made : making_of held ≡ OfValues Labels)
    (wrote : (watch now).seen ≡ holding held (watch old).seen)
    (fits : StillFits (watch old).seen (watch now).seen) where
  abbrev key : ℕ
  key = (tables_of w sort).labels.0

  abbrev pub later : World O
  later = record w { graph = graph_with sort key now w.graph }

  abbrev t : SeatSeen
  t = seat_from watch key (Some now)

  writes : Writes watch sort key w.graph old now
  writes = may now

  rewrote : Rewrites (facts w.graph.graph.graph sort) (watch old).seen (watch now).seen
  rewrote =
      rewrites (facts w.graph.graph.graph sort) (watch old).seen (watch now).seen held wrote fits
      (no_half 3 (watch old).seen has.plays.form)

  same_role : (role : Role) → Plays role (watch old).seen → Plays role (watch now).seen
  same_role role plays = record {
    form = ap (λ s. s.form) wrote ∙ plays.form;
    making = ap (λ s. making_of s.held) wrote ∙ made ∙ sym has.plays.making ∙ plays.making;
    kind = ap (λ s. claims.is_map s.kind) wrote ∙ plays.kind;
  }

  abbrev c : ChainsSeen
  c = chains_seen watch w.graph.chains

  -- the chains of the world that was written to
  chains_now : (x : ItemSort) → chains_seen watch (graph_with sort key now w.graph).chains
      ≡ reseated sort t c
  chains_now x = writes.seats

  looks : look_of watch later ≡ look_in (reseated sort t c)
  looks = ap look_in (chains_now sort)

  agree : (x : Claim) → IsElsewhere sort key x → Agrees (look_of watch w)
      (look_in (reseated sort t c)) x
  agree x apart = look_elsewhere sort t (watch old).seen c has.seen x apart

  ties_agree : (other : ItemSort) → look_in (reseated sort t c) other (tables_of w other).ties.0
      ≡ look_of watch w other (tables_of w other).ties.0
  ties_agree other =
      agree (claims.claim other (tables_of w other).ties.0 claims.Ties)
      (ties_elsewhere w in_step.seated.claims_differ sort other)

  maps_agree : (other : ItemSort) → AllOf (Agrees (look_of watch w) (look_in (reseated sort t c)))
      (map (map_claim other) (tables_of w other).maps.rows)
  maps_agree other =
      all_so (IsElsewhere sort key) (Agrees (look_of watch w) (look_in (reseated sort t c)))
      agree (map (map_claim other) (tables_of w other).maps.rows)
      (maps_elsewhere w in_step.seated.claims_differ sort other)

  plain_now : (id : ℕ) (name : Name)
      → labels_seen (Some (watch now).seen)
      ≡ fin.insert (labels_seen (Some (watch old).seen)) id name
      → plain_of watch later ≡ labelled_world (plain_of watch w) sort id name
  plain_now id name put =
      (λ i. world_seen w.graph.graph.graph (looks i) (kinds_of watch w.pool.items) w)
      ∙ one_label w w.graph.graph.graph (look_of watch w) (look_in (reseated sort t c))
      (kinds_of watch w.pool.items) sort id name
      (ap labels_seen (look_put sort t (watch old).seen c has.seen) ∙ put
      ∙ ap (λ o. fin.insert (labels_seen o) id name) (sym has.seen))
      (λ other apart. agree (claims.claim other (tables_of w other).labels.0 claims.Labels)
      (labels_elsewhere w in_step.seated.claims_differ sort other apart key))
      ties_agree
      maps_agree
      (all_so (IsElsewhere sort key) (Agrees (look_of watch w) (look_in (reseated sort t c)))
      agree (map guard_claim w.guards.rows)
      (guards_elsewhere w in_step.seated.claims_differ sort))
      (all_so (IsElsewhere sort key) (Agrees (look_of watch w) (look_in (reseated sort t c)))
      agree (flat_map snap_claims w.snapshots.rows)
      (halves_elsewhere w in_step.seated.claims_differ sort))

  pub written_in_step : AreInStep watch later
  written_in_step = record {
    graph = writes.in_step in_step.graph rewrote;
    seated = subst (AreSeated (claims_of w)) (sym (chains_now sort))
        (seats_stay sort t (watch old).seen (chains_seen watch w.graph.chains) has.seen
        (claims_of w)
        same_role (ap (λ s. claims.is_map s.kind) wrote) in_step.seated);
    boxes = in_step.boxes;
    snaps = ap (λ x. x.snaps) (chains_now sort) ∙ snaps_stay sort
        (with_seats (put_seat t (seats_in sort c))) c ∙ in_step.snaps;
    derived = subst (λ look. AreDerived look w.nodes w.arcs w.attributes.rows) (sym looks)
        (derived_agrees (look_of watch w) (look_in (reseated sort t c)) w.nodes w.arcs
        w.attributes.rows (ties_agree sorts.Node) (ties_agree sorts.Arc) (maps_agree sorts.Node)
        (maps_agree sorts.Arc) in_step.derived);
    kept = subst (λ look. AreKept look w.nodes w.arcs w.views.rows) (sym looks)
        (kept_agrees (look_of watch w) (look_in (reseated sort t c)) w.nodes w.arcs w.views.rows
        (all_so (IsElsewhere sort key) (Agrees (look_of watch w) (look_in (reseated sort t c)))
        agree (flat_map view_claims w.views.rows)
        (views_elsewhere w in_step.seated.claims_differ sort))
        (maps_agree sorts.Node) (maps_agree sorts.Arc) in_step.kept);
  }

  -- an item got a label
  pub labels_put : (id : ℕ) (name : Name)
      → held ≡ Values Labels
      (swapped entry_id (with_label id (Some name)) (labels_in (watch old).seen))
      → IsTrue (has_id entry_id id (labels_in (watch old).seen))
      → plain_of watch later ≡ labelled_world (plain_of watch w) sort id name
  labels_put id name is has_item =
      plain_now id name
      (ap (λ (s : Seen). labelled (labels_in s)) wrote
      ∙ ap (λ h. labelled (among labels_among h)) is
      ∙ labels_swapped id name (labels_in (watch old).seen) has_item)

  -- where the same is seen afterwards, the plain world is as before
  pub plain_kept : (watch now).seen ≡ (watch old).seen → plain_of watch later ≡ plain_of watch w
  plain_kept same =
      λ i. world_seen w.graph.graph.graph
      ((looks ∙ look_kept sort t (watch old).seen c has.seen same) i)
      (kinds_of watch w.pool.items) w

  pub labels_kept : (watch now).seen ≡ (watch old).seen → labels_at watch later sort
      ≡ labels_at watch w sort
  labels_kept same =
      same_tables sort
      ∙ ap (λ (look : Look). option_map_or labels_in (look sort key) [])
      (looks ∙ look_kept sort t (watch old).seen c has.seen same)
    where
      same_tables : (x : ItemSort)
          → option_map_or labels_in (look_of watch later x (tables_of later x).labels.0) []
          ≡ option_map_or labels_in (look_of watch later x (tables_of w x).labels.0) []
      same_tables sorts.Node = refl
      same_tables sorts.Arc = refl
