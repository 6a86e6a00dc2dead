-- The walk by which kept views place an item anew.
use Rattle.std.proofs.Common.{◌≡◌, ℕ, ◌+◌, ◌≤◌, List, [], ◌∷◌, ◌++◌, map, length, refl, sym, ap}
use Rattle.std.proofs.Common.{subst, Some, None, IfSome, ◌∙◌, arith}
use Rattle.std.specs.Prelude.{slice_get}
use Rattle.std.specs.List.{flat_map}
use Rattle.std.specs.Option.{option_map_or}
use Rattle.std.proofs.lemmas.List.{append-nil, append_assoc}
use Rattle.base_items.specs.declared.items.ItemSort.{ItemSort}
use Rattle.base_items.specs.declared.items.ItemSort.TheVariants as sorts
use Rattle.plain_digraph.specs.Items.{IsLive}
use Rattle.plain_digraph.specs.Lists.{AllOf}
use Rattle.observe_core.specs.Held.{making_of}
use Rattle.observe_core.specs.Held as held
use Rattle.observe_core.specs.Seen.{Seen, Watched}
use Rattle.notify_chain.specs.Seats.{put_seat}
use Rattle.alter_graph.specs.Attaching.{with_seats}
use Rattle.alter_graph.specs.Chains.{ChainsSeen, chains_seen, seats_in}
use Rattle.alter_graph.specs.State as states
use Rattle.alter_graph.specs.State.{AlterOf, state_of}
use Rattle.plain_world.specs.Tables.{Named}
use Rattle.desk_world.specs.declared.tables.KeptKeys.{KeptKeys}
use Rattle.desk_world.specs.declared.tables.ViewRow.{ViewRow}
use Rattle.desk_world.specs.declared.world.World.{World}
use Rattle.desk_world.specs.Claims.{Claim, Sits, claims_of}
use Rattle.desk_world.specs.Claims.{guard_claim, snap_claims, view_claims, kept_claims}
use Rattle.desk_world.specs.InStep.{AreInStep, AreSeated}
use Rattle.desk_world.specs.KeptMaps.{ReadsMaps, present_in}
use Rattle.desk_world.specs.KeptViews.{IsPlaced, ArePlaced, AreReading, views_of}
use Rattle.desk_world.specs.Looks.{Look, look_in}
use Rattle.desk_world.specs.Placing.{AreUnplaced, IsPlacedBut, SitMaps, is_due, own_key, own_role}
use Rattle.desk_world.specs.Placing.{marks_by, marked_with}
use Rattle.desk_world.specs.Plain.{plain_of, look_of, kinds_of, world_seen, labels_seen}
use Rattle.desk_world.specs.Plain.{ties_seen}
use Rattle.desk_world.specs.Seating.{Puts}
use Rattle.desk_world.proofs.Derived.{derived_agrees}
use Rattle.desk_world.proofs.IndexesWritten.{Next, next_row, none_ahead, one_longer}
use Rattle.desk_world.proofs.KeptAgree.{SameMaps, all_placed, all_same}
use Rattle.desk_world.proofs.KeptSeats.{maps_sit as maps_sit_by}
use Rattle.desk_world.proofs.PlacedItems.{OtherSame, placed_now, rows_but_same}
use Rattle.desk_world.proofs.Putting.{all_elsewhere, elsewhere_put, seated_put}
use Rattle.desk_world.proofs.Relabelled.{Agrees, rows_agree, guards_agree, snapshots_agree}
use Rattle.desk_world.proofs.Relabelled.{attributes_agree}
use Rattle.desk_world.proofs.Seated.{SitsIn, all_left, all_right, all_both, all_so, all_and}
use Rattle.desk_world.proofs.Seated.{maps_sit, view_seats}
use Rattle.desk_world.proofs.SnapTables.{snaps_stay}
use Rattle.desk_world.proofs.Written.{IsElsewhere}
use Rattle.desk_world.proofs.Placings.{seats_apart, before_views, behind_views, nodes_before}
use Rattle.desk_world.proofs.Placings.{arcs_before, AroundSeat, other_seat, around, marked_made}

-- ---- the walk

module _ {O : Type 0} (watch : O → Watched) (old : World O) (sort : ItemSort) (id : ℕ) where
  abbrev pub StillDue : Look → List (Named ViewRow) → Type 0
  StillDue look rows = AllOf (λ (e : Named ViewRow). IfSome e.value.kept
      (IsPlacedBut look (is_due sort id))) rows

  -- the item is placed in the views before the place, and still due in the others
  pub record IsPlacing (place : ℕ) (w : World O) : Type 0 where
    pub others : w ≡ record old { graph = w.graph }
    pub graph : w.graph.graph ≡ old.graph.graph
    pub then : states.IsInStep (state_of watch w.graph)
    pub seated : AreSeated (claims_of old) (chains_seen watch w.graph.chains)
    pub snaps : (chains_seen watch w.graph.chains).snaps
        ≡ (chains_seen watch old.graph.chains).snaps
    pub before : AllOf (Agrees (look_of watch old) (look_of watch w)) (before_views old)
    pub behind : AllOf (Agrees (look_of watch old) (look_of watch w)) (behind_views old)
    pub done : List (Named ViewRow)
    pub ahead : List (Named ViewRow)
    pub is : old.views.rows ≡ done ++ ahead
    pub count : length done ≡ place
    pub front : ArePlaced (look_of watch w) done
    pub back : StillDue (look_of watch w) ahead

  all_agree : (look : Look) (list : List Claim) → AllOf (Agrees look look) list
  all_agree look [] = tt
  all_agree look (x ∷ list) = (refl, all_agree look list)

  module _ (unplaced : AreUnplaced watch sort id old) where
    pub placing_begins : IsPlacing 0 old
    placing_begins = record {
      others = refl;
      graph = refl;
      then = unplaced.graph;
      seated = unplaced.seated;
      snaps = refl;
      before = all_agree (look_of watch old) (before_views old);
      behind = all_agree (look_of watch old) (behind_views old);
      done = [];
      ahead = old.views.rows;
      is = refl;
      count = refl;
      front = tt;
      back = unplaced.placed;
    }

    module _ (place : ℕ) (w : World O) (placing : IsPlacing place w) where
      abbrev c : ChainsSeen
      c = chains_seen watch w.graph.chains

      pub rows_now : w.views ≡ old.views
      rows_now = ap (λ (x : World O). x.views) placing.others

      pub still_live : IsLive old.graph.graph.graph sort id → IsLive w.graph.graph.graph sort id
      still_live live = subst (λ r. IsLive r.graph sort id) (sym placing.graph) live

      module _ (r : ViewRow)
          (at : slice_get (map (λ (e : Named ViewRow). e.value) w.views.rows) place ≡ Some r) where
        abbrev next : Next placing.ahead r
        next = next_row placing.done placing.ahead r
            ((λ i. slice_get (map (λ (e : Named ViewRow). e.value)
            (sym (ap (λ (v : World O). v.views.rows) placing.others ∙ placing.is) i))
            (placing.count i)) ∙ at)

        split : old.views.rows ≡ placing.done ++ next.e ∷ next.rest
        split = placing.is ∙ ap (λ list. placing.done ++ list) next.is

        ahead_due : StillDue (look_in c) (next.e ∷ next.rest)
        ahead_due = subst (StillDue (look_in c)) next.is placing.back

        one_more : length (placing.done ++ next.e ∷ []) ≡ place + 1
        one_more = one_longer placing.done next.e ∙ ap (λ n. n + 1) placing.count

        split_more : old.views.rows ≡ (placing.done ++ next.e ∷ []) ++ next.rest
        split_more = split ∙ sym (append_assoc placing.done (next.e ∷ []) next.rest)

        -- a view that isn't kept
        pub placing_passes : r.kept ≡ None → IsPlacing (place + 1) w
        placing_passes none = record {
          others = placing.others;
          graph = placing.graph;
          then = placing.then;
          seated = placing.seated;
          snaps = placing.snaps;
          before = placing.before;
          behind = placing.behind;
          done = placing.done ++ next.e ∷ [];
          ahead = next.rest;
          is = split_more;
          count = one_more;
          front = all_both (λ (e : Named ViewRow). IfSome e.value.kept (IsPlaced (look_in c)))
              placing.done (next.e ∷ []) placing.front (
                subst (λ o. IfSome o (IsPlaced (look_in c)))
                    (sym (ap (λ (x : ViewRow). x.kept) next.has ∙ none)) tt,
                tt,
              );
          back = ahead_due.1;
        }

        module _ (keys : KeptKeys) (kept : r.kept ≡ Some keys) where
          own_kept : next.e.value.kept ≡ Some keys
          own_kept = ap (λ (x : ViewRow). x.kept) next.has ∙ kept

          reading_ahead : AreReading old.nodes old.arcs (views_of old.views.rows)
              (next.e ∷ next.rest)
          reading_ahead =
              all_right (λ (e : Named ViewRow). IfSome e.value.kept
              (λ k. ReadsMaps old.nodes old.arcs (views_of old.views.rows) e.name k.maps))
              placing.done (next.e ∷ next.rest)
              (subst (AreReading old.nodes old.arcs (views_of old.views.rows)) split
              unplaced.reading)

          reading_done : AreReading old.nodes old.arcs (views_of old.views.rows) placing.done
          reading_done =
              all_left (λ (e : Named ViewRow). IfSome e.value.kept
              (λ k. ReadsMaps old.nodes old.arcs (views_of old.views.rows) e.name k.maps))
              placing.done (next.e ∷ next.rest)
              (subst (AreReading old.nodes old.arcs (views_of old.views.rows)) split
              unplaced.reading)

          own_reads : ReadsMaps old.nodes old.arcs (views_of old.views.rows) next.e.name keys.maps
          own_reads =
              subst (λ o. IfSome o
              (λ k. ReadsMaps old.nodes old.arcs (views_of old.views.rows) next.e.name k.maps))
              own_kept reading_ahead.0

          -- the maps that it reads sit in their seats, and so do its own observers
          pub maps_there : SitMaps (look_in c) keys.maps
          maps_there =
              maps_sit_by (look_in c) own_reads.layers old.nodes.maps.rows old.arcs.maps.rows
              keys.maps (maps_sit old c placing.seated sorts.Node)
              (maps_sit old c placing.seated sorts.Arc) own_reads.maps

          own_there : AllOf (SitsIn c) (kept_claims keys)
          own_there =
              subst (λ o. AllOf (SitsIn c) (option_map_or kept_claims o [])) own_kept
              (all_left (SitsIn c) (view_claims next.e) (flat_map view_claims next.rest)
              (all_right (SitsIn c) (flat_map view_claims placing.done)
              (flat_map view_claims (next.e ∷ next.rest))
              (subst (AllOf (SitsIn c))
              (ap (flat_map view_claims) split ∙ seats_apart placing.done (next.e ∷ next.rest))
              (view_seats (SitsIn c) old placing.seated.there))))

          pub seat_there : Sits (own_role sort keys.maps)
              (look_in c sort (own_key sort keys).0)
          seat_there = by sort
            where
              by : (x : ItemSort) → Sits (own_role x keys.maps) (look_in c x (own_key x keys).0)
              by sorts.Node = own_there.0
              by sorts.Arc = own_there.1.0

          module _ (b : AlterOf O)
              (puts : Puts sort (own_key sort keys).0
              (marked_with id (marks_by (present_in (look_in c) keys.maps) sort id)) c
              (chains_seen watch b.chains))
              (same : b.graph ≡ w.graph.graph) (then : states.IsInStep (state_of watch b)) where
            abbrev d : ChainsSeen
            d = chains_seen watch b.chains

            abbrev change : Seen → held.Held
            change = marked_with id (marks_by (present_in (look_in c) keys.maps) sort id)

            abbrev key : ℕ
            key = (own_key sort keys).0

            apart : AroundSeat (IsElsewhere sort key) old placing.done next.rest
                (other_seat old placing.done next.e next.rest split keys own_kept
                placing.seated.claims_differ sort)
            apart =
                around old placing.done next.e next.rest split keys own_kept
                placing.seated.claims_differ sort

            agree_on : (list : List Claim) → AllOf (IsElsewhere sort key) list
                → AllOf (Agrees (look_in c) (look_in d)) list
            agree_on list all = all_elsewhere sort key change c d puts list all

            still : (list : List Claim) → AllOf (IsElsewhere sort key) list
                → AllOf (Agrees (look_of watch old) (look_in c)) list
                → AllOf (Agrees (look_of watch old) (look_in d)) list
            still list all agree =
                all_so (λ x. Agrees (look_of watch old) (look_in c) x
                × Agrees (look_in c) (look_in d) x) (Agrees (look_of watch old) (look_in d))
                (λ x both. both.1 ∙ both.0) list
                (all_and (Agrees (look_of watch old) (look_in c)) (Agrees (look_in c) (look_in d))
                list agree (agree_on list all))

            maps_agree : AllOf (Agrees (look_in c) (look_in d)) (before_views old)
            maps_agree = agree_on (before_views old) apart.before

            same_maps : (rows : List (Named ViewRow))
                → AreReading old.nodes old.arcs (views_of old.views.rows) rows
                → AllOf (λ (e : Named ViewRow). IfSome e.value.kept
                (λ k. SameMaps (look_in c) (look_in d) k.maps)) rows
            same_maps rows reads =
                all_same (look_in c) (look_in d) old.nodes old.arcs (views_of old.views.rows) rows
                (nodes_before old (Agrees (look_in c) (look_in d)) maps_agree)
                (arcs_before old (Agrees (look_in c) (look_in d)) maps_agree) reads

            other_same : OtherSame (look_in c) (look_in d) keys sort
            other_same =
                by sort (elsewhere_put sort key change c d puts
                (other_seat old placing.done next.e next.rest split keys own_kept
                placing.seated.claims_differ sort) apart.own)
              where
                by : (x : ItemSort)
                    → Agrees (look_in c) (look_in d) (other_seat old placing.done next.e next.rest
                    split keys own_kept placing.seated.claims_differ x)
                    → OtherSame (look_in c) (look_in d) keys x
                by sorts.Node agree = agree
                by sorts.Arc agree = agree

            own_same : SameMaps (look_in c) (look_in d) keys.maps
            own_same =
                subst (λ o. IfSome o (λ k. SameMaps (look_in c) (look_in d) k.maps)) own_kept
                (same_maps (next.e ∷ next.rest) reading_ahead).0

            own_placed : IfSome next.e.value.kept (IsPlaced (look_in d))
            own_placed =
                subst (λ o. IfSome o (IsPlaced (look_in d))) (sym own_kept)
                (placed_now c d keys sort id puts own_same other_same
                (subst (λ o. IfSome o (IsPlacedBut (look_in c) (is_due sort id))) own_kept
                ahead_due.0))

            was_made : making_of (change puts.was) ≡ making_of puts.was.held
            was_made =
                marked_made sort keys.maps id
                (marks_by (present_in (look_in c) keys.maps) sort id) puts.was
                (subst (Sits (own_role sort keys.maps)) puts.found seat_there)

            pub placing_steps : IsPlacing (place + 1) (record w { graph = b })
            placing_steps = record {
              others = ap (λ (x : World O). record x { graph = b }) placing.others;
              graph = same ∙ placing.graph;
              then = then;
              seated = seated_put sort key change c d puts was_made (claims_of old)
                  placing.seated;
              snaps = ap (λ x. x.snaps) puts.is
                  ∙ snaps_stay sort (with_seats (put_seat puts.seat (seats_in sort c))) c
                  ∙ placing.snaps;
              before = still (before_views old) apart.before placing.before;
              behind = still (behind_views old) apart.behind placing.behind;
              done = placing.done ++ next.e ∷ [];
              ahead = next.rest;
              is = split_more;
              count = one_more;
              front = all_both (λ (e : Named ViewRow). IfSome e.value.kept (IsPlaced (look_in d)))
                  placing.done (next.e ∷ [])
                  (all_placed (look_in c) (look_in d) placing.done
                  (agree_on (flat_map view_claims placing.done) apart.front)
                  (same_maps placing.done reading_done) placing.front)
                  (own_placed, tt);
              back = rows_but_same (look_in c) (look_in d) (is_due sort id) next.rest
                  (agree_on (flat_map view_claims next.rest) apart.back)
                  (same_maps (next.e ∷ next.rest) reading_ahead).1 ahead_due.1;
            }

      -- ---- all views were passed

      module _ (all : length old.views.rows ≤ place) where
        all_placed_now : ArePlaced (look_in c) old.views.rows
        all_placed_now =
            let none = none_ahead placing.done placing.ahead
            (omega (arith, ap length placing.is, placing.count, all)) in
            subst (ArePlaced (look_in c))
            (sym (placing.is ∙ ap (λ list. placing.done ++ list) none
            ∙ append-nil placing.done)) placing.front

        now_in_step : AreInStep watch (record old { graph = w.graph })
        now_in_step = record {
          graph = placing.then;
          seated = placing.seated;
          boxes = unplaced.boxes;
          snaps = placing.snaps ∙ unplaced.snaps;
          derived = derived_agrees (look_of watch old) (look_in c) old.nodes old.arcs
              old.attributes.rows placing.before.1.0 placing.before.1.1.1.0
              (nodes_before old (Agrees (look_of watch old) (look_in c)) placing.before)
              (arcs_before old (Agrees (look_of watch old) (look_in c)) placing.before)
              unplaced.derived;
          kept = record { reading = unplaced.reading; placed = all_placed_now };
        }

        pub placing_ends : AreInStep watch w
        placing_ends = subst (AreInStep watch) (sym placing.others) now_in_step

        -- nothing of the plain world hangs on the seats of views
        now_plain : plain_of watch (record old { graph = w.graph }) ≡ plain_of watch old
        now_plain =
            let P = Agrees (look_of watch old) (look_in c) in
            let look = look_of watch old in
            let later = look_in c in
            let g = old.graph.graph.graph in
            let node_labels = ap labels_seen placing.before.0 in
            let arc_labels = ap labels_seen placing.before.1.1.0 in
            let nodes = rows_agree look later sorts.Node old.nodes.maps.rows
            (nodes_before old P placing.before) in
            let arcs = rows_agree look later sorts.Arc old.arcs.maps.rows
            (arcs_before old P placing.before) in
            let guards = guards_agree look later old.guards.rows
            (all_left P (map guard_claim old.guards.rows)
            (flat_map snap_claims old.snapshots.rows) placing.behind) in
            let snapshots = snapshots_agree look later g old.snapshots.rows
            (all_right P (map guard_claim old.guards.rows)
            (flat_map snap_claims old.snapshots.rows) placing.behind) in
            let attributes = attributes_agree (ties_seen look old) (ties_seen later old)
            old.attributes.rows
            (elim [ sorts.Node ↦ placing.before.1.0 | sorts.Arc ↦ placing.before.1.1.1.0 ]) in
            let pool = kinds_of watch old.pool.items in
            (λ i. world_seen (placing.graph i).graph later pool old)
            ∙ (λ i. record (plain_of watch old) {
              nodes = record { labels = node_labels i; maps = nodes i };
              arcs = record { labels = arc_labels i; maps = arcs i };
              guards = guards i;
              snapshots = snapshots i;
              attributes = attributes i;
            })

        pub placing_plain : plain_of watch w ≡ plain_of watch old
        placing_plain = ap (plain_of watch) placing.others ∙ now_plain
