-- A world after a map got another type.
use Rattle.std.proofs.Common.{◌≡◌, ℕ, true, cond, List, [], ◌∷◌, ◌++◌, map}
use Rattle.std.proofs.Common.{refl, sym, ap, subst, Some, None, ◌∙◌}
use Rattle.std.specs.Prelude.{option_map}
use Rattle.std.proofs.lemmas.List.{map-append}
use Rattle.std.proofs.lemmas.Option.{same_Some}
use Rattle.std.proofs.lemmas.Slice.Eq.{bytes_eq-Decides}
use Rattle.base_items.specs.declared.items.ItemSort.{ItemSort}
use Rattle.base_items.specs.declared.items.ItemSort.TheVariants as sorts
use Rattle.script_words.specs.declared.commands.MapType.{MapType}
use Rattle.plain_digraph.specs.Items.{facts}
use Rattle.plain_digraph.specs.Lists.{AllOf}
use Rattle.observe_core.specs.Seen.{Seen, Watched}
use Rattle.notify_chain.specs.Seats.{SeatSeen, seat_from}
use Rattle.alter_graph.specs.Chains.{ChainsSeen, chains_seen}
use Rattle.alter_graph.specs.Lending.{Rewrites}
use Rattle.alter_graph.specs.State as graph
use Rattle.alter_graph.specs.State.{AlterOf, state_of}
use Rattle.plain_world.specs.Demands as demands
use Rattle.plain_world.specs.Effects.{with_maps, with_map_changed, retyped}
use Rattle.plain_world.specs.Refusals.{breach}
use Rattle.plain_world.specs.Tables.{Name, Named, under, entry, with_change}
use Rattle.plain_world.specs.World as plain
use Rattle.desk_names.specs.Rows.{Rows}
use Rattle.desk_world.specs.declared.tables.MapRow.{MapRow}
use Rattle.desk_world.specs.declared.world.World.{World}
use Rattle.desk_world.specs.Claims.{Claim, Plays, role_of, claim, map_claim, is_map}
use Rattle.desk_world.specs.Derived.{AreIndexed}
use Rattle.desk_world.specs.InStep.{AreInStep, AreSeated, has_values}
use Rattle.desk_world.specs.Looks.{Look, looked, look_in}
use Rattle.desk_world.specs.Plain.{plain_of, look_of, kinds_of, tables_of, map_seen, held_by}
use Rattle.desk_world.specs.Plain.{world_seen}
use Rattle.desk_world.specs.Retyping.{IsMapOf, Reseated}
use Rattle.desk_world.specs.Values.{kind_for}
use Rattle.desk_world.proofs.Claimed.{apart_all}
use Rattle.desk_world.proofs.Derived.{indexes_agree}
use Rattle.desk_world.proofs.GuardOrder.{map_role}
use Rattle.desk_world.proofs.Indexed.{unread_rows, indexed_less, derived_with}
use Rattle.desk_world.proofs.KeptTables.{kept_but, unread_views}
use Rattle.plain_world.proofs.TableChanges.{other_change}
use Rattle.desk_world.proofs.MapTables.{with_rows, before, behind, claims_with, claims_are}
use Rattle.desk_world.proofs.MapTables.{claims_midst, maps_seen, maps_plain, plain_later}
use Rattle.desk_world.proofs.MapTables.{rows_in_step}
use Rattle.desk_world.proofs.MapsComing.{for_values}
use Rattle.desk_world.proofs.MapsFound.{Leads, rows_lead, own_sort}
use Rattle.desk_world.proofs.NamedRows.{Stands, IsOther}
use Rattle.desk_world.proofs.Relabelled.{Agrees}
use Rattle.desk_world.proofs.Reroled.{seats_reroled}
use Rattle.desk_world.proofs.Seated.{all_left, all_right, all_both, all_so}
use Rattle.desk_world.proofs.Written.{IsElsewhere, reseated, look_put, look_elsewhere}
use Rattle.desk_world.proofs.SnapTables.{snaps_stay}
use Rattle.alter_graph.specs.Attaching.{with_seats}
use Rattle.alter_graph.specs.Chains.{seats_in}
use Rattle.notify_chain.specs.Seats.{put_seat}
use Rattle.desk_world.proofs.Retyped.{PutsAt, looked_put, put_between, indexed_between, no_index}
use Rattle.desk_world.proofs.Retyped.{no_guard, no_snapshot, is_a_map}

-- ---- the world

abbrev pub retyped_row : MapType → MapRow → MapRow
retyped_row type row = record { kind = kind_for type; key = row.key }

module _ {O : Type 0} (watch : O → Watched) (w : World O) (sort : ItemSort) (name : Name)
    (row : MapRow) (type : MapType) (rows : Rows MapRow) (values : O) (a : AlterOf O)
    (in_step : AreInStep watch w) (at : Stands (tables_of w sort).maps.rows name row)
    (own : has_values row.kind ≡ true)
    (unread : breach (plain_of watch w) (demands.NoneReads sort name) ≡ None)
    (is_map_of : IsMapOf type (facts w.graph.graph.graph sort) (watch values).seen)
    (seat : Reseated watch sort row.key.0 values w.graph a)
    (put : rows.rows
    ≡ with_change (tables_of w sort).maps.rows name (λ _. retyped_row type row)) where
  abbrev key : ℕ
  key = row.key.0

  abbrev was : Seen
  was = (watch seat.was).seen

  abbrev now_row : MapRow
  now_row = retyped_row type row

  abbrev t : SeatSeen
  t = seat_from watch key (Some values)

  abbrev c : ChainsSeen
  c = chains_seen watch w.graph.chains

  abbrev look : Look
  look = look_of watch w

  abbrev next : Look
  next = look_in (chains_seen watch a.chains)

  abbrev table : List (Named MapRow)
  table = (tables_of w sort).maps.rows

  leads : Leads look sort row
  leads = (all_right (λ (e : Named MapRow). Leads look sort e.value) at.front
      (under name row ∷ at.back)
      (subst (AllOf (λ (e : Named MapRow). Leads look sort e.value)) at.is
      (rows_lead watch w in_step sort))).0

  plays : Plays (role_of row.kind) was
  plays =
      subst (Plays (role_of row.kind))
      (same_Some leads.seen was
      (sym leads.there ∙ ap (λ s. look s key) (own_sort sort row.kind own) ∙ seat.found))
      leads.plays

  chains_now : chains_seen watch a.chains ≡ reseated sort t c
  chains_now = ap (λ (b : AlterOf O). chains_seen watch b.chains) seat.is ∙ seat.writes.seats

  rewrote : Rewrites (facts w.graph.graph.graph sort) was (watch values).seen
  rewrote =
      let old_map = is_a_map row.kind was plays in
      let new_map = is_a_map (kind_for type) (watch values).seen is_map_of.role in
      let old = no_guard (watch seat.was) old_map in
      let new = no_guard (watch values) new_map in
      record {
        kind = new_map ∙ sym old_map;
        facts = new.facts ∙ sym old.facts;
        added = new.added ∙ sym old.added;
        erased = new.erased ∙ sym old.erased;
        moved = new.moved ∙ sym old.moved;
        held = λ fits. is_map_of.fits;
        half = λ half. absurd (no_snapshot row.kind was own plays half);
      }

  then : graph.IsInStep (state_of watch a)
  then =
      subst (λ b. graph.IsInStep (state_of watch b)) (sym seat.is)
      (seat.writes.in_step in_step.graph rewrote)

  -- ---- the claims

  abbrev front : List Claim
  front = before w sort ++ map (map_claim sort) at.front

  abbrev back : List Claim
  back = map (map_claim sort) at.back ++ behind w sort

  own_claim : map_claim sort (under name row) ≡ claim sort key (role_of row.kind)
  own_claim = ap (λ s. claim s key (role_of row.kind)) (own_sort sort row.kind own)

  now_claim : map_claim sort (under name now_row) ≡ claim sort key (role_of (kind_for type))
  now_claim =
      ap (λ s. claim s key (role_of (kind_for type)))
      (own_sort sort (kind_for type) (for_values type))

  seated : AreSeated (front ++ claim sort key (role_of row.kind) ∷ back) c
  seated =
      subst (λ list. AreSeated list c)
      (claims_are w sort ∙ ap (claims_with w sort) at.is
      ∙ claims_midst w sort at.front (under name row) at.back
      ∙ ap (λ x. front ++ x ∷ back) own_claim) in_step.seated

  rows_are : rows.rows ≡ at.front ++ under name now_row ∷ at.back
  rows_are =
      put
      ∙ ap (λ es. with_change es name (λ _. now_row)) at.is
      ∙ put_between name now_row at.front row at.back at.before at.behind

  seated_now : AreSeated (claims_with w sort rows.rows) (chains_seen watch a.chains)
  seated_now =
      subst (AreSeated (claims_with w sort rows.rows)) (sym chains_now)
      (subst (λ list. AreSeated list (reseated sort t c))
      (sym (ap (claims_with w sort) rows_are
      ∙ claims_midst w sort at.front (under name now_row) at.back
      ∙ ap (λ x. front ++ x ∷ back) now_claim))
      (seats_reroled sort t was c seat.found front back (role_of row.kind)
      (role_of (kind_for type)) (map_role row.kind) (map_role (kind_for type)) is_map_of.role
      (ap is_map rewrote.kind) seated))

  -- the same is seen of all other claims
  agree : AllOf (Agrees look next) (front ++ back)
  agree =
      all_so (IsElsewhere sort key) (Agrees look next)
      (λ x apart. ap (λ d. look_in d x.sort x.key) chains_now
      ∙ look_elsewhere sort t was c seat.found x apart)
      (front ++ back)
      (apart_all front (claim sort key (role_of row.kind)) back seated.claims_differ)

  others_agree : AllOf (Agrees look next) (claims_with w sort [])
  others_agree =
      all_both (Agrees look next) (before w sort) (behind w sort)
      (all_left (Agrees look next) (before w sort) (map (map_claim sort) at.front)
      (all_left (Agrees look next) front back agree))
      (all_right (Agrees look next) (map (map_claim sort) at.back) (behind w sort)
      (all_right (Agrees look next) front back agree))

  front_agrees : AllOf (Agrees look next) (map (map_claim sort) at.front)
  front_agrees =
      all_right (Agrees look next) (before w sort) (map (map_claim sort) at.front)
      (all_left (Agrees look next) front back agree)

  back_agrees : AllOf (Agrees look next) (map (map_claim sort) at.back)
  back_agrees =
      all_left (Agrees look next) (map (map_claim sort) at.back) (behind w sort)
      (all_right (Agrees look next) front back agree)

  -- ---- indexes

  rest_agrees : AllOf (Agrees look next) (map (map_claim sort) (at.front ++ at.back))
  rest_agrees =
      subst (AllOf (Agrees look next)) (sym (map-append (map_claim sort) at.front at.back))
      (all_both (Agrees look next) (map (map_claim sort) at.front) (map (map_claim sort) at.back)
      front_agrees back_agrees)

  indexed : AreIndexed (look sort) table → AreIndexed (next sort) rows.rows
  indexed are =
      subst (AreIndexed (next sort)) (sym rows_are)
      (indexed_between (next sort) name now_row at.front at.back at.behind
      (no_index (next sort) (at.front ++ under name now_row ∷ at.back) type key)
      (indexes_agree look next sort (at.front ++ at.back) rest_agrees
      (indexed_less (look sort) table name row at (unread_rows watch w in_step sort name unread)
      are)))

  indexes_were : (other : ItemSort) → AreIndexed (look other) (tables_of w other).maps.rows
  indexes_were sorts.Node = in_step.derived.node_indexes
  indexes_were sorts.Arc = in_step.derived.arc_indexes

  pub retyped_in_step : AreInStep watch (with_rows w sort rows a)
  retyped_in_step =
      rows_in_step watch w rows a in_step then sort
      (derived_with look next w sort rows others_agree (indexed (indexes_were sort))
      in_step.derived)
      (kept_but look next w sort rows name row at
      (λ other apart. ap (λ list. entry list other) put
      ∙ other_change table name (λ _. now_row) other apart)
      (unread_views watch w sort name unread) others_agree rest_agrees in_step.kept)
      (ap (λ x. x.snaps) chains_now ∙ snaps_stay sort (with_seats (put_seat t (seats_in sort c))) c)
      seated_now

  -- ---- the plain world

  module _ (spelled : retyped (plain_of watch w) sort type (held_by row.kind was.held)
      ≡ held_by (kind_for type) (watch values).seen.held) where
    abbrev change : plain.Held → plain.Held
    change = retyped (plain_of watch w) sort type

    abbrev Puts : Named MapRow → Type 0
    Puts = PutsAt (map_seen look sort) (map_seen next sort) name (λ _. now_row) change

    others_put : (es : List (Named MapRow)) → AllOf (IsOther name) es
        → AllOf (Agrees look next) (map (map_claim sort) es) → AllOf Puts es
    others_put [] other all = tt
    others_put (e ∷ es) other all = (
      ap (λ b. map_seen next sort (cond b now_row e.value)) other.0
          ∙ ap (option_map (λ (s : Seen). held_by e.value.kind s.held)) all.0
          ∙ ap (λ b. cond b (option_map change (map_seen look sort e.value))
          (map_seen look sort e.value)) (sym other.0),
      others_put es other.1 all.1,
    )

    -- what a row of values leads to
    row_seen : (l : Look) (r : MapRow) (s : Seen) → has_values r.kind ≡ true
        → l sort r.key.0 ≡ Some s → map_seen l sort r ≡ Some (held_by r.kind s.held)
    row_seen l r s has there =
        ap (λ x. option_map (λ (y : Seen). held_by r.kind y.held) (l x r.key.0))
        (own_sort sort r.kind has)
        ∙ ap (option_map (λ (y : Seen). held_by r.kind y.held)) there

    row_put : Puts (under name row)
    row_put =
        let same = (bytes_eq-Decides name name).1 refl in
        ap (λ b. map_seen next sort (cond b now_row row)) same
        ∙ row_seen next now_row (watch values).seen (for_values type)
        (ap (λ d. look_in d sort key) chains_now ∙ look_put sort t was c seat.found)
        ∙ ap Some (sym spelled)
        ∙ ap (option_map change) (sym (row_seen look row was own seat.found))
        ∙ ap (λ b. cond b (option_map change (map_seen look sort row)) (map_seen look sort row))
        (sym same)

    rows_put : AllOf Puts table
    rows_put =
        subst (AllOf Puts) (sym at.is)
        (all_both Puts at.front (under name row ∷ at.back)
        (others_put at.front at.before front_agrees)
        (row_put, others_put at.back at.behind back_agrees))

    pub retyped_plain : plain_of watch (with_rows w sort rows a)
        ≡ with_map_changed (plain_of watch w) sort name (retyped (plain_of watch w) sort type)
    retyped_plain =
        plain_later watch w sort rows a
        ∙ ap (λ (b : AlterOf O). world_seen b.graph.graph next (kinds_of watch w.pool.items)
        (with_rows w sort rows a)) seat.is
        ∙ maps_seen w w.graph.graph.graph look next (kinds_of watch w.pool.items) a
        sort rows others_agree
        ∙ ap (with_maps (plain_of watch w) sort)
        (ap (looked (map_seen next sort)) put
        ∙ looked_put (map_seen look sort) (map_seen next sort) name (λ _. now_row) change table
        rows_put
        ∙ ap (λ maps. with_change maps name change) (sym (maps_plain watch w sort)))
