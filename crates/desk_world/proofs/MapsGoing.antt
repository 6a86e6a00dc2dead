-- A world after a map went.
use Rattle.std.proofs.Common.{◌≡◌, false, List, [], ◌∷◌, ◌++◌, map, sym, ap}
use Rattle.std.proofs.Common.{subst, None}
use Rattle.std.proofs.Common.{◌∙◌}
use Rattle.std.proofs.lemmas.List.{map-append}
use Rattle.base_items.specs.declared.items.ItemSort.{ItemSort}
use Rattle.plain_digraph.specs.Lists.{AllOf}
use Rattle.observe_core.specs.Seen.{Watched}
use Rattle.alter_graph.specs.Attaching.{detached}
use Rattle.alter_graph.specs.Chains.{ChainsSeen, chains_seen}
use Rattle.alter_graph.specs.State as graph
use Rattle.alter_graph.specs.State.{AlterOf, state_of}
use Rattle.plain_world.specs.Tables.{Name, Named, under, entry, without_entry}
use Rattle.plain_world.specs.World as plain
use Rattle.plain_world.specs.World.{attached}
use Rattle.plain_world.specs.Effects.{with_maps}
use Rattle.plain_world.specs.Views.{reads}
use Rattle.plain_world.proofs.TableChanges.{other_without}
use Rattle.desk_names.specs.Rows.{Rows}
use Rattle.desk_world.specs.declared.tables.MapRow.{MapRow}
use Rattle.desk_world.specs.declared.world.World.{World}
use Rattle.desk_world.specs.Claims.{Claim, role_of, map_claim}
use Rattle.desk_world.specs.Derived.{AreIndexed}
use Rattle.desk_world.specs.InStep.{AreInStep, AreSeated}
use Rattle.desk_world.specs.KeptViews.{views_of}
use Rattle.desk_world.specs.Looks.{Look, look_in, looked}
use Rattle.desk_world.specs.Plain.{plain_of, look_of, kinds_of, tables_of, map_seen}
use Rattle.desk_world.specs.Plain.{world_seen, seat_sort}
use Rattle.desk_world.proofs.Changing.{looked_less}
use Rattle.desk_world.proofs.ClaimsGone.{agree_less, seats_less}
use Rattle.desk_world.proofs.Derived.{indexes_agree}
use Rattle.desk_world.proofs.KeptTables.{kept_but}
use Rattle.desk_world.proofs.MapTables.{with_rows, before, behind, claims_with, claims_are}
use Rattle.desk_world.proofs.MapTables.{claims_midst, claims_apart, maps_seen, rows_in_step}
use Rattle.desk_world.proofs.MapTables.{plain_later, maps_plain, same_in_step, same_plain, own_maps}
use Rattle.desk_world.proofs.Indexed.{IsUnread, indexed_less, derived_with}
use Rattle.desk_world.proofs.NamedRows.{Stands, all_stay, none_stands}
use Rattle.desk_world.proofs.Relabelled.{Agrees, rows_agree}
use Rattle.desk_world.proofs.Seated.{all_left, all_right, all_both}
use Rattle.desk_world.proofs.SnapTables.{snaps_left}
use Rattle.alter_graph.specs.Attaching.{uses_key}
use Rattle.std.specs.Prelude.{filter, not}
use Rattle.desk_world.proofs.Claimed.{apart_all}
use Rattle.desk_world.proofs.Written.{IsElsewhere}
use Rattle.desk_world.proofs.MapTables.{halves_behind}
use Rattle.desk_world.proofs.MapsComing.{own_indexes}

-- ---- a map went

module _ {O : Type 0} (watch : O → Watched) (w : World O) (sort : ItemSort) (rows : Rows MapRow)
    (a : AlterOf O) (name : Name) (in_step : AreInStep watch w)
    (less : rows.rows ≡ without_entry (tables_of w sort).maps.rows name) where
  abbrev all_rows : List (Named MapRow)
  all_rows = (tables_of w sort).maps.rows

  abbrev c : ChainsSeen
  c = chains_seen watch w.graph.chains

  abbrev was : Look
  was = look_of watch w

  -- what is under the other names
  plain_less : looked (map_seen was sort) rows.rows
      ≡ without_entry (attached (plain_of watch w) sort).maps name
  plain_less =
      ap (looked (map_seen was sort)) less ∙ looked_less (map_seen was sort) all_rows name
      ∙ ap (λ list. without_entry list name) (sym (maps_plain watch w sort))

  -- there was none of the name
  module _ (none : entry all_rows name ≡ None) where
    same_rows : rows.rows ≡ all_rows
    same_rows = less ∙ all_stay name all_rows (none_stands name all_rows none)

    pub none_in_step : AreInStep watch (with_rows w sort rows w.graph)
    none_in_step = same_in_step watch w sort rows in_step same_rows

    pub none_gone : plain_of watch (with_rows w sort rows w.graph)
        ≡ with_maps (plain_of watch w) sort
        (without_entry (attached (plain_of watch w) sort).maps name)
    none_gone =
        same_plain watch w sort rows in_step same_rows
        ∙ sym (ap (with_maps (plain_of watch w) sort)
        (sym plain_less ∙ ap (looked (map_seen was sort)) same_rows ∙ sym (maps_plain watch w sort))
        ∙ own_maps (plain_of watch w) sort)

  -- the seat of its row went
  module _ (row : MapRow) (at : Stands all_rows name row)
      (unread : IsUnread name all_rows)
      (unseen : AllOf (λ (e : Named plain.View). reads sort name e.value.layer ≡ false)
      (views_of w.views.rows))
      (gone : chains_seen watch a.chains ≡ detached (seat_sort sort row.kind) row.key.0 c)
      (same_graph : a.graph ≡ w.graph.graph) (then : graph.IsInStep (state_of watch a)) where
    abbrev rest : List (Named MapRow)
    rest = at.front ++ at.back

    abbrev ahead : List Claim
    ahead = before w sort ++ map (map_claim sort) at.front

    abbrev after : List Claim
    after = map (map_claim sort) at.back ++ behind w sort

    abbrev chain_of : ItemSort
    chain_of = seat_sort sort row.kind

    left : rows.rows ≡ rest
    left = less ∙ at.less

    seated_there : AreSeated (ahead ++ map_claim sort (under name row) ∷ after) c
    seated_there =
        subst (λ list. AreSeated list c)
        (claims_are w sort ∙ ap (claims_with w sort) at.is
        ∙ claims_midst w sort at.front (under name row) at.back) in_step.seated

    abbrev seen_now : Look
    seen_now = look_in (chains_seen watch a.chains)

    agree_left : AllOf (Agrees was seen_now) (ahead ++ after)
    agree_left =
        subst (λ x. AllOf (Agrees was (look_in x)) (ahead ++ after)) (sym gone)
        (agree_less chain_of row.key.0 (role_of row.kind) ahead after c seated_there)

    rest_agrees : AllOf (Agrees was seen_now) (map (map_claim sort) rest)
    rest_agrees =
        subst (AllOf (Agrees was seen_now)) (sym (map-append (map_claim sort) at.front at.back))
        (all_both (Agrees was seen_now) (map (map_claim sort) at.front)
        (map (map_claim sort) at.back)
        (all_right (Agrees was seen_now) (before w sort) (map (map_claim sort) at.front)
        (all_left (Agrees was seen_now) ahead after agree_left))
        (all_left (Agrees was seen_now) (map (map_claim sort) at.back) (behind w sort)
        (all_right (Agrees was seen_now) ahead after agree_left)))

    others_agree : AllOf (Agrees was seen_now) (claims_with w sort [])
    others_agree =
        all_both (Agrees was seen_now) (before w sort) (behind w sort)
        (all_left (Agrees was seen_now) (before w sort) (map (map_claim sort) at.front)
        (all_left (Agrees was seen_now) ahead after agree_left))
        (all_right (Agrees was seen_now) (map (map_claim sort) at.back) (behind w sort)
        (all_right (Agrees was seen_now) ahead after agree_left))

    pub less_in_step : AreInStep watch (with_rows w sort rows a)
    less_in_step =
        rows_in_step watch w rows a in_step then sort
        (derived_with was seen_now w sort rows others_agree
        (subst (AreIndexed (seen_now sort)) (sym left)
        (indexes_agree was seen_now sort rest rest_agrees
        (indexed_less (was sort) all_rows name row at unread
        (own_indexes w sort was in_step.derived))))
        in_step.derived)
        (kept_but was seen_now w sort rows name row at
        (λ other apart. ap (λ list. entry list other) less
        ∙ other_without all_rows name other apart) unseen others_agree rest_agrees in_step.kept)
        (ap (λ x. x.snaps) gone
        ∙ ap (filter (λ k. not (uses_key chain_of row.key.0 k))) in_step.snaps
        ∙ snaps_left chain_of row.key.0 w.snapshots.rows
        (halves_behind (IsElsewhere chain_of row.key.0) w sort
        (all_right (IsElsewhere chain_of row.key.0) (map (map_claim sort) at.back) (behind w sort)
        (all_right (IsElsewhere chain_of row.key.0) ahead after
        (apart_all ahead (map_claim sort (under name row)) after seated_there.claims_differ))))
        ∙ sym in_step.snaps)
        (subst (λ list. AreSeated list (chains_seen watch a.chains))
        (sym (ap (claims_with w sort) left ∙ claims_apart w sort at.front at.back))
        (subst (AreSeated (ahead ++ after)) (sym gone)
        (seats_less chain_of row.key.0 (role_of row.kind) ahead after c seated_there)))

    pub map_gone : plain_of watch (with_rows w sort rows a)
        ≡ with_maps (plain_of watch w) sort
        (without_entry (attached (plain_of watch w) sort).maps name)
    map_gone =
        let pool = kinds_of watch w.pool.items in
        plain_later watch w sort rows a
        ∙ (λ i. world_seen (same_graph i).graph seen_now pool (with_rows w sort rows a))
        ∙ maps_seen w w.graph.graph.graph was seen_now pool a sort rows others_agree
        ∙ ap (with_maps (plain_of watch w) sort)
        (ap (looked (map_seen seen_now sort)) left ∙ rows_agree was seen_now sort rest rest_agrees
        ∙ ap (looked (map_seen was sort)) (sym left) ∙ plain_less)
