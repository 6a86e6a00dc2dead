-- The calls by which a map comes to a world, goes from it and is written.
use Rattle.std.proofs.Common.{◌≡◌, false, refl, sym, ap, subst, Some, None, ◌∙◌}
use Rattle.std.specs.Prelude.{Result, Ok, Err, OnErr}
use Rattle.base_items.specs.declared.items.ItemSort.{ItemSort}
use Rattle.observe_core.specs.Seen.{Seen, Watched}
use Rattle.alter_graph.specs.Attaching.{detached}
use Rattle.alter_graph.specs.Chains.{chains_seen}
use Rattle.alter_graph.specs.State as graph
use Rattle.alter_graph.specs.State.{AlterOf, state_of, IsSame}
use Rattle.plain_world.specs.Tables.{Name, entry, has_entry, with_entry, without_entry}
use Rattle.plain_world.specs.Demands as demands
use Rattle.plain_world.specs.Refusals.{breach}
use Rattle.plain_world.specs.World as plain
use Rattle.plain_world.specs.World.{attached}
use Rattle.plain_world.specs.Effects.{with_maps, with_map}
use Rattle.plain_world.specs.Valid.{NamesDiffer}
use Rattle.desk_names.specs.Rows.{Rows}
use Rattle.desk_world.specs.declared.tables.MapRow.{MapRow}
use Rattle.desk_world.specs.declared.world.World.{World}
use Rattle.desk_world.specs.Claims.{Plays, role_of}
use Rattle.desk_world.specs.InStep.{AreInStep}
use Rattle.desk_world.specs.MapTables.{with_table}
use Rattle.desk_world.specs.Derived.{IsIndexed}
use Rattle.desk_world.specs.Looks.{look_in}
use Rattle.desk_world.specs.Plain.{plain_of, tables_of, seat_sort, held_by}
use Rattle.desk_world.specs.Seating.{Comes}
use Rattle.desk_world.proofs.Indexed.{unread_rows}
use Rattle.desk_world.proofs.MapTables.{with_rows, table_first, table_twice, pool_stays}
use Rattle.desk_world.proofs.MapTables.{same_in_step, same_plain}
use Rattle.desk_world.proofs.MapsComing.{more_in_step, map_came}
use Rattle.desk_world.proofs.MapsGoing.{none_in_step, none_gone}
use Rattle.desk_world.proofs.KeptTables.{unread_views}
use Rattle.desk_world.proofs.MapsGoing.{less_in_step, map_gone}
use Rattle.desk_world.proofs.MapsFound.{map_there}
use Rattle.desk_world.proofs.NamedRows.{stands}
use Rattle.desk_world.proofs.Unchanged.{still_in_step, plain_still}

-- what is so anyway is so of an error
pub if_err : {T E P : Type 0} (r : Result T E) → P → OnErr r P
if_err (Ok x) p = tt
if_err (Err e) p = p

abbrev pub rows_of : {O : Type 0} → World O → ItemSort → Rows MapRow
rows_of w sort = (tables_of w sort).maps

module _ {O : Type 0} (watch : O → Watched) (sort : ItemSort) where
  -- what is so of a world that stands for the same, in step
  pub record Keeps (old new : World O) : Type 0 where
    pub in_step : AreInStep watch new
    pub same : plain_of watch new ≡ plain_of watch old
    pub graph : new.graph.graph.graph ≡ old.graph.graph.graph
    pub pool : new.pool ≡ old.pool

  -- a new map came, which has this
  pub record Came (name : Name) (held : plain.Held) (old new : World O) : Type 0 where
    pub in_step : AreInStep watch new
    pub made : plain_of watch new ≡ with_map (plain_of watch old) sort name held
    pub graph : new.graph.graph.graph ≡ old.graph.graph.graph
    pub pool : new.pool ≡ old.pool

  -- the map of the name is gone
  pub record Went (name : Name) (old new : World O) : Type 0 where
    pub in_step : AreInStep watch new
    pub gone : plain_of watch new ≡ with_maps (plain_of watch old) sort
        (without_entry (attached (plain_of watch old) sort).maps name)

  -- ---- a map comes

  module _ (old first : World O) (in_step : AreInStep watch old)
      (is : first ≡ with_table old sort (rows_of first sort))
      (rows : (rows_of first sort).rows ≡ (rows_of old sort).rows) where
    abbrev room : Rows MapRow
    room = rows_of first sort

    -- there is room for a map more, or memory was wanting
    pub room_keeps : Keeps old first
    room_keeps = subst (Keeps old) (sym (is ∙ table_first old sort room)) (record {
      in_step = same_in_step watch old sort room in_step rows;
      same = same_plain watch old sort room in_step rows;
      graph = refl;
      pool = pool_stays old sort room old.graph;
    })

    -- an observer wasn't attached
    pub refused_keeps : (a : AlterOf O) → IsSame (state_of watch first.graph) (state_of watch a)
        → graph.IsInStep (state_of watch a) → Keeps old (record first { graph = a })
    refused_keeps a same then = record {
      in_step = still_in_step watch first a room_keeps.in_step same then;
      same = plain_still watch first a room_keeps.in_step same then ∙ room_keeps.same;
      graph = same.graph ∙ room_keeps.graph;
      pool = room_keeps.pool;
    }

    -- the name is new to the table too
    pub still_new : (name : Name) → has_entry (attached (plain_of watch old) sort).maps name ≡ false
        → has_entry room.rows name ≡ false
    still_new name new =
        ap (λ table. has_entry table name) rows ∙ sym (map_there watch old in_step sort name) ∙ new

    module _ (a : AlterOf O) (last : World O) (name : Name) (row : MapRow) (next : Seen)
        (put : last ≡ with_table (record first { graph = a }) sort (rows_of last sort))
        (more : (rows_of last sort).rows ≡ with_entry room.rows name row)
        (comes : Comes (seat_sort sort row.kind) row.key.0 next
        (chains_seen watch first.graph.chains) (chains_seen watch a.chains))
        (same_graph : a.graph.graph ≡ first.graph.graph.graph)
        (then : graph.IsInStep (state_of watch a)) (plays : Plays (role_of row.kind) next)
        (indexed : IsIndexed (look_in (chains_seen watch a.chains) sort) (rows_of old sort).rows
        row.kind row.key.0) where
      now : last ≡ with_rows old sort (rows_of last sort) a
      now =
          put
          ∙ ap (λ (w : World O). with_table (record w { graph = a }) sort (rows_of last sort)) is
          ∙ table_twice old sort room (rows_of last sort) a

      before : first.graph ≡ old.graph
      before = ap (λ (w : World O). w.graph) (is ∙ table_first old sort room)

      from : Comes (seat_sort sort row.kind) row.key.0 next (chains_seen watch old.graph.chains)
          (chains_seen watch a.chains)
      from = subst (λ (b : AlterOf O). Comes (seat_sort sort row.kind) row.key.0 next
          (chains_seen watch b.chains) (chains_seen watch a.chains)) before comes

      same : a.graph.graph ≡ old.graph.graph.graph
      same = same_graph ∙ ap (λ (b : AlterOf O). b.graph.graph) before

      all : (rows_of last sort).rows ≡ with_entry (rows_of old sort).rows name row
      all = more ∙ ap (λ table. with_entry table name row) rows

      pub came_whole : Came name (held_by row.kind next.held) old last
      came_whole =
          let table = rows_of last sort in
          record {
            in_step = subst (AreInStep watch) (sym now)
                (more_in_step watch old sort table a name row next in_step all from same then plays
                indexed);
            made = ap (plain_of watch) now
                ∙ map_came watch old sort table a name row next in_step all from same then plays
                indexed;
            graph = ap (λ (w : World O). w.graph.graph.graph) now ∙ same;
            pool = ap (λ (w : World O). w.pool) now ∙ pool_stays old sort table a;
          }

  -- ---- a map goes

  module _ (old first : World O) (name : Name) (in_step : AreInStep watch old)
      (is : first ≡ with_table old sort (rows_of first sort))
      (less : (rows_of first sort).rows ≡ without_entry (rows_of old sort).rows name) where
    abbrev left : Rows MapRow
    left = rows_of first sort

    pub none_went : entry (rows_of old sort).rows name ≡ None → Went name old first
    none_went none = subst (Went name old) (sym (is ∙ table_first old sort left)) (record {
      in_step = none_in_step watch old sort left old.graph name in_step less none;
      gone = none_gone watch old sort left old.graph name in_step less none;
    })

    pub row_went : (a : AlterOf O) (row : MapRow) → NamesDiffer (rows_of old sort).rows
        → breach (plain_of watch old) (demands.NoneReads sort name) ≡ None
        → entry (rows_of old sort).rows name ≡ Some row → a.graph ≡ first.graph.graph
        → chains_seen watch a.chains
        ≡ detached (seat_sort sort row.kind) row.key.0 (chains_seen watch first.graph.chains)
        → (graph.IsInStep (state_of watch first.graph) → graph.IsInStep (state_of watch a))
        → Went name old (record first { graph = a })
    row_went a row differ nothing_reads found same_graph detaches then =
        let was : first.graph ≡ old.graph =
        ap (λ (w : World O). w.graph) (is ∙ table_first old sort left) in
        let at = stands (rows_of old sort).rows name row differ found in
        let gone = detaches
        ∙ ap (λ (b : AlterOf O). detached (seat_sort sort row.kind) row.key.0
        (chains_seen watch b.chains)) was in
        let unread = unread_rows watch old in_step sort name nothing_reads in
        let unseen = unread_views watch old sort name nothing_reads in
        let same = same_graph ∙ ap (λ (b : AlterOf O). b.graph) was in
        let after = then (subst (λ b. graph.IsInStep (state_of watch b)) (sym was) in_step.graph) in
        subst (λ (w : World O). Went name old (record w { graph = a })) (sym is) (record {
          in_step = less_in_step watch old sort left a name in_step less row at unread unseen gone
              same after;
          gone = map_gone watch old sort left a name in_step less row at unread unseen gone same
              after;
        })
