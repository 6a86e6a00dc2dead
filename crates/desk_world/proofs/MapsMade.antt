-- The maps that come: of values, of degrees, and indexes.
use Rattle.std.proofs.Common.{◌≡◌, ℕ, List, [], refl, sym, ap, subst, Option, Some, ◌∙◌}
use Rattle.base_items.specs.declared.items.ItemSort.{ItemSort}
use Rattle.base_items.specs.declared.items.ItemSort.TheVariants as sorts
use Rattle.script_words.specs.declared.commands.Direction.{Direction}
use Rattle.script_words.specs.declared.commands.MapType.{MapType}
use Rattle.script_words.specs.declared.commands.MapType.TheVariants as types
use Rattle.plain_digraph.specs.Items.{facts}
use Rattle.observe_core.specs.Seen.{Seen, Watched}
use Rattle.observe_core.specs.Told.{built}
use Rattle.notify_chain.specs.declared.key.SeatKey.{SeatKey}
use Rattle.alter_graph.specs.Attaching.{Attaches}
use Rattle.alter_graph.specs.Chains.{chains_seen}
use Rattle.alter_graph.specs.State as states
use Rattle.alter_graph.specs.State.{AlterOf, state_of}
use Rattle.plain_world.specs.Tables.{Name, Named, entry, with_entry}
use Rattle.plain_world.specs.World as plain
use Rattle.plain_world.specs.Effects.{new_map}
use Rattle.desk_world.specs.declared.tables.MapKind.{MapKind}
use Rattle.desk_world.specs.declared.tables.MapKind.TheVariants as maps
use Rattle.desk_world.specs.declared.tables.MapRow.{MapRow}
use Rattle.desk_world.specs.declared.world.World.{World}
use Rattle.desk_world.specs.Claims as claims
use Rattle.desk_world.specs.Claims.{Plays, Sits, role_of}
use Rattle.desk_world.specs.Derived.{IsIndexed, bools_seen, trues_seen}
use Rattle.desk_world.specs.Indexes.{Indexes}
use Rattle.desk_world.specs.InStep.{AreInStep}
use Rattle.desk_world.specs.Looks.{look_in}
use Rattle.desk_world.specs.MapTables.{with_table}
use Rattle.desk_world.specs.Plain.{plain_of, look_of, seat_sort, held_by}
use Rattle.desk_world.specs.Seating.{Comes}
use Rattle.desk_world.specs.Values.{kind_for}
use Rattle.desk_world.proofs.ClaimsCame.{comes_attached, look_comes, look_stays}
use Rattle.desk_world.proofs.MapCalls.{Came, came_whole, rows_of, room_keeps}
use Rattle.desk_world.proofs.MapTables.{table_first}
use Rattle.desk_world.proofs.MapsComing.{built_plays, held_new}
use Rattle.desk_world.proofs.MapsFound.{map_found}

-- a map of values is no index
plain_row : (look : ℕ → Option Seen) (table : List (Named MapRow)) (type : MapType) (key : ℕ)
    → IsIndexed look table (kind_for type) key
plain_row look table types.Ints key = tt
plain_row look table types.Bools key = tt
plain_row look table types.Texts key = tt

values_chain : (sort : ItemSort) (type : MapType) → seat_sort sort (kind_for type) ≡ sort
values_chain sort types.Ints = refl
values_chain sort types.Bools = refl
values_chain sort types.Texts = refl

module _ {O : Type 0} (watch : O → Watched) (sort : ItemSort) (old first : World O)
    (in_step : AreInStep watch old) (is : first ≡ with_table old sort (rows_of first sort))
    (rows : (rows_of first sort).rows ≡ (rows_of old sort).rows) (a : AlterOf O)
    (last : World O) (name : Name) where
  before : first.graph ≡ old.graph
  before = ap (λ (w : World O). w.graph) (is ∙ table_first old sort (rows_of first sort))

  -- a map of values
  pub map_made : (kind : MapKind) (key : SeatKey) (type : MapType) (came : Watched)
      → last ≡ with_table (record first { graph = a }) sort (rows_of last sort)
      → (rows_of last sort).rows ≡ with_entry (rows_of first sort).rows name
      (record { kind = kind; key = key })
      → kind ≡ kind_for type
      → Attaches sort key.0 came (state_of watch first.graph) (state_of watch a)
      → states.IsInStep (state_of watch a) → Plays (role_of (kind_for type)) came.seen
      → Came watch sort name (new_map (plain_of watch old) sort type) old last
  map_made kind key type came put more is_kind attaches then plays =
      let next = built (facts first.graph.graph.graph sort) came.seen in
      let comes = comes_attached sort key.0 came (state_of watch first.graph) (state_of watch a)
      attaches in
      let ready = room_keeps watch sort old first in_step is rows in
      let made : held_by kind next.held ≡ new_map (plain_of watch old) sort type =
      ap (λ k. held_by k next.held) is_kind
      ∙ ap (λ (b : AlterOf O). held_by (kind_for type)
      (built (facts b.graph.graph sort) came.seen).held) before
      ∙ held_new type (plain_of watch old) sort came.seen in_step.graph.valid plays in
      subst (λ held. Came watch sort name held old last) made
      (came_whole watch sort old first in_step is rows a last name
      (record { kind = kind; key = key }) next put more
      (subst (λ s. Comes s key.0 next (chains_seen watch first.graph.chains)
      (chains_seen watch a.chains)) (sym (ap (seat_sort sort) is_kind ∙ values_chain sort type))
      comes)
      attaches.graph then
      (built_plays (role_of kind) (facts first.graph.graph.graph sort) came.seen
      (subst (λ k. Plays (role_of k) came.seen) (sym is_kind) plays))
      (subst (λ k. IsIndexed (look_in (chains_seen watch a.chains) sort) (rows_of old sort).rows k
      key.0) (sym is_kind)
      (plain_row (look_in (chains_seen watch a.chains) sort) (rows_of old sort).rows type key.0)))

  -- an index
  pub index_made : (key source : SeatKey) (map : Name)
      → last ≡ with_table (record first { graph = a }) sort (rows_of last sort)
      → (rows_of last sort).rows ≡ with_entry (rows_of first sort).rows name
      (record { kind = maps.Trues map; key = key })
      → (row : MapRow) × (entry (rows_of old sort).rows map ≡ Some row) × (row.kind ≡ maps.Bools)
      × (row.key ≡ source)
      → Indexes sort key.0 source.0 (state_of watch first.graph) (state_of watch a)
      → states.IsInStep (state_of watch a)
      → Came watch sort name (plain.Trues map) old last
  index_made key source map put more row indexes then =
      let d = chains_seen watch a.chains in
      let from = chains_seen watch first.graph.chains in
      let leads = (map_found watch old in_step sort map row.0 row.1).leads in
      let there : look_in from sort row.0.key.0 ≡ Some leads.seen =
      ap (λ (b : AlterOf O). look_in (chains_seen watch b.chains) sort row.0.key.0) before
      ∙ ap (λ k. look_of watch old (seat_sort sort k) row.0.key.0) (sym row.2)
      ∙ leads.there in
      let stays = look_stays sort key.0 claims.Trues [] [] indexes.index from d indexes.comes
      indexes.plays sort row.0.key.0 leads.seen there in
      came_whole watch sort old first in_step is rows a last name
      (record { kind = maps.Trues map; key = key }) indexes.index put more indexes.comes
      indexes.graph then indexes.plays
      (record {
        source = row.0;
        found = row.1;
        bools = row.2;
        same = ap trues_seen (look_comes sort key.0 claims.Trues [] [] indexes.index from d
            indexes.comes indexes.plays)
            ∙ indexes.same
            ∙ ap (λ (k : SeatKey). bools_seen (look_in from sort k.0)) (sym row.3)
            ∙ ap bools_seen (there ∙ sym stays);
      })

-- the seat of a map of bools, with more room for rows
pub bools_sit : {O : Type 0} (watch : O → Watched) (old first : World O) (sort : ItemSort)
    (map : Name) (source : SeatKey) → AreInStep watch old
    → first ≡ with_table old sort (rows_of first sort)
    → (row : MapRow) × (entry (rows_of old sort).rows map ≡ Some row) × (row.kind ≡ maps.Bools)
    × (row.key ≡ source)
    → Sits claims.Bools (look_in (chains_seen watch first.graph.chains) sort source.0)
bools_sit {O} watch old first sort map source in_step is row =
    let leads = (map_found watch old in_step sort map row.0 row.1).leads in
    let there : look_in (chains_seen watch first.graph.chains) sort source.0 ≡ Some leads.seen =
    ap (λ (w : World O). look_in (chains_seen watch w.graph.chains) sort source.0)
    (is ∙ table_first old sort (rows_of first sort))
    ∙ ap (λ (k : SeatKey). look_of watch old sort k.0) (sym row.3)
    ∙ ap (λ k. look_of watch old (seat_sort sort k) row.0.key.0) (sym row.2) ∙ leads.there in
    subst (Sits claims.Bools) (sym there)
    (subst (λ k. Plays (role_of k) leads.seen) row.2 leads.plays)

-- a map of degrees
pub degree_made : {O : Type 0} (watch : O → Watched) (old first : World O)
    (in_step : AreInStep watch old) → first ≡ with_table old sorts.Node first.nodes.maps
    → first.nodes.maps.rows ≡ old.nodes.maps.rows → (a : AlterOf O) (last : World O) (name : Name)
    (way : Direction) (key : SeatKey) (came : Watched)
    → last ≡ with_table (record first { graph = a }) sorts.Node last.nodes.maps
    → last.nodes.maps.rows ≡ with_entry first.nodes.maps.rows name
    (record { kind = maps.Degrees way; key = key })
    → Attaches sorts.Arc key.0 came (state_of watch first.graph) (state_of watch a)
    → states.IsInStep (state_of watch a) → Plays (role_of (maps.Degrees way)) came.seen
    → Came watch sorts.Node name (plain.Degrees way) old last
degree_made watch old first in_step is rows a last name way key came put more attaches then plays =
    came_whole watch sorts.Node old first in_step is rows a last name
    (record { kind = maps.Degrees way; key = key })
    (built (facts first.graph.graph.graph sorts.Arc) came.seen) put more
    (comes_attached sorts.Arc key.0 came (state_of watch first.graph) (state_of watch a) attaches)
    attaches.graph then
    (built_plays (role_of (maps.Degrees way)) (facts first.graph.graph.graph sorts.Arc) came.seen
    plays)
    tt
