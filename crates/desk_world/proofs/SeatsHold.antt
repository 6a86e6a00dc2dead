-- What the seats of maps and of indexes hold, item by item.
use Rattle.std.proofs.Common.{◌≡◌, ℕ, pos, false, List, [], map, sym, ap, subst}
use Rattle.std.proofs.Common.{Some, ◌∙◌}
use Rattle.std.specs.Option.{option_map_or}
use Rattle.base_items.specs.declared.items.ItemSort.{ItemSort}
use Rattle.base_items.specs.declared.items.ItemSort.TheVariants as sorts
use Rattle.script_words.specs.declared.commands.MapType.{MapType}
use Rattle.script_words.specs.declared.commands.MapType.TheVariants as types
use Rattle.plain_digraph.specs.Digraph.{Digraph}
use Rattle.plain_digraph.specs.Items.{facts, rising}
use Rattle.observe_core.specs.Fits.{HeldFits}
use Rattle.observe_core.specs.Held as held
use Rattle.observe_core.specs.Held.{Entry, ValueOf, entry_id, making_of}
use Rattle.observe_core.specs.Seen.{Seen, Watched}
use Rattle.plain_world.specs.Replies.{int_value, is_true, indexed}
use Rattle.plain_world.specs.Tables.{Name, entry}
use Rattle.plain_world.specs.Values.{int_at, bool_at, text_at}
use Rattle.plain_world.specs.Views.{map_of}
use Rattle.plain_world.specs.World as plain
use Rattle.desk_seats.specs.Contents.{ints_in, bools_in, texts_in, trues_in, among, ints_among}
use Rattle.desk_seats.specs.Contents.{bools_among, texts_among}
use Rattle.desk_world.specs.declared.tables.MapKind.{MapKind}
use Rattle.desk_world.specs.declared.tables.MapKind.TheVariants as maps
use Rattle.desk_world.specs.declared.tables.MapRow.{MapRow}
use Rattle.desk_world.specs.declared.world.World.{World}
use Rattle.desk_world.specs.Claims.{role_of, form_of, made_for}
use Rattle.desk_world.specs.Derived.{AreIndexed, IsIndexed, IsIndexOf, trues_seen, bools_seen}
use Rattle.desk_world.specs.InStep.{AreInStep}
use Rattle.desk_world.specs.Plain.{plain_of, look_of, tables_of, held_by, seat_sort}
use Rattle.desk_world.specs.Reads.{HoldsMap, HoldsIndex, by_item, text_value}
use Rattle.desk_world.specs.Values.{kind_for}
use Rattle.desk_world.proofs.AsMade.{as_values}
use Rattle.desk_world.proofs.ByItem.{entries_are}
use Rattle.desk_world.proofs.LiveEntries.{stands}
use Rattle.desk_world.proofs.MapsFound.{HasRow, map_found, of_entry}

module _ {O : Type 0} (watch : O → Watched) (w : World O) (in_step : AreInStep watch w)
    (sort : ItemSort) where
  abbrev world : plain.World
  world = plain_of watch w

  abbrev graph : Digraph
  graph = w.graph.graph.graph

  -- values in a seat of the chain have the ids of the live items
  ids_are : (key : ℕ) (s : Seen) → look_of watch w sort key ≡ Some s → (t : held.MapType)
      → (es : List (Entry (ValueOf t))) → s.held ≡ held.Values t es
      → map entry_id es ≡ rising graph sort
  ids_are key s seen t es is =
      subst (λ h. HeldFits h (facts graph sort)) is (stands watch w in_step sort key s seen).held

  module _ (name : Name) (row : MapRow) (found : entry (tables_of w sort).maps.rows name ≡ Some row)
    where
      pub has : HasRow watch w in_step sort name row
      has = map_found watch w in_step sort name row found

      abbrev s : Seen
      s = has.leads.seen

      module _ (kind : MapKind) (is : row.kind ≡ kind) where
        form : s.form ≡ form_of (role_of kind)
        form = has.leads.plays.form ∙ ap (λ k. form_of (role_of k)) is

        making : making_of s.held ≡ made_for (role_of kind)
        making = has.leads.plays.making ∙ ap (λ k. made_for (role_of k)) is

        pub there : look_of watch w (seat_sort sort kind) row.key.0 ≡ Some s
        there = subst (λ k. look_of watch w (seat_sort sort k) row.key.0 ≡ Some s) is
            has.leads.there

        pub mapped : map_of world sort name ≡ Some (held_by kind s.held)
        mapped = has.held ∙ ap (λ k. Some (held_by k s.held)) is

      ints_held : row.kind ≡ maps.Ints → HoldsMap world sort name types.Ints s
      ints_held is =
          let values = as_values held.Ints s.held (making maps.Ints is) in
          let es : ints_in s ≡ values.entries = ap (among ints_among) values.is in
          record {
            form = form maps.Ints is;
            items = entries_are graph sort in_step.graph.valid (ints_in s)
                (int_value world sort name) (pos 0)
                (ap (map entry_id) es ∙ ids_are row.key.0 s (there maps.Ints is) held.Ints
                values.entries values.is)
                (λ id. ap (λ o. option_map_or (λ held. int_at held id) o (pos 0))
                (mapped maps.Ints is));
          }

      pub bools_held : row.kind ≡ maps.Bools → HoldsMap world sort name types.Bools s
      bools_held is =
          let values = as_values held.Bools s.held (making maps.Bools is) in
          let es : bools_in s ≡ values.entries = ap (among bools_among) values.is in
          record {
            form = form maps.Bools is;
            items = entries_are graph sort in_step.graph.valid (bools_in s)
                (is_true world sort name) false
                (ap (map entry_id) es ∙ ids_are row.key.0 s (there maps.Bools is) held.Bools
                values.entries values.is)
                (λ id. ap (λ o. option_map_or (λ held. bool_at held id) o false)
                (mapped maps.Bools is));
          }

      texts_held : row.kind ≡ maps.Texts → HoldsMap world sort name types.Texts s
      texts_held is =
          let values = as_values held.Texts s.held (making maps.Texts is) in
          let es : texts_in s ≡ values.entries = ap (among texts_among) values.is in
          record {
            form = form maps.Texts is;
            items = entries_are graph sort in_step.graph.valid (texts_in s)
                (text_value world sort name) []
                (ap (map entry_id) es ∙ ids_are row.key.0 s (there maps.Texts is) held.Texts
                values.entries values.is)
                (λ id. ap (λ o. option_map_or (λ held. text_at held id) o [])
                (mapped maps.Texts is));
          }

      -- the seat of a map has its values
      pub map_held : (type : MapType) → row.kind ≡ kind_for type
          → HoldsMap world sort name type s
      map_held types.Ints is = ints_held is
      map_held types.Bools is = bools_held is
      map_held types.Texts is = texts_held is

  -- ---- indexes

  pub indexes_are : AreIndexed (look_of watch w sort) (tables_of w sort).maps.rows
  indexes_are = by sort
    where
      by : (x : ItemSort) → AreIndexed (look_of watch w x) (tables_of w x).maps.rows
      by sorts.Node = in_step.derived.node_indexes
      by sorts.Arc = in_step.derived.arc_indexes

  module _ (name source : Name) (row : MapRow)
      (found : entry (tables_of w sort).maps.rows name ≡ Some row)
      (is : row.kind ≡ maps.Trues source) where
    -- the map of an index, and that the index has what it has
    pub indexed_by : IsIndexOf (look_of watch w sort) (tables_of w sort).maps.rows source row.key.0
    indexed_by =
        subst (λ k. IsIndexed (look_of watch w sort) (tables_of w sort).maps.rows k row.key.0) is
        (of_entry (λ (r : MapRow). IsIndexed (look_of watch w sort) (tables_of w sort).maps.rows
        r.kind r.key.0) (tables_of w sort).maps.rows name row indexes_are found)

    abbrev seen : Seen
    seen = (has name row found).leads.seen

    -- the seat of an index has its items
    pub index_held : HoldsIndex world sort name seen
    index_held =
        let index = indexed_by in
        let from = index.source in
        let bools = bools_held source from index.found index.bools in
        let here : trues_seen (look_of watch w sort row.key.0) ≡ trues_in seen =
        ap trues_seen (there name row found (maps.Trues source) is) in
        let there : bools_seen (look_of watch w sort from.key.0)
        ≡ bools_in (has source from index.found).leads.seen =
        ap bools_seen (there source from index.found maps.Bools index.bools) in
        let own : source ≡ option_map_or indexed (map_of world sort name) [] =
        sym (ap (λ o. option_map_or indexed o []) (mapped name row found (maps.Trues source) is)) in
        record {
          form = form name row found (maps.Trues source) is;
          items = sym here ∙ index.same ∙ there ∙ bools.items
              ∙ ap (λ n. by_item world sort (is_true world sort n)) own;
        }
