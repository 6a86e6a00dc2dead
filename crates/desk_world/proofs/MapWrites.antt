-- The call by which a value is written to a map of its type.
use Rattle.std.proofs.Common.{◌≡◌, ℕ, false, sym, ap, subst, Some, None, ◌∙◌}
use Rattle.std.specs.Prelude.{option_and_then}
use Rattle.std.proofs.lemmas.Option.{none-some, same_Some}
use Rattle.base_items.specs.declared.items.ItemSort.{ItemSort}
use Rattle.script_words.specs.declared.commands.MapType.{MapType}
use Rattle.script_words.specs.declared.commands.MapType.TheVariants as types
use Rattle.plain_digraph.specs.Items.{IsLive}
use Rattle.plain_digraph.specs.Lists.{AllOf}
use Rattle.observe_core.specs.Seen.{Watched}
use Rattle.alter_graph.specs.Chains.{ChainsSeen, chains_seen}
use Rattle.alter_graph.specs.State as states
use Rattle.alter_graph.specs.State.{AlterOf, state_of}
use Rattle.plain_world.specs.Tables.{Name, entry}
use Rattle.plain_world.specs.Effects.{with_map_changed}
use Rattle.plain_world.specs.Valid.{NamesDiffer}
use Rattle.desk_world.specs.declared.tables.MapKind.{MapKind}
use Rattle.desk_world.specs.declared.tables.MapKind.TheVariants as maps
use Rattle.desk_world.specs.declared.tables.MapRow.{MapRow}
use Rattle.desk_world.specs.declared.values.Value.{Value}
use Rattle.desk_world.specs.declared.world.World.{World}
use Rattle.desk_world.specs.Claims.{Plays, Sits, role_of}
use Rattle.desk_world.specs.Derived.{bools_seen}
use Rattle.desk_world.specs.InStep.{AreInStep, has_values}
use Rattle.desk_world.specs.Looks.{look_in}
use Rattle.desk_world.specs.Placing.{AreUnplaced}
use Rattle.desk_world.specs.Plain.{plain_of, look_of, tables_of}
use Rattle.desk_world.specs.Seating.{Puts}
use Rattle.desk_world.specs.Values.{HasType, HasItem, kind_for, type_for, put_at, held_with}
use Rattle.desk_world.proofs.IndexesWritten.{all_done, written_unplaced, written_plain}
use Rattle.desk_world.proofs.MapsComing.{for_values}
use Rattle.desk_world.proofs.MapsFound.{Leads, map_found, map_type, own_sort, type_by}
use Rattle.desk_world.proofs.MapsWritten.{Shows, own_role, bools_with, item_held}
use Rattle.desk_world.proofs.MapFollows.{AreKept, kept}
use Rattle.desk_world.proofs.MapFollows.{rows_begin}
use Rattle.desk_world.proofs.NamedRows.{Stands, stands}

-- a map that has values of the type is of its kind
kind_by : (kind : MapKind) (type : MapType) → type_by kind ≡ Some type → kind ≡ kind_for type
kind_by maps.Ints type is = ap kind_for (same_Some types.Ints type is)
kind_by maps.Bools type is = ap kind_for (same_Some types.Bools type is)
kind_by maps.Texts type is = ap kind_for (same_Some types.Texts type is)
kind_by (maps.Degrees way) type is = absurd (none-some type is)
kind_by (maps.Trues map) type is = absurd (none-some type is)

module _ {O : Type 0} (watch : O → Watched) (w : World O) (in_step : AreInStep watch w)
    (sort : ItemSort) (name : Name) (value : Value)
    (typed : HasType (plain_of watch w) sort name (type_for value)) where
  abbrev c : ChainsSeen
  c = chains_seen watch w.graph.chains

  by_row : option_and_then (λ (row : MapRow). type_by row.kind)
      (entry (tables_of w sort).maps.rows name) ≡ Some (type_for value)
  by_row = sym (map_type watch w in_step sort name) ∙ typed

  -- there is a row of the name
  pub row_there : entry (tables_of w sort).maps.rows name ≡ None → ⊥
  row_there none =
      none-some (type_for value)
      (sym (ap (option_and_then (λ (row : MapRow). type_by row.kind)) none) ∙ by_row)

  module _ (row : MapRow) (found : entry (tables_of w sort).maps.rows name ≡ Some row) where
    pub is_kind : row.kind ≡ kind_for (type_for value)
    is_kind = kind_by row.kind (type_for value)
        (sym (ap (option_and_then (λ (row : MapRow). type_by row.kind)) found) ∙ by_row)

    leads : Leads (look_of watch w) sort row
    leads = (map_found watch w in_step sort name row found).leads

    there : look_of watch w sort row.key.0 ≡ Some leads.seen
    there =
        ap (λ s. look_of watch w s row.key.0)
        (sym (own_sort sort row.kind (ap has_values is_kind ∙ for_values (type_for value))))
        ∙ leads.there

    -- the key of the row has a seat, and its observer has values of the type
    pub seat_sits : Sits (own_role value) (look_of watch w sort row.key.0)
    seat_sits =
        subst (Sits (own_role value)) (sym there)
        (subst (λ k. Plays (role_of k) leads.seen) is_kind leads.plays)

    module _ (id : ℕ) (live : IsLive w.graph.graph.graph sort id) (a : AlterOf O)
        (differ : NamesDiffer (tables_of w sort).maps.rows)
        (puts : Puts sort row.key.0 (held_with value id) c (chains_seen watch a.chains))
        (same : a.graph ≡ w.graph.graph) (then : states.IsInStep (state_of watch a)) where
      at : Stands (tables_of w sort).maps.rows name row
      at = stands (tables_of w sort).maps.rows name row differ found

      plays : Plays (own_role value) puts.was
      plays = subst (Sits (own_role value)) puts.found seat_sits

      has : HasItem value id puts.was
      has = item_held watch w.graph in_step.graph sort row.key.0 puts.was puts.found value id plays
          live

      -- the seat was written to
      pub all_kept : AreKept watch w sort a
      all_kept =
          kept watch w sort name row value id a in_step at is_kind puts plays has same then

      pub all_ahead : AllOf (Shows (look_of watch w) sort name value id
          (bools_with value id (bools_seen (look_of watch w sort row.key.0))) false
          (look_in (chains_seen watch a.chains))) (tables_of w sort).maps.rows
      all_ahead =
          rows_begin watch w sort name row value id a in_step at is_kind puts plays has same then

      -- so a map of another type than bools was written
      module _ (apart : kind_for (type_for value) ≡ maps.Bools → ⊥) where
        no_bools : row.kind ≡ maps.Bools → ⊥
        no_bools is = apart (sym is_kind ∙ is)

        pub value_unplaced : AreUnplaced watch sort id (record w { graph = a })
        value_unplaced =
            written_unplaced watch w in_step sort name row found value id a all_kept
            (all_done watch w in_step sort name row found value id a no_bools all_ahead)

        pub value_written : plain_of watch (record w { graph = a })
            ≡ with_map_changed (plain_of watch w) sort name (put_at value id)
        value_written =
            written_plain watch w in_step sort name row found value id a all_kept
            (all_done watch w in_step sort name row found value id a no_bools all_ahead)
