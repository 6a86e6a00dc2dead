-- The row of a map that got another type.
use Rattle.std.proofs.Common.{◌≡◌, ℕ, ◌+◌, ◌<◌, suc, Bool, true, false, List, [], length}
use Rattle.std.proofs.Common.{take, get_or, map, refl, sym, ap, subst, Option, Some, None, ◌∙◌}
use Rattle.std.proofs.Common.{is_some, not, arith, Contains}
use Rattle.std.specs.Prelude.{option_map, option_and_then, find}
use Rattle.std.proofs.Math.Seq.{take-suc}
use Rattle.std.proofs.lemmas.Bool.{true≢false}
use Rattle.std.proofs.lemmas.Option.{none-some, same_Some, slice_get-get_or}
use Rattle.base_items.specs.declared.items.ItemSort.{ItemSort}
use Rattle.base_items.specs.declared.items.ItemSort.TheVariants as sorts
use Rattle.script_words.specs.declared.commands.MapType.{MapType}
use Rattle.report_text.specs.declared.faults.Fault.{Fault}
use Rattle.report_text.specs.declared.faults.Fault.TheVariants as fault
use Rattle.report_text.specs.declared.faults.StepFault.{StepFault}
use Rattle.report_text.specs.declared.faults.StepFault.TheVariants as faults
use Rattle.plain_digraph.specs.Items.{facts}
use Rattle.observe_core.specs.Seen.{Seen, Watched}
use Rattle.alter_graph.specs.State.{AlterOf}
use Rattle.alter_graph.proofs.Listing.{live_has}
use Rattle.plain_world.specs.Demands as demand
use Rattle.plain_world.specs.Effects.{with_map_changed, new_map, retyped}
use Rattle.plain_world.specs.Refusals.{breach, unless, unspelled}
use Rattle.plain_world.specs.Tables.{Name, entry, with_change}
use Rattle.plain_world.specs.Valid.{NamesDiffer}
use Rattle.plain_world.specs.Values.{spelled, spells, type_of}
use Rattle.plain_world.specs.Views.{map_of}
use Rattle.plain_world.specs.World as plain
use Rattle.plain_world.specs.World.{live, label_of}
use Rattle.desk_world.specs.declared.tables.MapRow.{MapRow}
use Rattle.desk_world.specs.declared.world.World.{World}
use Rattle.desk_world.specs.Claims.{Plays, role_of}
use Rattle.desk_world.specs.Faults.{Is}
use Rattle.desk_world.specs.InStep.{AreInStep, has_values}
use Rattle.desk_world.specs.MapTables.{with_table}
use Rattle.desk_world.specs.Plain.{plain_of, look_of, tables_of, map_seen, held_by}
use Rattle.desk_world.specs.Retyping.{IsMapOf, IsRespelled, Reseated, text_by}
use Rattle.desk_world.specs.Values.{HasItem, Spells, kind_for, type_by, type_for, held_with}
use Rattle.desk_world.specs.declared.values.Value.{Value}
use Rattle.desk_seats.specs.Contents.{holding, StillFits}
use Rattle.desk_world.proofs.MapsFound.{Leads, map_found, map_type, leads_held, own_sort}
use Rattle.desk_world.proofs.MapsFound.{typed}
use Rattle.desk_world.proofs.MapTables.{with_rows, same_rows_world, table_twice}
use Rattle.desk_world.proofs.NamedRows.{stands}
use Rattle.desk_world.proofs.Ordered.{live_at}
use Rattle.desk_world.proofs.Respelled.{Respells, respells_all, respells_more, map_has}
use Rattle.desk_world.proofs.RetypedWorld.{retyped_row, retyped_in_step, retyped_plain}
use Rattle.desk_world.proofs.TableRows.{found_at, listed_entry}

-- ---- the row of the map

module _ {O : Type 0} (watch : O → Watched) (w : World O) (in_step : AreInStep watch w)
    (sort : ItemSort) (name : Name)
    (own : breach (plain_of watch w) (demand.HasValues sort name) ≡ None) where
  has_own_values : is_some (option_and_then type_of (map_of (plain_of watch w) sort name)) ≡ true
  has_own_values =
      by (is_some (option_and_then type_of (map_of (plain_of watch w) sort name))) own
    where
      by : (b : Bool) → unless b (fault.WrongType name) ≡ None → b ≡ true
      by true is = refl
      by false is = absurd (none-some (fault.WrongType name) (sym is))

  by_row : is_some (option_and_then (λ (row : MapRow). type_by row.kind)
      (entry (tables_of w sort).maps.rows name)) ≡ true
  by_row = sym (ap is_some (map_type watch w in_step sort name)) ∙ has_own_values

  pub row_there : entry (tables_of w sort).maps.rows name ≡ None → ⊥
  row_there none =
      true≢false (sym by_row
      ∙ ap (λ o. is_some (option_and_then (λ (row : MapRow). type_by row.kind) o)) none)

  module _ (row : MapRow) (found : entry (tables_of w sort).maps.rows name ≡ Some row) where
    pub row_own : has_values row.kind ≡ true
    row_own =
        sym (typed row.kind)
        ∙ sym (ap (λ o. is_some (option_and_then (λ (row : MapRow). type_by row.kind) o)) found)
        ∙ by_row

    pub row_listed : Contains (map (λ e. e.value) (tables_of w sort).maps.rows) row
    row_listed = listed_entry (tables_of w sort).maps.rows name row found

    abbrev pub leads : Leads (look_of watch w) sort row
    leads = (map_found watch w in_step sort name row found).leads

    abbrev has : plain.Held
    has = held_by row.kind leads.seen.held

    map_is : map_of (plain_of watch w) sort name ≡ Some has
    map_is = (map_found watch w in_step sort name row found).held

    abbrev shown : Option plain.Held
    shown = map_seen (look_of watch w) sort row

    shown_is : shown ≡ Some has
    shown_is = leads_held (look_of watch w) sort row leads

    pub row_seen : look_of watch w sort row.key.0 ≡ Some leads.seen
    row_seen =
        ap (λ s. look_of watch w s row.key.0) (sym (own_sort sort row.kind row_own))
        ∙ leads.there

    -- ---- the walk

    module _ (type : MapType) where
      abbrev pub Walked : List ℕ → Seen → Type 0
      Walked items s = Respells (plain_of watch w) sort type
          (facts w.graph.graph.graph sort) (text_by shown) items s

      abbrev fails : ℕ → Bool
      fails id = not (spells type (text_by shown id))

      -- nothing is written yet
      pub starts : (s : Seen) → IsMapOf type (facts w.graph.graph.graph sort) s
          → held_by (kind_for type) s.held ≡ new_map (plain_of watch w) sort type → Walked [] s
      starts s is_map new = record { is_map = is_map; spelled = refl; holds = new }

      module _ (items : List ℕ) (k : ℕ) (s : Seen) (value : Value) (within : k < length items)
          (all : items ≡ live (plain_of watch w) sort) (own_type : type_for value ≡ type)
          (done : Walked (take k items) s) where
        abbrev id : ℕ
        id = get_or items k 0

        pub walk_role : Plays (role_of (kind_for (type_for value))) s
        walk_role =
            subst (λ t. Plays (role_of (kind_for t)) s) (sym own_type) done.is_map.role

        -- the map has a value for the item
        pub walk_item : HasItem value id s
        walk_item =
            let g = w.graph.graph.graph in
            map_has (facts g sort) id
            (live_has g sort in_step.graph.valid id
            (live_at (plain_of watch w) sort in_step.graph.valid items all k within))
            value s walk_role done.is_map.fits

        -- the value of one item more
        pub walk_on : (now : Seen) → spells type (text_by shown id) ≡ true
            → Spells (text_by shown id) value → now ≡ holding (held_with value id s) s
            → StillFits s now → Walked (take (k + 1) items) now
        walk_on now ok is wrote fits =
            let one : k + 1 ≡ suc k = omega arith in
            subst (λ ids. Walked ids now)
            (sym (ap (λ n. take n items) one ∙ take-suc items k 0 within))
            (respells_more (plain_of watch w) sort type (facts w.graph.graph.graph sort)
            (text_by shown) (take k items) id s now value own_type done walk_item ok is wrote fits)

      -- the first item whose text spells none
      pub stops : (items : List ℕ) (k : ℕ) (s : Seen) (cause : StepFault) → k < length items
          → items ≡ live (plain_of watch w) sort → Walked (take k items) s
          → Is (unless (spells type (text_by shown (get_or items k 0)))
          (fault.BadValue (label_of (plain_of watch w) sort (get_or items k 0))
          (text_by shown (get_or items k 0)))) cause
          → Is (breach (plain_of watch w) (demand.AllSpell sort name type)) cause
      stops items k s faults.Memory within all done is = tt
      stops items k s (faults.Refused bad) within all done is =
          let id = get_or items k 0 in
          let world = plain_of watch w in
          let told = refuses (spells type (text_by shown id)) _ is in
          let first = found_at fails items k id (slice_get-get_or items k 0 within)
          (ap not told.0) done.spelled in
          ap (option_and_then (unspelled world sort type)) map_is
          ∙ ap (λ o. option_map (λ id. fault.BadValue (label_of world sort id) (text_by o id))
          (find (λ id. not (spells type (text_by o id))) (live world sort))) (sym shown_is)
          ∙ ap (λ ids. option_map (λ id. fault.BadValue (label_of world sort id)
          (text_by shown id)) (find fails ids)) (sym all)
          ∙ ap (option_map (λ id. fault.BadValue (label_of world sort id) (text_by shown id)))
          first
          ∙ told.1
        where
          refuses : (b : Bool) (f : Fault) → unless b f ≡ Some bad
              → (b ≡ false) × (Some f ≡ Some bad)
          refuses true f is = absurd (none-some bad is)
          refuses false f is = (refl, is)

      -- all texts spell one
      pub ends_met : (items : List ℕ) (s : Seen) → items ≡ live (plain_of watch w) sort
          → Walked items s → breach (plain_of watch w) (demand.AllSpell sort name type) ≡ None
      ends_met items s all done =
          let world = plain_of watch w in
          ap (option_and_then (unspelled world sort type)) map_is
          ∙ ap (λ o. option_map (λ id. fault.BadValue (label_of world sort id) (text_by o id))
          (find (λ id. not (spells type (text_by o id))) (live world sort))) (sym shown_is)
          ∙ ap (λ ids. option_map (λ id. fault.BadValue (label_of world sort id)
          (text_by shown id)) (find fails ids)) (sym all)
          ∙ ap (option_map (λ id. fault.BadValue (label_of world sort id) (text_by shown id)))
          done.spelled

      pub ends_spelled : (items : List ℕ) (s : Seen) → items ≡ live (plain_of watch w) sort
          → Walked items s → IsRespelled (plain_of watch w) sort name type s.held
      ends_spelled items s all done =
          let world = plain_of watch w in
          ap (option_map (retyped world sort type)) map_is
          ∙ ap (λ o. Some (spelled type (live world sort) (text_by o))) (sym shown_is)
          ∙ ap Some (sym (respells_all world sort type (facts w.graph.graph.graph sort)
          (text_by shown) s (subst (λ ids. Walked ids s) all done)))

    -- ---- the values get the seat

    -- the world with the values of the type in the place of the old ones
    pub record Takes (type : MapType) (later : World O) : Type 0 where
      pub stays : AreInStep watch later
      pub put : plain_of watch later
          ≡ with_map_changed (plain_of watch w) sort name (retyped (plain_of watch w) sort type)
      pub graph : later.graph.graph ≡ w.graph.graph

    module _ (type : MapType) (values : O) (a : AlterOf O) (later : World O) (now : MapRow)
        (unread : breach (plain_of watch w) (demand.NoneReads sort name) ≡ None)
        (differ : NamesDiffer (tables_of w sort).maps.rows)
        (is_map : IsMapOf type (facts w.graph.graph.graph sort) (watch values).seen)
        (spelt : IsRespelled (plain_of watch w) sort name type (watch values).seen.held)
        (seat : Reseated watch sort row.key.0 values w.graph a)
        (is : later ≡ with_table (record w { graph = a }) sort (tables_of later sort).maps)
        (same_row : now ≡ retyped_row type row)
        (rows : (tables_of later sort).maps.rows
        ≡ with_change (tables_of (record w { graph = a }) sort).maps.rows name (λ _. now)) where
      same_tables : (x : ItemSort) → (tables_of (record w { graph = a }) x).maps
          ≡ (tables_of w x).maps
      same_tables sorts.Node = refl
      same_tables sorts.Arc = refl

      world_is : later ≡ with_rows w sort (tables_of later sort).maps a
      world_is =
          is
          ∙ ap (λ x. with_table x sort (tables_of later sort).maps) (sym (same_rows_world w sort a))
          ∙ table_twice w sort (tables_of w sort).maps (tables_of later sort).maps a

      rows_are : (tables_of later sort).maps.rows
          ≡ with_change (tables_of w sort).maps.rows name (λ _. retyped_row type row)
      rows_are =
          rows
          ∙ (λ i. with_change (same_tables sort i).rows name (λ _. same_row i))

      spelled_was :
          retyped (plain_of watch w) sort type (held_by row.kind (watch seat.was).seen.held)
          ≡ held_by (kind_for type) (watch values).seen.held
      spelled_was =
          ap (λ (s : Seen). retyped (plain_of watch w) sort type (held_by row.kind s.held))
          (same_Some (watch seat.was).seen leads.seen (sym seat.found ∙ row_seen))
          ∙ same_Some (retyped (plain_of watch w) sort type has) _
          (sym (ap (option_map (retyped (plain_of watch w) sort type)) map_is) ∙ spelt)

      same_graph : (x : ItemSort) → (with_rows w x (tables_of later sort).maps a).graph.graph
          ≡ a.graph
      same_graph sorts.Node = refl
      same_graph sorts.Arc = refl

      pub taken : Takes type later
      taken =
          let at = stands (tables_of w sort).maps.rows name row differ found in
          let table = (tables_of later sort).maps in
          record {
            stays = subst (AreInStep watch) (sym world_is)
                (retyped_in_step watch w sort name row type table values a in_step at row_own unread
                is_map seat rows_are);
            put = ap (plain_of watch) world_is
                ∙ retyped_plain watch w sort name row type table values a in_step at row_own unread
                is_map seat rows_are spelled_was;
            graph = ap (λ (x : World O). x.graph.graph) world_is
                ∙ same_graph sort
                ∙ ap (λ (b : AlterOf O). b.graph) seat.is;
          }
