-- The parts of the document of a world, a row of a table at a time.
use Rattle.std.proofs.Common.{◌≡◌, ℕ, ◌+◌, Bool, true, false, List, [], ◌∷◌, ◌++◌, map, take, refl}
use Rattle.std.proofs.Common.{sym, ap, Option, Some, None, ◌∙◌, is_some, Contains}
use Rattle.std.specs.Prelude.{option_map, slice_get}
use Rattle.std.proofs.lemmas.Option.{none-some, same_Some}
use Rattle.base_items.specs.declared.items.ItemSort.{ItemSort}
use Rattle.base_items.specs.declared.items.ItemSort.TheVariants as sorts
use Rattle.lgf_file.specs.Documents.{label as label_column}
use Rattle.lgf_file.specs.Rows.{Cells}
use Rattle.observe_core.specs.Seen.{Watched}
use Rattle.plain_world.specs.Tables.{Name, Named, under}
use Rattle.plain_world.specs.World as plain
use Rattle.plain_world.specs.World.{attached, label_of}
use Rattle.plain_world.specs.Documents.{columns_of, cells_of, value_maps}
use Rattle.plain_world.specs.Effects.{attribute_text}
use Rattle.plain_world.specs.Values.{type_of, text_at}
use Rattle.desk_world.specs.declared.tables.AttributeRow.{AttributeRow}
use Rattle.desk_world.specs.declared.tables.MapRow.{MapRow}
use Rattle.desk_world.specs.declared.world.World.{World}
use Rattle.desk_world.specs.InStep.{AreInStep, has_values}
use Rattle.desk_world.specs.Looks.{looked}
use Rattle.desk_world.specs.Plain.{plain_of, look_of, tables_of, map_seen, held_by}
use Rattle.desk_world.specs.Plain.{attribute_seen, ties_seen}
use Rattle.desk_world.proofs.MapsFound.{Leads, leads_held, rows_lead, type_held, typed}
use Rattle.desk_world.proofs.MapsRead.{of_value}
use Rattle.desk_world.proofs.TableRows.{passing, passing_more, passing_same, gathered}
use Rattle.desk_world.proofs.TableRows.{gathered_more, gathered_same, listed_at, row_at, some_row}

-- the map has values of its own
abbrev pub is_typed : Named plain.Held → Bool
is_typed e = is_some (type_of e.value)

module _ {O : Type 0} (watch : O → Watched) (w : World O) where
  -- ---- the maps of a sort

  module _ (sort : ItemSort) where
    abbrev look : MapRow → Option plain.Held
    look row = map_seen (look_of watch w) sort row

    -- the names of the maps of values to which some rows lead, and their texts at an item
    abbrev pub names_of : List (Named MapRow) → Cells
    names_of rows = passing look (λ e. e.name) is_typed rows

    abbrev pub texts_at : ℕ → List (Named MapRow) → Cells
    texts_at id rows = passing look (λ e. text_at e.value id) is_typed rows

    abbrev all_rows : List (Named MapRow)
    all_rows = (tables_of w sort).maps.rows

    maps_seen : (attached (plain_of watch w) sort).maps ≡ looked look all_rows
    maps_seen = by sort
      where
        by : (s : ItemSort) → (attached (plain_of watch w) s).maps
            ≡ looked (map_seen (look_of watch w) s) (tables_of w s).maps.rows
        by sorts.Node = refl
        by sorts.Arc = refl

    pub names_whole : label_column ∷ names_of all_rows
        ≡ columns_of (attached (plain_of watch w) sort)
    names_whole =
        sym (ap (λ maps. label_column ∷ map (λ e. e.name) (value_maps maps)) maps_seen)

    pub cells_whole : (id : ℕ) → label_of (plain_of watch w) sort id ∷ texts_at id all_rows
        ≡ cells_of (plain_of watch w) sort id
    cells_whole id =
        sym (ap (λ maps. label_of (plain_of watch w) sort id
        ∷ map (λ e. text_at e.value id) (value_maps maps)) maps_seen)

    module _ (in_step : AreInStep watch w) (k : ℕ) (row : MapRow)
        (at : slice_get (map (λ (e : Named MapRow). e.value) all_rows) k ≡ Some row) where
      -- the row at a place is listed, and leads to an observer
      pub row_listed : Contains (map (λ (e : Named MapRow). e.value) all_rows) row
      row_listed = listed_at (map (λ (e : Named MapRow). e.value) all_rows) k row at

      leads : Leads (look_of watch w) sort row
      leads = of_value (λ row. Leads (look_of watch w) sort row) all_rows row
          (rows_lead watch w in_step sort) row_listed

      abbrev held : plain.Held
      held = held_by row.kind leads.seen.held

      seen : look row ≡ Some held
      seen = leads_held (look_of watch w) sort row leads

      kind_typed : (b : Bool) → has_values row.kind ≡ b → is_some (type_of held) ≡ b
      kind_typed b is = ap is_some (type_held row.kind leads.seen.held) ∙ typed row.kind ∙ is

      pub name_more : (name : Name)
          → slice_get (map (λ (e : Named MapRow). e.name) all_rows) k ≡ Some name
          → has_values row.kind ≡ true
          → names_of (take (k + 1) all_rows) ≡ names_of (take k all_rows) ++ name ∷ []
      name_more name named values =
          passing_more look (λ e. e.name) is_typed all_rows k (under name row) held
          (row_at all_rows k name row named at) seen (kind_typed true values)

      pub text_more : (id : ℕ) (text : List ℕ) → has_values row.kind ≡ true
          → option_map (λ (h : plain.Held). text_at h id) (look row) ≡ Some text
          → texts_at id (take (k + 1) all_rows) ≡ texts_at id (take k all_rows) ++ text ∷ []
      text_more id text values told =
          let found = some_row all_rows k row at in
          let is : text_at held id ≡ text =
          same_Some (text_at held id) text
          (sym (ap (option_map (λ (h : plain.Held). text_at h id)) seen) ∙ told) in
          passing_more look (λ e. text_at e.value id) is_typed all_rows k found.0 held found.1
          (ap look found.2 ∙ seen) (kind_typed true values)
          ∙ ap (λ t. texts_at id (take k all_rows) ++ t ∷ []) is

      -- a row without values of its own
      pub name_same : has_values row.kind ≡ false
          → names_of (take (k + 1) all_rows) ≡ names_of (take k all_rows)
      name_same values =
          let found = some_row all_rows k row at in
          passing_same look (λ e. e.name) is_typed all_rows k found.0 held found.1
          (ap look found.2 ∙ seen) (kind_typed false values)

      pub text_same : (id : ℕ) → has_values row.kind ≡ false
          → texts_at id (take (k + 1) all_rows) ≡ texts_at id (take k all_rows)
      text_same id values =
          let found = some_row all_rows k row at in
          passing_same look (λ e. text_at e.value id) is_typed all_rows k found.0 held found.1
          (ap look found.2 ∙ seen) (kind_typed false values)

  -- ---- the attributes

  abbrev told : AttributeRow → Option plain.Attribute
  told row = attribute_seen (ties_seen (look_of watch w) w) row

  -- the attributes to which some rows lead, each with its text
  abbrev pub attributes_of : List (Named AttributeRow) → List (Name × List ℕ)
  attributes_of rows = gathered told (λ e. (e.name, attribute_text (plain_of watch w) e.value)) rows

  module _ (k : ℕ) (row : AttributeRow)
      (at : slice_get (map (λ (e : Named AttributeRow). e.value) w.attributes.rows) k ≡ Some row)
      (text : Option (List ℕ))
      (is : text ≡ option_map (attribute_text (plain_of watch w)) (told row)) where
    pub attribute_more : (name : Name) (own : List ℕ)
        → slice_get (map (λ (e : Named AttributeRow). e.name) w.attributes.rows) k ≡ Some name
        → text ≡ Some own
        → attributes_of (take (k + 1) w.attributes.rows)
        ≡ attributes_of (take k w.attributes.rows) ++ (name, own) ∷ []
    attribute_more name own named some = by (told row) refl (sym is ∙ some)
      where
        by : (o : Option plain.Attribute) → told row ≡ o
            → option_map (attribute_text (plain_of watch w)) o ≡ Some own
            → attributes_of (take (k + 1) w.attributes.rows)
            ≡ attributes_of (take k w.attributes.rows) ++ (name, own) ∷ []
        by None led has = absurd (none-some own has)
        by (Some a) led has =
            gathered_more told (λ e. (e.name, attribute_text (plain_of watch w) e.value))
            w.attributes.rows k (under name row) a (row_at w.attributes.rows k name row named at)
            led
            ∙ ap (λ t. attributes_of (take k w.attributes.rows) ++ (name, t) ∷ [])
            (same_Some (attribute_text (plain_of watch w) a) own has)

    pub attribute_same : text ≡ None
        → attributes_of (take (k + 1) w.attributes.rows)
        ≡ attributes_of (take k w.attributes.rows)
    attribute_same none = by (told row) refl (sym is ∙ none)
      where
        by : (o : Option plain.Attribute) → told row ≡ o
            → option_map (attribute_text (plain_of watch w)) o ≡ None
            → attributes_of (take (k + 1) w.attributes.rows)
            ≡ attributes_of (take k w.attributes.rows)
        by None led lacks =
            let found = some_row w.attributes.rows k row at in
            gathered_same told (λ e. (e.name, attribute_text (plain_of watch w) e.value))
            w.attributes.rows k found.0 found.1 (ap told found.2 ∙ led)
        by (Some a) led lacks =
            absurd (none-some (attribute_text (plain_of watch w) a) (sym lacks))
