-- The texts of a row are written to the maps one after the other, and then its label is put.
use Rattle.std.proofs.Common.{◌≡◌, ℕ, ◌+◌, ◌<◌, List, [], ◌∷◌, ◌++◌, map, length, take, drop}
use Rattle.std.proofs.Common.{get_or, false, Some, refl, sym, ap, ◌∙◌, subst, arith}
use Rattle.std.specs.Prelude.{slice_get}
use Rattle.std.proofs.lemmas.List.{length-append, length-take-le}
use Rattle.std.proofs.lemmas.Option.{slice_get-get_or}
use Rattle.base_items.specs.declared.items.ItemSort.{ItemSort}
use Rattle.base_items.specs.declared.items.ItemSort.TheVariants.{Node, Arc}
use Rattle.token_text.specs.Names.{has_twice}
use Rattle.lgf_file.specs.Rows.{Cells}
use Rattle.script_words.specs.declared.commands.MapType.TheVariants as types
use Rattle.plain_world.specs.Tables.{Name, Named, with_change}
use Rattle.plain_world.specs.World.{World, Held, attached}
use Rattle.plain_world.specs.Documents.{with_texts}
use Rattle.plain_world.specs.Effects.{with_maps, with_map_changed}
use Rattle.desk_world.specs.declared.values.Value.TheVariants as values
use Rattle.desk_world.specs.Describing.{AreTexts, HasColumns}
use Rattle.desk_world.specs.Values.{HasType, put_at}
use Rattle.desk_world.proofs.Described.{texts_push, texts_stay, names_stay, text_typed, name_among}
use Rattle.desk_world.proofs.Described.{name_between, no_texts}
use Rattle.desk_world.proofs.Halfway.{Halfway, more_left}

-- ---- a world with other maps of a sort

pub maps_are : (world : World) (sort : ItemSort) (maps : List (Named Held))
    → (attached (with_maps world sort maps) sort).maps ≡ maps
maps_are world Node maps = refl
maps_are world Arc maps = refl

labels_are : (world : World) (sort : ItemSort) (maps : List (Named Held))
    → (attached (with_maps world sort maps) sort).labels ≡ (attached world sort).labels
labels_are world Node maps = refl
labels_are world Arc maps = refl

pub labels_stay : (world now : World) (sort : ItemSort) (maps : List (Named Held))
    → now ≡ with_maps world sort maps
    → (attached now sort).labels ≡ (attached world sort).labels
labels_stay world now sort maps is =
    ap (λ w. (attached w sort).labels) is ∙ labels_are world sort maps

pub no_other_maps : (world : World) (sort : ItemSort)
    → world ≡ with_maps world sort (attached world sort).maps
no_other_maps world Node = refl
no_other_maps world Arc = refl

changed_again : (world : World) (sort : ItemSort) (maps : List (Named Held)) (name : Name)
    (change : Held → Held)
    → with_map_changed (with_maps world sort maps) sort name change
    ≡ with_maps world sort (with_change maps name change)
changed_again world Node maps name change = refl
changed_again world Arc maps name change = refl

-- ---- one text after the other

module _ (world : World) (sort : ItemSort) (id : ℕ) (columns : Cells)
    (has : HasColumns world sort columns) where
  -- the world with the first texts of a row
  abbrev pub partly : Cells → World
  partly texts = with_maps world sort (with_texts (attached world sort).maps id texts)

  -- the next name is that of a map of texts
  pub may_write : (now : World) (texts front : Cells) (name : Name) (back : Cells)
      → columns ≡ front ++ name ∷ back → now ≡ partly texts → HasType now sort name types.Texts
  may_write now texts front name back split is =
      let maps = (attached world sort).maps in
      let now_maps : (attached now sort).maps ≡ with_texts maps id texts =
      ap (λ w. (attached w sort).maps) is ∙ maps_are world sort (with_texts maps id texts) in
      text_typed (attached now sort).maps name
      (name_among front name back (map (λ e. e.name) (attached now sort).maps)
      (ap (map (λ e. e.name)) now_maps ∙ names_stay maps id texts ∙ has.names ∙ split))
      (subst AreTexts (sym now_maps) (texts_stay maps id texts has.texts))

  pub one_written : (now : World) (texts : Cells) (text : List ℕ) (front : Cells) (name : Name)
      (back : Cells) → columns ≡ front ++ name ∷ back → length texts ≡ length front
      → now ≡ partly texts
      → with_map_changed now sort name (put_at (values.Text text) id)
      ≡ partly (texts ++ text ∷ [])
  one_written now texts text front name back split size is =
      let maps = (attached world sort).maps in
      let change = put_at (values.Text text) id in
      ap (λ w. with_map_changed w sort name change) is
      ∙ changed_again world sort (with_texts maps id texts) name change
      ∙ ap (with_maps world sort)
      (sym (texts_push id text change (λ m. refl) maps texts front name back (has.names ∙ split)
      size (ap has_twice has.names ∙ has.differ) has.texts))

  -- the world has the first texts, so many
  abbrev pub HasFirst : World → ℕ → Cells → Type 0
  HasFirst now place texts = (length texts ≡ place) × (now ≡ partly texts)

  pub none_written : HasFirst world 0 []
  none_written = (
    refl,
    no_other_maps world sort
        ∙ ap (with_maps world sort) (sym (no_texts (attached world sort).maps id)),
  )

  -- while a text is left, there is a name for it
  pub row_below : (all : Cells) (text : List ℕ) (left : Cells) (now : World) (place : ℕ)
      → Halfway all (text ∷ left) (HasFirst now place) → length all ≡ length columns
      → place < length columns
  row_below all text left now place was wide =
      let more = more_left all text left (HasFirst now place) was in
      let size = was.holds.0 in
      omega (arith, more, size, wide)

  module _ (place : ℕ) (name : Name) (below : place < length columns)
      (at : name ≡ get_or columns place name) (now : World) (texts : Cells)
      (first : HasFirst now place texts) where
    pub may_write_next : HasType now sort name types.Texts
    may_write_next =
        may_write now texts (take place columns) name (drop (place + 1) columns)
        (name_between columns place name below at) first.1

    -- the next name is that of the row at the place
    pub row_named : (names : Cells) → map (λ e. e.name) (attached now sort).maps ≡ names
        → slice_get names place ≡ Some name
    row_named names are =
        let maps = (attached world sort).maps in
        let same : columns ≡ names =
        sym has.names ∙ sym (names_stay maps id texts)
        ∙ ap (map (λ e. e.name)) (sym (ap (λ w. (attached w sort).maps) first.1
        ∙ maps_are world sort (with_texts maps id texts)))
        ∙ are in
        ap (λ list. slice_get list place) (sym same)
        ∙ slice_get-get_or columns place name below ∙ ap Some (sym at)

    pub names_differ : (names : Cells) → map (λ e. e.name) (attached now sort).maps ≡ names
        → has_twice names ≡ false
    names_differ names are =
        let maps = (attached world sort).maps in
        ap has_twice (sym are
        ∙ ap (map (λ e. e.name)) (ap (λ w. (attached w sort).maps) first.1
        ∙ maps_are world sort (with_texts maps id texts))
        ∙ names_stay maps id texts ∙ has.names)
        ∙ has.differ

    pub next_written : (later : World) (text : List ℕ)
        → later ≡ with_map_changed now sort name (put_at (values.Text text) id)
        → HasFirst later (place + 1) (texts ++ text ∷ [])
    next_written later text is =
        let size = first.0 in
        let long = length-append texts (text ∷ []) in
        let front = length-take-le place columns (omega (arith, below)) in (
          omega (arith, long, size),
          is ∙ one_written now texts text (take place columns) name (drop (place + 1) columns)
              (name_between columns place name below at) (omega (arith, size, front)) first.1,
        )
