-- A blank world gets its columns, and is that of the document whose items it has.
use Rattle.std.proofs.Common.{◌≡◌, ℕ, Bool, true, false, cond, List, [], ◌∷◌, ◌++◌, map, Option}
use Rattle.std.proofs.Common.{Some, None, is_some, refl, sym, ap, ◌∙◌, subst, inl, inr}
use Rattle.std.specs.Prelude.{◌||◌, find, option_map}
use Rattle.std.specs.Ordering.{nat_cmp}
use Rattle.std.specs.Cmp.{nat_cmp_total}
use Rattle.std.specs.FinMap as fin
use Rattle.std.specs.Str.{bytes_eq}
use Rattle.std.proofs.lemmas.Bool.{cases_eq, eq-eqb, ne_eqb, or_parts}
use Rattle.std.proofs.lemmas.List.{map-append}
use Rattle.base_items.specs.declared.items.ItemSort.{ItemSort}
use Rattle.base_items.specs.declared.items.ItemSort.TheVariants.{Node, Arc}
use Rattle.token_text.specs.Names.{is_among, has_twice}
use Rattle.lgf_file.specs.Rows.{Cells}
use Rattle.lgf_file.proofs.NameLists.{twice_front, apart_back}
use Rattle.script_words.specs.declared.commands.GuardWord.{GuardWord}
use Rattle.script_words.specs.declared.commands.MapType.TheVariants.{Texts as TextType}
use Rattle.plain_digraph.specs.Digraph.{Digraph}
use Rattle.plain_digraph.specs.Facts.{fact_id}
use Rattle.plain_digraph.specs.Items.{facts, ids, all_arcs}
use Rattle.plain_digraph.specs.Lists.{has}
use Rattle.plain_digraph.specs.Valid.{IsValid}
use Rattle.plain_digraph.proofs.Keys.{ties_same, ties_other}
use Rattle.observe_core.specs.Items.{has_id}
use Rattle.alter_graph.proofs.Listing.{live_has, has_live}
use Rattle.plain_world.specs.Tables.{Name, Named, under, is_named, has_entry}
use Rattle.plain_world.specs.World.{World, Column, Held, attached, live}
use Rattle.plain_world.specs.Effects.{with_maps, with_map, new_map}
use Rattle.plain_world.specs.Values.{column_of}
use Rattle.plain_world.proofs.Named.{live_listed, listed_live}
use Rattle.desk_world.specs.declared.tables.AttributeRow.{AttributeRow}
use Rattle.desk_world.specs.declared.tables.AttributeRow.TheVariants as rows
use Rattle.desk_world.specs.Blank.{AreBlank, blank_world, IsBlank}
use Rattle.desk_world.specs.Describing.{new_maps}
use Rattle.desk_world.proofs.Blank.{blank_seen}
use Rattle.desk_world.proofs.RowTold.{maps_are, no_other_maps}

-- ---- names that a table lacks

pub lacking : {X : Type 0} (table : List (Named X)) (name : Name)
    → is_among name (map (λ e. e.name) table) ≡ false → has_entry table name ≡ false
lacking [] name none = refl
lacking (e ∷ es) name none =
    let parts = or_parts (bytes_eq name e.name) (is_among name (map (λ e. e.name) es)) none in
    let rest = lacking es name parts.1 in
    ap (λ b. is_some (option_map (λ x. x.value) (cond b (Some e) (find (is_named name) es))))
    (apart_back name e.name parts.0) ∙ rest

-- one that stands behind some of the names isn't under one of these
pub none_yet : {X : Type 0} (table : List (Named X)) (front : Cells) (name : Name) (back : Cells)
    → map (λ e. e.name) table ≡ front → has_twice (front ++ name ∷ back) ≡ false
    → has_entry table name ≡ false
none_yet table front name back are differ =
    lacking table name (ap (is_among name) are ∙ twice_front front name back differ)

-- ---- attributes one after the other

abbrev first : Name × Name → Name
first a = a.0

abbrev pub plain_row : Name × Name → Named AttributeRow
plain_row a = under a.0 (rows.Plain a.1)

row_names : (done : List (Name × Name))
    → map (λ e. e.name) (map plain_row done) ≡ map first done
row_names [] = refl
row_names (a ∷ done) = ap (λ more. a.0 ∷ more) (row_names done)

-- the next name isn't under one of those before
pub row_new : (attributes done : List (Name × Name)) (a : Name × Name) (left : List (Name × Name))
    → attributes ≡ done ++ a ∷ left → has_twice (map first attributes) ≡ false
    → has_entry (map plain_row done) a.0 ≡ false
row_new attributes done a left whole differ =
    none_yet (map plain_row done) (map first done) a.0 (map first left) (row_names done)
    (sym (ap (λ all. has_twice (map first all)) whole
    ∙ ap has_twice (map-append first done (a ∷ left))) ∙ differ)

-- ---- maps one after the other

made_names : (world : World) (sort : ItemSort) (names : Cells)
    → map (λ e. e.name) (new_maps world sort names) ≡ names
made_names world sort [] = refl
made_names world sort (name ∷ names) = ap (λ more. name ∷ more) (made_names world sort names)

made_push : (world : World) (sort : ItemSort) (names : Cells) (name : Name)
    → new_maps world sort (names ++ name ∷ [])
    ≡ new_maps world sort names ++ under name (new_map world sort TextType) ∷ []
made_push world sort [] name = refl
made_push world sort (other ∷ names) name =
    ap (λ more. under other (new_map world sort TextType) ∷ more)
    (made_push world sort names name)

-- no map of the name is there yet
pub may_make : (world : World) (sort : ItemSort) (now : World) (front : Cells) (name : Name)
    (back : Cells) → now ≡ with_maps world sort (new_maps world sort front)
    → has_twice (front ++ name ∷ back) ≡ false
    → has_entry (attached now sort).maps name ≡ false
may_make world sort now front name back is differ =
    none_yet (attached now sort).maps front name back
    (ap (λ w. map (λ e. e.name) (attached w sort).maps) is
    ∙ ap (map (λ e. e.name)) (maps_are world sort (new_maps world sort front))
    ∙ made_names world sort front) differ

-- no map at all
pub none_made : (world : World) (sort : ItemSort) → (attached world sort).maps ≡ []
    → world ≡ with_maps world sort (new_maps world sort [])
none_made world sort none = no_other_maps world sort ∙ ap (with_maps world sort) none

-- one map more
pub one_made : (world : World) (sort : ItemSort) (now : World) (front : Cells) (name : Name)
    → now ≡ with_maps world sort (new_maps world sort front)
    → with_map now sort name (new_map now sort TextType)
    ≡ with_maps world sort (new_maps world sort (front ++ name ∷ []))
one_made world sort now front name is =
    ap (λ w. with_map w sort name (new_map w sort TextType)) is
    ∙ put world sort (new_maps world sort front)
    ∙ ap (with_maps world sort) (sym (made_push world sort front name))
  where
    put : (world : World) (sort : ItemSort) (maps : List (Named Held))
        → with_map (with_maps world sort maps) sort name
        (new_map (with_maps world sort maps) sort TextType)
        ≡ with_maps world sort (maps ++ under name (new_map world sort TextType) ∷ [])
    put world Node maps = refl
    put world Arc maps = refl

-- ---- new maps of texts are blank

abbrev no_text : ℕ → ℕ × List ℕ
no_text id = (id, [])

find_blank : (items : List ℕ) (q : ℕ)
    → fin.find nat_cmp q (map no_text items) ≡ cond (has items q) (Some []) None
find_blank [] q = refl
find_blank (id ∷ items) q =
    let rest = find_blank items q in
    let found : Option (List ℕ) = fin.find nat_cmp q (map no_text items) in
    let given : Bool → Option (List ℕ) = λ b. cond (b || has items q) (Some []) None in
    elim (cases_eq q id) [
      | inl same ↦
          ap (λ t. cond t (Some []) found) (ties_same q id same)
          ∙ sym (ap given (eq-eqb id q (sym same)))
      | inr other ↦
          ap (λ t. cond t (Some []) found) (ties_other q id other)
          ∙ rest
          ∙ sym (ap given (ne_eqb id q (λ is. other (sym is))))
    ]

-- tests of which each passes where the other does
alike : (a b : Bool) → (a ≡ true → b ≡ true) → (b ≡ true → a ≡ true) → a ≡ b
alike true b there back = sym (there refl)
alike false true there back = back refl
alike false false there back = refl

blank_column : (world : World) (sort : ItemSort) → IsValid world.graph
    → AreBlank (facts world.graph sort) (column_of (live world sort) (λ id. []))
blank_column world sort valid q =
    fin.get-from_entries nat_cmp_total (map no_text (live world sort)) q
    ∙ find_blank (live world sort) q
    ∙ ap (λ b. cond b (Some []) None)
    (alike (has (live world sort) q) (has_id fact_id q (facts world.graph sort))
    (λ at. live_has world.graph sort valid q (listed_live world sort q valid at))
    (λ at. live_listed world sort q valid (has_live world.graph sort valid q at)))

-- ---- a document

module _ (columns arc_columns : Cells) (pool : List GuardWord) (attributes : List (Name × Name))
    (g : Digraph) where
  abbrev bare : World
  bare = blank_world [] [] pool attributes g fin.empty fin.empty

  abbrev node_texts : Column (List ℕ)
  node_texts = column_of (ids g.nodes) (λ id. [])

  abbrev arc_texts : Column (List ℕ)
  arc_texts = column_of (all_arcs g) (λ id. [])

  abbrev pub opened_world : World
  opened_world = blank_world columns arc_columns pool attributes g node_texts arc_texts

  -- the bare world with its columns
  pub columns_made : (first second third : World) → first ≡ bare
      → second ≡ with_maps first Node (new_maps first Node columns)
      → third ≡ with_maps second Arc (new_maps second Arc arc_columns)
      → third ≡ opened_world
  columns_made first second third is made more =
      more
      ∙ ap (λ w. with_maps w Arc (new_maps w Arc arc_columns))
      (made ∙ ap (λ w. with_maps w Node (new_maps w Node columns)) is)

  -- it is whichever blank world has this digraph
  pub opened_is : (world : World) → IsValid g → world.graph ≡ g
      → IsBlank columns arc_columns pool attributes world → opened_world ≡ world
  opened_is world valid at blank =
      let nodes : AreBlank (facts world.graph Node) node_texts =
      subst (λ d. AreBlank (facts d Node) node_texts) (sym at) (blank_column bare Node valid) in
      let arcs : AreBlank (facts world.graph Arc) arc_texts =
      subst (λ d. AreBlank (facts d Arc) arc_texts) (sym at) (blank_column bare Arc valid) in
      sym (blank_seen columns arc_columns pool attributes world node_texts arc_texts blank nodes
      arcs
      ∙ ap (λ d. blank_world columns arc_columns pool attributes d node_texts arc_texts) at)
