-- Commands that change the maps of a sort, or a label.
use Rattle.std.proofs.Common.{◌≡◌, ℕ, ℤ, Bool, true, false, cond, not, refl, sym, ◌∙◌, ap, subst}
use Rattle.std.proofs.Common.{List, []}
use Rattle.std.proofs.Common.{◌∷◌, map, Option, None, Some, is_some, All, inl, inr}
use Rattle.std.specs.Prelude.{option_and_then, ◌||◌}
use Rattle.std.specs.Option.{option_map_or}
use Rattle.std.specs.Ordering.{nat_cmp}
use Rattle.std.specs.FinMap as fin
use Rattle.std.specs.Str.{bytes_eq}
use Rattle.std.proofs.lemmas.Bool.{true≢false, cases_eq, or_from, or_parts, eq-eqb, ne_eqb}
use Rattle.std.proofs.lemmas.List.Folds.{list_any-append}
use Rattle.std.proofs.lemmas.List.Elements.{All-push, All-weaker, All-head, All-tail}
use Rattle.std.proofs.lemmas.Option.{none-some}
use Rattle.base_items.specs.declared.items.ItemSort.{ItemSort}
use Rattle.base_items.specs.declared.items.ItemSort.TheVariants.{Node, Arc}
use Rattle.token_text.specs.Names.{is_among, has_twice}
use Rattle.lgf_file.specs.Documents.{label as label_column, dash}
use Rattle.lgf_file.proofs.NameLists.{apart_back}
use Rattle.script_words.specs.declared.commands.LayerWord.{LayerWord}
use Rattle.script_words.specs.declared.commands.LayerWord.TheVariants as words
use Rattle.script_words.specs.declared.commands.MapType.{MapType}
use Rattle.script_words.specs.declared.commands.MapType.TheVariants as types
use Rattle.plain_digraph.specs.Lists.{has}
use Rattle.plain_digraph.specs.Digraph.{Digraph}
use Rattle.plain_digraph.specs.Items.{IsLive}
use Rattle.plain_digraph.specs.Valid as digraph
use Rattle.plain_digraph.proofs.Keys.{get_new, get_other}
use Rattle.plain_world.specs.Tables.{Name, Named, under, is_named, entry, has_entry, with_entry}
use Rattle.plain_world.specs.Tables.{with_change, without_entry}
use Rattle.plain_world.specs.World.{World, Attached, Held, Ints, Bools, Texts, Degrees, Trues}
use Rattle.plain_world.specs.World.{attached, live}
use Rattle.plain_world.specs.Values.{column_of, spelled, type_of, written_at}
use Rattle.plain_world.specs.Views.{is_type, reads}
use Rattle.plain_world.specs.Refusals.{is_index_of}
use Rattle.plain_world.specs.Effects.{with_maps, with_map, with_map_changed, retyped}
use Rattle.plain_world.specs.Following.{labelled}
use Rattle.plain_world.specs.Valid.{IsNamed, IsWhole}
use Rattle.plain_world.proofs.Filtered.{names, among_filter, differ_filter}
use Rattle.plain_world.proofs.Named.{live_listed, listed_live}
use Rattle.plain_world.proofs.TableChanges.{names_push, differ_push, names_change}
use Rattle.plain_world.proofs.TableChanges.{all_filter, all_change, own_entry, other_change}
use Rattle.plain_world.proofs.TableChanges.{other_without, same_before}
use Rattle.plain_world.proofs.Attaching.{typed, Holds, IsKept, Alike, typed_alike, written_held}
use Rattle.plain_world.proofs.Attaching.{written_type, IsUnused, differ_with}
use Rattle.plain_world.proofs.WorldParts.{Parts, LayerOk}

-- ---- layers

-- a map of a type that is there is there in the other table
abbrev pub KeepsTypes : List (Named Held) → List (Named Held) → Type 0
KeepsTypes old new = (type : MapType) (name : Name) → typed old type name ≡ true
    → typed new type name ≡ true

-- the same of all maps but one
abbrev KeepsOthers : Name → List (Named Held) → List (Named Held) → Type 0
KeepsOthers map old new = (type : MapType) (name : Name) → bytes_eq map name ≡ false
    → typed old type name ≡ true → typed new type name ≡ true

abbrev LayerWith : World → ItemSort → List (Named Held) → LayerWord → Type 0
LayerWith w Node maps layer = LayerOk maps w.arcs.maps layer
LayerWith w Arc maps layer = LayerOk w.nodes.maps maps layer

pub named_stays : (old new : Name → Bool) (name : Option Name)
    → ((n : Name) → old n ≡ true → new n ≡ true) → IsNamed old name → IsNamed new name
named_stays old new None stays is = tt
named_stays old new (Some name) stays is = stays name is

layer_stays : (w : World) (sort : ItemSort) (maps : List (Named Held)) (layer : LayerWord)
    → KeepsTypes (attached w sort).maps maps → LayerOk w.nodes.maps w.arcs.maps layer
    → LayerWith w sort maps layer
layer_stays w Node maps (words.Sub nodes arcs) keeps is = (
  named_stays (typed w.nodes.maps types.Bools) (typed maps types.Bools) nodes
      (keeps types.Bools) is.0,
  is.1,
)
layer_stays w Arc maps (words.Sub nodes arcs) keeps is = (
  is.0,
  named_stays (typed w.arcs.maps types.Bools) (typed maps types.Bools) arcs
      (keeps types.Bools) is.1,
)
layer_stays w Node maps (words.Residual cap flow) keeps is = is
layer_stays w Arc maps (words.Residual cap flow) keeps is =
    (keeps types.Ints cap is.0, keeps types.Ints flow is.1)
layer_stays w Node maps words.Reverse keeps is = tt
layer_stays w Node maps words.Undirect keeps is = tt
layer_stays w Node maps words.Split keeps is = tt
layer_stays w Arc maps words.Reverse keeps is = tt
layer_stays w Arc maps words.Undirect keeps is = tt
layer_stays w Arc maps words.Split keeps is = tt

other_stays : (map : Name) (old new : Name → Bool) (name : Option Name)
    → ((n : Name) → bytes_eq map n ≡ false → old n ≡ true → new n ≡ true)
    → option_map_or (bytes_eq map) name false ≡ false → IsNamed old name → IsNamed new name
other_stays map old new None stays apart is = tt
other_stays map old new (Some name) stays apart is = stays name apart is

-- a layer that doesn't read the map stays
unread_stays : (w : World) (sort : ItemSort) (map : Name) (maps : List (Named Held))
    (layer : LayerWord) → KeepsOthers map (attached w sort).maps maps
    → reads sort map layer ≡ false → LayerOk w.nodes.maps w.arcs.maps layer
    → LayerWith w sort maps layer
unread_stays w Node map maps (words.Sub nodes arcs) keeps apart is = (
  other_stays map (typed w.nodes.maps types.Bools) (typed maps types.Bools) nodes
      (keeps types.Bools) apart is.0,
  is.1,
)
unread_stays w Arc map maps (words.Sub nodes arcs) keeps apart is = (
  is.0,
  other_stays map (typed w.arcs.maps types.Bools) (typed maps types.Bools) arcs
      (keeps types.Bools) apart is.1,
)
unread_stays w Node map maps (words.Residual cap flow) keeps apart is = is
unread_stays w Arc map maps (words.Residual cap flow) keeps apart is =
    let parts = or_parts (bytes_eq map cap) (bytes_eq map flow) apart in
    (keeps types.Ints cap parts.0 is.0, keeps types.Ints flow parts.1 is.1)
unread_stays w Node map maps words.Reverse keeps apart is = tt
unread_stays w Node map maps words.Undirect keeps apart is = tt
unread_stays w Node map maps words.Split keeps apart is = tt
unread_stays w Arc map maps words.Reverse keeps apart is = tt
unread_stays w Arc map maps words.Undirect keeps apart is = tt
unread_stays w Arc map maps words.Split keeps apart is = tt

-- ---- the world with other maps

maps_with : (w : World) (sort : ItemSort) (maps : List (Named Held)) → Parts w
    → IsKept w.graph sort None (record (attached w sort) { maps = maps })
    → All (λ e. LayerWith w sort maps e.value.layer) w.views → Parts (with_maps w sort maps)
maps_with w Node maps ok kept layers = record {
  graph_ok = ok.graph_ok;
  nodes_ok = kept;
  arcs_ok = ok.arcs_ok;
  guards_ok = ok.guards_ok;
  snapshots_ok = ok.snapshots_ok;
  copies_agree = ok.copies_agree;
  views_stand = ok.views_stand;
  layers_ok = layers;
  attributes_ok = ok.attributes_ok;
  guards_differ = ok.guards_differ;
  snapshots_differ = ok.snapshots_differ;
  views_differ = ok.views_differ;
  attributes_differ = ok.attributes_differ;
}
maps_with w Arc maps ok kept layers = record {
  graph_ok = ok.graph_ok;
  nodes_ok = ok.nodes_ok;
  arcs_ok = kept;
  guards_ok = ok.guards_ok;
  snapshots_ok = ok.snapshots_ok;
  copies_agree = ok.copies_agree;
  views_stand = ok.views_stand;
  layers_ok = layers;
  attributes_ok = ok.attributes_ok;
  guards_differ = ok.guards_differ;
  snapshots_differ = ok.snapshots_differ;
  views_differ = ok.views_differ;
  attributes_differ = ok.attributes_differ;
}

kept_of : (w : World) (sort : ItemSort) → Parts w → IsKept w.graph sort None (attached w sort)
kept_of w Node ok = ok.nodes_ok
kept_of w Arc ok = ok.arcs_ok

held_stays : (g : Digraph) (sort : ItemSort) (old new : List (Named Held)) (held : Held)
    → KeepsTypes old new → Holds g sort old held → Holds g sort new held
held_stays g sort old new (Ints column) keeps holds = holds
held_stays g sort old new (Bools column) keeps holds = holds
held_stays g sort old new (Texts column) keeps holds = holds
held_stays g sort old new (Degrees way) keeps holds = holds
held_stays g sort old new (Trues map) keeps holds = keeps types.Bools map holds

unread_held : (g : Digraph) (sort : ItemSort) (map : Name) (old new : List
    (Named Held)) (held : Held)
    → KeepsOthers map old new → is_index_of map held ≡ false → Holds g sort old held
    → Holds g sort new held
unread_held g sort map old new (Ints column) keeps apart holds = holds
unread_held g sort map old new (Bools column) keeps apart holds = holds
unread_held g sort map old new (Texts column) keeps apart holds = holds
unread_held g sort map old new (Degrees way) keeps apart holds = holds
unread_held g sort map old new (Trues other) keeps apart holds =
    keeps types.Bools other (apart_back other map apart) holds

-- ---- a new map

pushed_types : (maps : List (Named Held)) (name : Name) (held : Held)
    → KeepsTypes maps (with_entry maps name held)
pushed_types maps name held type other is =
    by_entry (entry maps other) refl is
  where
    by_entry : (o : Option Held) → entry maps other ≡ o
        → option_map_or (is_type type) (option_and_then type_of o) false ≡ true
        → typed (with_entry maps name held) type other ≡ true
    by_entry None at is = absurd (true≢false (sym is))
    by_entry (Some value) at is =
        ap (λ o. option_map_or (is_type type) (option_and_then type_of o) false)
        (same_before maps name held other value at) ∙ is

pub map_kept : (w : World) (sort : ItemSort) (name : Name) (held : Held) → Parts w
    → bytes_eq name label_column ≡ false → bytes_eq name dash ≡ false
    → has_entry (attached w sort).maps name ≡ false
    → Holds w.graph sort (attached w sort).maps held → Parts (with_map w sort name held)
map_kept w sort name held ok no_label no_dash new holds =
    let items = attached w sort in
    let maps = with_entry items.maps name held in
    let kept = kept_of w sort ok in
    let keeps = pushed_types items.maps name held in
    let P : Named Held → Type 0 = λ e. Holds w.graph sort items.maps e.value in
    let apart : (other : Name) → bytes_eq name other ≡ false
    → is_among other (names items.maps) ≡ false
    → is_among other (names maps) ≡ false = λ other differs none.
    ap (is_among other) (names_push items.maps name held)
    ∙ (list_any-append (bytes_eq other) (names items.maps) (name ∷ [])
    ∙ or_from (is_among other (names items.maps)) (bytes_eq other name || false) none
    (or_from (bytes_eq other name) false (apart_back name other differs) refl)) in
    maps_with w sort maps ok
    (record {
      labelled = kept.labelled;
      labels_differ = kept.labels_differ;
      maps_held = All-weaker P (λ e. Holds w.graph sort maps e.value)
          (λ e is. held_stays w.graph sort items.maps maps e.value keeps is) maps
          (All-push P items.maps (under name held) kept.maps_held holds);
      names_differ = differ_push items.maps name held kept.names_differ new;
      no_label = apart label_column no_label kept.no_label;
      no_dash = apart dash no_dash kept.no_dash;
    })
    (All-weaker (λ e. LayerOk w.nodes.maps w.arcs.maps e.value.layer)
    (λ e. LayerWith w sort maps e.value.layer)
    (λ e is. layer_stays w sort maps e.value.layer keeps is) w.views ok.layers_ok)

-- ---- columns of all live items

column_has : {X : Type 0} (items : List ℕ) (value : ℕ → X) (id : ℕ)
    → is_some (fin.get (column_of items value) id) ≡ has items id
column_has [] value id = ap is_some (fin.get-empty nat_cmp id)
column_has (x ∷ xs) value id = elim (cases_eq id x) [
  | inl same ↦
      ap (λ a. is_some (fin.get (fin.insert (column_of xs value) x (value x)) a)) same
      ∙ (ap is_some (get_new (column_of xs value) x (value x))
      ∙ sym (ap (λ b. b || has xs id) (eq-eqb x id (sym same))))
  | inr other ↦
      ap is_some (get_other (column_of xs value) x (value x) id other)
      ∙ (column_has xs value id
      ∙ sym (ap (λ b. b || has xs id) (ne_eqb x id (λ e. other (sym e)))))
]

whole_column : {X : Type 0} (w : World) (sort : ItemSort) (value : ℕ → X)
    → digraph.IsValid w.graph → IsWhole w.graph sort (column_of (live w sort) value)
whole_column w sort value valid id = (
  λ is. column_has (live w sort) value id ∙ live_listed w sort id valid is,
  λ some. listed_live w sort id valid (sym (column_has (live w sort) value id) ∙ some),
)

pub spelled_held : (w : World) (sort : ItemSort) (maps : List (Named Held)) (type : MapType)
    (text : ℕ → Name) → digraph.IsValid w.graph
    → Holds w.graph sort maps (spelled type (live w sort) text)
spelled_held w sort maps types.Ints text valid = whole_column w sort _ valid
spelled_held w sort maps types.Bools text valid = whole_column w sort _ valid
spelled_held w sort maps types.Texts text valid = whole_column w sort text valid

-- ---- a map with other values

alike_change : (maps : List (Named Held)) (name : Name) (change : Held → Held)
    → All (λ e. is_named name e ≡ true → type_of (change e.value) ≡ type_of e.value) maps
    → Alike (with_change maps name change) maps
alike_change [] name change same = tt
alike_change (e ∷ es) name change same =
    let P : Named Held → Type 0 = λ e. is_named name e ≡ true
    → type_of (change e.value) ≡ type_of e.value in
    let rest = alike_change es name change (All-tail P e es same) in
    let head = All-head P e es same in
    let changed = with_change es name change in
    elim (is_named name e) as (λ b. is_named name e ≡ b
    → Alike (cond b (under e.name (change e.value)) e ∷ changed) (e ∷ es)) [
      | true ↦ λ is. (refl, head is, rest)
      | false ↦ λ is. (refl, refl, rest)
    ] refl

pub changed_kept : (w : World) (sort : ItemSort) (name : Name) (change : Held → Held) → Parts w
    → All (λ e. is_named name e ≡ true → type_of (change e.value) ≡ type_of e.value)
    (attached w sort).maps
    → ((held : Held) → Holds w.graph sort (attached w sort).maps held
    → Holds w.graph sort (attached w sort).maps (change held))
    → Parts (with_map_changed w sort name change)
changed_kept w sort name change ok types_stay values_stay =
    let items = attached w sort in
    let maps = with_change items.maps name change in
    let kept = kept_of w sort ok in
    let alike = alike_change items.maps name change types_stay in
    let keeps : KeepsTypes items.maps maps = λ type other is.
    typed_alike maps items.maps type other alike ∙ is in
    let P : Named Held → Type 0 = λ e. Holds w.graph sort items.maps e.value in
    let same = names_change items.maps name change in
    maps_with w sort maps ok
    (record {
      labelled = kept.labelled;
      labels_differ = kept.labels_differ;
      maps_held = All-weaker P (λ e. Holds w.graph sort maps e.value)
          (λ e is. held_stays w.graph sort items.maps maps e.value keeps is) maps
          (all_change P P items.maps name change kept.maps_held
          (λ e is holds. values_stay e.value holds) (λ e is holds. holds));
      names_differ = ap has_twice same ∙ kept.names_differ;
      no_label = ap (is_among label_column) same ∙ kept.no_label;
      no_dash = ap (is_among dash) same ∙ kept.no_dash;
    })
    (All-weaker (λ e. LayerOk w.nodes.maps w.arcs.maps e.value.layer)
    (λ e. LayerWith w sort maps e.value.layer)
    (λ e is. layer_stays w sort maps e.value.layer keeps is) w.views ok.layers_ok)

pub set_kept : (w : World) (sort : ItemSort) (name : Name) (id : ℕ) (text : Name) → Parts w
    → IsLive w.graph sort id
    → Parts (with_map_changed w sort name (λ held. written_at held id text))
set_kept w sort name id text ok is_live =
    changed_kept w sort name (λ held. written_at held id text) ok
    (λ k d within is. written_type _ id text)
    (λ held holds. written_held w.graph sort (attached w sort).maps id held text is_live holds)

ints_type : (o : Option Held) (held : Held) → o ≡ Some held
    → option_map_or (is_type types.Ints) (option_and_then type_of o) false ≡ true
    → type_of held ≡ Some types.Ints
ints_type o held at is =
    by_held held
    (sym (ap (λ p. option_map_or (is_type types.Ints) (option_and_then type_of p) false) at)
    ∙ is)
  where
    by_held : (held : Held) → option_map_or (is_type types.Ints) (type_of held) false ≡ true
        → type_of held ≡ Some types.Ints
    by_held (Ints column) is = refl
    by_held (Bools column) is = absurd (true≢false (sym is))
    by_held (Texts column) is = absurd (true≢false (sym is))
    by_held (Degrees way) is = absurd (true≢false (sym is))
    by_held (Trues map) is = absurd (true≢false (sym is))

-- a flow goes into a map of ints
pub flow_kept : (w : World) (name : Name) (flow : ℕ → ℤ) → Parts w
    → typed w.arcs.maps types.Ints name ≡ true
    → Parts (with_map_changed w Arc name (λ held. Ints (column_of (live w Arc) flow)))
flow_kept w name flow ok is_ints =
    let own = own_entry w.arcs.maps name ok.arcs_ok.names_differ in
    changed_kept w Arc name (λ held. Ints (column_of (live w Arc) flow)) ok
    (All-weaker (λ e. is_named name e ≡ true → entry w.arcs.maps name ≡ Some e.value)
    (λ e. is_named name e ≡ true → Some types.Ints ≡ type_of e.value)
    (λ e at is. sym (ints_type (entry w.arcs.maps name) e.value (at is) is_ints)) w.arcs.maps own)
    (λ held holds. whole_column w Arc flow ok.graph_ok)

-- ---- a map that nothing reads

unread_kept : (w : World) (sort : ItemSort) (name : Name) (maps : List (Named Held)) → Parts w
    → KeepsOthers name (attached w sort).maps maps
    → IsKept w.graph sort None (record (attached w sort) { maps = maps })
    → All (λ e. reads sort name e.value.layer ≡ false) w.views → Parts (with_maps w sort maps)
unread_kept w sort name maps ok keeps kept unread =
    maps_with w sort maps ok kept
    (λ k d within. unread_stays w sort name maps _ keeps (unread k d within)
    (ok.layers_ok k d within))

pub retyped_kept : (w : World) (sort : ItemSort) (name : Name) (type : MapType) → Parts w
    → All (λ e. reads sort name e.value.layer ≡ false) w.views
    → All (λ e. is_index_of name e.value ≡ false) (attached w sort).maps
    → Parts (with_map_changed w sort name (retyped w sort type))
retyped_kept w sort name type ok unread no_index =
    let items = attached w sort in
    let change = retyped w sort type in
    let maps = with_change items.maps name change in
    let kept = kept_of w sort ok in
    let keeps : KeepsOthers name items.maps maps = λ type other apart is.
    ap (λ o. option_map_or (is_type type) (option_and_then type_of o) false)
    (other_change items.maps name change other apart) ∙ is in
    let P : Named Held → Type 0 = λ e. Holds w.graph sort items.maps e.value
    × (is_index_of name e.value ≡ false) in
    let same = names_change items.maps name change in
    unread_kept w sort name maps ok keeps
    (record {
      labelled = kept.labelled;
      labels_differ = kept.labels_differ;
      maps_held = all_change P (λ e. Holds w.graph sort maps e.value) items.maps name change
          (λ k d within. (kept.maps_held k d within, no_index k d within))
          (λ e is holds. spelled_held w sort maps type _ ok.graph_ok)
          (λ e is holds.
          unread_held w.graph sort name items.maps maps e.value keeps holds.1 holds.0);
      names_differ = ap has_twice same ∙ kept.names_differ;
      no_label = ap (is_among label_column) same ∙ kept.no_label;
      no_dash = ap (is_among dash) same ∙ kept.no_dash;
    }) unread

pub dropped_kept : (w : World) (sort : ItemSort) (name : Name) → Parts w
    → All (λ e. reads sort name e.value.layer ≡ false) w.views
    → All (λ e. is_index_of name e.value ≡ false) (attached w sort).maps
    → Parts (with_maps w sort (without_entry (attached w sort).maps name))
dropped_kept w sort name ok unread no_index =
    let items = attached w sort in
    let maps = without_entry items.maps name in
    let test : Named Held → Bool = λ e. not (is_named name e) in
    let kept = kept_of w sort ok in
    let keeps : KeepsOthers name items.maps maps = λ type other apart is.
    ap (λ o. option_map_or (is_type type) (option_and_then type_of o) false)
    (other_without items.maps name other apart) ∙ is in
    let P : Named Held → Type 0 = λ e. Holds w.graph sort items.maps e.value
    × (is_index_of name e.value ≡ false) in
    unread_kept w sort name maps ok keeps
    (record {
      labelled = kept.labelled;
      labels_differ = kept.labels_differ;
      maps_held = All-weaker P (λ e. Holds w.graph sort maps e.value)
          (λ e holds. unread_held w.graph sort name items.maps maps e.value keeps holds.1 holds.0)
          maps
          (all_filter P test items.maps
          (λ k d within. (kept.maps_held k d within, no_index k d within)));
      names_differ = differ_filter test items.maps kept.names_differ;
      no_label = among_filter label_column test items.maps kept.no_label;
      no_dash = among_filter dash test items.maps kept.no_dash;
    }) unread

-- ---- a label

relabelled : (g : Digraph) (sort : ItemSort) (items : Attached) (id : ℕ) (name : Name)
    → IsLive g sort id → IsUnused items.labels name → IsKept g sort None items
    → IsKept g sort None (record items { labels = fin.insert items.labels id name })
relabelled g sort items id name is_live unused kept = record {
  labelled = λ x. elim (cases_eq x id) [
    | inl same ↦ (
      λ some. (subst (IsLive g sort) (sym same) is_live, λ e. none-some x e),
      λ is. ap (λ a. is_some (fin.get (fin.insert items.labels id name) a)) same
          ∙ ap is_some (get_new items.labels id name),
    )
    | inr other ↦
        let alike = ap is_some (get_other items.labels id name x other) in (
          λ some. (kept.labelled x).0 (sym alike ∙ some),
          λ is. alike ∙ (kept.labelled x).1 is,
        )
  ];
  labels_differ = differ_with items.labels id name unused kept.labels_differ;
  maps_held = kept.maps_held;
  names_differ = kept.names_differ;
  no_label = kept.no_label;
  no_dash = kept.no_dash;
}

pub relabel_kept : (w : World) (sort : ItemSort) (id : ℕ) (name : Name) → Parts w
    → IsLive w.graph sort id → IsUnused (attached w sort).labels name
    → Parts (labelled w sort id name)
relabel_kept w Node id name ok is_live unused = record {
  graph_ok = ok.graph_ok;
  nodes_ok = relabelled w.graph Node w.nodes id name is_live unused ok.nodes_ok;
  arcs_ok = ok.arcs_ok;
  guards_ok = ok.guards_ok;
  snapshots_ok = ok.snapshots_ok;
  copies_agree = ok.copies_agree;
  views_stand = ok.views_stand;
  layers_ok = ok.layers_ok;
  attributes_ok = ok.attributes_ok;
  guards_differ = ok.guards_differ;
  snapshots_differ = ok.snapshots_differ;
  views_differ = ok.views_differ;
  attributes_differ = ok.attributes_differ;
}
relabel_kept w Arc id name ok is_live unused = record {
  graph_ok = ok.graph_ok;
  nodes_ok = ok.nodes_ok;
  arcs_ok = relabelled w.graph Arc w.arcs id name is_live unused ok.arcs_ok;
  guards_ok = ok.guards_ok;
  snapshots_ok = ok.snapshots_ok;
  copies_agree = ok.copies_agree;
  views_stand = ok.views_stand;
  layers_ok = ok.layers_ok;
  attributes_ok = ok.attributes_ok;
  guards_differ = ok.guards_differ;
  snapshots_differ = ok.snapshots_differ;
  views_differ = ok.views_differ;
  attributes_differ = ok.attributes_differ;
}
