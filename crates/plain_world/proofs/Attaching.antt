-- What is attached to the items of a sort, while items come and go.
use Rattle.std.proofs.Common.{◌≡◌, ◌↔◌, ℕ, Bool, true, false, cond, refl, sym, ◌∙◌, ap, subst}
use Rattle.std.proofs.Common.{List, [], ◌∷◌, map, Option, Some, None, is_some, All, inl, inr}
use Rattle.std.specs.Prelude.{pos, find, option_map, option_and_then, IsSome}
use Rattle.std.specs.Option.{option_map_or}
use Rattle.std.specs.Cmp.{nat_cmp_total}
use Rattle.std.specs.Ordering.{nat_cmp}
use Rattle.std.specs.FinMap as fin
use Rattle.std.specs.Str.{bytes_eq}
use Rattle.std.proofs.lemmas.Bool.{cases_eq, true≢false}
use Rattle.std.proofs.lemmas.Option.{none-some, same_Some}
use Rattle.std.proofs.lemmas.List.Elements.{All-cons, All-head, All-tail, All-map, All-weaker}
use Rattle.base_items.specs.declared.items.ItemSort.{ItemSort}
use Rattle.base_items.specs.declared.items.ItemSort.TheVariants.{Node}
use Rattle.token_text.specs.Names.{is_among, has_twice}
use Rattle.lgf_file.specs.Rows.{Cells}
use Rattle.lgf_file.specs.Documents.{label as label_column, dash}
use Rattle.script_words.specs.declared.commands.MapType.{MapType}
use Rattle.script_words.specs.declared.commands.MapType.TheVariants as types
use Rattle.plain_digraph.specs.Digraph.{Digraph}
use Rattle.plain_digraph.specs.Items.{IsLive}
use Rattle.plain_digraph.specs.PlainSteps.{Change, Untouched, Added, Moved, Erased, Cleared}
use Rattle.plain_digraph.proofs.Keys.{ties_same, ties_other, get_new, get_other}
use Rattle.plain_world.specs.Tables.{Name, Named, under, entry}
use Rattle.plain_world.specs.World.{World, Attached, Column, Held, Ints, Bools, Texts, Degrees}
use Rattle.plain_world.specs.World.{Trues, attached}
use Rattle.plain_world.specs.Values.{type_of, written_at}
use Rattle.plain_world.specs.Views.{is_type}
use Rattle.plain_world.specs.Following.{column_after, held_after, labels_after, attached_after}
use Rattle.plain_world.specs.Documents.{with_texts}
use Rattle.plain_world.specs.Valid.{IsWhole, LabelsDiffer, NamesDiffer, IsHeld, IsAttached}
use Rattle.plain_world.proofs.Filtered.{names}

-- ---- the words

-- whether the name is that of a value map of this type
abbrev pub typed : List (Named Held) → MapType → Name → Bool
typed maps type name =
    option_map_or (is_type type) (option_and_then type_of (entry maps name)) false

abbrev pub Holds : Digraph → ItemSort → List (Named Held) → Held → Type 0
Holds g sort maps (Ints column) = IsWhole g sort column
Holds g sort maps (Bools column) = IsWhole g sort column
Holds g sort maps (Texts column) = IsWhole g sort column
Holds g sort maps (Degrees way) = sort ≡ Node
Holds g sort maps (Trues map) = typed maps types.Bools map ≡ true

-- what holds of what is attached, where one item at most has no label yet
pub record IsKept (g : Digraph) (sort : ItemSort) (fresh : Option ℕ) (items : Attached) : Type 0
  where
    pub labelled : (id : ℕ) → IsSome (fin.get items.labels id)
        ↔ (IsLive g sort id × (fresh ≡ Some id → ⊥))
    pub labels_differ : LabelsDiffer items.labels
    pub maps_held : All (λ e. Holds g sort items.maps e.value) items.maps
    pub names_differ : NamesDiffer items.maps
    pub no_label : is_among label_column (names items.maps) ≡ false
    pub no_dash : is_among dash (names items.maps) ≡ false

-- the live items of a sort before and after a change
abbrev pub Follows : Digraph → Digraph → ItemSort → Change → Type 0
Follows g h sort (Added id) = (IsLive g sort id → ⊥) × IsLive h sort id
    × ((x : ℕ) → (x ≡ id → ⊥) → IsLive h sort x ↔ IsLive g sort x)
Follows g h sort (Erased id) = (IsLive h sort id → ⊥)
    × ((x : ℕ) → (x ≡ id → ⊥) → IsLive h sort x ↔ IsLive g sort x)
Follows g h sort (Cleared count) = (x : ℕ) → IsLive h sort x → ⊥
Follows g h sort _ = (x : ℕ) → IsLive h sort x ↔ IsLive g sort x

abbrev pub fresh_after : Change → Option ℕ → Option ℕ
fresh_after (Added id) fresh = Some id
fresh_after _ fresh = fresh

-- an item without a label stays so while others move only
abbrev pub Allows : Change → Option ℕ → Type 0
Allows (Added id) fresh = fresh ≡ None
Allows (Erased id) fresh = fresh ≡ None
Allows (Cleared count) fresh = fresh ≡ None
Allows _ fresh = Unit {0}

-- ---- tables alike

-- the same names with maps of the same types
abbrev pub Alike : List (Named Held) → List (Named Held) → Type 0
Alike [] [] = Unit {0}
Alike (e ∷ es) (f ∷ fs) =
    (e.name ≡ f.name) × (type_of e.value ≡ type_of f.value) × Alike es fs
Alike _ _ = ⊥

pub names_alike : (maps other : List (Named Held)) → Alike maps other → names maps ≡ names other
names_alike [] [] alike = refl
names_alike (e ∷ es) (f ∷ fs) alike =
    let rest = names_alike es fs alike.2 in
    λ i. alike.0 i ∷ rest i
names_alike [] (f ∷ fs) alike = absurd alike
names_alike (e ∷ es) [] alike = absurd alike

types_alike : (maps other : List (Named Held)) (name : Name) → Alike maps other
    → option_and_then type_of (entry maps name) ≡ option_and_then type_of (entry other name)
types_alike [] [] name alike = refl
types_alike (e ∷ es) (f ∷ fs) name alike =
    let rest = types_alike es fs name alike.2 in
    let same : bytes_eq e.name name ≡ bytes_eq f.name name = ap (λ n. bytes_eq n name) alike.0 in
    let here : Bool → List (Named Held) → Named Held → Option MapType = λ b table first.
    option_and_then type_of (option_map (λ (e : Named Held). e.value)
    (cond b (Some first) (find (λ (e : Named Held). bytes_eq e.name name) table))) in
    ap (λ b. here b es e) same
    ∙ elim (bytes_eq f.name name) as (λ b. here b es e ≡ here b fs f) [
      | true ↦ alike.1
      | false ↦ rest
    ]
types_alike [] (f ∷ fs) name alike = absurd alike
types_alike (e ∷ es) [] name alike = absurd alike

pub typed_alike : (maps other : List (Named Held)) (type : MapType) (name : Name) → Alike maps other
    → typed maps type name ≡ typed other type name
typed_alike maps other type name alike =
    ap (λ found. option_map_or (is_type type) found false) (types_alike maps other name alike)

-- what is held goes over to a table that is alike
held_alike : (g : Digraph) (sort : ItemSort) (maps other : List (Named Held)) (held : Held)
    → Alike maps other → Holds g sort other held → Holds g sort maps held
held_alike g sort maps other (Ints column) alike holds = holds
held_alike g sort maps other (Bools column) alike holds = holds
held_alike g sort maps other (Texts column) alike holds = holds
held_alike g sort maps other (Degrees way) alike holds = holds
held_alike g sort maps other (Trues map) alike holds =
    typed_alike maps other types.Bools map alike ∙ holds

-- the tables with their maps changed
pub kept_with : (g : Digraph) (sort : ItemSort) (fresh : Option ℕ) (items : Attached)
    (maps : List (Named Held)) → IsKept g sort fresh items → Alike maps items.maps
    → All (λ e. Holds g sort items.maps e.value) maps
    → IsKept g sort fresh (record items { maps = maps })
kept_with g sort fresh items maps kept alike held =
    let same = names_alike maps items.maps alike in
    record {
      labelled = kept.labelled;
      labels_differ = kept.labels_differ;
      maps_held = All-weaker (λ e. Holds g sort items.maps e.value) (λ e. Holds g sort maps e.value)
          (λ e holds. held_alike g sort maps items.maps e.value alike holds) maps held;
      names_differ = ap has_twice same ∙ kept.names_differ;
      no_label = ap (is_among label_column) same ∙ kept.no_label;
      no_dash = ap (is_among dash) same ∙ kept.no_dash;
    }

-- ---- values

gone : {X : Type 0} (column : Column X) (id : ℕ) → fin.get (fin.remove column id) id ≡ None
gone column id =
    fin.get-remove nat_cmp_total column id id
    ∙ ap (λ b. cond b None (fin.get column id)) (ties_same id id refl)

left : {X : Type 0} (column : Column X) (id q : ℕ) → (q ≡ id → ⊥)
    → fin.get (fin.remove column id) q ≡ fin.get column q
left column id q other =
    fin.get-remove nat_cmp_total column id q
    ∙ ap (λ b. cond b None (fin.get column q)) (ties_other q id other)

none_some : {X : Type 0} {Y : Type 0} (o : Option X) → o ≡ None → is_some o ≡ true → Y
none_some o none some = absurd (true≢false (sym some ∙ ap is_some none))

no_value : (X : Type 0) (id : ℕ) → fin.get (fin.empty {X = X} {R = nat_cmp}) id ≡ None
no_value X id = fin.get-empty nat_cmp id

module _ (g h : Digraph) (sort : ItemSort) where
  whole_after : {X : Type 0} (change : Change) (default : X) (column : Column X)
      → Follows g h sort change → IsWhole g sort column
      → IsWhole h sort (column_after default change column)
  whole_after (Added id) default column follows whole x = elim (cases_eq x id) [
    | inl same ↦ (
      λ live. ap (λ a. is_some (fin.get (fin.insert column id default) a)) same
          ∙ ap is_some (get_new column id default),
      λ some. subst (IsLive h sort) (sym same) follows.1,
    )
    | inr other ↦
        let alike = ap is_some (get_other column id default x other) in
        let live = follows.2 x other in
        (λ is. alike ∙ (whole x).0 (live.0 is), λ some. live.1 ((whole x).1 (sym alike ∙ some)))
  ]
  whole_after (Erased id) default column follows whole x = elim (cases_eq x id) [
    | inl same ↦ (
      λ live. absurd (follows.0 (subst (IsLive h sort) same live)),
      λ some. none_some (fin.get (fin.remove column id) x)
          (ap (fin.get (fin.remove column id)) same ∙ gone column id) some,
    )
    | inr other ↦
        let alike = ap is_some (left column id x other) in
        let live = follows.1 x other in
        (λ is. alike ∙ (whole x).0 (live.0 is), λ some. live.1 ((whole x).1 (sym alike ∙ some)))
  ]
  whole_after {X} (Cleared count) default column follows whole x = (
    λ live. absurd (follows x live),
    λ some. none_some (fin.get (fin.empty {X = X} {R = nat_cmp}) x) (no_value X x) some,
  )
  whole_after Moved default column follows whole x = (
    λ is. (whole x).0 ((follows x).0 is),
    λ some. (follows x).1 ((whole x).1 some),
  )
  whole_after Untouched default column follows whole x = (
    λ is. (whole x).0 ((follows x).0 is),
    λ some. (follows x).1 ((whole x).1 some),
  )

  held_stays : (change : Change) (maps : List (Named Held)) (held : Held) → Follows g h sort change
      → Holds g sort maps held → Holds h sort maps (held_after change held)
  held_stays change maps (Ints column) follows holds =
      whole_after change (pos 0) column follows holds
  held_stays change maps (Bools column) follows holds =
      whole_after change false column follows holds
  held_stays change maps (Texts column) follows holds = whole_after change [] column follows holds
  held_stays change maps (Degrees way) follows holds = holds
  held_stays change maps (Trues map) follows holds = holds

type_stays : (change : Change) (held : Held) → type_of (held_after change held) ≡ type_of held
type_stays change (Ints column) = refl
type_stays change (Bools column) = refl
type_stays change (Texts column) = refl
type_stays change (Degrees way) = refl
type_stays change (Trues map) = refl

pub alike_after : (change : Change) (maps : List (Named Held))
    → Alike (map (λ e. under e.name (held_after change e.value)) maps) maps
alike_after change [] = tt
alike_after change (e ∷ es) = (refl, type_stays change e.value, alike_after change es)

-- ---- labels

some_label : {Y : Type 0} (o : Option ℕ) (id : ℕ) → o ≡ None → o ≡ Some id → Y
some_label o id none some = absurd (none-some id (sym none ∙ some))

pub label_left : (labels : Column Name) (id x : ℕ) (name : Name)
    → fin.get (fin.remove labels id) x ≡ Some name → fin.get labels x ≡ Some name
label_left labels id x name is = elim (cases_eq x id) [
  | inl same ↦ absurd (none-some name
      (sym (ap (fin.get (fin.remove labels id)) same ∙ gone labels id) ∙ is))
  | inr other ↦ sym (left labels id x other) ∙ is
]

differ_after : (change : Change) (labels : Column Name) → LabelsDiffer labels
    → LabelsDiffer (labels_after change labels)
differ_after (Erased old) labels differ id other name is also =
    differ id other name (label_left labels old id name is) (label_left labels old other name also)
differ_after (Cleared count) labels differ id other name is also =
    absurd (none-some name (sym (no_value Name id) ∙ is))
differ_after (Added new) labels differ id other name is also = differ id other name is also
differ_after Moved labels differ id other name is also = differ id other name is also
differ_after Untouched labels differ id other name is also = differ id other name is also

abbrev AreLabelled : Digraph → ItemSort → Option ℕ → Column Name → Type 0
AreLabelled g sort fresh labels = (id : ℕ) → IsSome (fin.get labels id)
    ↔ (IsLive g sort id × (fresh ≡ Some id → ⊥))

module _ (g h : Digraph) (sort : ItemSort) where
  labelled_after : (change : Change) (fresh : Option ℕ) (labels : Column Name)
      → Follows g h sort change → Allows change fresh → AreLabelled g sort fresh labels
      → AreLabelled h sort (fresh_after change fresh) (labels_after change labels)
  labelled_after (Added new) fresh labels follows none labelled id = (
    λ some.
        let was = (labelled id).0 some in
        let other : id ≡ new → ⊥ = λ same. follows.0 (subst (IsLive g sort) same was.0) in
        ((follows.2 id other).1 was.0, λ e. other (sym (same_Some new id e))),
    λ is.
        let other : id ≡ new → ⊥ = λ same. is.1 (ap Some (sym same)) in
        (labelled id).1 ((follows.2 id other).0 is.0, λ e. some_label fresh id none e),
  )
  labelled_after (Erased old) fresh labels follows none labelled id = elim (cases_eq id old) [
    | inl same ↦ (
      λ some. none_some (fin.get (fin.remove labels old) id)
          (ap (fin.get (fin.remove labels old)) same ∙ gone labels old) some,
      λ is. absurd (follows.0 (subst (IsLive h sort) same is.0)),
    )
    | inr other ↦
        let alike = ap is_some (left labels old id other) in
        let live = follows.1 id other in (
          λ some. let was = (labelled id).0 (sym alike ∙ some) in (live.1 was.0, was.1),
          λ is. alike ∙ (labelled id).1 (live.0 is.0, is.1),
        )
  ]
  labelled_after (Cleared count) fresh labels follows none labelled id = (
    λ some. none_some (fin.get (fin.empty {X = Name} {R = nat_cmp}) id) (no_value Name id) some,
    λ is. absurd (follows id is.0),
  )
  labelled_after Moved fresh labels follows allows labelled id = (
    λ some. let was = (labelled id).0 some in ((follows id).1 was.0, was.1),
    λ is. (labelled id).1 ((follows id).0 is.0, is.1),
  )
  labelled_after Untouched fresh labels follows allows labelled id = (
    λ some. let was = (labelled id).0 some in ((follows id).1 was.0, was.1),
    λ is. (labelled id).1 ((follows id).0 is.0, is.1),
  )

  -- what is attached follows a change
  pub kept_after : (change : Change) (fresh : Option ℕ) (items : Attached)
      → Follows g h sort change → Allows change fresh → IsKept g sort fresh items
      → IsKept h sort (fresh_after change fresh) (attached_after change items)
  kept_after change fresh items follows allows kept =
      let maps = map (λ e. under e.name (held_after change e.value)) items.maps in
      let alike = alike_after change items.maps in
      let same = names_alike maps items.maps alike in
      record {
        labelled = labelled_after change fresh items.labels follows allows kept.labelled;
        labels_differ = differ_after change items.labels kept.labels_differ;
        maps_held =
            All-map (λ e. Holds h sort maps e.value)
            (λ (e : Named Held). under e.name (held_after change e.value)) items.maps
            (All-weaker (λ e. Holds g sort items.maps e.value)
            (λ e. Holds h sort maps (held_after change e.value))
            (λ e holds. held_alike h sort maps items.maps (held_after change e.value) alike
            (held_stays g h sort change items.maps e.value follows holds))
            items.maps kept.maps_held);
        names_differ = ap has_twice same ∙ kept.names_differ;
        no_label = ap (is_among label_column) same ∙ kept.no_label;
        no_dash = ap (is_among dash) same ∙ kept.no_dash;
      }

-- ---- an item is described

pub whole_with : {X : Type 0} (g : Digraph) (sort : ItemSort) (column : Column
    X) (id : ℕ) (value : X)
    → IsLive g sort id → IsWhole g sort column → IsWhole g sort (fin.insert column id value)
whole_with g sort column id value live whole x = elim (cases_eq x id) [
  | inl same ↦ (
    λ is. ap (λ a. is_some (fin.get (fin.insert column id value) a)) same
        ∙ ap is_some (get_new column id value),
    λ some. subst (IsLive g sort) (sym same) live,
  )
  | inr other ↦
      let alike = ap is_some (get_other column id value x other) in
      (λ is. alike ∙ (whole x).0 is, λ some. (whole x).1 (sym alike ∙ some))
]

pub written_held : (g : Digraph) (sort : ItemSort) (maps : List (Named Held)) (id : ℕ) (held : Held)
    (text : List ℕ) → IsLive g sort id → Holds g sort maps held
    → Holds g sort maps (written_at held id text)
written_held g sort maps id (Ints column) text live holds =
    whole_with g sort column id _ live holds
written_held g sort maps id (Bools column) text live holds =
    whole_with g sort column id _ live holds
written_held g sort maps id (Texts column) text live holds =
    whole_with g sort column id text live holds
written_held g sort maps id (Degrees way) text live holds = holds
written_held g sort maps id (Trues map) text live holds = holds

pub written_type : (held : Held) (id : ℕ) (text : List ℕ)
    → type_of (written_at held id text) ≡ type_of held
written_type (Ints column) id text = refl
written_type (Bools column) id text = refl
written_type (Texts column) id text = refl
written_type (Degrees way) id text = refl
written_type (Trues map) id text = refl

pub alike_itself : (maps : List (Named Held)) → Alike maps maps
alike_itself [] = tt
alike_itself (e ∷ es) = (refl, refl, alike_itself es)

texts_alike : (maps : List (Named Held)) (id : ℕ) (texts : Cells)
    → Alike (with_texts maps id texts) maps
texts_alike [] id texts = tt
texts_alike (e ∷ es) id [] = alike_itself (e ∷ es)
texts_alike (e ∷ es) id (text ∷ texts) =
    (refl, written_type e.value id text, texts_alike es id texts)

texts_held : (g : Digraph) (sort : ItemSort) (all maps : List (Named Held)) (id : ℕ) (texts : Cells)
    → IsLive g sort id → All (λ e. Holds g sort all e.value) maps
    → All (λ e. Holds g sort all e.value) (with_texts maps id texts)
texts_held g sort all [] id texts live held = held
texts_held g sort all (e ∷ es) id [] live held = held
texts_held g sort all (e ∷ es) id (text ∷ texts) live held =
    let P : Named Held → Type 0 = λ e. Holds g sort all e.value in
    All-cons P (under e.name (written_at e.value id text)) (with_texts es id texts)
    (written_held g sort all id e.value text live (All-head P e es held))
    (texts_held g sort all es id texts live (All-tail P e es held))

-- an item has texts in the maps
pub kept_texts : (g : Digraph) (sort : ItemSort) (fresh : Option ℕ) (items : Attached) (id : ℕ)
    (texts : Cells) → IsLive g sort id → IsKept g sort fresh items
    → IsKept g sort fresh (record items { maps = with_texts items.maps id texts })
kept_texts g sort fresh items id texts live kept =
    kept_with g sort fresh items (with_texts items.maps id texts) kept
    (texts_alike items.maps id texts)
    (texts_held g sort items.maps items.maps id texts live kept.maps_held)

-- no item has the label
abbrev pub IsUnused : Column Name → Name → Type 0
IsUnused labels name = (id : ℕ) → fin.get labels id ≡ Some name → ⊥

pub differ_with : (labels : Column Name) (new : ℕ) (name : Name) → IsUnused labels name
    → LabelsDiffer labels → LabelsDiffer (fin.insert labels new name)
differ_with labels new name unused differ id other own is also =
    elim (cases_eq id new) [
      | inl here ↦
          elim (cases_eq other new) [
            | inl there ↦ here ∙ sym there
            | inr apart ↦
                let named = same_Some name own (sym (get_new labels new name)
                ∙ (ap (fin.get (fin.insert labels new name)) (sym here) ∙ is)) in
                absurd (unused other
                (sym (get_other labels new name other apart) ∙ (also ∙ ap Some (sym named))))
          ]
      | inr apart ↦
          elim (cases_eq other new) [
            | inl there ↦
                let named = same_Some name own (sym (get_new labels new name)
                ∙ (ap (fin.get (fin.insert labels new name)) (sym there) ∙ also)) in
                absurd (unused id
                (sym (get_other labels new name id apart) ∙ (is ∙ ap Some (sym named))))
            | inr also_apart ↦
                differ id other own (sym (get_other labels new name id apart) ∙ is)
                (sym (get_other labels new name other also_apart) ∙ also)
          ]
    ]

-- the item that has no label yet gets one
pub kept_labelled : (g : Digraph) (sort : ItemSort) (items : Attached) (new : ℕ) (name : Name)
    → IsLive g sort new → IsUnused items.labels name → IsKept g sort (Some new) items
    → IsKept g sort None (record items { labels = fin.insert items.labels new name })
kept_labelled g sort items new name live unused kept =
    let labels = items.labels in
    record {
      labelled = λ id. elim (cases_eq id new) [
        | inl same ↦ (
          λ some. (subst (IsLive g sort) (sym same) live, λ e. none-some id e),
          λ is. ap (λ a. is_some (fin.get (fin.insert labels new name) a)) same
              ∙ ap is_some (get_new labels new name),
        )
        | inr other ↦
            let alike = ap is_some (get_other labels new name id other) in (
              λ some. (((kept.labelled id).0 (sym alike ∙ some)).0, λ e. none-some id e),
              λ is. alike
                  ∙ (kept.labelled id).1 (is.0, λ e. other (sym (same_Some new id e))),
            )
      ];
      labels_differ = differ_with labels new name unused kept.labels_differ;
      maps_held = kept.maps_held;
      names_differ = kept.names_differ;
      no_label = kept.no_label;
      no_dash = kept.no_dash;
    }

-- ---- back to a world

held_there : (world : World) (sort : ItemSort) (held : Held)
    → Holds world.graph sort (attached world sort).maps held → IsHeld world sort held
held_there world sort (Ints column) holds = holds
held_there world sort (Bools column) holds = holds
held_there world sort (Texts column) holds = holds
held_there world sort (Degrees way) holds = holds
held_there world sort (Trues map) holds = holds

held_here : (world : World) (sort : ItemSort) (held : Held) → IsHeld world sort held
    → Holds world.graph sort (attached world sort).maps held
held_here world sort (Ints column) holds = holds
held_here world sort (Bools column) holds = holds
held_here world sort (Texts column) holds = holds
held_here world sort (Degrees way) holds = holds
held_here world sort (Trues map) holds = holds

pub to_attached : (world : World) (sort : ItemSort)
    → IsKept world.graph sort None (attached world sort) → IsAttached world sort
to_attached world sort kept = record {
  labelled = λ id. (
    λ live. (kept.labelled id).1 (live, λ e. none-some id e),
    λ some. ((kept.labelled id).0 some).0,
  );
  labels_differ = kept.labels_differ;
  maps_held = All-weaker (λ e. Holds world.graph sort (attached world sort).maps e.value)
      (λ e. IsHeld world sort e.value) (λ e holds. held_there world sort e.value holds)
      (attached world sort).maps kept.maps_held;
  names_differ = kept.names_differ;
  no_label = kept.no_label;
  no_dash = kept.no_dash;
}

pub from_attached : (world : World) (sort : ItemSort) → IsAttached world sort
    → IsKept world.graph sort None (attached world sort)
from_attached world sort items = record {
  labelled = λ id. (
    λ some. ((items.labelled id).1 some, λ e. none-some id e),
    λ is. (items.labelled id).0 is.0,
  );
  labels_differ = items.labels_differ;
  maps_held = All-weaker (λ e. IsHeld world sort e.value)
      (λ e. Holds world.graph sort (attached world sort).maps e.value)
      (λ e holds. held_here world sort e.value holds) (attached world sort).maps items.maps_held;
  names_differ = items.names_differ;
  no_label = items.no_label;
  no_dash = items.no_dash;
}
