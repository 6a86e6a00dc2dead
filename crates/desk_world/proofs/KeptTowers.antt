-- The layers of views where a view comes.
use Rattle.std.proofs.Common.{◌≡◌, ℕ, true, false, cond, List, [], ◌∷◌}
use Rattle.std.proofs.Common.{Option, Some, None, IfSome, is_some, refl, sym, ap, ◌∙◌, subst}
use Rattle.std.specs.Prelude.{zero, suc, find, option_map}
use Rattle.std.specs.Option.{option_map_or}
use Rattle.std.specs.Str.{bytes_eq}
use Rattle.std.proofs.lemmas.Bool.{true≢false, or_from}
use Rattle.std.proofs.lemmas.Slice.Eq.{bytes_eq-Decides}
use Rattle.base_items.specs.declared.limits.TheConstants.{MAX_LAYERS}
use Rattle.token_text.specs.Names.{is_among}
use Rattle.lgf_file.proofs.NameLists.{apart_back}
use Rattle.plain_digraph.specs.Lists.{AllOf}
use Rattle.plain_world.specs.Tables.{Name, Named, under, is_named, entry, has_entry, with_entry}
use Rattle.plain_world.specs.Valid.{IsWorld, StandOnOlder}
use Rattle.plain_world.specs.World.{World, View}
use Rattle.plain_world.specs.Views.{base, is_base, layer_of, layers_up_to}
use Rattle.desk_world.specs.declared.tables.ItemTables.{ItemTables}
use Rattle.desk_world.specs.declared.tables.KeptKeys.{KeptKeys}
use Rattle.desk_world.specs.declared.tables.ViewRow.{ViewRow}
use Rattle.desk_world.specs.KeptMaps.{ReadsMaps}
use Rattle.desk_world.specs.KeptViews.{AreKept, AreReading, IsPlaced, NoneStand, views_of}
use Rattle.desk_world.specs.Looks.{Look}
use Rattle.desk_world.specs.Plain.{view_of}
use Rattle.desk_world.proofs.MapsFound.{of_entry}
use Rattle.desk_world.proofs.Seated.{all_both}
use Rattle.desk_world.proofs.ViewRows.{with_as}

-- ---- towers of other names

-- where the same stands under each name but one, on which no view stands, other views have the
-- layers that they had
pub tower_same : (views later : List (Named View)) (name : Name)
    → ((other : Name) → bytes_eq other name ≡ false → entry later other ≡ entry views other)
    → AllOf (λ (e : Named View). bytes_eq e.value.below name ≡ false) views
    → (most : ℕ) (other : Name) → bytes_eq other name ≡ false
    → layers_up_to most later other ≡ layers_up_to most views other
tower_same views later name same alone zero other apart = refl
tower_same views later name same alone (suc most) other apart =
    ap (λ o. option_map_or (λ v. layer_of v.layer ∷ layers_up_to most later v.below) o [])
    (same other apart)
    ∙ by (λ below. tower_same views later name same alone most below) (entry views other) refl
  where
    by : ((below : Name) → bytes_eq below name ≡ false
        → layers_up_to most later below ≡ layers_up_to most views below)
        → (o : Option View) → entry views other ≡ o
        → option_map_or (λ v. layer_of v.layer ∷ layers_up_to most later v.below) o []
        ≡ option_map_or (λ v. layer_of v.layer ∷ layers_up_to most views v.below) o []
    by rest None is = refl
    by rest (Some v) is =
        ap (λ more. layer_of v.layer ∷ more)
        (rest v.below
        (of_entry (λ (x : View). bytes_eq x.below name ≡ false) views other v alone is))

-- with one view more the same stands under all other names
pub other_with : {X : Type 0} (table : List (Named X)) (name : Name) (x : X) (other : Name)
    → bytes_eq other name ≡ false → entry (with_entry table name x) other ≡ entry table other
other_with [] name x other apart =
    elim (bytes_eq name other) as (λ b. bytes_eq name other ≡ b
    → option_map (λ (e : Named _). e.value) (cond b (Some (under name x)) None) ≡ None) [
      | true ↦ λ is.
          absurd (true≢false (sym ((bytes_eq-Decides other name).1
          (sym ((bytes_eq-Decides name other).0 is))) ∙ apart))
      | false ↦ λ is. refl
    ] refl
other_with {X} (e ∷ es) name x other apart =
    let rest = other_with es name x other apart in
    elim (bytes_eq e.name other) as (λ b. option_map (λ (f : Named X). f.value)
    (cond b (Some e) (find (is_named other) (with_entry es name x)))
    ≡ option_map (λ (f : Named X). f.value) (cond b (Some e) (find (is_named other) es))) [
      | true ↦ refl
      | false ↦ rest
    ]

-- ---- the rows of views

-- each row has another name
lacks_name : {X : Type 0} (table : List (Named X)) (name : Name) → has_entry table name ≡ false
    → AllOf (λ (e : Named X). bytes_eq e.name name ≡ false) table
lacks_name [] name none = tt
lacks_name {X} (e ∷ es) name none =
    elim (bytes_eq e.name name) as (λ b. bytes_eq e.name name ≡ b
    → is_some (option_map (λ (f : Named X). f.value)
    (cond b (Some e) (find (is_named name) es))) ≡ false
    → AllOf (λ (f : Named X). bytes_eq f.name name ≡ false) (e ∷ es)) [
      | true ↦ λ is there. absurd (true≢false there)
      | false ↦ λ is there. (is, lacks_name es name there)
    ] refl none

-- where towers of the names of these rows stay, they read what they read
pub reads_on : (nodes arcs : ItemTables) (views later : List (Named View)) (name : Name)
    → ((other : Name) → bytes_eq other name ≡ false
    → layers_up_to MAX_LAYERS later other ≡ layers_up_to MAX_LAYERS views other)
    → (rows : List (Named ViewRow))
    → AllOf (λ (e : Named ViewRow). bytes_eq e.name name ≡ false) rows
    → AreReading nodes arcs views rows → AreReading nodes arcs later rows
reads_on nodes arcs views later name same [] apart reads = tt
reads_on nodes arcs views later name same (e ∷ es) apart reads =
    (one e.value.kept reads.0, reads_on nodes arcs views later name same es apart.1 reads.1)
  where
    one : (kept : Option KeptKeys)
        → IfSome kept (λ keys. ReadsMaps nodes arcs views e.name keys.maps)
        → IfSome kept (λ keys. ReadsMaps nodes arcs later e.name keys.maps)
    one None reads = tt
    one (Some keys) reads = record {
      layers = reads.layers;
      are = same e.name apart.0 ∙ reads.are;
      maps = reads.maps;
    }

-- ---- a view comes, which isn't kept

pub kept_with : (look : Look) (nodes arcs : ItemTables) (rows : List (Named ViewRow)) (name : Name)
    (row : ViewRow) → row.kept ≡ None → has_entry rows name ≡ false
    → NoneStand (views_of rows) name → AreKept look nodes arcs rows
    → AreKept look nodes arcs (with_entry rows name row)
kept_with look nodes arcs rows name row unkept new alone kept =
    let later : List (Named View) = views_of (with_entry rows name row) in
    let now : later ≡ with_entry (views_of rows) name (view_of row) =
    with_as view_of rows name row in
    let own : (P : KeptKeys → Type 0) → IfSome row.kept P = λ P.
    subst (λ o. IfSome o P) (sym unkept) tt in
    record {
      reading = all_both (λ (e : Named ViewRow). IfSome e.value.kept
          (λ keys. ReadsMaps nodes arcs later e.name keys.maps)) rows (under name row ∷ [])
          (reads_on nodes arcs (views_of rows) later name
          (tower_same (views_of rows) later name
          (λ other apart. ap (λ views. entry views other) now
          ∙ other_with (views_of rows) name (view_of row) other apart) alone MAX_LAYERS)
          rows (lacks_name rows name new) kept.reading)
          (own (λ keys. ReadsMaps nodes arcs later name keys.maps), tt);
      placed = all_both (λ (e : Named ViewRow). IfSome e.value.kept (IsPlaced look)) rows
          (under name row ∷ []) kept.placed (own (IsPlaced look), tt);
    }

-- ---- no view stands on a new name

pub stand_alone : (older : List Name) (views : List (Named View)) (name : Name)
    → is_among name older ≡ false → StandOnOlder older views
    → AllOf (λ (e : Named View). bytes_eq e.name name ≡ false) views → NoneStand views name
stand_alone older [] name apart stand names = tt
stand_alone older (e ∷ es) name apart stand names = (
  elim (bytes_eq e.value.below name) as (λ b. bytes_eq e.value.below name ≡ b → b ≡ false) [
    | true ↦ λ is.
        absurd (true≢false (sym stand.0
        ∙ ap (λ n. is_among n older) ((bytes_eq-Decides e.value.below name).0 is) ∙ apart))
    | false ↦ λ is. refl
  ] refl,
  stand_alone (e.name ∷ older) es name
      (or_from (bytes_eq name e.name) (is_among name older)
      (apart_back e.name name names.0) apart)
      stand.1 names.1,
)

pub new_alone : (world : World) (name : Name) → IsWorld world → is_base name ≡ false
    → has_entry world.views name ≡ false → NoneStand world.views name
new_alone world name ok apart new =
    stand_alone (base ∷ []) world.views name
    (or_from (bytes_eq name base) false apart refl) ok.views_stand
    (lacks_name world.views name new)
