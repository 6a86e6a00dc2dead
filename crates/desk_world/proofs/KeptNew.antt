-- A world in which a view is kept: its seats come, and its row has their keys.
use Rattle.std.proofs.Common.{◌≡◌, ℕ, zero, suc, true, false, cond, List, [], ◌∷◌, ◌++◌, refl}
use Rattle.std.proofs.Common.{sym, ap, ◌∙◌, subst, Option, Some, None, IfSome}
use Rattle.std.specs.Prelude.{option_map, find}
use Rattle.std.specs.Option.{option_map_or}
use Rattle.std.specs.Str.{bytes_eq}
use Rattle.std.proofs.lemmas.List.{map-append}
use Rattle.base_items.specs.declared.limits.TheConstants.{MAX_LAYERS}
use Rattle.plain_digraph.specs.Lists.{AllOf}
use Rattle.plain_world.specs.Tables.{Name, Named, under, is_named, entry, with_change}
use Rattle.plain_world.specs.Views.{layer_of, layers_up_to}
use Rattle.plain_world.specs.World.{View}
use Rattle.desk_world.specs.declared.tables.ItemTables.{ItemTables}
use Rattle.desk_world.specs.declared.tables.KeptKeys.{KeptKeys}
use Rattle.desk_world.specs.declared.tables.KeptMaps.{KeptMaps}
use Rattle.desk_world.specs.declared.tables.ViewRow.{ViewRow}
use Rattle.desk_world.specs.KeptMaps.{ReadsMaps}
use Rattle.desk_world.specs.KeptViews.{AreKept, IsPlaced}
use Rattle.desk_world.specs.KeptViews.{views_of}
use Rattle.desk_world.specs.Looks.{Look}
use Rattle.desk_world.specs.Plain.{view_of}
use Rattle.desk_world.proofs.KeptRows.{before}
use Rattle.desk_world.proofs.NamedRows.{Stands, IsOther}
use Rattle.desk_world.proofs.Replaced.{changed_stands, rows_replaced}
use Rattle.desk_world.proofs.Seated.{all_both, all_left, all_right, all_so}

-- ---- towers where a view is kept

-- what is read of all under a name stays where a change leaves it
changed_entry : {X Y : Type 0} (read : X → Y) (other : Y) (change : X → X)
    → ((x : X) → read (change x) ≡ read x) → (table : List (Named X)) (name asked : Name)
    → option_map_or read (entry (with_change table name change) asked) other
    ≡ option_map_or read (entry table asked) other
changed_entry read other change same [] name asked = refl
changed_entry {X} {Y} read other change same (e ∷ es) name asked =
    let rest = changed_entry read other change same es name asked in
    elim (is_named name e) as (λ b. option_map_or read (option_map (λ (f : Named X). f.value)
    (find (is_named asked) (cond b (under e.name (change e.value)) e ∷ with_change es name change)))
    other ≡ option_map_or read (entry (e ∷ es) asked) other) [
      | true ↦
          elim (bytes_eq e.name asked) as (λ b. option_map_or read
          (option_map (λ (f : Named X). f.value) (cond b (Some (under e.name (change e.value)))
          (find (is_named asked) (with_change es name change)))) other
          ≡ option_map_or read (option_map (λ (f : Named X). f.value)
          (cond b (Some e) (find (is_named asked) es))) other)
          [ true ↦ same e.value | false ↦ rest ]
      | false ↦
          elim (bytes_eq e.name asked) as (λ b. option_map_or read
          (option_map (λ (f : Named X). f.value)
          (cond b (Some e) (find (is_named asked) (with_change es name change)))) other
          ≡ option_map_or read (option_map (λ (f : Named X). f.value)
          (cond b (Some e) (find (is_named asked) es))) other)
          [ true ↦ refl | false ↦ rest ]
    ]

abbrev pub as_kept : View → View
as_kept v = record v { kept = true }

-- all views have the layers that they had
tower_kept : (views : List (Named View)) (name : Name) (most : ℕ) (other : Name)
    → layers_up_to most (with_change views name as_kept) other ≡ layers_up_to most views other
tower_kept views name zero other = refl
tower_kept views name (suc most) other =
    let now = with_change views name as_kept in
    changed_entry (λ (v : View). layer_of v.layer ∷ layers_up_to most now v.below) [] as_kept
    (λ v. refl) views name other
    ∙ (λ i. option_map_or (λ (v : View). layer_of v.layer ∷ tower_kept views name most v.below i)
    (entry views other) [])

-- ---- the rows

others_as : (name : Name) (rows : List (Named ViewRow)) → AllOf (IsOther name) rows
    → AllOf (IsOther name) (views_of rows)
others_as name [] all = tt
others_as name (e ∷ es) all = (all.0, others_as name es all.1)

module _ (table rows : List (Named ViewRow)) (name : Name) (row now : ViewRow)
    (at : Stands table name row) (change : rows ≡ with_change table name (λ _. now))
    (alike : view_of now ≡ as_kept (view_of row)) where
  abbrev read : Named ViewRow → Named View
  read e = under e.name (view_of e.value)

  pub rows_are : rows ≡ at.front ++ under name now ∷ at.back
  rows_are = rows_replaced table rows name row now at change

  pub views_are : views_of rows ≡ with_change (views_of table) name as_kept
  views_are =
      ap views_of rows_are ∙ map-append read at.front (under name now ∷ at.back)
      ∙ (λ i. views_of at.front ++ under name (alike i) ∷ views_of at.back)
      ∙ sym (ap (λ t. with_change (views_of t) name as_kept) at.is
      ∙ ap (λ t. with_change t name as_kept) (map-append read at.front (under name row ∷ at.back))
      ∙ changed_stands name (view_of row) as_kept (views_of at.front) (views_of at.back)
      (others_as name at.front at.before) (others_as name at.back at.behind))

  -- what holds of the others and of the new row holds of all
  all_now : (P : Named ViewRow → Type 0) → AllOf P table → P (under name now) → AllOf P rows
  all_now P all own =
      let parts = subst (AllOf P) at.is all in
      subst (AllOf P) (sym rows_are)
      (all_both P at.front (under name now ∷ at.back)
      (all_left P at.front (under name row ∷ at.back) parts)
      (own, (all_right P at.front (under name row ∷ at.back) parts).1))

  module _ (look : Look) (nodes arcs : ItemTables) (keys : KeptKeys)
      (kept : now.kept ≡ Some keys) where
    reads_now : (name : Name) (m : KeptMaps) → ReadsMaps nodes arcs (views_of table) name m
        → ReadsMaps nodes arcs (views_of rows) name m
    reads_now other m reads = record {
      layers = reads.layers;
      are = ap (λ views. layers_up_to MAX_LAYERS views other) views_are
          ∙ tower_kept (views_of table) name MAX_LAYERS other ∙ reads.are;
      maps = reads.maps;
    }

    -- the others are kept as before, and the new one reads these maps and is placed
    pub kept_now : AreKept look nodes arcs table
        → ReadsMaps nodes arcs (views_of table) name keys.maps → IsPlaced look keys
        → AreKept look nodes arcs rows
    kept_now before own placed = record {
      reading = all_now (λ (e : Named ViewRow). IfSome e.value.kept
          (λ k. ReadsMaps nodes arcs (views_of rows) e.name k.maps))
          (all_so (λ (e : Named ViewRow). IfSome e.value.kept
          (λ k. ReadsMaps nodes arcs (views_of table) e.name k.maps))
          (λ (e : Named ViewRow). IfSome e.value.kept
          (λ k. ReadsMaps nodes arcs (views_of rows) e.name k.maps))
          (λ e. one e.name e.value.kept) table before.reading)
          (subst (λ o. IfSome o (λ (k : KeptKeys).
          ReadsMaps nodes arcs (views_of rows) name k.maps)) (sym kept)
          (reads_now name keys.maps own));
      placed = all_now (λ (e : Named ViewRow). IfSome e.value.kept (IsPlaced look)) before.placed
          (subst (λ o. IfSome o (IsPlaced look)) (sym kept) placed);
    }
      where
        one : (other : Name) (o : Option KeptKeys)
            → IfSome o (λ k. ReadsMaps nodes arcs (views_of table) other k.maps)
            → IfSome o (λ k. ReadsMaps nodes arcs (views_of rows) other k.maps)
        one other None reads = tt
        one other (Some k) reads = reads_now other k.maps reads
