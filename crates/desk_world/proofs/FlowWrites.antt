-- Flows that are written into a map of the arcs, one arc after the other.
use Rattle.std.proofs.Common.{◌≡◌, ℕ, true, false, cond, List, [], ◌∷◌, map}
use Rattle.std.proofs.Common.{refl, sym, ap, subst, Option, Some, None, ◌∙◌, All, inl, inr, ℤ, pos}
use Rattle.std.specs.Prelude.{◌==◌, IsSome, find, option_map, option_and_then}
use Rattle.std.specs.Prelude.{unwrap_or}
use Rattle.std.specs.Cmp.{nat_cmp_total}
use Rattle.std.specs.FinMap as fin
use Rattle.std.specs.Option.{option_map_or}
use Rattle.std.proofs.lemmas.Bool.{cases_eq, eq-eqb, ne_eqb, true≢false}
use Rattle.std.proofs.lemmas.List.Elements.{All-head, All-tail}
use Rattle.std.proofs.lemmas.Option.{none-some}
use Rattle.base_items.specs.declared.items.ItemSort.TheVariants.{Arc}
use Rattle.script_words.specs.declared.commands.MapType.TheVariants.{Ints as IntType}
use Rattle.plain_digraph.specs.Lists.{has}
use Rattle.plain_digraph.proofs.Keys.{ties_same, ties_other}
use Rattle.plain_world.specs.Effects.{with_maps, with_map_changed}
use Rattle.plain_world.specs.Replies.{int_value}
use Rattle.plain_world.specs.Tables.{Name, Named, under, is_named, entry, with_change}
use Rattle.plain_world.specs.Valid.{IsWorld, IsHeld}
use Rattle.plain_world.specs.Values.{column_of, type_of, int_at}
use Rattle.plain_world.specs.Views.{map_of}
use Rattle.plain_world.specs.World.{World, Column, Held, Ints, Bools, Texts, Degrees, Trues, live}
use Rattle.plain_world.proofs.Named.{live_listed, listed_live}
use Rattle.plain_world.proofs.TableChanges.{own_entry}
use Rattle.desk_world.specs.declared.values.Value.TheVariants.{Int}
use Rattle.desk_world.specs.Flows.{with_ints}
use Rattle.desk_world.specs.Values.{HasType, put_at}
use Rattle.desk_world.proofs.ColumnValues.{at_values}
use Rattle.desk_world.proofs.Columns.{same_column}

-- ---- tables

-- a change after a change
pub change_twice : {X : Type 0} (table : List (Named X)) (name : Name) (f g : X → X)
    → with_change (with_change table name f) name g ≡ with_change table name (λ x. g (f x))
change_twice [] name f g = refl
change_twice {X} (e ∷ es) name f g =
    let rest = change_twice es name f g in
    let then : Named X → Named X = λ x. cond (is_named name x) (under x.name (g x.value)) x in
    let all = with_change (with_change es name f) name g in
    elim (is_named name e) as (λ b. is_named name e ≡ b
    → then (cond b (under e.name (f e.value)) e) ∷ all
    ≡ cond b (under e.name (g (f e.value))) e ∷ with_change es name (λ x. g (f x))) [
      | true ↦ λ is. λ i.
          cond (is i) (under e.name (g (f e.value))) (under e.name (f e.value)) ∷ rest i
      | false ↦ λ is. λ i. cond (is i) (under e.name (g e.value)) e ∷ rest i
    ] refl

-- what stands under a name that is changed
pub entry_changed : {X : Type 0} (table : List (Named X)) (name : Name) (f : X → X)
    → entry (with_change table name f) name ≡ option_map f (entry table name)
entry_changed [] name f = refl
entry_changed {X} (e ∷ es) name f =
    let rest = entry_changed es name f in
    let value : Option (Named X) → Option X = λ o. option_map (λ (x : Named X). x.value) o in
    let later = find (is_named name) (with_change es name f) in
    elim (is_named name e) as (λ b. is_named name e ≡ b
    → value (cond (is_named name (cond b (under e.name (f e.value)) e))
    (Some (cond b (under e.name (f e.value)) e)) later)
    ≡ option_map f (value (cond b (Some e) (find (is_named name) es)))) [
      | true ↦ λ is. λ i. value (cond (is i) (Some (under e.name (f e.value))) later)
      | false ↦ λ is. ap (λ b. value (cond b (Some e) later)) is ∙ rest
    ] refl

-- ---- columns

module _ (items : List ℕ) where
  -- values that are the same at the items
  pub column_alike : (f g : ℕ → ℤ) → ((q : ℕ) → has items q ≡ true → f q ≡ g q)
      → column_of items f ≡ column_of items g
  column_alike f g same =
      same_column (column_of items f) (column_of items g) (λ q.
      at_values f items q
      ∙ elim (has items q) as (λ b. has items q ≡ b
      → cond b (Some (f q)) None ≡ cond b (Some (g q)) None) [
        | true ↦ λ is. ap Some (same q is)
        | false ↦ λ is. refl
      ] refl
      ∙ sym (at_values g items q))

  -- another value at one of the items
  pub column_put : (f : ℕ → ℤ) (id : ℕ) (x : ℤ) → has items id ≡ true
      → fin.insert (column_of items f) id x ≡ column_of items (λ q. cond (id == q) x (f q))
  column_put f id x there =
      let g : ℕ → ℤ = λ q. cond (id == q) x (f q) in
      same_column (fin.insert (column_of items f) id x) (column_of items g) (λ q.
      fin.get-insert nat_cmp_total (column_of items f) id x q
      ∙ elim (cases_eq q id) [
        | inl same ↦
            ap (λ t. cond t (Some x) (fin.get (column_of items f) q)) (ties_same q id same)
            ∙ sym (λ i. cond ((ap (has items) same ∙ there) i)
            (Some (cond (eq-eqb id q (sym same) i) x (f q))) None)
        | inr other ↦
            ap (λ t. cond t (Some x) (fin.get (column_of items f) q)) (ties_other q id other)
            ∙ at_values f items q
            ∙ sym (ap (λ b. cond (has items q) (Some (cond b x (f q))) None)
            (ne_eqb id q (λ e. other (sym e))))
      ]
      ∙ sym (at_values g items q))

-- ---- worlds whose map has ints for the arcs

module _ (world : World) (name : Name) where
  abbrev pub arcs : List ℕ
  arcs = live world Arc

  pub ints_alike : (f g : ℕ → ℤ) → ((q : ℕ) → has arcs q ≡ true → f q ≡ g q)
      → with_ints world name f ≡ with_ints world name g
  ints_alike f g same =
      ap (λ column. with_map_changed world Arc name (λ held. Ints column))
      (column_alike arcs f g same)

  -- others in their place
  pub ints_again : (f g : ℕ → ℤ)
      → with_ints (with_ints world name f) name g ≡ with_ints world name g
  ints_again f g =
      ap (with_maps world Arc)
      (change_twice world.arcs.maps name (λ _. Ints (column_of arcs f))
      (λ _. Ints (column_of arcs g)))

  -- one more is written
  pub ints_put : (f : ℕ → ℤ) (id : ℕ) (x : ℤ) → has arcs id ≡ true
      → with_map_changed (with_ints world name f) Arc name (put_at (Int x) id)
      ≡ with_ints world name (λ q. cond (id == q) x (f q))
  ints_put f id x there =
      ap (with_maps world Arc)
      (change_twice world.arcs.maps name (λ _. Ints (column_of arcs f)) (put_at (Int x) id))
      ∙ ap (λ column. with_map_changed world Arc name (λ held. Ints column))
      (column_put arcs f id x there)

  module _ (typed : HasType world Arc name IntType) where
    -- it is a map of ints still
    pub ints_typed : (f : ℕ → ℤ) → HasType (with_ints world name f) Arc name IntType
    ints_typed f =
        ap (option_and_then type_of)
        (entry_changed world.arcs.maps name (λ _. Ints (column_of arcs f)))
        ∙ by (map_of world Arc name) typed
      where
        by : (o : Option Held) → option_and_then type_of o ≡ Some IntType
            → option_and_then type_of (option_map (λ _. Ints (column_of arcs f)) o) ≡ Some IntType
        by None is = absurd (none-some IntType is)
        by (Some held) is = refl

    module _ (ok : IsWorld world) where
      abbrev pub value : ℕ → ℤ
      value = int_value world Arc name

      own_column : (column : Column ℤ) → map_of world Arc name ≡ Some (Ints column)
          → IsHeld world Arc (Ints column) → column_of arcs value ≡ column
      own_column column found whole =
          same_column (column_of arcs value) column (λ q.
          at_values value arcs q ∙ by q (fin.get column q) refl)
        where
          told : (q : ℕ) → value q ≡ unwrap_or (fin.get column q) (pos 0)
          told q = ap (λ o. option_map_or (λ held. int_at held q) o (pos 0)) found

          by : (q : ℕ) (o : Option ℤ) → fin.get column q ≡ o
              → cond (has arcs q) (Some (value q)) None ≡ o
          by q (Some v) is =
              ap (λ b. cond b (Some (value q)) None)
              (live_listed world Arc q ok.graph_ok ((whole q).1 (subst IsSome (sym is) refl)))
              ∙ ap Some (told q ∙ ap (λ o. unwrap_or o (pos 0)) is)
          by q None is =
              elim (has arcs q) as (λ b. has arcs q ≡ b → cond b (Some (value q)) None ≡ None) [
                | true ↦ λ at. absurd (true≢false (sym (subst IsSome is
                    ((whole q).0 (listed_live world Arc q ok.graph_ok at)))))
                | false ↦ λ at. refl
              ] refl

      own_held : (held : Held) → map_of world Arc name ≡ Some held → IsHeld world Arc held
          → Ints (column_of arcs value) ≡ held
      own_held held found is =
          by held found (sym (ap (option_and_then type_of) found) ∙ typed) is
        where
          by : (held : Held) → map_of world Arc name ≡ Some held → type_of held ≡ Some IntType
              → IsHeld world Arc held → Ints (column_of arcs value) ≡ held
          by (Ints column) found type is = ap Ints (own_column column found is)
          by (Bools column) found type is = absurd (cc)
          by (Texts column) found type is = absurd (cc)
          by (Degrees way) found type is = absurd (none-some IntType type)
          by (Trues map) found type is = absurd (none-some IntType type)

      -- a map of ints has its own values
      pub ints_own : with_ints world name value ≡ world
      ints_own =
          ap (with_maps world Arc) (each world.arcs.maps
          (own_entry world.arcs.maps name ok.arcs_ok.names_differ) ok.arcs_ok.maps_held)
        where
          Own : Named Held → Type 0
          Own e = is_named name e ≡ true → map_of world Arc name ≡ Some e.value

          Holds : Named Held → Type 0
          Holds e = IsHeld world Arc e.value

          each : (rows : List (Named Held)) → All Own rows → All Holds rows
              → with_change rows name (λ _. Ints (column_of arcs value)) ≡ rows
          each [] own holds = refl
          each (e ∷ rows) own holds =
              let rest = each rows (All-tail Own e rows own) (All-tail Holds e rows holds) in
              elim (is_named name e) as (λ b. is_named name e ≡ b
              → cond b (under e.name (Ints (column_of arcs value))) e
              ∷ with_change rows name (λ _. Ints (column_of arcs value)) ≡ e ∷ rows) [
                | true ↦ λ is.
                    let same = own_held e.value (All-head Own e rows own is)
                    (All-head Holds e rows holds) in
                    λ i. under e.name (same i) ∷ rest i
                | false ↦ λ is. λ i. e ∷ rest i
              ] refl
