-- A table of maps after one of its seats has changed, one came or one went.
use Rattle.std.proofs.Common.{◌≡◌, true, false, cond, List, [], ◌∷◌, refl, sym}
use Rattle.std.proofs.Common.{ap}
use Rattle.std.proofs.Common.{Option, Some, None, ◌∙◌, not}
use Rattle.std.specs.Prelude.{option_map}
use Rattle.std.specs.List.{cons_option}
use Rattle.std.specs.Str.{bytes_eq}
use Rattle.plain_digraph.specs.Lists.{AllOf}
use Rattle.plain_world.specs.Tables.{Name, Named, under, with_entry}
use Rattle.plain_world.specs.Tables.{with_change, without_entry}
use Rattle.desk_world.specs.Looks.{looked}

-- ---- rows of any kind

module _ {X Y : Type 0} (look later : X → Option Y) where
  -- rows that lead to the same as before
  pub same_rows : (table : List (Named X))
      → AllOf (λ (e : Named X). later e.value ≡ look e.value) table
      → looked later table ≡ looked look table
  same_rows [] all = refl
  same_rows (e ∷ es) all =
      let rest = same_rows es all.1 in
      λ i. cons_option (option_map (under e.name) (all.0 i)) (rest i)

module _ {X Y : Type 0} (look : X → Option Y) where
  -- a row more
  pub looked_more : (table : List (Named X)) (name : Name) (row : X) (y : Y) → look row ≡ Some y
      → looked look (with_entry table name row) ≡ with_entry (looked look table) name y
  looked_more [] name row y is = ap (λ o. cons_option (option_map (under name) o) []) is
  looked_more (e ∷ es) name row y is =
      let rest = looked_more es name row y is in
      by (option_map (under e.name) (look e.value)) rest
    where
      by : (o : Option (Named Y))
          → looked look (with_entry es name row) ≡ with_entry (looked look es) name y
          → cons_option o (looked look (with_entry es name row))
          ≡ with_entry (cons_option o (looked look es)) name y
      by None rest = rest
      by (Some f) rest = ap (λ more. f ∷ more) rest

  -- a row less
  pub looked_less : (table : List (Named X)) (name : Name)
      → looked look (without_entry table name) ≡ without_entry (looked look table) name
  looked_less [] name = refl
  looked_less (e ∷ es) name =
      let rest = looked_less es name in
      elim (bytes_eq e.name name) as (λ b. bytes_eq e.name name ≡ b
      → looked look (cond (not b) (e ∷ without_entry es name) (without_entry es name))
      ≡ without_entry (looked look (e ∷ es)) name) [
        | true ↦ λ is. rest ∙ sym (gone (look e.value) is)
        | false ↦ λ is.
            ap (cons_option (option_map (under e.name) (look e.value))) rest
            ∙ sym (stays (look e.value) is)
      ] refl
    where
      gone : (o : Option Y) → bytes_eq e.name name ≡ true
          → without_entry (cons_option (option_map (under e.name) o) (looked look es)) name
          ≡ without_entry (looked look es) name
      gone None is = refl
      gone (Some y) is =
          ap (λ b. cond (not b) (under e.name y ∷ without_entry (looked look es) name)
          (without_entry (looked look es) name)) is

      stays : (o : Option Y) → bytes_eq e.name name ≡ false
          → without_entry (cons_option (option_map (under e.name) o) (looked look es)) name
          ≡ cons_option (option_map (under e.name) o) (without_entry (looked look es) name)
      stays None is = refl
      stays (Some y) is =
          ap (λ b. cond (not b) (under e.name y ∷ without_entry (looked look es) name)
          (without_entry (looked look es) name)) is

-- ---- one row that leads to something else

-- where a row of the name leads, the change was made; the others lead to the same as before
abbrev pub ChangesAt : {X Y : Type 0} → (X → Option Y) → (X → Option Y) → Name → (Y → Y)
    → Named X → Type 0
ChangesAt look later name change e =
    later e.value ≡ cond (bytes_eq e.name name) (option_map change (look e.value)) (look e.value)

module _ {X Y : Type 0} (look later : X → Option Y) (name : Name) (change : Y → Y) where
  pub looked_changed : (table : List (Named X))
      → AllOf (ChangesAt look later name change) table
      → looked later table ≡ with_change (looked look table) name change
  looked_changed [] all = refl
  looked_changed (e ∷ es) all =
      let rest = looked_changed es all.1 in
      ap (λ o. cons_option (option_map (under e.name) o) (looked later es)) all.0
      ∙ ap (cons_option (option_map (under e.name)
      (cond (bytes_eq e.name name) (option_map change (look e.value)) (look e.value)))) rest
      ∙ by (look e.value)
    where
      by : (o : Option Y)
          → cons_option (option_map (under e.name)
          (cond (bytes_eq e.name name) (option_map change o) o))
          (with_change (looked look es) name change)
          ≡ with_change (cons_option (option_map (under e.name) o) (looked look es)) name change
      by None =
          elim (bytes_eq e.name name) as (λ b. cons_option (option_map (under e.name)
          (cond b (option_map change None) None)) (with_change (looked look es) name change)
          ≡ with_change (looked look es) name change) [
            | true ↦ refl
            | false ↦ refl
          ]
      by (Some y) =
          elim (bytes_eq e.name name) as (λ b. cons_option (option_map (under e.name)
          (cond b (option_map change (Some y)) (Some y))) (with_change (looked look es) name change)
          ≡ cond b (under e.name (change y)) (under e.name y)
          ∷ with_change (looked look es) name change) [
            | true ↦ refl
            | false ↦ refl
          ]
