-- What holds of maps by their numbers, in any world.
use Rattle.std.proofs.Common.{◌≡◌, ℕ, Bool, true, false, cond, List, refl, sym, ap, ◌∙◌}
use Rattle.std.proofs.Common.{subst, Option, None, Some}
use Rattle.std.specs.Prelude.{option_map, option_and_then, slice_get}
use Rattle.std.specs.List.{position_or_len}
use Rattle.std.specs.Option.{option_map_or}
use Rattle.std.proofs.lemmas.Bool.{true≢false}
use Rattle.std.proofs.lemmas.List.Folds.{find_at}
use Rattle.std.proofs.lemmas.Option.{none-some, same_Some}
use Rattle.base_items.specs.declared.items.ItemSort.{ItemSort}
use Rattle.base_items.specs.declared.items.ItemSort.TheVariants as sorts
use Rattle.script_words.specs.declared.commands.MapType.{MapType}
use Rattle.script_words.specs.declared.commands.MapType.TheVariants as types
use Rattle.plain_world.specs.Tables.{Name, Named, is_named, entry}
use Rattle.plain_world.specs.World.{World, Held, attached}
use Rattle.plain_world.specs.Values.{type_of}
use Rattle.plain_world.specs.Views.{is_type, has_type}
use Rattle.desk_world.specs.MapNumbers.{number_of, map_at, is_of_type, numbers_type, partner_by}
use Rattle.desk_world.specs.MapNumbers.{numbered}

-- what stands at the number of a name is what stands under it
pub at_number : {X : Type 0} (table : List (Named X)) (name : Name)
    → option_map (λ (e : Named X). e.value)
    (slice_get table (position_or_len (is_named name) table)) ≡ entry table name
at_number table name =
    ap (option_map (λ e. e.value)) (sym (find_at (is_named name) table))

-- one type alone passes
pub one_type : (type other : MapType) → is_type type other ≡ true → type ≡ other
one_type types.Ints types.Ints is = refl
one_type types.Bools types.Bools is = refl
one_type types.Texts types.Texts is = refl
one_type types.Ints types.Bools is = absurd (true≢false (sym is))
one_type types.Ints types.Texts is = absurd (true≢false (sym is))
one_type types.Bools types.Ints is = absurd (true≢false (sym is))
one_type types.Bools types.Texts is = absurd (true≢false (sym is))
one_type types.Texts types.Ints is = absurd (true≢false (sym is))
one_type types.Texts types.Bools is = absurd (true≢false (sym is))

module _ (world : World) where
  -- a map has values of the type by its number exactly where it has them by its name
  pub type_by_number : (type : MapType) (sort : ItemSort) (name : Name)
      → numbers_type world type sort (number_of world sort name) ≡ has_type world sort type name
  type_by_number type sort name =
      by (map_at world sort (number_of world sort name))
      ∙ ap (λ o. option_map_or (is_type type) (option_and_then type_of o) false)
      (at_number (attached world sort).maps name)
    where
      by : (o : Option (Named Held)) → option_map_or (is_of_type world type) o false
          ≡ option_map_or (is_type type)
          (option_and_then type_of (option_map (λ (e : Named Held). e.value) o)) false
      by None = refl
      by (Some e) = refl

  -- no number is that of maps of two types
  pub types_differ : (sort : ItemSort) (number : ℕ)
      → numbers_type world types.Ints sort number ≡ true
      → numbers_type world types.Bools sort number ≡ false
  types_differ sort number is = by (map_at world sort number) is
    where
      of : (o : Option MapType) → option_map_or (is_type types.Ints) o false ≡ true
          → option_map_or (is_type types.Bools) o false ≡ false
      of None is = refl
      of (Some types.Ints) is = refl
      of (Some types.Bools) is = absurd (true≢false (sym is))
      of (Some types.Texts) is = refl

      by : (o : Option (Named Held)) → option_map_or (is_of_type world types.Ints) o false ≡ true
          → option_map_or (is_of_type world types.Bools) o false ≡ false
      by None is = refl
      by (Some e) is = of (type_of e.value) is

  -- the partner of a map has values of the same type
  pub partner_typed : (type : MapType) (map partner : ℕ)
      → numbers_type world type sorts.Arc map ≡ true
      → (numbered world).partner map ≡ Some partner
      → numbers_type world type sorts.Node partner ≡ true
  partner_typed type map partner is found = by (map_at world sorts.Arc map) is found
    where
      there : (type : MapType) (name : Name) (b : Bool) → has_type world sorts.Node type name ≡ b
          → cond b (Some (number_of world sorts.Node name)) None ≡ Some partner
          → numbers_type world type sorts.Node partner ≡ true
      there type name true has found =
          ap (numbers_type world type sorts.Node)
          (sym (same_Some (number_of world sorts.Node name) partner found))
          ∙ type_by_number type sorts.Node name ∙ has
      there type name false has found = absurd (none-some partner found)

      of : (name : Name) (o : Option MapType) → option_map_or (is_type type) o false ≡ true
          → option_and_then (λ own. cond (has_type world sorts.Node own name)
          (Some (number_of world sorts.Node name)) None) o ≡ Some partner
          → numbers_type world type sorts.Node partner ≡ true
      of name None is found = absurd (true≢false (sym is))
      of name (Some own) is found =
          let same = one_type type own is in
          subst (λ t. numbers_type world t sorts.Node partner ≡ true) (sym same)
          (there own name (has_type world sorts.Node own name) refl found)

      by : (o : Option (Named Held)) → option_map_or (is_of_type world type) o false ≡ true
          → option_and_then (partner_by world) o ≡ Some partner
          → numbers_type world type sorts.Node partner ≡ true
      by None is found = absurd (none-some partner found)
      by (Some e) is found = of e.name (type_of e.value) is found
