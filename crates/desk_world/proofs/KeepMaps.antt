-- The seats of the maps that the layers of a view name.
use Rattle.std.proofs.Common.{◌≡◌, true, false, Option, Some, None, IfSome, IfNone, refl, sym, ap}
use Rattle.std.proofs.Common.{◌∙◌, subst}
use Rattle.std.proofs.Common.{List, [], ◌∷◌, map}
use Rattle.std.specs.Prelude.{option_and_then}
use Rattle.std.specs.List.{AllByRecursion}
use Rattle.std.specs.Option.{option_map_or}
use Rattle.std.proofs.lemmas.List.Elements.{recursion_from_All}
use Rattle.std.proofs.lemmas.Option.{none-some, same_Some}
use Rattle.base_items.specs.declared.items.ItemSort.{ItemSort}
use Rattle.script_words.specs.declared.commands.MapType.{MapType}
use Rattle.script_words.specs.declared.commands.MapType.TheVariants as types
use Rattle.plain_digraph.specs.Lists.{AllOf}
use Rattle.observe_core.specs.Seen.{Watched}
use Rattle.plain_world.specs.Tables.{Name, Named, under, entry}
use Rattle.plain_world.specs.Valid.{IsWorld, IsLayer, IsNamed}
use Rattle.plain_world.specs.Values.{type_of}
use Rattle.plain_world.specs.Views.{has_type, is_type, map_of}
use Rattle.plain_world.specs.World.{View}
use Rattle.desk_world.specs.declared.tables.MapKind.{MapKind}
use Rattle.desk_world.specs.declared.tables.MapKind.TheVariants as maps
use Rattle.desk_world.specs.declared.tables.MapRow.{MapRow}
use Rattle.desk_world.specs.declared.tables.ViewRow.{ViewRow}
use Rattle.desk_world.specs.declared.world.World.{World}
use Rattle.desk_world.specs.InStep.{AreInStep}
use Rattle.desk_world.specs.Plain.{plain_of, tables_of, view_of}
use Rattle.desk_world.specs.Values.{HasType, kind_for, type_by}
use Rattle.desk_world.proofs.MapsFound.{map_type, of_entry}

-- what is said of nothing found is so where nothing was
pub of_none : {X : Type 0} (P : Type 0) (o : Option X) → o ≡ None → IfNone o P → P
of_none P o is so = subst (λ o. IfNone o P) is so

-- ---- types

-- a map whose values are of the type is what a map of the type is
pub typed_kind : (kind : MapKind) (type : MapType) → type_by kind ≡ Some type
    → kind ≡ kind_for type
typed_kind maps.Ints type is = ap kind_for (same_Some types.Ints type is)
typed_kind maps.Bools type is = ap kind_for (same_Some types.Bools type is)
typed_kind maps.Texts type is = ap kind_for (same_Some types.Texts type is)
typed_kind (maps.Degrees way) type is = absurd (none-some type is)
typed_kind (maps.Trues map) type is = absurd (none-some type is)

typed_so : (type : MapType) (o : Option MapType) → option_map_or (is_type type) o false ≡ true
    → o ≡ Some type
typed_so type None is = absurd cc
typed_so types.Ints (Some types.Ints) is = refl
typed_so types.Ints (Some types.Bools) is = absurd cc
typed_so types.Ints (Some types.Texts) is = absurd cc
typed_so types.Bools (Some types.Ints) is = absurd cc
typed_so types.Bools (Some types.Bools) is = refl
typed_so types.Bools (Some types.Texts) is = absurd cc
typed_so types.Texts (Some types.Ints) is = absurd cc
typed_so types.Texts (Some types.Bools) is = absurd cc
typed_so types.Texts (Some types.Texts) is = refl

-- ---- the rows of maps

module _ {O : Type 0} (watch : O → Watched) (w : World O) where
  pub has_typed : (sort : ItemSort) (name : Name) (type : MapType)
      → has_type (plain_of watch w) sort type name ≡ true
      → HasType (plain_of watch w) sort name type
  has_typed sort name type is =
      typed_so type (option_and_then type_of (map_of (plain_of watch w) sort name)) is

  -- a filter that a layer names has bools
  pub named_typed : (sort : ItemSort) (name : Option Name)
      → IsNamed (has_type (plain_of watch w) sort types.Bools) name
      → IfSome name (λ name. HasType (plain_of watch w) sort name types.Bools)
  named_typed sort None is = tt
  named_typed sort (Some name) is = has_typed sort name types.Bools is

  module _ (in_step : AreInStep watch w) (sort : ItemSort) (name : Name) (type : MapType)
      (typed : HasType (plain_of watch w) sort name type) where
    pub row_known : (o : Option MapRow) → entry (tables_of w sort).maps.rows name ≡ o
        → option_and_then (λ (row : MapRow). type_by row.kind) o ≡ Some type
    row_known o found =
        sym (ap (option_and_then (λ (row : MapRow). type_by row.kind)) found)
        ∙ sym (map_type watch w in_step sort name) ∙ typed

    pub no_row : entry (tables_of w sort).maps.rows name ≡ None → ⊥
    no_row found = none-some type (row_known None found)

    pub kind_known : (row : MapRow) → entry (tables_of w sort).maps.rows name ≡ Some row
        → row.kind ≡ kind_for type
    kind_known row found = typed_kind row.kind type (row_known (Some row) found)

  -- ---- the rows of views

  -- the layer of a row names maps of the types that it reads
  pub layer_known : IsWorld (plain_of watch w) → (name : Name) (row : ViewRow)
      → entry w.views.rows name ≡ Some row → IsLayer (plain_of watch w) row.layer
  layer_known ok name row found =
      of_entry (λ (r : ViewRow). IsLayer (plain_of watch w) r.layer) w.views.rows name row
      (each w.views.rows
      (recursion_from_All (λ (e : Named View). IsLayer (plain_of watch w) e.value.layer)
      (plain_of watch w).views ok.layers_ok)) found
    where
      each : (rows : List (Named ViewRow))
          → AllByRecursion (λ (e : Named View). IsLayer (plain_of watch w) e.value.layer)
          (map (λ (e : Named ViewRow). under e.name (view_of e.value)) rows)
          → AllOf (λ (e : Named ViewRow). IsLayer (plain_of watch w) e.value.layer) rows
      each [] all = tt
      each (e ∷ es) all = (all.0, each es all.1)
