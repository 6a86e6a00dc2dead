-- Towers by the numbers of maps show what they show by names, and have the maps that they read.
use Rattle.std.proofs.Common.{◌≡◌, ℕ, Bool, true, false, cond, List, [], ◌∷◌, pos}
use Rattle.std.proofs.Common.{refl, sym, ap, ◌∙◌, Option, None, Some}
use Rattle.std.specs.Prelude.{option_map, option_and_then, find}
use Rattle.std.specs.Option.{option_map_or}
use Rattle.std.specs.Str.{bytes_eq}
use Rattle.std.proofs.lemmas.List.Folds.{find_at}
use Rattle.std.proofs.lemmas.Option.{none-some, same_Some}
use Rattle.std.proofs.lemmas.Slice.Eq.{bytes_eq-Decides}
use Rattle.base_items.specs.declared.items.ItemSort.{ItemSort}
use Rattle.base_items.specs.declared.items.ItemSort.TheVariants as sorts
use Rattle.script_words.specs.declared.commands.MapType.{MapType}
use Rattle.plain_views.specs.Renaming.{AgreesAt, AgreesOnArcs, IfGiven}
use Rattle.plain_views.specs.Renaming.{TowerAgrees}
use Rattle.plain_views.specs.Towers as towers
use Rattle.plain_views.specs.Towers.{Layer}
use Rattle.plain_views.proofs.Renamed.{same_shown}
use Rattle.plain_world.specs.Tables.{Name, Named, is_named, entry}
use Rattle.plain_world.specs.Values.{type_of, int_at, bool_at}
use Rattle.plain_world.specs.Views.{has_type, partner_of, values_of, tower_of, shown_by}
use Rattle.plain_world.specs.World.{World, Held, attached}
use Rattle.desk_world.specs.MapNumbers.{number_of, map_at, partner_by, numbered, numbered_tower}
use Rattle.desk_world.specs.NumberLaws.{at_number}

-- the row that is found has the name
found_named : {X : Type 0} (name : Name) (table : List (Named X)) (e : Named X)
    → find (is_named name) table ≡ Some e → e.name ≡ name
found_named name [] e found = absurd (none-some e found)
found_named {X} name (x ∷ xs) e found =
    elim (bytes_eq x.name name) as (λ b. bytes_eq x.name name ≡ b
    → cond b (Some x) (find (is_named name) xs) ≡ Some e → e.name ≡ name) [
      | true ↦ λ is found.
          ap (λ (y : Named X). y.name) (sym (same_Some x e found))
          ∙ (bytes_eq-Decides x.name name).0 is
      | false ↦ λ is found. found_named name xs e found
    ] refl found

module _ (world : World) where
  abbrev maps : ItemSort → List (Named Held)
  maps sort = (attached world sort).maps

  -- what is made of the value of a map by its number, and by its name
  by_number : {X : Type 0} (f : Held → X) (d : X) (sort : ItemSort) (name : Name)
      → option_map_or (λ (e : Named Held). f e.value)
      (map_at world sort (number_of world sort name)) d ≡ option_map_or f (entry (maps sort) name) d
  by_number {X} f d sort name =
      of (map_at world sort (number_of world sort name))
      ∙ ap (λ o. option_map_or f o d) (at_number (maps sort) name)
    where
      of : (o : Option (Named Held)) → option_map_or (λ (e : Named Held). f e.value) o d
          ≡ option_map_or f (option_map (λ (e : Named Held). e.value) o) d
      of None = refl
      of (Some e) = refl

  pub agrees_at : (sort : ItemSort) (name : Name)
      → AgreesAt (number_of world) (values_of world) (numbered world) sort name
  agrees_at sort name = record {
    int = λ id. by_number (λ held. int_at held id) (pos 0) sort name;
    bool = λ id. by_number (λ held. bool_at held id) false sort name;
  }

  same_partner : (name : Name)
      → (numbered world).partner (number_of world sorts.Arc name)
      ≡ option_map (number_of world sorts.Node) (partner_of world name)
  same_partner name =
      ap (option_and_then (partner_by world)) (sym (find_at (is_named name) (maps sorts.Arc)))
      ∙ of (find (is_named name) (maps sorts.Arc)) refl
    where
      at_bool : (b : Bool) → cond b (Some (number_of world sorts.Node name)) None
          ≡ option_map (number_of world sorts.Node) (cond b (Some name) None)
      at_bool true = refl
      at_bool false = refl

      at_type : (o : Option MapType)
          → option_and_then (λ type. cond (has_type world sorts.Node type name)
          (Some (number_of world sorts.Node name)) None) o
          ≡ option_map (number_of world sorts.Node) (option_and_then (λ type.
          cond (has_type world sorts.Node type name) (Some name) None) o)
      at_type None = refl
      at_type (Some type) = at_bool (has_type world sorts.Node type name)

      of : (o : Option (Named Held)) → find (is_named name) (maps sorts.Arc) ≡ o
          → option_and_then (partner_by world) o
          ≡ option_map (number_of world sorts.Node) (option_and_then (λ type.
          cond (has_type world sorts.Node type name) (Some name) None)
          (option_and_then type_of (option_map (λ (e : Named Held). e.value) o)))
      of None found = refl
      of (Some e) found =
          ap (λ n. option_and_then (λ type. cond (has_type world sorts.Node type n)
          (Some (number_of world sorts.Node n)) None) (type_of e.value))
          (found_named name (maps sorts.Arc) e found)
          ∙ at_type (type_of e.value)

  pub agrees_on_arcs : (name : Name)
      → AgreesOnArcs (number_of world) (values_of world) (numbered world) name
  agrees_on_arcs name = record {
    values = agrees_at sorts.Arc name;
    partner = same_partner name;
    partner_values = λ p is. agrees_at sorts.Node p;
  }

  if_given : (P : Name → Type 0) → ((name : Name) → P name) → (given : Option Name)
      → IfGiven (number_of world) (values_of world) (numbered world) P given
  if_given P all None = tt
  if_given P all (Some name) = all name

  pub tower_agrees : (tower : List (Layer Name))
      → TowerAgrees (number_of world) (values_of world) (numbered world) tower
  tower_agrees [] = tt
  tower_agrees (towers.Reverse ∷ below) = (tt, tower_agrees below)
  tower_agrees (towers.Sub nodes arcs ∷ below) = (
    (
      if_given (AgreesAt (number_of world) (values_of world) (numbered world) sorts.Node)
          (agrees_at sorts.Node) nodes,
      if_given (AgreesOnArcs (number_of world) (values_of world) (numbered world)) agrees_on_arcs
          arcs,
    ),
    tower_agrees below,
  )
  tower_agrees (towers.Undirect ∷ below) = (tt, tower_agrees below)
  tower_agrees (towers.Residual cap flow ∷ below) =
      ((agrees_on_arcs cap, agrees_on_arcs flow), tower_agrees below)
  tower_agrees (towers.Split ∷ below) = (tt, tower_agrees below)

  -- by numbers a view shows the same
  pub shown_alike : (view : Name)
      → towers.shown (numbered world) world.graph (numbered_tower world view)
      ≡ shown_by world view
  shown_alike view =
      same_shown Name ℕ (number_of world) (values_of world) (numbered world) world.graph
      (tower_of world view) (tower_agrees (tower_of world view))
