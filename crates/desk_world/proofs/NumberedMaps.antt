-- The maps that the layers of a view read, by their numbers.
use Rattle.std.proofs.Common.{◌≡◌, ℕ, zero, suc, true, false, cond, List, [], ◌∷◌, ◌++◌}
use Rattle.std.proofs.Common.{map, reverse, All}
use Rattle.std.proofs.Common.{refl, sym, ◌∙◌, subst, Option, None, Some}
use Rattle.std.specs.Prelude.{option_map, find}
use Rattle.std.specs.List.{AllByRecursion}
use Rattle.std.specs.Option.{option_map_or}
use Rattle.std.specs.Str.{bytes_eq}
use Rattle.std.proofs.lemmas.List.{reverse-append}
use Rattle.std.proofs.lemmas.List.Elements.{All-from_recursion, recursion_from_All}
use Rattle.std.proofs.lemmas.Option.{none-some, same_Some}
use Rattle.base_items.specs.declared.items.ItemSort.{ItemSort}
use Rattle.base_items.specs.declared.items.ItemSort.TheVariants as sorts
use Rattle.base_items.specs.declared.limits.TheConstants.{MAX_LAYERS}
use Rattle.script_words.specs.declared.commands.LayerWord.{LayerWord}
use Rattle.script_words.specs.declared.commands.LayerWord.TheVariants as words
use Rattle.script_words.specs.declared.commands.MapType.TheVariants as types
use Rattle.plain_digraph.specs.Digraph.{Digraph}
use Rattle.plain_digraph.specs.Items.{IsLive}
use Rattle.plain_digraph.specs.Lists.{AllOf}
use Rattle.plain_views.specs.Renaming.{renamed}
use Rattle.plain_views.specs.Towers as plain
use Rattle.plain_world.specs.Tables.{Name, Named, is_named, entry}
use Rattle.plain_world.specs.Valid.{IsWorld, IsLayer, IsNamed}
use Rattle.plain_world.specs.Views.{has_type, layer_of, layers_up_to}
use Rattle.plain_world.specs.World.{World, View}
use Rattle.view_tower.specs.declared.layers.Layer.{Layer}
use Rattle.view_tower.specs.declared.layers.Layer.TheVariants as layers
use Rattle.view_tower.specs.Layers as code
use Rattle.view_tower.specs.Layers.{IsGiven, HasMaps}
use Rattle.desk_world.specs.MapNumbers.{number_of, numbers_type, numbered_tower, is_live}
use Rattle.desk_world.specs.NumberLaws.{type_by_number}

-- live items are those of the digraph
pub live_is : (g : Digraph) (sort : ItemSort) (id : ℕ) → IsLive g sort id
    → is_live g sort id ≡ true
live_is g sorts.Node id live = live
live_is g sorts.Arc id live = live

module _ (world : World) where
  -- the maps that a layer names by numbers are there
  abbrev Reads : plain.Layer ℕ → Type 0
  Reads (plain.Sub nodes arcs) =
      IsGiven (numbers_type world types.Bools sorts.Node) nodes
      × IsGiven (numbers_type world types.Bools sorts.Arc) arcs
  Reads (plain.Residual cap flow) =
      (numbers_type world types.Ints sorts.Arc cap ≡ true)
      × (numbers_type world types.Ints sorts.Arc flow ≡ true)
  Reads _ = Unit {0}

  abbrev Has : Layer → Type 0
  Has = HasMaps (numbers_type world types.Ints) (numbers_type world types.Bools)

  has_by : (l : Layer) → Reads (code.layer_of l) → Has l
  has_by layers.Reverse reads = tt
  has_by (layers.Sub nodes arcs) reads = reads
  has_by layers.Undirect reads = tt
  has_by (layers.Residual cap flow) reads = reads
  has_by layers.Split reads = tt

  given_by : (sort : ItemSort) (given : Option Name)
      → IsNamed (has_type world sort types.Bools) given
      → IsGiven (numbers_type world types.Bools sort) (option_map (number_of world sort) given)
  given_by sort None named = λ m is. absurd (none-some m is)
  given_by sort (Some name) named = λ m is.
      subst (λ k. numbers_type world types.Bools sort k ≡ true)
      (same_Some (number_of world sort name) m is)
      (type_by_number world types.Bools sort name ∙ named)

  reads_by : (layer : LayerWord) → IsLayer world layer
      → Reads (renamed (number_of world) (layer_of layer))
  reads_by words.Reverse ok = tt
  reads_by words.Undirect ok = tt
  reads_by words.Split ok = tt
  reads_by (words.Sub nodes arcs) ok =
      (given_by sorts.Node nodes ok.0, given_by sorts.Arc arcs ok.1)
  reads_by (words.Residual cap flow) ok = (
    type_by_number world types.Ints sorts.Arc cap ∙ ok.0,
    type_by_number world types.Ints sorts.Arc flow ∙ ok.1,
  )

  found_ok : (views : List (Named View)) (name : Name) (view : View)
      → AllByRecursion (λ (e : Named View). IsLayer world e.value.layer) views
      → entry views name ≡ Some view → IsLayer world view.layer
  found_ok [] name view all found = absurd (none-some view found)
  found_ok (e ∷ es) name view all found =
      elim (bytes_eq e.name name) as (λ b. option_map (λ (x : Named View). x.value)
      (cond b (Some e) (find (is_named name) es)) ≡ Some view → IsLayer world view.layer) [
        | true ↦ λ found.
            subst (λ (v : View). IsLayer world v.layer) (same_Some e.value view found) all.0
        | false ↦ λ found. found_ok es name view all.1 found
      ] found

  tower_reads : (views : List (Named View))
      → AllByRecursion (λ (e : Named View). IsLayer world e.value.layer) views
      → (most : ℕ) (name : Name)
      → AllOf Reads (map (renamed (number_of world)) (layers_up_to most views name))
  tower_reads views all zero name = tt
  tower_reads views all (suc most) name = of (entry views name) refl (tower_reads views all most)
    where
      of : (o : Option View) → entry views name ≡ o
          → ((below : Name)
          → AllOf Reads (map (renamed (number_of world)) (layers_up_to most views below)))
          → AllOf Reads (map (renamed (number_of world)) (option_map_or (λ (view : View).
          layer_of view.layer ∷ layers_up_to most views view.below) o []))
      of None found rest = tt
      of (Some view) found rest = (
        reads_by view.layer (found_ok views name view all found),
        rest view.below,
      )

  all_both : (xs ys : List (plain.Layer ℕ)) → AllOf Reads (xs ++ ys)
      → AllOf Reads xs × AllOf Reads ys
  all_both [] ys all = (tt, all)
  all_both (x ∷ xs) ys all =
      let rest = all_both xs ys all.1 in ((all.0, rest.0), rest.1)

  -- from the top down they have their maps, so also from the bottom up
  turned : (ls : List Layer) → AllOf Reads (reverse (map code.layer_of ls))
      → AllByRecursion Has ls
  turned [] all = tt
  turned (l ∷ ls) all =
      let parts = all_both (reverse (map code.layer_of ls)) (code.layer_of l ∷ [])
      (subst (AllOf Reads) (reverse-append (code.layer_of l ∷ []) (map code.layer_of ls)) all) in
      (has_by l parts.1.0, turned ls parts.0)

  -- the layers of a view have the maps that they name
  pub maps_there : (view : Name) (ls : List Layer) → IsWorld world
      → code.tower_of ls ≡ numbered_tower world view → All Has ls
  maps_there view ls ok is =
      All-from_recursion Has ls
      (turned ls (subst (AllOf Reads) (sym is)
      (tower_reads world.views
      (recursion_from_All (λ (e : Named View). IsLayer world e.value.layer) world.views
      ok.layers_ok) MAX_LAYERS view)))
