-- Towers whose maps go by other names show the same.
use Rattle.std.specs.Prelude.{◌≡◌, ℕ, List, [], ◌∷◌, map, Option, None, Some, option_map}
use Rattle.base_items.specs.declared.items.ItemSort.{ItemSort}
use Rattle.base_items.specs.declared.items.ItemSort.TheVariants.{Node, Arc}
use Rattle.plain_digraph.specs.Digraph.{Digraph}
use Rattle.plain_views.specs.Towers.{Layer, Reverse, Sub, Undirect, Residual, Split, Values}
use Rattle.plain_views.specs.Towers.{node_int, node_bool, arc_int, arc_bool, shown}

-- from the names of the maps of a sort to others
abbrev pub renamed : {M N : Type 0} → (ItemSort → M → N) → Layer M → Layer N
renamed name Reverse = Reverse
renamed name (Sub nodes arcs) = Sub (option_map (name Node) nodes) (option_map (name Arc) arcs)
renamed name Undirect = Undirect
renamed name (Residual cap flow) = Residual (name Arc cap) (name Arc flow)
renamed name Split = Split

module _ {M N : Type 0} (name : ItemSort → M → N) (old : Values M) (new : Values N) where
  -- the map has the same values by both names
  pub record AgreesAt (sort : ItemSort) (m : M) : Type 0 where
    pub int : (id : ℕ) → new.int sort (name sort m) id ≡ old.int sort m id
    pub bool : (id : ℕ) → new.bool sort (name sort m) id ≡ old.bool sort m id

  -- so has its partner
  pub record AgreesOnArcs (m : M) : Type 0 where
    pub values : AgreesAt Arc m
    pub partner : new.partner (name Arc m) ≡ option_map (name Node) (old.partner m)
    pub partner_values : (p : M) → old.partner m ≡ Some p → AgreesAt Node p

  -- the fact holds of the map, if one is named
  abbrev pub IfGiven : (M → Type 0) → Option M → Type 0
  IfGiven P None = Unit {0}
  IfGiven P (Some m) = P m

  -- the maps that the layers name agree
  abbrev pub LayerAgrees : Layer M → Type 0
  LayerAgrees (Sub nodes arcs) = IfGiven (AgreesAt Node) nodes × IfGiven AgreesOnArcs arcs
  LayerAgrees (Residual cap flow) = AgreesOnArcs cap × AgreesOnArcs flow
  LayerAgrees _ = Unit {0}

  -- the maps that any layer names agree
  abbrev pub TowerAgrees : List (Layer M) → Type 0
  TowerAgrees [] = Unit {0}
  TowerAgrees (layer ∷ below) = LayerAgrees layer × TowerAgrees below

-- from names to numbers, a tower shows the same
abbrev pub NumberedTowersShowAlike : Type 0
NumberedTowersShowAlike =
    (number : ItemSort → List ℕ → ℕ) (old : Values (List ℕ)) (new : Values ℕ) (g : Digraph)
    (tower : List (Layer (List ℕ)))
    → TowerAgrees number old new tower
    → shown new g (map (renamed number) tower) ≡ shown old g tower

-- by its number a map has the same pulled ints as by its name
abbrev pub NumberedMapsPullAlike : Type 0
NumberedMapsPullAlike =
    (number : ItemSort → List ℕ → ℕ) (old : Values (List ℕ)) (new : Values ℕ)
    (tower : List (Layer (List ℕ))) (name : List ℕ) (arc : ℕ)
    → AgreesOnArcs number old new name
    → arc_int new (map (renamed number) tower) (number Arc name) arc ≡ arc_int old tower name arc

-- by its number a filter lets the same arcs pass as by its name
abbrev pub NumberedFiltersPassAlike : Type 0
NumberedFiltersPassAlike =
    (number : ItemSort → List ℕ → ℕ) (old : Values (List ℕ)) (new : Values ℕ)
    (tower : List (Layer (List ℕ))) (name : List ℕ) (arc : ℕ)
    → AgreesOnArcs number old new name
    → arc_bool new (map (renamed number) tower) (number Arc name) arc ≡ arc_bool old tower name arc

-- by its number a map of the nodes has the same pulled values as by its name
abbrev pub NumberedMapsPullAlikeAtNodes : Type 0
NumberedMapsPullAlikeAtNodes =
    (number : ItemSort → List ℕ → ℕ) (old : Values (List ℕ)) (new : Values ℕ)
    (tower : List (Layer (List ℕ))) (name : List ℕ) (node : ℕ)
    → AgreesAt number old new Node name
    → (node_int new (map (renamed number) tower) (number Node name) node
    ≡ node_int old tower name node)
    × (node_bool new (map (renamed number) tower) (number Node name) node
    ≡ node_bool old tower name node)
