-- How a word names a node of a view: the label of a node of the base, and a letter for each layer
-- that splits.
use Rattle.std.specs.Prelude.{◌≡◌, ℕ, suc, ◌==◌, Bool, true, false, cond, List, [], ◌∷◌, length}
use Rattle.std.specs.Prelude.{reverse, Option, None, Some, find, option_and_then}
use Rattle.std.specs.Str.{bytes_eq}
use Rattle.base_items.specs.declared.items.ItemSort.TheVariants.{Node}
use Rattle.plain_views.specs.Adaptors.{in_node, out_node}
use Rattle.plain_views.specs.Marks.{marked}
use Rattle.plain_views.specs.Shown.{Shown}
use Rattle.plain_views.specs.Towers.{Layer, Split}
use Rattle.plain_world.specs.Demands.{item_named}
use Rattle.plain_world.specs.Tables.{Name}
use Rattle.plain_world.specs.World.{World}
use Rattle.view_tower.specs.declared.layers.Layer as code
use Rattle.view_tower.specs.declared.layers.Layer.TheVariants as layers
use Rattle.desk_world.specs.Naming.{node_called}

-- the word is the label, and where there are letters, a stroke and the letters
pub record IsParted (count : ℕ) (word label letters : Name) : Type 0 where
  pub counted : length letters ≡ count
  pub spelled : word ≡ marked label letters

-- the part of a split node that the letter names: `i` or `o`
abbrev pub part_by : ℕ → ℕ → Option ℕ
part_by letter node =
    cond (letter == 105) (Some (in_node node)) (cond (letter == 111) (Some (out_node node)) None)

-- the node that comes from this one by these letters, that of the top layer first
abbrev pub node_by : List ℕ → ℕ → Option ℕ
node_by [] node = Some node
node_by (letter ∷ letters) node = option_and_then (part_by letter) (node_by letters node)

-- how many letters stand behind the label of a node
abbrev pub letters_of : {M : Type 0} → List (Layer M) → ℕ
letters_of [] = 0
letters_of (Split ∷ below) = suc (letters_of below)
letters_of (_ ∷ below) = letters_of below

module _ {M : Type 0} (world : World) (tower : List (Layer M)) where
  -- the node comes from that of the base which has the label, by the letters
  pub record ComesBy (word : Name) (node : ℕ) : Type 0 where
    pub label : Name
    pub letters : Name
    pub own : ℕ
    pub parted : IsParted (letters_of tower) word label letters
    pub named : item_named world Node label ≡ Some own
    pub above : node_by (reverse letters) own ≡ Some node

  -- the word means this node, shown or not, or none
  abbrev pub Means : Name → Option ℕ → Type 0
  Means word (Some node) = ComesBy word node
  Means word None = (node : ℕ) → ComesBy word node → ⊥

  -- the node that is shown and has the name
  abbrev pub node_called_so : Shown → Name → Option ℕ
  node_called_so p name = find (λ node. bytes_eq (node_called world tower node) name) p.nodes

-- whether a layer in code splits
abbrev pub is_split : code.Layer → Bool
is_split layers.Split = true
is_split _ = false
