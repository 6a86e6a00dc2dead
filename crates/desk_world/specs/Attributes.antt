-- Attributes and their ties.
use Rattle.std.specs.Prelude.{◌≡◌, ℕ, List, Some}
use Rattle.base_items.specs.declared.items.ItemSort.{ItemSort}
use Rattle.observe_core.specs.Seen.{Watched}
use Rattle.plain_world.specs.Tables.{Name, entry, with_change}
use Rattle.plain_world.specs.World as plain
use Rattle.plain_world.specs.World.{label_of}
use Rattle.plain_world.specs.Demands.{item_named}
use Rattle.desk_world.specs.declared.tables.AttributeRow.TheVariants as rows
use Rattle.desk_world.specs.declared.world.World.{World}
use Rattle.desk_world.specs.Plain.{plain_of}

-- the attribute of the name being another, and all else as it was
abbrev pub with_attribute : plain.World → Name → (plain.Attribute → plain.Attribute) → plain.World
with_attribute world name change =
    record world { attributes = with_change world.attributes name change }

-- the attribute is plain, and its text is the label of the item
pub record TellsItem {O : Type 0} (watch : O → Watched) (w : World O) (name : Name)
    (sort : ItemSort) (id : ℕ) : Type 0 where
  pub text : List ℕ
  pub row : entry w.attributes.rows name ≡ Some (rows.Plain text)
  pub item : item_named (plain_of watch w) sort text ≡ Some id

-- the attribute is tied to an item, whose label is this
pub record IsTiedTo (world : plain.World) (name : Name) (label : List ℕ) : Type 0 where
  pub sort : ItemSort
  pub id : ℕ
  pub tied : entry world.attributes name ≡ Some (plain.Tied sort id)
  pub label_is : label ≡ label_of world sort id
