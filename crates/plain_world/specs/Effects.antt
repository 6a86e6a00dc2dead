-- The world after an accepted command.
use Rattle.std.specs.Prelude.{ℕ, true, false, cond, List, [], ◌∷◌, ◌++◌, map, fold, Some, unwrap_or}
use Rattle.std.specs.Prelude.{option_map, option_to_list}
use Rattle.std.specs.Option.{option_map_or}
use Rattle.base_items.specs.declared.items.ItemSort.{ItemSort}
use Rattle.base_items.specs.declared.items.ItemSort.TheVariants.{Node, Arc}
use Rattle.script_words.specs.declared.commands.Command.{Command}
use Rattle.script_words.specs.declared.commands.Command.TheVariants as commands
use Rattle.script_words.specs.declared.commands.GuardWord.{GuardWord}
use Rattle.script_words.specs.declared.commands.GuardWord.TheVariants as kinds
use Rattle.script_words.specs.declared.commands.MapType.{MapType}
use Rattle.plain_digraph.specs.Copies.{copy_of}
use Rattle.plain_world.specs.Tables.{Name, Named, entry, with_entry, with_change, without_entry}
use Rattle.plain_world.specs.World.{World, Held, Degrees, Trues, Guard, Attribute, Plain, Tied}
use Rattle.plain_world.specs.World.{attached, with_attached, live, label_of}
use Rattle.plain_world.specs.Values.{default_text, spelled, text_at, written_at}
use Rattle.plain_world.specs.Following.{altered, labelled, new_item}
use Rattle.plain_world.specs.Altering.{item_at, alteration_of}
use Rattle.plain_world.specs.Refusals.{is_kind}

-- ---- maps

abbrev pub with_maps : World → ItemSort → List (Named Held) → World
with_maps world sort maps = with_attached world sort (record (attached world sort) { maps = maps })

abbrev pub with_map : World → ItemSort → Name → Held → World
with_map world sort name held =
    with_maps world sort (with_entry (attached world sort).maps name held)

-- a new value map, with the default at each item
abbrev pub new_map : World → ItemSort → MapType → Held
new_map world sort type = spelled type (live world sort) (λ id. default_text type)

abbrev pub with_map_changed : World → ItemSort → Name → (Held → Held) → World
with_map_changed world sort name change =
    with_maps world sort (with_change (attached world sort).maps name change)

-- the map of another type, with the values that the texts of the old ones spell
abbrev pub retyped : World → ItemSort → MapType → Held → Held
retyped world sort type held = spelled type (live world sort) (text_at held)

-- ---- guards

-- a guard as it is attached: only a fuse has something left
abbrev pub armed : ItemSort → GuardWord → ℕ → Guard
armed sort kind limit = record {
  sort = sort;
  kind = kind;
  limit = limit;
  left = cond (is_kind kind kinds.Fuse) limit 0;
  added = 0;
  erased = 0;
  moved = 0;
}

-- the pool without the first box of the kind
abbrev pub without_box : List GuardWord → GuardWord → List GuardWord
without_box [] kind = []
without_box (box ∷ pool) kind = cond (is_kind kind box) pool (box ∷ without_box pool kind)

-- ---- attributes

abbrev pub attribute_text : World → Attribute → List ℕ
attribute_text world (Plain text) = text
attribute_text world (Tied sort id) = label_of world sort id

-- tied to the item whose label it is
abbrev pub tied : World → ItemSort → Attribute → Attribute
tied world sort (Plain text) = Tied sort (item_at world sort text)
tied world sort (Tied other id) = Tied other id

-- ---- the commands

-- the labels of new items
abbrev pub new_labels : Command → List (ItemSort × Name)
new_labels (commands.AddNode label) = (Node, label) ∷ []
new_labels (commands.AddArc label from to) = (Arc, label) ∷ []
new_labels (commands.SplitNode node label arc_label) =
    (Node, label) ∷ option_to_list (option_map (λ name. (Arc, name)) arc_label)
new_labels (commands.SplitArc arc label arc_label) = (Node, label) ∷ (Arc, arc_label) ∷ []
new_labels _ = []

-- all steps of the alteration that the command asks for, and the labels of the new items
abbrev pub after_alteration : World → Command → World
after_alteration world command =
    fold (λ now new. labelled now new.0 (new_item world.graph new.0) new.1)
    (option_map_or (altered world) (alteration_of world command) world) (new_labels command)

-- what the command does besides
abbrev pub after_command : World → Command → World
after_command world (commands.NodeMap map type) = with_map world Node map (new_map world Node type)
after_command world (commands.ArcMap map type) = with_map world Arc map (new_map world Arc type)
after_command world (commands.Degree map way) = with_map world Node map (Degrees way)
after_command world (commands.Trues sort index map) = with_map world sort index (Trues map)
after_command world (commands.Retype sort map type) =
    with_map_changed world sort map (retyped world sort type)
after_command world (commands.Set sort map item value) =
    with_map_changed world sort map (λ held. written_at held (item_at world sort item) value)
after_command world (commands.DropMap sort map) =
    with_maps world sort (without_entry (attached world sort).maps map)
after_command world (commands.Guard guard sort kind limit) = record world {
  guards = with_entry world.guards guard (armed sort kind (unwrap_or limit 0));
  pool = without_box world.pool kind;
}
after_command world (commands.Unguard guard) = record world {
  guards = without_entry world.guards guard;
  pool = world.pool ++ option_to_list (option_map (λ g. g.kind) (entry world.guards guard));
}
after_command world (commands.Snap snapshot) =
    record world { snapshots = with_entry world.snapshots snapshot (Some (copy_of world.graph)) }
after_command world (commands.Restore snapshot) =
    record world { snapshots = without_entry world.snapshots snapshot }
after_command world (commands.Forget snapshot) =
    record world { snapshots = without_entry world.snapshots snapshot }
after_command world (commands.View view layer below) =
    record world {
      views = with_entry world.views view
          (record { layer = layer; below = below; kept = false });
    }
after_command world (commands.Keep view) =
    record world { views = with_change world.views view (λ v. record v { kept = true }) }
after_command world (commands.Unview view) = record world { views = without_entry world.views view }
after_command world (commands.Tie attribute sort) =
    record world { attributes = with_change world.attributes attribute (tied world sort) }
after_command world (commands.Untie attribute) =
    record world {
      attributes =
          with_change world.attributes attribute (λ value. Plain (attribute_text world value));
    }
after_command world (commands.Relabel sort old new) =
    labelled world sort (item_at world sort old) new
after_command world _ = world

abbrev pub after : World → Command → World
after world command = after_command (after_alteration world command) command
