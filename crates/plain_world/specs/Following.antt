-- What is attached follows the plain steps.
use Rattle.std.specs.Prelude.{ℕ, pos, ◌+◌, ◌-◌, ◌==◌, false, cond, [], map, fold, Option, None}
use Rattle.std.specs.Prelude.{Some, option_and_then}
use Rattle.std.specs.FinMap as fin
use Rattle.base_items.specs.declared.items.ItemSort.{ItemSort}
use Rattle.base_items.specs.declared.items.ItemSort.TheVariants as sorts
use Rattle.script_words.specs.declared.commands.GuardWord.{GuardWord}
use Rattle.script_words.specs.declared.commands.GuardWord.TheVariants as kinds
use Rattle.plain_digraph.specs.Digraph.{Digraph}
use Rattle.plain_digraph.specs.Steps.{new_node, new_arc}
use Rattle.plain_digraph.specs.PlainSteps.{PlainStep, Change, Added, Moved, Erased, Cleared}
use Rattle.plain_digraph.specs.PlainSteps.{change_of, after_step}
use Rattle.plain_digraph.specs.Copies.{Copy, loses}
use Rattle.plain_digraph.specs.Alterations.{Alteration, all_steps}
use Rattle.plain_world.specs.Tables.{Name, under, each_changed}
use Rattle.plain_world.specs.World.{World, Attached, Column, Held, Ints, Bools, Texts, Guard}
use Rattle.plain_world.specs.World.{Attribute, Plain, Tied, attached, with_attached}

-- a new item has the default, and one that is gone has no value
abbrev pub column_after : {X : Type 0} → X → Change → Column X → Column X
column_after default (Added id) column = fin.insert column id default
column_after default (Erased id) column = fin.remove column id
column_after default (Cleared count) column = fin.empty
column_after default _ column = column

abbrev pub held_after : Change → Held → Held
held_after change (Ints column) = Ints (column_after (pos 0) change column)
held_after change (Bools column) = Bools (column_after false change column)
held_after change (Texts column) = Texts (column_after [] change column)
held_after change held = held

-- a new item has no label yet
abbrev pub labels_after : Change → Column Name → Column Name
labels_after (Erased id) labels = fin.remove labels id
labels_after (Cleared count) labels = fin.empty
labels_after _ labels = labels

abbrev pub attached_after : Change → Attached → Attached
attached_after change items = record {
  labels = labels_after change items.labels;
  maps = map (λ e. under e.name (held_after change e.value)) items.maps;
}

-- an erasure lowers a fuse's number; at 0 and at a clear it leaves
abbrev pub fuse_after : Change → Guard → Option Guard
fuse_after (Erased id) guard =
    cond (guard.left == 1) None (Some (record guard { left = guard.left - 1 }))
fuse_after (Cleared count) guard = None
fuse_after _ guard = Some guard

-- a tally counts additions, moves and erasures, also those of a clear
abbrev pub tally_after : Change → Guard → Guard
tally_after (Added id) guard = record guard { added = guard.added + 1 }
tally_after Moved guard = record guard { moved = guard.moved + 1 }
tally_after (Erased id) guard = record guard { erased = guard.erased + 1 }
tally_after (Cleared count) guard = record guard { erased = guard.erased + count }
tally_after _ guard = guard

abbrev pub by_kind : GuardWord → Change → Guard → Option Guard
by_kind kinds.Fuse change guard = fuse_after change guard
by_kind kinds.Tally change guard = Some (tally_after change guard)
by_kind _ change guard = Some guard

abbrev pub guard_after : (ItemSort → Change) → Guard → Option Guard
guard_after change guard = by_kind guard.kind (change guard.sort) guard

-- a snapshot is stale once an item of its copy is gone
abbrev pub snapshot_after : Digraph → PlainStep → Option Copy → Option Copy
snapshot_after graph step copy = option_and_then (λ c. cond (loses c graph step) None (Some c)) copy

-- an attribute goes with the item to which it is tied
abbrev pub tied_after : Change → ItemSort → ℕ → Option Attribute
tied_after (Erased other) sort id = cond (other == id) None (Some (Tied sort id))
tied_after (Cleared count) sort id = None
tied_after _ sort id = Some (Tied sort id)

abbrev pub attribute_after : (ItemSort → Change) → Attribute → Option Attribute
attribute_after change (Plain text) = Some (Plain text)
attribute_after change (Tied sort id) = tied_after (change sort) sort id

-- the world after a plain step
abbrev pub follow : World → PlainStep → World
follow world step = record world {
  graph = after_step world.graph step;
  nodes = attached_after (change_of world.graph step sorts.Node) world.nodes;
  arcs = attached_after (change_of world.graph step sorts.Arc) world.arcs;
  guards = each_changed (guard_after (change_of world.graph step)) world.guards;
  snapshots = map (λ e. under e.name (snapshot_after world.graph step e.value)) world.snapshots;
  attributes = each_changed (attribute_after (change_of world.graph step)) world.attributes;
}

-- the world after all steps of an alteration
abbrev pub altered : World → Alteration → World
altered world alteration = fold follow world (all_steps world.graph alteration)

-- ---- labels

abbrev pub new_item : Digraph → ItemSort → ℕ
new_item graph sorts.Node = new_node graph
new_item graph sorts.Arc = new_arc graph

-- the item has this label
abbrev pub labelled : World → ItemSort → ℕ → Name → World
labelled world sort id name =
    with_attached world sort
    (record (attached world sort) { labels = fin.insert (attached world sort).labels id name })
