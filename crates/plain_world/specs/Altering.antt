-- The alteration that a command asks for.
use Rattle.std.specs.Prelude.{ℕ, true, false, Option, None, Some, unwrap_or, is_some, option_map}
use Rattle.std.specs.Prelude.{option_and_then}
use Rattle.base_items.specs.declared.items.ItemSort.{ItemSort}
use Rattle.base_items.specs.declared.items.ItemSort.TheVariants.{Node, Arc}
use Rattle.script_words.specs.declared.commands.Command.{Command}
use Rattle.script_words.specs.declared.commands.Command.TheVariants as commands
use Rattle.plain_digraph.specs.PlainSteps as steps
use Rattle.plain_digraph.specs.Alterations.{Alteration, single, node_erasure, arc_erasure}
use Rattle.plain_digraph.specs.Alterations.{contraction, loop_contraction, node_split, arc_split}
use Rattle.plain_digraph.specs.Alterations.{clearing, restoring}
use Rattle.plain_world.specs.Tables.{Name, entry}
use Rattle.plain_world.specs.World.{World}
use Rattle.plain_world.specs.Demands.{item_named}

-- the item with this label, or 0 where there is none
abbrev pub item_at : World → ItemSort → Name → ℕ
item_at world sort name = unwrap_or (item_named world sort name) 0

-- the alteration that the command asks for, if any. A stale snapshot has none.
abbrev pub alteration_of : World → Command → Option Alteration
alteration_of world (commands.AddNode label) = Some (single steps.AddNode)
alteration_of world (commands.AddArc label from to) =
    Some (single (steps.AddArc (item_at world Node from) (item_at world Node to)))
alteration_of world (commands.DelNode node) = Some (node_erasure (item_at world Node node))
alteration_of world (commands.DelArc arc) = Some (arc_erasure (item_at world Arc arc))
alteration_of world (commands.Source arc node) =
    Some (single (steps.MoveFrom (item_at world Arc arc) (item_at world Node node)))
alteration_of world (commands.Target arc node) =
    Some (single (steps.MoveTo (item_at world Arc arc) (item_at world Node node)))
alteration_of world (commands.Turn arc) = Some (single (steps.Turn (item_at world Arc arc)))
alteration_of world (commands.Contract u v false) =
    Some (contraction (item_at world Node u) (item_at world Node v))
alteration_of world (commands.Contract u v true) =
    Some (loop_contraction (item_at world Node u) (item_at world Node v))
alteration_of world (commands.SplitNode node label arc_label) =
    Some (node_split world.graph (item_at world Node node) (is_some arc_label))
alteration_of world (commands.SplitArc arc label arc_label) =
    Some (arc_split world.graph (item_at world Arc arc))
alteration_of world commands.Clear = Some clearing
alteration_of world (commands.Restore snapshot) =
    option_map restoring (option_and_then (λ copy. copy) (entry world.snapshots snapshot))
alteration_of world _ = None
