-- What a command reports of the world.
use Rattle.std.specs.Prelude.{ℕ, ℤ, pos, ◌+ℤ◌, Bool, false, cond, int_lt, List, [], ◌∷◌, map}
use Rattle.std.specs.Prelude.{filter, length, count_by, fold, Option, None, Some, unwrap_or}
use Rattle.std.specs.Option.{option_map_or}
use Rattle.std.specs.Str.{bytes_eq}
use Rattle.std.specs.Fmt.{decimal}
use Rattle.base_items.specs.declared.items.ItemSort.{ItemSort}
use Rattle.base_items.specs.declared.items.ItemSort.TheVariants.{Node, Arc}
use Rattle.lgf_file.specs.Documents.{label as label_column}
use Rattle.lgf_file.specs.Plain.{plain}
use Rattle.script_words.specs.declared.commands.Command.{Command}
use Rattle.script_words.specs.declared.commands.Command.TheVariants as commands
use Rattle.script_words.specs.declared.commands.Direction.{Direction}
use Rattle.script_words.specs.declared.commands.Direction.TheVariants.{In, Out}
use Rattle.script_words.specs.declared.commands.GuardWord.{GuardWord}
use Rattle.script_words.specs.declared.commands.GuardWord.TheVariants as kinds
use Rattle.report_text.specs.declared.replies.Reply.{Reply}
use Rattle.report_text.specs.declared.replies.Reply.TheVariants as replies
use Rattle.report_text.specs.declared.replies.NodeLine.{NodeLine}
use Rattle.report_text.specs.declared.replies.GuardLine.{GuardLine}
use Rattle.report_text.specs.declared.replies.GuardNumbers.{GuardNumbers}
use Rattle.report_text.specs.declared.replies.GuardNumbers.TheVariants as numbers
use Rattle.report_text.specs.declared.replies.SnapLine.{SnapLine}
use Rattle.report_text.specs.declared.replies.SnapLine.TheVariants as snaps
use Rattle.plain_digraph.specs.Digraph.{Digraph}
use Rattle.plain_digraph.specs.Items.{rising, count_of, out_arcs, in_arcs}
use Rattle.plain_digraph.specs.Copies.{Copy, added}
use Rattle.plain_views.specs.Shown.{arcs_from, arcs_to}
use Rattle.plain_world.specs.Tables.{Name, Named, entry}
use Rattle.plain_world.specs.World.{World, Held, Degrees, Trues, Guard, label_of}
use Rattle.plain_world.specs.Values.{int_at, bool_at, bool_text, text_at}
use Rattle.plain_world.specs.Views.{map_of, shown_by, arcs_of, node_line, arc_line, node_named}
use Rattle.plain_world.specs.Effects.{attribute_text}
use Rattle.plain_world.specs.Altering.{item_at}
use Rattle.plain_world.specs.Documents.{doc_of}

-- ---- values

-- the degree of a node: how many arcs go from it, or to it
abbrev pub degree_of : Digraph → Direction → ℕ → ℕ
degree_of graph Out node = length (out_arcs graph node)
degree_of graph In node = length (in_arcs graph node)

abbrev pub is_true : World → ItemSort → Name → ℕ → Bool
is_true world sort map id = option_map_or (λ held. bool_at held id) (map_of world sort map) false

-- what a map has at an item, as text
abbrev pub told_at : World → ItemSort → Held → ℕ → List ℕ
told_at world sort (Degrees way) id = decimal (degree_of world.graph way id)
told_at world sort (Trues map) id = bool_text (is_true world sort map id)
told_at world sort held id = text_at held id

-- of the map `label` it is the item's own name
abbrev pub value_reply : World → ItemSort → Name → ℕ → List ℕ
value_reply world sort map id =
    cond (bytes_eq map label_column) (label_of world sort id)
    (option_map_or (λ held. told_at world sort held id) (map_of world sort map) [])

-- the map of which an index is
abbrev pub indexed : Held → Name
indexed (Trues map) = map
indexed _ = []

abbrev pub is_item : World → ItemSort → Name → ℕ → Bool
is_item world sort index id =
    is_true world sort (option_map_or indexed (map_of world sort index) []) id

abbrev pub item_line : World → ItemSort → ℕ → NodeLine
item_line world sort id = record { id = id; name = label_of world sort id }

-- ---- totals

abbrev pub int_value : World → ItemSort → Name → ℕ → ℤ
int_value world sort map id = option_map_or (λ held. int_at held id) (map_of world sort map) (pos 0)

abbrev pub total : List ℤ → ℤ
total values = fold (λ sum value. sum +ℤ value) (pos 0) values

-- the first of the items with the least value
abbrev pub least_item : (ℕ → ℤ) → ℕ → List ℕ → ℕ
least_item value best [] = best
least_item value best (id ∷ items) =
    least_item value (cond (int_lt (value id) (value best)) id best) items

abbrev pub least_line : World → ItemSort → Name → List ℕ → Option (ℤ × Name)
least_line world sort map [] = None
least_line world sort map (id ∷ items) =
    let best = least_item (int_value world sort map) id items in Some
    (int_value world sort map best, label_of world sort best)

-- ---- guards and snapshots

abbrev pub numbers_of : GuardWord → Guard → ℕ → GuardNumbers
numbers_of kinds.Quota guard items = numbers.Quota guard.limit items
numbers_of kinds.Loopless guard items = numbers.Loopless items
numbers_of kinds.Simple guard items = numbers.Simple items
numbers_of kinds.OutCap guard items = numbers.OutCap guard.limit items
numbers_of kinds.Fuse guard items = numbers.Fuse guard.left
numbers_of kinds.Tally guard items = numbers.Tally guard.added guard.erased guard.moved

abbrev pub guard_line : World → Named Guard → GuardLine
guard_line world e = record {
  name = e.name;
  sort = e.value.sort;
  numbers = numbers_of e.value.kind e.value (count_of world.graph e.value.sort);
}

abbrev pub snap_line : World → Named (Option Copy) → SnapLine
snap_line world e =
    option_map_or
    (λ copy. snaps.Valid e.name (length (added copy world.graph Node))
    (length (added copy world.graph Arc)))
    e.value (snaps.Stale e.name)

-- ---- the replies

-- the reply of each command but a query that leaves a choice
abbrev pub reply_of : World → Command → Reply
reply_of world (commands.Get sort map item) =
    replies.Value (value_reply world sort map (item_at world sort item))
reply_of world (commands.Items sort index) =
    replies.Items
    (map (item_line world sort) (filter (is_item world sort index) (rising world.graph sort)))
reply_of world (commands.Total sort name) =
    replies.Total (total (map (int_value world sort name) (rising world.graph sort)))
reply_of world (commands.Least sort name) =
    replies.Least (least_line world sort name (rising world.graph sort))
reply_of world (commands.Count sort name) =
    replies.Count (count_by (is_true world sort name) (rising world.graph sort))
reply_of world commands.Guards = replies.Guards (map (guard_line world) world.guards)
reply_of world commands.Snaps = replies.Snaps (map (snap_line world) world.snapshots)
reply_of world (commands.Nodes view) =
    replies.Nodes (map (node_line world view) (shown_by world view).nodes)
reply_of world (commands.Arcs view) = replies.Arcs (map (arc_line world view) (arcs_of world view))
reply_of world (commands.Out view node) =
    replies.Out (map (arc_line world view)
    (arcs_from (shown_by world view) (unwrap_or (node_named world view node) 0)))
reply_of world (commands.In view node) =
    replies.In (map (arc_line world view)
    (arcs_to (shown_by world view) (unwrap_or (node_named world view node) 0)))
reply_of world (commands.Attr attribute) =
    replies.Value (option_map_or (attribute_text world) (entry world.attributes attribute) [])
reply_of world (commands.Save file) = replies.Save file (plain (doc_of world))
reply_of world _ = replies.Quiet
