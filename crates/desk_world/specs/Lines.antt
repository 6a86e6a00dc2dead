-- The lines of listings.
use Rattle.std.specs.Prelude.{ℕ}
use Rattle.base_items.specs.declared.items.ItemSort.TheVariants.{Node, Arc}
use Rattle.report_text.specs.declared.replies.GuardNumbers.{GuardNumbers}
use Rattle.report_text.specs.declared.replies.GuardNumbers.TheVariants as numbers
use Rattle.report_text.specs.declared.replies.NodeLine.{NodeLine}
use Rattle.report_text.specs.declared.replies.ArcLine.{ArcLine}
use Rattle.plain_digraph.specs.Items.{source_of, target_of}
use Rattle.observe_core.specs.declared.kinds.Kind.{Kind}
use Rattle.observe_core.specs.declared.kinds.Kind.TheVariants as kinds
use Rattle.observe_core.specs.declared.kinds.Readout.{Readout}
use Rattle.plain_world.specs.World.{World, label_of}
use Rattle.desk_world.specs.declared.listings.SeenArc.{SeenArc}

-- a node with its label
abbrev pub node_line : World → ℕ → NodeLine
node_line world id = record { id = id; name = label_of world Node id }

-- an arc with its label and those of its ends
abbrev pub arc_line : World → ℕ → ArcLine
arc_line world id = record {
  id = id;
  name = label_of world Arc id;
  from = label_of world Node (source_of world.graph id);
  to = label_of world Node (target_of world.graph id);
}

-- the line of an arc of which is known what it says
abbrev pub line_of : SeenArc → ArcLine
line_of a = record { id = a.id; name = a.name.now; from = a.from.now; to = a.to.now }

-- the numbers of a guard of the kind, as they are read from it
abbrev pub numbers_by : Kind → Readout → GuardNumbers
numbers_by kinds.Map r = numbers.Tally r.added r.erased r.moved
numbers_by kinds.Quota r = numbers.Quota r.k r.items
numbers_by kinds.Loopless r = numbers.Loopless r.items
numbers_by kinds.Simple r = numbers.Simple r.items
numbers_by kinds.OutCap r = numbers.OutCap r.k r.items
numbers_by kinds.Fuse r = numbers.Fuse r.left
numbers_by kinds.Tally r = numbers.Tally r.added r.erased r.moved
