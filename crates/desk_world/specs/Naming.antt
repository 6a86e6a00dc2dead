-- The names of the items that a tower shows, whatever its maps go by.
use Rattle.std.specs.Prelude.{◌≡◌, ℕ, true, List}
use Rattle.base_items.specs.declared.items.Fact.{Fact}
use Rattle.base_items.specs.declared.items.ItemSort.TheVariants as sorts
use Rattle.report_text.specs.declared.replies.NodeLine.{NodeLine}
use Rattle.report_text.specs.declared.replies.ArcLine.{ArcLine}
use Rattle.plain_digraph.specs.Digraph.{Digraph}
use Rattle.plain_digraph.specs.Items.{IsLive}
use Rattle.plain_digraph.specs.Lists.{has}
use Rattle.plain_views.specs.Marks.{arc_origin, node_marks, arc_marks, marked}
use Rattle.plain_views.specs.Shown.{Shown, has_arc}
use Rattle.plain_views.specs.TowerLaws.{IsLiveOrigin}
use Rattle.plain_views.specs.Towers.{Layer, base_node}
use Rattle.plain_world.specs.Tables.{Name}
use Rattle.plain_world.specs.World.{World, label_of}
use Rattle.plain_world.specs.Views.{origin_label}

module _ {M : Type 0} (world : World) (tower : List (Layer M)) where
  -- the label of the item that it comes from, with its marks
  abbrev pub node_called : ℕ → Name
  node_called node =
      marked (label_of world sorts.Node (base_node tower node)) (node_marks tower node)

  abbrev pub arc_called : ℕ → Name
  arc_called arc = marked (origin_label world (arc_origin tower arc)) (arc_marks tower arc)

  abbrev pub called_node : ℕ → NodeLine
  called_node node = record { id = node; name = node_called node }

  -- an arc by its ends, whatever its stamps
  abbrev pub called_arc : Fact → ArcLine
  called_arc arc = record {
    id = arc.id;
    name = arc_called arc.id;
    from = node_called arc.from;
    to = node_called arc.to;
  }

module _ {M : Type 0} (g : Digraph) (tower : List (Layer M)) where
  -- the arc and its ends come from live items
  pub record ComesFromLive (arc : Fact) : Type 0 where
    pub origin : IsLiveOrigin g (arc_origin tower arc.id)
    pub from : IsLive g sorts.Node (base_node tower arc.from)
    pub to : IsLive g sorts.Node (base_node tower arc.to)

  -- all that is shown comes from live items
  pub record ShowsLive (p : Shown) : Type 0 where
    pub nodes : (node : ℕ) → has p.nodes node ≡ true → IsLive g sorts.Node (base_node tower node)
    pub arcs : (arc : ℕ) → has_arc p arc ≡ true → IsLiveOrigin g (arc_origin tower arc)
