-- The rows of a document, put to a world in two passes: first the items, and then their labels and
-- texts.
use Rattle.std.specs.Prelude.{ℕ, ◌+◌, List, [], ◌∷◌, map, Option}
use Rattle.base_items.specs.declared.items.ItemSort.{ItemSort}
use Rattle.base_items.specs.declared.items.ItemSort.TheVariants.{Node, Arc}
use Rattle.lgf_file.specs.Rows.{Cells}
use Rattle.lgf_file.specs.declared.documents.Link.{Link}
use Rattle.plain_digraph.specs.PlainSteps.{AddNode, AddArc}
use Rattle.plain_world.specs.World.{World}
use Rattle.plain_world.specs.Following.{follow}
use Rattle.plain_world.specs.Documents.{described}

-- a node for each row
abbrev pub with_nodes : World → List Cells → World
with_nodes world [] = world
with_nodes world (cells ∷ rows) = with_nodes (follow world AddNode) rows

-- the arcs
abbrev pub with_arcs : World → List Link → World
with_arcs world [] = world
with_arcs world (link ∷ links) = with_arcs (follow world (AddArc link.from link.to)) links

-- the labels and texts of the items from this id on
abbrev pub all_described : ItemSort → Option ℕ → World → ℕ → List Cells → World
all_described sort place world id [] = world
all_described sort place world id (cells ∷ rows) =
    all_described sort place (described world sort id place cells) (id + 1) rows

abbrev pub values_of : List Link → List Cells
values_of links = map (λ (link : Link). link.values) links

-- all items, and then what the rows say of the nodes and of the arcs
abbrev pub in_two : (place arc_place : Option ℕ) → List Cells → List Link → World → World
in_two place arc_place rows links world =
    all_described Arc arc_place
    (all_described Node place (with_arcs (with_nodes world rows) links) 0 rows)
    0 (values_of links)
