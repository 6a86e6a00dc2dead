-- A view by number shows what the view shows, and its items pull what those of the view pull.
use Rattle.std.proofs.Common.{◌≡◌, ℕ, ◌<◌, List, [], ◌∷◌, map, length}
use Rattle.std.proofs.Common.{refl, sym, ap, subst, ◌∙◌, Option, Some, None}
use Rattle.std.proofs.lemmas.Option.{none-some}
use Rattle.std.specs.Prelude.{Bool, true, false}
use Rattle.std.proofs.lemmas.List.{length-map}
use Rattle.base_items.specs.declared.items.ItemSort.{ItemSort}
use Rattle.base_items.specs.declared.items.ItemSort.TheVariants.{Node, Arc}
use Rattle.script_words.specs.declared.commands.MapType.{MapType}
use Rattle.report_text.specs.declared.faults.Fault.TheVariants as faults
use Rattle.plain_certificates.specs.Numbering.{arc_at, node_at}
use Rattle.plain_certificates.specs.Tables.{at}
use Rattle.plain_digraph.specs.Digraph.{Digraph}
use Rattle.plain_digraph.specs.Lists.{has}
use Rattle.plain_digraph.specs.Valid.{IsValid}
use Rattle.plain_views.specs.Marks.{Origin, FromArc, FromNode}
use Rattle.plain_views.specs.TowerLaws.{IsLiveOrigin}
use Rattle.plain_views.specs.Shown.{Shown, ShownArc}
use Rattle.plain_views.specs.Towers as towers
use Rattle.plain_views.specs.Towers.{arc_int, node_int, node_bool}
use Rattle.plain_views.proofs.Renamed.{same_ints, same_node_int, same_node_bool}
use Rattle.plain_world.specs.Demands as demands
use Rattle.plain_world.specs.Queries.{graph, name_of_arc, name_of_node}
use Rattle.plain_world.specs.Refusals.{breach, unless}
use Rattle.plain_world.specs.Tables.{Name}
use Rattle.plain_world.specs.Valid.{IsWorld}
use Rattle.plain_world.specs.Views.{has_type, shown_by, arcs_of, arc_value}
use Rattle.plain_world.specs.Views.{node_named}
use Rattle.plain_world.specs.Views.{tower_of as named_tower, values_of}
use Rattle.plain_world.specs.World.{World}
use Rattle.view_numbers.specs.Listed.{Numbers}
use Rattle.view_tower.specs.declared.layers.Layer.{Layer}
use Rattle.view_tower.specs.Layers.{tower_of}
use Rattle.view_tower.specs.Origins.{is_live_origin}
use Rattle.tower_numbers.specs.Live.{AreLiveArcs, AreLiveNodes}
use Rattle.tower_numbers.proofs.Living.{live_arcs, live_nodes}
use Rattle.tower_numbers.proofs.Telling.{id_told}
use Rattle.desk_world.specs.AskedViews.{Asks, arc_values, node_values, left_nodes}
use Rattle.desk_world.specs.MapNumbers as numbers
use Rattle.desk_world.specs.MapNumbers.{numbered, is_live}
use Rattle.desk_world.specs.Naming.{node_called, arc_called, ShowsLive}
use Rattle.desk_world.specs.NodeWords.{Means, node_called_so}
use Rattle.desk_world.specs.NumberLaws.{type_by_number}
use Rattle.desk_world.specs.declared.asked_views.AskedView.{AskedView}
use Rattle.desk_world.proofs.MapNumbers.{agrees_at, agrees_on_arcs}
use Rattle.desk_world.proofs.WordsRead.{found_shown, hidden, none_meant}
use Rattle.desk_world.proofs.NumberedMaps.{live_is}
use Rattle.desk_world.proofs.ShownLive.{tower_lives}
use Rattle.desk_world.proofs.ViewListed.{node_found, shows_view, same_node, same_arc}

abbrev pub no_arc : ShownArc
no_arc = record { id = 0; from = 0; to = 0 }

map_ids : {X : Type 0} (f : ℕ → X) (arcs : List ShownArc)
    → map f (map (λ (arc : ShownArc). arc.id) arcs) ≡ map (λ arc. f arc.id) arcs
map_ids f [] = refl
map_ids f (arc ∷ arcs) = ap (λ more. f arc.id ∷ more) (map_ids f arcs)

-- ---- what is read of a world

module _ (world read : World) (same : read ≡ world) where
  -- by the numbers of maps its layers show the view
  pub read_shows : (view : Name) (g : Digraph) (tower : List (towers.Layer ℕ)) → g ≡ world.graph
      → tower ≡ numbers.numbered_tower world view
      → towers.shown (numbered read) g tower ≡ shown_by world view
  read_shows view g tower graph is =
      (λ i. towers.shown (numbered (same i)) (graph i) tower)
      ∙ shows_view world view tower is (towers.shown (numbered world) world.graph tower) refl

  -- a map that has the type by its name has it by its number
  pub map_there : (sort : ItemSort) (type : MapType) (name : Name) (number : ℕ)
      → number ≡ numbers.number_of world sort name
      → breach world (demands.HasType sort type name) ≡ None
      → numbers.numbers_type read type sort number ≡ true
  map_there sort type name number is met =
      (λ i. numbers.numbers_type (same i) type sort (is i))
      ∙ type_by_number world type sort name
      ∙ holds (has_type world sort type name) met
    where
      holds : (b : Bool) → unless b (faults.WrongType name) ≡ None → b ≡ true
      holds true met = refl
      holds false met = absurd (none-some (faults.WrongType name) (sym met))

-- ---- the node that a word names

module _ (world : World) (ok : IsWorld world) (view : Name) (tower : List (towers.Layer ℕ))
    (is : tower ≡ numbers.numbered_tower world view) (name : Name) where
  abbrev pub own : Shown
  own = towers.shown (numbered world) world.graph tower

  own_live : ShowsLive world.graph tower own
  own_live = tower_lives (numbered world) world.graph ok.graph_ok tower own refl

  named_by : (o : Option ℕ) → node_called_so world tower own name ≡ o
      → node_named world view name ≡ o
  named_by o found = sym (node_found world view tower is own refl name) ∙ found

  pub node_there : (node : ℕ) → Means world tower name (Some node) → has own.nodes node ≡ true
      → node_named world view name ≡ Some node
  node_there node means shown =
      named_by (Some node) (found_shown world tower ok own own_live name node means shown)

  pub node_hidden : (node : ℕ) → Means world tower name (Some node)
      → has own.nodes node ≡ false → node_named world view name ≡ None
  node_hidden node means out =
      named_by None (hidden world tower ok own own_live name node means out)

  pub node_unmeant : Means world tower name None → node_named world view name ≡ None
  node_unmeant means = named_by None (none_meant world tower ok own own_live name means)

-- ---- a view by number

module _ (world : World) (asked : AskedView) (asks : Asks world asked) where
  abbrev pub view : Name
  view = asked.view.now

  -- the layers show the view
  pub layers_show : towers.shown (numbered world) world.graph (tower_of asked.layers.items)
      ≡ shown_by world view
  layers_show =
      shows_view world view (tower_of asked.layers.items) asks.layers
      (towers.shown (numbered world) world.graph (tower_of asked.layers.items)) refl

  own_numbers : Numbers (towers.shown (numbered world) world.graph (tower_of asked.layers.items))
      asked.fixed
  own_numbers = subst (λ (p : Shown). Numbers p asked.fixed) (sym layers_show) asks.numbers

  -- read from the same layers and the same world
  module _ (read : World) (same : read ≡ world) (layers : List Layer)
      (are : layers ≡ asked.layers.items) where
    pub arcs_live : IsValid world.graph
        → AreLiveArcs (is_live read.graph) (tower_of layers) asked.fixed.arcs
    arcs_live ok =
        subst (λ (w : World). AreLiveArcs (is_live w.graph) (tower_of layers) asked.fixed.arcs)
        (sym same)
        (subst (λ ls. AreLiveArcs (is_live world.graph) (tower_of ls) asked.fixed.arcs) (sym are)
        (live_arcs (numbered world) world.graph (tower_of asked.layers.items) ok
        (is_live world.graph) (live_is world.graph) asked.fixed own_numbers))

    pub nodes_live : IsValid world.graph
        → AreLiveNodes (is_live read.graph) (tower_of layers) asked.fixed.nodes
    nodes_live ok =
        subst (λ (w : World). AreLiveNodes (is_live w.graph) (tower_of layers) asked.fixed.nodes)
        (sym same)
        (subst (λ ls. AreLiveNodes (is_live world.graph) (tower_of ls) asked.fixed.nodes)
        (sym are)
        (live_nodes (numbered world) world.graph (tower_of asked.layers.items) ok
        (is_live world.graph) (live_is world.graph) asked.fixed own_numbers))

    pub arcs_pulled : (name : Name)
        → map (arc_int (numbered read) (tower_of layers) (numbers.number_of world Arc name))
        asked.fixed.arcs
        ≡ arc_values world view name
    arcs_pulled name =
        let number = numbers.number_of world Arc name in
        (λ i. map (arc_int (numbered (same i)) (tower_of (are i)) number) asked.fixed.arcs)
        ∙ (λ i. map (arc_int (numbered world) (asks.layers i) number) asked.fixed.arcs)
        ∙ (λ i. map (λ arc. same_ints Name ℕ (numbers.number_of world) (values_of world)
        (numbered world) (named_tower world view) name arc (agrees_on_arcs world name) i)
        (asks.numbers.arcs i))
        ∙ map_ids (arc_value world view name) (arcs_of world view)

    pub nodes_pulled : (name : Name)
        → map (node_int (numbered read) (tower_of layers) (numbers.number_of world Node name))
        asked.fixed.nodes
        ≡ node_values world view name
    nodes_pulled name =
        let number = numbers.number_of world Node name in
        (λ i. map (node_int (numbered (same i)) (tower_of (are i)) number) asked.fixed.nodes)
        ∙ (λ i. map (node_int (numbered world) (asks.layers i) number) asked.fixed.nodes)
        ∙ (λ i. map (λ node. same_node_int Name ℕ (numbers.number_of world) (values_of world)
        (numbered world) (named_tower world view) name node (agrees_at world Node name) i)
        (asks.numbers.nodes i))

    pub sides_pulled : (name : Name)
        → map (node_bool (numbered read) (tower_of layers) (numbers.number_of world Node name))
        asked.fixed.nodes
        ≡ left_nodes world view name
    sides_pulled name =
        let number = numbers.number_of world Node name in
        (λ i. map (node_bool (numbered (same i)) (tower_of (are i)) number) asked.fixed.nodes)
        ∙ (λ i. map (node_bool (numbered world) (asks.layers i) number) asked.fixed.nodes)
        ∙ (λ i. map (λ node. same_node_bool Name ℕ (numbers.number_of world) (values_of world)
        (numbered world) (named_tower world view) name node (agrees_at world Node name) i)
        (asks.numbers.nodes i))

  -- a number of an arc of the view is one of the digraph by number
  pub arc_numbered : (k : ℕ) → k < (graph world view).arcs → k < length asked.fixed.arcs
  arc_numbered k below =
      subst (λ n. k < n)
      (sym (ap length asks.numbers.arcs
      ∙ length-map (arcs_of world view) (λ (arc : ShownArc). arc.id))) below

  -- ---- names

  pub node_told : (k : ℕ)
      → node_called world (tower_of asked.layers.items) (at 0 asked.fixed.nodes k)
      ≡ name_of_node world view k
  node_told k =
      (λ i. node_called world (asks.layers i) (at 0 (asks.numbers.nodes i) k))
      ∙ ap (λ (called : ℕ → Name). called (node_at (shown_by world view) k))
      (same_node (numbers.number_of world) world (named_tower world view))

  pub arc_told : (k : ℕ)
      → arc_called world (tower_of asked.layers.items) (at 0 asked.fixed.arcs k)
      ≡ name_of_arc world view k
  arc_told k =
      (λ i. arc_called world (asks.layers i)
      (id_told (shown_by world view) asked.fixed asks.numbers k i))
      ∙ ap (λ (called : ℕ → Name). called (arc_at (shown_by world view) k).id)
      (same_arc (numbers.number_of world) world (named_tower world view))

-- an origin is live by the test of live items
pub origin_lives : (g : Digraph) (origin : Origin) → is_live_origin (is_live g) origin ≡ true
    → IsLiveOrigin g origin
origin_lives g (FromArc arc) is = is
origin_lives g (FromNode node) is = is
