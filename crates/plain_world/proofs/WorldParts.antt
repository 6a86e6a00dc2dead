-- What holds of a world, part by part: each part is said by the fields that it is about.
use Rattle.std.proofs.Common.{◌≡◌, ℕ, true, List, [], ◌∷◌, Option, None, All}
use Rattle.std.specs.List.{filter_map}
use Rattle.std.proofs.lemmas.List.Elements.{All-weaker}
use Rattle.base_items.specs.declared.items.ItemSort.TheVariants.{Node, Arc}
use Rattle.script_words.specs.declared.commands.LayerWord.{LayerWord}
use Rattle.script_words.specs.declared.commands.LayerWord.TheVariants as words
use Rattle.script_words.specs.declared.commands.MapType.TheVariants as types
use Rattle.plain_digraph.specs.Digraph.{Digraph}
use Rattle.plain_digraph.specs.Items.{facts}
use Rattle.plain_digraph.specs.Copies.{Copy}
use Rattle.plain_digraph.specs.Valid as digraph
use Rattle.plain_world.specs.Tables.{Named}
use Rattle.plain_world.specs.World.{World, Held, Guard}
use Rattle.plain_world.specs.Views.{base}
use Rattle.plain_world.specs.Refusals.{law_holds}
use Rattle.plain_world.specs.Valid.{IsWorld, IsGuard, HasLeft, IsSnapshot, CopiesAgree, IsNamed}
use Rattle.plain_world.specs.Valid.{IsLayer, StandOnOlder, IsAttribute, NamesDiffer}
use Rattle.plain_world.proofs.Attaching.{IsKept, typed, to_attached, from_attached}

abbrev pub GuardOk : Digraph → Guard → Type 0
GuardOk g guard = (law_holds guard.kind guard.limit (facts g guard.sort) ≡ true)
    × HasLeft guard.kind guard

abbrev pub LayerOk : List (Named Held) → List (Named Held) → LayerWord → Type 0
LayerOk nodes arcs (words.Sub node_map arc_map) = IsNamed (typed nodes types.Bools) node_map
    × IsNamed (typed arcs types.Bools) arc_map
LayerOk nodes arcs (words.Residual cap flow) = (typed arcs types.Ints cap ≡ true)
    × (typed arcs types.Ints flow ≡ true)
LayerOk nodes arcs words.Reverse = Unit {0}
LayerOk nodes arcs words.Undirect = Unit {0}
LayerOk nodes arcs words.Split = Unit {0}

-- what holds of a world amid an alteration, where one node and one arc at most have no label yet
pub record Amid (node arc : Option ℕ) (w : World) : Type 0 where
  pub graph_ok : digraph.IsValid w.graph
  pub nodes_ok : IsKept w.graph Node node w.nodes
  pub arcs_ok : IsKept w.graph Arc arc w.arcs
  pub guards_ok : All (λ e. GuardOk w.graph e.value) w.guards
  pub snapshots_ok : All (λ e. IsSnapshot w.graph e.value) w.snapshots
  pub copies_agree : CopiesAgree (filter_map (λ (e : Named (Option Copy)). e.value) w.snapshots)
  pub views_stand : StandOnOlder (base ∷ []) w.views
  pub layers_ok : All (λ e. LayerOk w.nodes.maps w.arcs.maps e.value.layer) w.views
  pub attributes_ok : All (λ e. IsAttribute w.graph e.value) w.attributes
  pub guards_differ : NamesDiffer w.guards
  pub snapshots_differ : NamesDiffer w.snapshots
  pub views_differ : NamesDiffer w.views
  pub attributes_differ : NamesDiffer w.attributes

-- what holds of a world in which all items have labels
abbrev pub Parts : World → Type 0
Parts w = Amid None None w

layer_here : (w : World) (layer : LayerWord) → IsLayer w layer
    → LayerOk w.nodes.maps w.arcs.maps layer
layer_here w (words.Sub nodes arcs) is = is
layer_here w (words.Residual cap flow) is = is
layer_here w words.Reverse is = tt
layer_here w words.Undirect is = tt
layer_here w words.Split is = tt

layer_there : (w : World) (layer : LayerWord) → LayerOk w.nodes.maps w.arcs.maps layer
    → IsLayer w layer
layer_there w (words.Sub nodes arcs) is = is
layer_there w (words.Residual cap flow) is = is
layer_there w words.Reverse is = tt
layer_there w words.Undirect is = tt
layer_there w words.Split is = tt

pub to_parts : (w : World) → IsWorld w → Parts w
to_parts w ok = record {
  graph_ok = ok.graph_ok;
  nodes_ok = from_attached w Node ok.nodes_ok;
  arcs_ok = from_attached w Arc ok.arcs_ok;
  guards_ok = All-weaker (λ e. IsGuard w e.value) (λ e. GuardOk w.graph e.value)
      (λ e is. (is.lawful, is.has_left)) w.guards ok.guards_ok;
  snapshots_ok = ok.snapshots_ok;
  copies_agree = ok.copies_agree;
  views_stand = ok.views_stand;
  layers_ok = All-weaker (λ e. IsLayer w e.value.layer)
      (λ e. LayerOk w.nodes.maps w.arcs.maps e.value.layer)
      (λ e is. layer_here w e.value.layer is) w.views ok.layers_ok;
  attributes_ok = ok.attributes_ok;
  guards_differ = ok.guards_differ;
  snapshots_differ = ok.snapshots_differ;
  views_differ = ok.views_differ;
  attributes_differ = ok.attributes_differ;
}

guard_there : (w : World) (guard : Guard) → GuardOk w.graph guard → IsGuard w guard
guard_there w guard is = record { lawful = is.0; has_left = is.1 }

pub from_parts : (w : World) → Parts w → IsWorld w
from_parts w ok = record {
  graph_ok = ok.graph_ok;
  nodes_ok = to_attached w Node ok.nodes_ok;
  arcs_ok = to_attached w Arc ok.arcs_ok;
  guards_ok = All-weaker (λ e. GuardOk w.graph e.value) (λ e. IsGuard w e.value)
      (λ e is. guard_there w e.value is) w.guards ok.guards_ok;
  snapshots_ok = ok.snapshots_ok;
  copies_agree = ok.copies_agree;
  views_stand = ok.views_stand;
  layers_ok = All-weaker (λ e. LayerOk w.nodes.maps w.arcs.maps e.value.layer)
      (λ e. IsLayer w e.value.layer)
      (λ e is. layer_there w e.value.layer is) w.views ok.layers_ok;
  attributes_ok = ok.attributes_ok;
  guards_differ = ok.guards_differ;
  snapshots_differ = ok.snapshots_differ;
  views_differ = ok.views_differ;
  attributes_differ = ok.attributes_differ;
}
