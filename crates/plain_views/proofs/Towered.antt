-- What a tower shows is valid, bounded, and comes from live items, layer by layer.
use Rattle.std.proofs.Common.{◌≡◌, ℕ, Bool, true, false, cond, List, [], ◌∷◌, sym, ◌∙◌}
use Rattle.base_items.specs.declared.items.ItemSort.TheVariants as sorts
use Rattle.plain_digraph.specs.Lists.{has}
use Rattle.plain_digraph.specs.Digraph.{Digraph}
use Rattle.plain_digraph.specs.Items.{IsLive}
use Rattle.plain_digraph.specs.Valid.{IsValid}
use Rattle.plain_views.specs.Shown.{IsShown, AreBelow, has_arc, arc_of}
use Rattle.plain_views.specs.Adaptors.{is_even, half, is_kept, sub}
use Rattle.plain_views.specs.Towers.{Layer, Reverse, Sub, Undirect, Residual, Split, Values, shown}
use Rattle.plain_views.specs.Towers.{base_node, passes, node_bool, arc_bool, arc_int}
use Rattle.plain_views.specs.Marks.{Origin, FromNode, arc_origin}
use Rattle.plain_views.specs.TowerLaws.{tower_bound, IsLiveOrigin, ShowsLiveItems}
use Rattle.plain_views.proofs.Walks.{and_left, has-filter}
use Rattle.plain_views.proofs.Base.{base_is_shown, base_below, base_has_arc}
use Rattle.plain_views.proofs.Adapted.{reversed_is_shown, reversed_below, reversed_has_arc}
use Rattle.plain_views.proofs.Adapted.{sub_is_shown, sub_below, part_has_arc}
use Rattle.plain_views.proofs.Adapted.{undirected_is_shown, undirected_below, undirected_has_arc}
use Rattle.plain_views.proofs.Adapted.{residual_is_shown, residual_below, residual_arc_below}
use Rattle.plain_views.proofs.Adapted.{split_is_shown, split_below, split_has_arc, has-parts}

module _ (M : Type 0) (values : Values M) (g : Digraph) (valid : IsValid g) where
  pub tower_is_shown : (tower : List (Layer M)) → IsShown (shown values g tower)
  tower_is_shown [] = base_is_shown g valid
  tower_is_shown (Reverse ∷ below) =
      reversed_is_shown (shown values g below) (tower_is_shown below)
  tower_is_shown (Sub nodes arcs ∷ below) =
      sub_is_shown (passes values (node_bool values below) nodes)
      (passes values (arc_bool values below) arcs)
      (shown values g below) (tower_is_shown below)
  tower_is_shown (Undirect ∷ below) =
      undirected_is_shown (shown values g below) (tower_is_shown below)
  tower_is_shown (Residual cap flow ∷ below) =
      residual_is_shown (arc_int values below cap) (arc_int values below flow)
      (shown values g below) (tower_is_shown below)
  tower_is_shown (Split ∷ below) = split_is_shown (shown values g below) (tower_is_shown below)

  pub tower_below : (tower : List (Layer M)) → AreBelow (shown values g tower) (tower_bound tower)
  tower_below [] = base_below g valid
  tower_below (Reverse ∷ below) =
      reversed_below (shown values g below) (tower_bound below) (tower_is_shown below)
      (tower_below below)
  tower_below (Sub nodes arcs ∷ below) =
      sub_below (passes values (node_bool values below) nodes)
      (passes values (arc_bool values below) arcs)
      (shown values g below) (tower_bound below) (tower_is_shown below) (tower_below below)
  tower_below (Undirect ∷ below) =
      undirected_below (shown values g below) (tower_bound below) (tower_is_shown below)
      (tower_below below)
  tower_below (Residual cap flow ∷ below) =
      residual_below (arc_int values below cap) (arc_int values below flow)
      (shown values g below) (tower_bound below) (tower_is_shown below) (tower_below below)
  tower_below (Split ∷ below) =
      split_below (shown values g below) (tower_bound below) (tower_below below)

  pub base_node_live : (tower : List (Layer M)) (node : ℕ)
      → has (shown values g tower).nodes node ≡ true → IsLive g sorts.Node (base_node tower node)
  base_node_live [] node at = at
  base_node_live (Reverse ∷ below) node at = base_node_live below node at
  base_node_live (Sub nodes arcs ∷ below) node at =
      let keeps = passes values (node_bool values below) nodes in
      let p = shown values g below in
      base_node_live below node
      (and_left (has p.nodes node) (keeps node) (sym (has-filter keeps p.nodes node) ∙ at))
  base_node_live (Undirect ∷ below) node at = base_node_live below node at
  base_node_live (Residual cap flow ∷ below) node at = base_node_live below node at
  base_node_live (Split ∷ below) node at =
      base_node_live below (half node) (sym (has-parts (shown values g below).nodes node) ∙ at)

  -- the origin of an arc of a split layer, by the item below
  of_part : (even has_arc has_node : Bool) (arc : Origin) (node : ℕ)
      → (has_arc ≡ true → IsLiveOrigin g arc) → (has_node ≡ true → IsLive g sorts.Node node)
      → cond even has_arc has_node ≡ true → IsLiveOrigin g (cond even arc (FromNode node))
  of_part true has_arc has_node arc node of_arc of_node at = of_arc at
  of_part false has_arc has_node arc node of_arc of_node at = of_node at

  pub origin_live : (tower : List (Layer M)) (arc : ℕ)
      → has_arc (shown values g tower) arc ≡ true → IsLiveOrigin g (arc_origin tower arc)
  origin_live [] arc at = sym (base_has_arc g arc valid) ∙ at
  origin_live (Reverse ∷ below) arc at =
      origin_live below arc
      (sym (reversed_has_arc (shown values g below) (tower_is_shown below) arc) ∙ at)
  origin_live (Sub nodes arcs ∷ below) arc at =
      let keeps_node = passes values (node_bool values below) nodes in
      let keeps = is_kept keeps_node (passes values (arc_bool values below) arcs) in
      let p = shown values g below in
      origin_live below arc
      (and_left (has_arc p arc) (keeps (arc_of p arc))
      (sym (part_has_arc (sub keeps_node (passes values (arc_bool values below) arcs) p).nodes keeps
      p
      (tower_is_shown below) arc) ∙ at))
  origin_live (Undirect ∷ below) arc at =
      origin_live below (half arc)
      (sym (undirected_has_arc (shown values g below) (tower_is_shown below) arc) ∙ at)
  origin_live (Residual cap flow ∷ below) arc at =
      origin_live below (half arc)
      (residual_arc_below (arc_int values below cap) (arc_int values below flow)
      (shown values g below) (tower_is_shown below) arc at)
  origin_live (Split ∷ below) arc at =
      let p = shown values g below in
      of_part (is_even arc) (has_arc p (half arc)) (has p.nodes (half arc))
      (arc_origin below (half arc)) (base_node below (half arc)) (origin_live below (half arc))
      (base_node_live below (half arc)) (sym (split_has_arc p arc) ∙ at)

  pub shows_live : (tower : List (Layer M)) → ShowsLiveItems values g tower
  shows_live tower = record { nodes = base_node_live tower; arcs = origin_live tower }
