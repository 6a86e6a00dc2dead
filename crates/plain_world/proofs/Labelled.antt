-- Alterations that add items, which get their labels then.
use Rattle.std.proofs.Common.{◌≡◌, ◌+◌, ◌≤◌, ◌<◌, ℕ, true, false, refl, sym, ◌∙◌, ap, subst}
use Rattle.std.proofs.Common.{List, [], ◌∷◌, length, Option, None, Some, arith}
use Rattle.std.specs.Prelude.{fold}
use Rattle.std.proofs.lemmas.List.{length-append, length-map}
use Rattle.std.proofs.lemmas.List.Sums.{fold-append}
use Rattle.base_items.specs.declared.items.ItemSort.TheVariants.{Node, Arc}
use Rattle.base_items.specs.declared.limits.TheConstants.{MAX_NODES, MAX_ARCS, MAX_STAMP}
use Rattle.plain_digraph.specs.Digraph.{Digraph}
use Rattle.plain_digraph.specs.Items.{IsLive, out_arcs, target_of}
use Rattle.plain_digraph.specs.Steps.{add_node, new_node, new_arc, move_from}
use Rattle.plain_digraph.specs.PlainSteps.{PlainStep, AddNode, AddArc, MoveFrom, MoveTo}
use Rattle.plain_digraph.specs.PlainSteps.{after_steps, change_of}
use Rattle.plain_digraph.specs.Alterations.{single, sources_to, node_split, arc_split}
use Rattle.plain_digraph.specs.Alterations.{refusable_steps}
use Rattle.plain_digraph.specs.Valid as digraph
use Rattle.plain_digraph.proofs.Changes.{source_once, live_ends}
use Rattle.plain_digraph.proofs.Orders.{out_arc_own}
use Rattle.plain_digraph.proofs.Places.{length-unplaced}
use Rattle.plain_digraph.proofs.StepLiving.{live_items_stay, live_items_stay_throughout}
use Rattle.plain_digraph.proofs.StepLiving.{added_items_are_live}
use Rattle.plain_digraph.proofs.StepOrders.{all_if_each}
use Rattle.plain_world.specs.Tables.{Name}
use Rattle.plain_world.specs.World.{World}
use Rattle.plain_world.specs.Following.{follow, altered, labelled}
use Rattle.plain_world.proofs.Attaching.{IsUnused, kept_labelled}
use Rattle.plain_world.proofs.Followed.{graphs_follow}
use Rattle.plain_world.proofs.LawsKept.{LetThrough, passed_laws}
use Rattle.plain_world.proofs.Passing.{Passes, passes_still, passes_parts}
use Rattle.plain_world.proofs.Moves.{sources_can, sources_shift, sources_stamps}
use Rattle.plain_world.proofs.Moves.{sources_refusable, shifts_are_moves, shifts_leave}
use Rattle.plain_world.proofs.StepKept.{valid_after, step_kept}
use Rattle.plain_world.proofs.StepsKept.{CanSteps, moves_kept, passes_throughout}
use Rattle.plain_world.proofs.StepsKept.{unused_after, unused_throughout}
use Rattle.plain_world.proofs.WorldParts.{Amid, Parts}

-- ---- labels

-- the node without a label gets one
pub node_labelled : (w : World) (fresh : Option ℕ) (node : ℕ) (name : Name)
    → Amid (Some node) fresh w → IsLive w.graph Node node → IsUnused w.nodes.labels name
    → Amid None fresh (labelled w Node node name)
node_labelled w fresh node name ok live unused = record {
  graph_ok = ok.graph_ok;
  nodes_ok = kept_labelled w.graph Node w.nodes node name live unused ok.nodes_ok;
  arcs_ok = ok.arcs_ok;
  guards_ok = ok.guards_ok;
  snapshots_ok = ok.snapshots_ok;
  copies_agree = ok.copies_agree;
  views_stand = ok.views_stand;
  layers_ok = ok.layers_ok;
  attributes_ok = ok.attributes_ok;
  guards_differ = ok.guards_differ;
  snapshots_differ = ok.snapshots_differ;
  views_differ = ok.views_differ;
  attributes_differ = ok.attributes_differ;
}

-- and so does the arc
pub arc_labelled : (w : World) (fresh : Option ℕ) (arc : ℕ) (name : Name)
    → Amid fresh (Some arc) w → IsLive w.graph Arc arc → IsUnused w.arcs.labels name
    → Amid fresh None (labelled w Arc arc name)
arc_labelled w fresh arc name ok live unused = record {
  graph_ok = ok.graph_ok;
  nodes_ok = ok.nodes_ok;
  arcs_ok = kept_labelled w.graph Arc w.arcs arc name live unused ok.arcs_ok;
  guards_ok = ok.guards_ok;
  snapshots_ok = ok.snapshots_ok;
  copies_agree = ok.copies_agree;
  views_stand = ok.views_stand;
  layers_ok = ok.layers_ok;
  attributes_ok = ok.attributes_ok;
  guards_differ = ok.guards_differ;
  snapshots_differ = ok.snapshots_differ;
  views_differ = ok.views_differ;
  attributes_differ = ok.attributes_differ;
}

-- ---- additions

node_amid : (w : World) → Parts w → length w.graph.nodes + 1 ≤ MAX_NODES
    → w.graph.stamps < MAX_STAMP → LetThrough w.graph AddNode w.guards
    → Amid (Some (new_node w.graph)) None (follow w AddNode)
node_amid w ok few left passes =
    step_kept w AddNode None None ok (omega (arith, few), left) refl tt
    (passed_laws w.graph AddNode w.guards refl passes ok.guards_ok) (λ k d within. tt)

arc_amid : (w : World) (fresh : Option ℕ) (from to : ℕ) → Amid fresh None w
    → length w.graph.by_source + 1 ≤ MAX_ARCS → w.graph.stamps < MAX_STAMP
    → IsLive w.graph Node from → IsLive w.graph Node to
    → LetThrough w.graph (AddArc from to) w.guards
    → Amid fresh (Some (new_arc w.graph)) (follow w (AddArc from to))
arc_amid w fresh from to ok few left live also passes =
    step_kept w (AddArc from to) fresh None ok ((omega (arith, few), left), live, also) tt refl
    (passed_laws w.graph (AddArc from to) w.guards refl passes ok.guards_ok) (λ k d within. tt)

pub node_added : (w : World) (name : Name) → Parts w → length w.graph.nodes + 1 ≤ MAX_NODES
    → w.graph.stamps < MAX_STAMP → Passes w.guards w.graph (AddNode ∷ [])
    → IsUnused w.nodes.labels name
    → Parts (labelled (altered w (single AddNode)) Node (new_node w.graph) name)
node_added w name ok few left passes unused =
    node_labelled (follow w AddNode) None (new_node w.graph) name
    (node_amid w ok few left passes.0) (added_items_are_live w.graph 0 0).0 unused

pub arc_added : (w : World) (from to : ℕ) (name : Name) → Parts w
    → length w.graph.by_source + 1 ≤ MAX_ARCS → w.graph.stamps < MAX_STAMP
    → IsLive w.graph Node from → IsLive w.graph Node to
    → Passes w.guards w.graph (AddArc from to ∷ []) → IsUnused w.arcs.labels name
    → Parts (labelled (altered w (single (AddArc from to))) Arc (new_arc w.graph) name)
arc_added w from to name ok few left live also passes unused =
    arc_labelled (follow w (AddArc from to)) None (new_arc w.graph) name
    (arc_amid w None from to ok few left live also passes.0)
    (added_items_are_live w.graph from to).1 unused

-- ---- a node is split

-- moved arcs are as many as before, and the next id stays
sources_counted : (arcs : List ℕ) (g : Digraph) (node : ℕ) → digraph.IsValid g
    → CanSteps g (sources_to node arcs)
    → length (after_steps g (sources_to node arcs)).by_source ≡ length g.by_source
sources_counted [] g node valid can = refl
sources_counted (arc ∷ arcs) g node valid can =
    let h = move_from g arc node in
    let rest = sources_counted arcs h node (valid_after g (MoveFrom arc node) valid can.0) can.1 in
    let same = length-unplaced g.by_source arc (source_once g arc valid can.0.0) in
    omega (arith, rest, same)

same_next : (arcs : List ℕ) (g : Digraph) (node : ℕ)
    → new_arc (after_steps g (sources_to node arcs)) ≡ new_arc g
same_next [] g node = refl
same_next (arc ∷ arcs) g node = same_next arcs (move_from g arc node) node

module _ (w : World) (node : ℕ) where
  abbrev before : Digraph
  before = w.graph

  abbrev new : ℕ
  new = new_node w.graph

  abbrev with_node : Digraph
  with_node = add_node w.graph

  abbrev moves : List PlainStep
  moves = sources_to new (out_arcs with_node node)

  abbrev moved_graph : Digraph
  moved_graph = after_steps with_node moves

  abbrev moved_world : World
  moved_world = fold follow (follow w AddNode) moves

  moves_can : before.stamps + (1 + length moves) ≤ MAX_STAMP → CanSteps with_node moves
  moves_can left =
      let arcs = out_arcs with_node node in
      let size = length-map arcs (λ arc. MoveFrom arc new) in
      sources_can arcs with_node new
      (all_if_each (IsLive with_node Arc) arcs (λ arc at. (out_arc_own with_node node arc at).0))
      (added_items_are_live before 0 0).0 (omega (arith, left, size))

  moves_amid : Parts w → length before.nodes + 1 ≤ MAX_NODES
      → before.stamps + (1 + length moves) ≤ MAX_STAMP
      → Passes w.guards before (AddNode ∷ moves) → Amid (Some new) None moved_world
  moves_amid ok few left passes =
      let arcs = out_arcs with_node node in
      moves_kept moves (follow w AddNode) (Some new) None
      (node_amid w ok few (omega (arith, left)) passes.0)
      (shifts_are_moves moves (sources_shift new arcs)) (moves_can left)
      (passes_still (change_of before AddNode) w.guards with_node moves passes.1)
      (shifts_leave moves (follow w AddNode).snapshots (sources_shift new arcs))

  stays_there : (id : ℕ) → IsLive with_node Node id → IsLive moved_world.graph Node id
  stays_there id live =
      subst (λ h. IsLive h Node id) (sym (graphs_follow moves (follow w AddNode)))
      (live_items_stay_throughout with_node moves Node id
      (sources_refusable new (out_arcs with_node node)) live)

pub node_split_kept : (w : World) (node : ℕ) (name : Name) → Parts w
    → length w.graph.nodes + 1 ≤ MAX_NODES
    → w.graph.stamps + length (refusable_steps w.graph (node_split w.graph node false)) ≤ MAX_STAMP
    → Passes w.guards w.graph (refusable_steps w.graph (node_split w.graph node false))
    → IsUnused w.nodes.labels name
    → Parts (labelled (altered w (node_split w.graph node false)) Node (new_node w.graph) name)
node_split_kept w node name ok few left passes unused =
    let g = w.graph in
    let steps = moves w node in
    let added = follow w AddNode in
    let size = length-append steps [] in
    let parts = passes_parts w.guards g (AddNode ∷ steps) [] passes in
    let kept = node_labelled (moved_world w node) None (new_node g) name
    (moves_amid w node ok few (omega (arith, left, size)) parts.0)
    (stays_there w node (new_node g) (added_items_are_live g 0 0).0)
    (unused_throughout steps added Node name unused) in
    subst (λ later. Parts (labelled later Node (new_node g) name))
    (sym (fold-append follow added steps [])) kept

pub node_split_joined : (w : World) (node : ℕ) (name arc_name : Name) → Parts w
    → IsLive w.graph Node node → length w.graph.nodes + 1 ≤ MAX_NODES
    → length w.graph.by_source + 1 ≤ MAX_ARCS
    → w.graph.stamps + length (refusable_steps w.graph (node_split w.graph node true)) ≤ MAX_STAMP
    → Passes w.guards w.graph (refusable_steps w.graph (node_split w.graph node true))
    → IsUnused w.nodes.labels name → IsUnused w.arcs.labels arc_name
    → Parts (labelled (labelled (altered w (node_split w.graph node true)) Node (new_node w.graph)
    name) Arc (new_arc w.graph) arc_name)
node_split_joined w node name arc_name ok live few few_arcs left passes unused unused_arc =
    let g = w.graph in
    let u = new_node g in
    let g1 = with_node w node in
    let steps = moves w node in
    let added = follow w AddNode in
    let arc_step = AddArc node u in
    let tail : List PlainStep = arc_step ∷ [] in
    let g2 = moved_graph w node in
    let w2 = moved_world w node in
    let w3 = follow w2 arc_step in
    let arcs = out_arcs g1 node in
    let size = length-append steps tail in
    let size_b = length-map arcs (λ arc. MoveFrom arc u) in
    let enough : g.stamps + (1 + length steps) ≤ MAX_STAMP = omega (arith, left, size) in
    let parts = passes_parts w.guards g (AddNode ∷ steps) tail passes in
    let amid = moves_amid w node ok few enough parts.0 in
    let same : w2.graph ≡ g2 = graphs_follow steps added in
    let can = moves_can w node enough in
    let valid1 = valid_after g AddNode ok.graph_ok (omega (arith, few), omega (arith, enough)) in
    let counted : length w2.graph.by_source ≡ length g.by_source =
    ap (λ h. length h.by_source) same ∙ sources_counted arcs g1 u valid1 can in
    let stamps : w2.graph.stamps ≡ (g.stamps + 1) + length arcs =
    ap (λ h. h.stamps) same ∙ sources_stamps arcs g1 u in
    let live_u = stays_there w node u (added_items_are_live g 0 0).0 in
    let live_node = stays_there w node node (live_items_stay g AddNode Node node refl live) in
    let passed : Passes w2.guards w2.graph tail =
    subst (λ h. Passes w2.guards h tail) (sym same)
    (passes_throughout steps added g2 tail
    (passes_still (change_of g AddNode) w.guards g2 tail parts.1)) in
    let with_arc = arc_amid w2 (Some u) node u amid (omega (arith, counted, few_arcs))
    (omega (arith, stamps, left, size, size_b)) live_node live_u passed.0 in
    let named = node_labelled w3 (Some (new_arc w2.graph)) u name with_arc
    (live_items_stay w2.graph arc_step Node u refl live_u)
    (unused_throughout steps added Node name unused) in
    let both = arc_labelled (labelled w3 Node u name) None (new_arc w2.graph) arc_name named
    (added_items_are_live w2.graph node u).1
    (unused_after w2 arc_step Arc arc_name
    (unused_throughout steps added Arc arc_name unused_arc)) in
    let next : new_arc w2.graph ≡ new_arc g = ap new_arc same ∙ same_next arcs g1 u in
    subst (λ later. Parts (labelled (labelled later Node u name) Arc (new_arc g) arc_name))
    (sym (fold-append follow added steps tail))
    (subst (λ id. Parts (labelled (labelled w3 Node u name) Arc id arc_name)) next both)

-- ---- an arc is split

pub arc_split_kept : (w : World) (arc : ℕ) (name arc_name : Name) → Parts w
    → IsLive w.graph Arc arc → length w.graph.nodes + 1 ≤ MAX_NODES
    → length w.graph.by_source + 1 ≤ MAX_ARCS → w.graph.stamps + 3 ≤ MAX_STAMP
    → Passes w.guards w.graph (refusable_steps w.graph (arc_split w.graph arc))
    → IsUnused w.nodes.labels name → IsUnused w.arcs.labels arc_name
    → Parts (labelled (labelled (altered w (arc_split w.graph arc)) Node (new_node w.graph) name)
    Arc (new_arc w.graph) arc_name)
arc_split_kept w arc name arc_name ok live few few_arcs left passes unused unused_arc =
    let g = w.graph in
    let u = new_node g in
    let v = target_of g arc in
    let g1 = add_node g in
    let move = MoveTo arc u in
    let arc_step = AddArc u v in
    let w1 = follow w AddNode in
    let w2 = follow w1 move in
    let w3 = follow w2 arc_step in
    let g2 = w2.graph in
    let amid = node_amid w ok few (omega (arith, left)) passes.0 in
    let live_u = (added_items_are_live g 0 0).0 in
    let live_v = live_items_stay g AddNode Node v refl (live_ends g arc ok.graph_ok live).1 in
    let guards1 = passes_still (change_of g AddNode) w.guards g1 (move ∷ arc_step ∷ []) passes.1 in
    let moved = moves_kept (move ∷ []) w1 (Some u) None amid (tt, tt)
    ((live, live_u, omega (arith, left)), tt) (guards1.0, tt) ((λ k d within. tt), tt) in
    let guards2 = passes_still (change_of g1 move) w1.guards g2 (arc_step ∷ []) guards1.1 in
    let with_arc = arc_amid w2 (Some u) u v moved few_arcs (omega (arith, left)) live_u live_v
    guards2.0 in
    let named = node_labelled w3 (Some (new_arc g)) u name with_arc
    (live_items_stay g2 arc_step Node u refl live_u) unused in
    arc_labelled (labelled w3 Node u name) None (new_arc g) arc_name named
    (added_items_are_live g2 u v).1 unused_arc
