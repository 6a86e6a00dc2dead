-- The steps of splits: all may be refused, and the new items are live after them.
use Rattle.std.proofs.Common.{◌≡◌, ◌+◌, ◌≤◌, ◌*◌, ℕ, Bool, true, false, List, [], ◌∷◌, ◌++◌, length}
use Rattle.std.proofs.Common.{refl, sym, subst, ◌∙◌, arith}
use Rattle.std.specs.Prelude.{◌&&◌, fold}
use Rattle.std.specs.List.{list_all}
use Rattle.std.proofs.lemmas.Bool.{true≢false}
use Rattle.std.proofs.lemmas.List.{length-append, length-map}
use Rattle.base_items.specs.declared.items.ItemSort.{ItemSort}
use Rattle.base_items.specs.declared.items.ItemSort.TheVariants as sorts
use Rattle.base_items.specs.declared.limits.TheConstants.{MAX_ARCS, MAX_NODES, MAX_STAMP}
use Rattle.plain_digraph.specs.Digraph.{Digraph}
use Rattle.plain_digraph.specs.Items.{IsLive, count_of, out_arcs, target_of}
use Rattle.plain_digraph.specs.Lists.{AllOf}
use Rattle.plain_digraph.specs.PlainSteps.{PlainStep, AddNode, AddArc, MoveFrom, MoveTo, Turn}
use Rattle.plain_digraph.specs.PlainSteps.{PlaceBack, EraseArc, EraseNode, ClearArcs, ClearNodes}
use Rattle.plain_digraph.specs.PlainSteps.{after_steps, is_refusable}
use Rattle.plain_digraph.specs.Alterations.{all_steps, refusable_steps, unrolled}
use Rattle.plain_digraph.specs.Alterations.{arc_split, node_split, sources_to}
use Rattle.plain_digraph.specs.Steps.{add_node, move_from, move_to, new_arc, new_node}
use Rattle.plain_digraph.specs.Valid.{IsValid}
use Rattle.plain_digraph.proofs.Additions.{new_arc_apart, new_node_apart}
use Rattle.plain_digraph.proofs.Keys.{keys-has}
use Rattle.plain_digraph.proofs.StepLiving.{added_items_are_live, live_items_stay_throughout}
use Rattle.plain_digraph.proofs.Unrolled.{steps_lead_on}
use Rattle.alter_graph.specs.Links.{links}
use Rattle.alter_graph.specs.Room.{HasRoomFor}
use Rattle.alter_graph.proofs.Splitting.{split_room}
use Rattle.plain_world.specs.World.{World, attached}
use Rattle.plain_world.specs.Following.{follow, new_item}
use Rattle.plain_world.proofs.StepsKept.{IsSure}
use Rattle.desk_world.specs.declared.alterations.Split.{Split}
use Rattle.desk_world.specs.declared.alterations.Split.TheVariants as splits
use Rattle.desk_world.specs.Edits.{split_by, CanSplit}
use Rattle.desk_world.proofs.Takes.{TakesAll}
use Rattle.desk_world.proofs.TakesAll.{takes_arc_split, takes_node_split}

-- ---- a new item

-- a new item isn't live before
pub not_live : (g : Digraph) (sort : ItemSort) → IsValid g → IsLive g sort (new_item g sort) → ⊥
not_live g sorts.Node valid live = true≢false (sym live ∙ new_node_apart g valid)
not_live g sorts.Arc valid live =
    true≢false (sym live ∙ (keys-has g.ends (new_arc g) ∙ new_arc_apart g valid))

-- refusable steps erase no label
labels_left : (w : World) (step : PlainStep) (sort : ItemSort) → is_refusable step ≡ true
    → (attached (follow w step) sort).labels ≡ (attached w sort).labels
labels_left w AddNode sorts.Node may = refl
labels_left w AddNode sorts.Arc may = refl
labels_left w (AddArc from to) sorts.Node may = refl
labels_left w (AddArc from to) sorts.Arc may = refl
labels_left w (MoveFrom arc node) sorts.Node may = refl
labels_left w (MoveFrom arc node) sorts.Arc may = refl
labels_left w (MoveTo arc node) sorts.Node may = refl
labels_left w (MoveTo arc node) sorts.Arc may = refl
labels_left w (Turn arc) sorts.Node may = refl
labels_left w (Turn arc) sorts.Arc may = refl
labels_left w (PlaceBack fact) sorts.Node may = refl
labels_left w (PlaceBack fact) sorts.Arc may = refl
labels_left w (EraseArc arc) sort may = absurd (true≢false (sym may))
labels_left w (EraseNode node) sort may = absurd (true≢false (sym may))
labels_left w ClearArcs sort may = absurd (true≢false (sym may))
labels_left w ClearNodes sort may = absurd (true≢false (sym may))

-- each of them may be refused
abbrev pub AllMay : List PlainStep → Type 0
AllMay steps = AllOf (λ step. is_refusable step ≡ true) steps

pub labels_stay : (steps : List PlainStep) (w : World) (sort : ItemSort) → AllMay steps
    → (attached (fold follow w steps) sort).labels ≡ (attached w sort).labels
labels_stay [] w sort all = refl
labels_stay (step ∷ steps) w sort all =
    labels_stay steps (follow w step) sort all.1 ∙ labels_left w step sort all.0

as_list_all : (steps : List PlainStep) → AllMay steps → list_all is_refusable steps ≡ true
as_list_all [] all = refl
as_list_all (step ∷ steps) all =
    let here = all.0 in
    let rest = as_list_all steps all.1 in
    λ i. here i && rest i

-- ---- the steps of each

-- after the steps the new items are live
pub record MakesNode (g : Digraph) (steps : List PlainStep) : Type 0 where
  pub may : AllMay steps
  pub node : IsLive (after_steps g steps) sorts.Node (new_node g)

pub record MakesBoth (g : Digraph) (steps : List PlainStep) : Type 0 where
  pub may : AllMay steps
  pub node : IsLive (after_steps g steps) sorts.Node (new_node g)
  pub arc : IsLive (after_steps g steps) sorts.Arc (new_arc g)

sources_may : (node : ℕ) (arcs : List ℕ) (tail : List PlainStep) → AllMay tail
    → AllMay (sources_to node arcs ++ tail)
sources_may node [] tail all = all
sources_may node (arc ∷ arcs) tail all = (refl, sources_may node arcs tail all)

same_next : (arcs : List ℕ) (g : Digraph) (node : ℕ)
    → new_arc (after_steps g (sources_to node arcs)) ≡ new_arc g
same_next [] g node = refl
same_next (arc ∷ arcs) g node = same_next arcs (move_from g arc node) node

-- a node that was added stays
node_stays : (g : Digraph) (steps : List PlainStep) → AllMay steps
    → IsLive (after_steps (add_node g) steps) sorts.Node (new_node g)
node_stays g steps all =
    live_items_stay_throughout (add_node g) steps sorts.Node (new_node g) (as_list_all steps all)
    (added_items_are_live g 0 0).0

pub off_makes : (g : Digraph) (node : ℕ) → MakesNode g (all_steps g (node_split g node false))
off_makes g node =
    let arcs = out_arcs (add_node g) node in
    let may = sources_may (new_node g) arcs [] tt in
    record { may = (refl, may); node = node_stays g (sources_to (new_node g) arcs ++ []) may }

linked_makes : (g : Digraph) (node : ℕ) → MakesBoth g (all_steps g (node_split g node true))
linked_makes g node =
    let u = new_node g in
    let h = add_node g in
    let arcs = out_arcs h node in
    let moves = sources_to u arcs in
    let last = AddArc node u in
    let may = sources_may u arcs (last ∷ []) (refl, tt) in
    let k = after_steps h moves in
    let next : new_arc k ≡ new_arc g = same_next arcs h u in
    record {
      may = (refl, may);
      node = node_stays g (moves ++ last ∷ []) may;
      arc = subst (λ d. IsLive d sorts.Arc (new_arc g)) (sym (steps_lead_on h moves (last ∷ [])))
          (subst (IsLive (after_steps k (last ∷ [])) sorts.Arc) next
          (added_items_are_live k node u).1);
    }

arc_makes : (g : Digraph) (arc : ℕ) → MakesBoth g (all_steps g (arc_split g arc))
arc_makes g arc =
    let u = new_node g in
    let v = target_of g arc in
    record {
      may = (refl, (refl, (refl, tt)));
      node = node_stays g (MoveTo arc u ∷ AddArc u v ∷ []) (refl, (refl, tt));
      arc = (added_items_are_live (move_to (add_node g) arc u) u v).1;
    }

pub split_makes : (split : Split) (g : Digraph) → MakesBoth g (all_steps g (split_by g split))
split_makes (splits.Node node) g = linked_makes g node.0
split_makes (splits.Arc arc) g = arc_makes g arc.0

pub split_takes : (split : Split) (g : Digraph) → IsValid g → CanSplit split g
    → IsValid (after_steps g (all_steps g (split_by g split)))
    → TakesAll (all_steps g (split_by g split)) g
split_takes (splits.Node node) g valid can then = takes_node_split g valid node.0 true can then
split_takes (splits.Arc arc) g valid can then = takes_arc_split g valid arc.0 can then

pub split_sure : (split : Split) (g : Digraph) → AllOf IsSure
    (unrolled (after_steps g (refusable_steps g (split_by g split))) (split_by g split).sure)
split_sure (splits.Node node) g = tt
split_sure (splits.Arc arc) g = tt

-- ---- room

-- the arcs are among the steps
few_arcs : (connect : Bool) (g : Digraph) (node : ℕ)
    → length (refusable_steps g (node_split g node connect)) ≤ 2 * MAX_ARCS
    → length (out_arcs g node) ≤ 2 * MAX_ARCS
few_arcs false g node few =
    let u = new_node g in
    let arcs = out_arcs (add_node g) node in
    let size = length-append (sources_to u arcs) [] in
    let size_b = length-map arcs (λ arc. MoveFrom arc u) in
    let all : length arcs ≤ 2 * MAX_ARCS = omega (arith, few, size, size_b) in
    all
few_arcs true g node few =
    let u = new_node g in
    let arcs = out_arcs (add_node g) node in
    let size = length-append (sources_to u arcs) (AddArc node u ∷ []) in
    let size_b = length-map arcs (λ arc. MoveFrom arc u) in
    let all : length arcs ≤ 2 * MAX_ARCS = omega (arith, few, size, size_b) in
    all

pub node_room : (connect : Bool) (g : Digraph) (node : ℕ) → count_of g sorts.Node + 1 ≤ MAX_NODES
    → count_of g sorts.Arc + links connect ≤ MAX_ARCS
    → length (refusable_steps g (node_split g node connect)) ≤ 2 * MAX_ARCS
    → g.stamps + 16777216 ≤ MAX_STAMP
    → HasRoomFor (refusable_steps g (node_split g node connect)) g
node_room connect g node nodes arcs few left =
    let fewer = few_arcs connect g node few in
    let one = few_links connect in
    split_room connect node g (out_arcs g node) (length (out_arcs g node)) (links connect) refl refl
    refl (record {
      for_nodes = λ some. nodes;
      for_arcs = λ some. arcs;
      for_stamps = λ some. omega (arith, fewer, one, left);
    })
  where
    few_links : (c : Bool) → links c ≤ 1
    few_links true = omega arith
    few_links false = omega arith

pub split_has_room : (split : Split) (g : Digraph) → count_of g sorts.Node + 1 ≤ MAX_NODES
    → count_of g sorts.Arc + 1 ≤ MAX_ARCS
    → length (refusable_steps g (split_by g split)) ≤ 2 * MAX_ARCS
    → g.stamps + 16777216 ≤ MAX_STAMP → HasRoomFor (refusable_steps g (split_by g split)) g
split_has_room (splits.Node node) g nodes arcs few left =
    node_room true g node.0 nodes arcs few left
split_has_room (splits.Arc arc) g nodes arcs few left = record {
  for_nodes = λ some. nodes;
  for_arcs = λ some. arcs;
  for_stamps = λ some. omega (arith, left);
}
