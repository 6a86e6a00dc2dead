-- What an alteration takes of the limits.
use Rattle.std.proofs.Common.{◌≡◌, ◌≢◌, ℕ, ◌<◌, ◌≤◌, Bool, true, false, List, [], ◌∷◌, ◌++◌}
use Rattle.std.proofs.Common.{length, map, refl, sym, ap, ◌∙◌, subst, arith}
use Rattle.std.proofs.lemmas.List.{length-map}
use Rattle.std.proofs.lemmas.List.Sorted.{length_permutation}
use Rattle.std.specs.FinMap as fin
use Rattle.base_items.specs.declared.items.Node.{Node}
use Rattle.base_items.specs.declared.items.ItemSort.TheVariants as sorts
use Rattle.base_items.specs.declared.limits.TheConstants.{MAX_NODES, MAX_ARCS, MAX_STAMP}
use Rattle.plain_digraph.specs.Digraph.{Digraph}
use Rattle.plain_digraph.specs.Items.{IsLive, out_arcs, in_arcs, target_of, ids}
use Rattle.plain_digraph.specs.Lists.{AllOf}
use Rattle.plain_digraph.specs.PlainSteps.{PlainStep, AddNode, AddArc, MoveTo}
use Rattle.plain_digraph.specs.PlainSteps.{EraseArc, EraseNode, ClearArcs, ClearNodes}
use Rattle.plain_digraph.specs.PlainSteps.{after_step, after_steps}
use Rattle.plain_digraph.specs.Alterations.{all_steps, arc_erasure, node_erasure, clearing}
use Rattle.plain_digraph.specs.Alterations.{node_split, arc_split, refusable_steps, sources_to}
use Rattle.plain_digraph.specs.Alterations.{contraction, loop_contraction}
use Rattle.plain_digraph.specs.Steps.{new_node, used_after, add_node}
use Rattle.plain_digraph.specs.Valid.{IsValid, AreShared}
use Rattle.plain_digraph.specs.ValidLaws.{HasNoArc}
use Rattle.plain_digraph.proofs.Additions.{valid_with_node, valid_with_arc}
use Rattle.plain_digraph.proofs.Changes.{valid_moved_target, live_ends}
use Rattle.plain_digraph.proofs.Changes.{valid_no_arcs}
use Rattle.plain_digraph.proofs.Shares.{shared_length}
use Rattle.plain_digraph.proofs.StepLiving.{added_items_are_live, live_items_stay}
use Rattle.plain_digraph.proofs.Unrolled.{steps_lead_on, steps_in_turn}
use Rattle.alter_graph.specs.Contraction.{contraction_of}
use Rattle.alter_graph.specs.Steps.{CanTake}
use Rattle.alter_graph.proofs.Contracted.{contraction_moves, all_moved}
use Rattle.alter_graph.proofs.Moves.{IsMoveAt, outs_live, sources_move, moves_refusable, live_after}
use Rattle.alter_graph.proofs.Rooms.{valid_lost}
use Rattle.desk_world.proofs.Takes.{TakesAll, takes_both, valid_last, outs_erased, ins_erased}
use Rattle.desk_world.proofs.Takes.{stamps_rise, moves_take, moves_use}

-- ---- room for one more

room_left : (live free : List ℕ) (used limit : ℕ) → AreShared live free used
    → used_after free used ≤ limit → length live < limit
room_left live [] used limit shared few =
    let l = shared_length live [] used shared in omega (arith, l, few)
room_left live (id ∷ free) used limit shared few =
    let l = shared_length live (id ∷ free) used shared in omega (arith, l, few)

module _ (g : Digraph) (valid : IsValid g) where
  node_added : used_after g.free_nodes g.used_nodes ≤ MAX_NODES
      → g.stamps < MAX_STAMP → IsValid (add_node g)
  node_added few left =
      let room = room_left (ids g.nodes) g.free_nodes g.used_nodes MAX_NODES valid.node_ids few in
      valid_with_node g valid (omega (arith, room, length-map g.nodes (λ p. p.0)), left)

  arc_added : (from to : ℕ) → IsLive g sorts.Node from → IsLive g sorts.Node to
      → used_after g.free_arcs g.used_arcs ≤ MAX_ARCS → g.stamps < MAX_STAMP
      → IsValid (after_step g (AddArc from to))
  arc_added from to from_live to_live few left =
      let keys : List ℕ = fin.keys g.ends in
      let room = room_left keys g.free_arcs g.used_arcs MAX_ARCS valid.arc_ids few in
      let same = length_permutation (ids g.by_source) keys valid.sources_whole in
      let count = length-map g.by_source (λ p. p.0) in
      valid_with_arc g from to valid (omega (arith, room, same, count), left) from_live to_live

-- ---- the alterations

module _ (g : Digraph) (valid : IsValid g) where
  pub takes_arc_erasure : (arc : ℕ) → IsLive g sorts.Arc arc
      → TakesAll (all_steps g (arc_erasure arc)) g
  takes_arc_erasure arc live = (live, (valid_lost (EraseArc arc) g refl valid live, tt))

  pub takes_node_erasure : (node : ℕ) → IsLive g sorts.Node node
      → TakesAll (all_steps g (node_erasure node)) g
  takes_node_erasure node live =
      let outs : List PlainStep = map EraseArc (out_arcs g node) in
      let h : Digraph = after_steps g outs in
      let ins : List PlainStep = map EraseArc (in_arcs h node) in
      let first = outs_erased (out_arcs g node) node g valid live refl in
      let second = ins_erased (in_arcs h node) node h first.erased.valid first.erased.live
      first.none refl in
      let alone : HasNoArc (after_steps h ins) node = (second.no_outs, second.none) in
      takes_both outs (ins ++ EraseNode node ∷ []) g first.erased.takes
      (takes_both ins (EraseNode node ∷ []) h second.erased.takes (
        (second.erased.live, alone),
        (
          valid_lost (EraseNode node) (after_steps h ins) refl second.erased.valid
              (second.erased.live, alone),
          tt,
        ),
      ))

  pub takes_clearing : TakesAll (all_steps g clearing) g
  takes_clearing =
      let h : Digraph = after_step g ClearArcs in
      let no_arcs : IsValid h = valid_no_arcs g valid in
      let can : CanTake ClearNodes h = (g, valid, refl) in
      (tt, (no_arcs, (can, (valid_lost ClearNodes h refl no_arcs can, tt))))

-- ---- those that begin with moves: the digraph after all of it is valid, as the alteration says

module _ (g : Digraph) (valid : IsValid g) where
  moves_first : (moves sure : List PlainStep) → AllOf (IsMoveAt g) moves
      → IsValid (after_steps g (moves ++ sure)) → TakesAll moves g
  moves_first moves sure all then =
      let rise = stamps_rise sure (after_steps g moves) in
      let same = ap (λ (h : Digraph). h.stamps) (steps_lead_on g moves sure) in
      let few = then.few_stamps in
      moves_take moves g valid all (omega (arith, rise, same, few))

  pub takes_contraction : (loops : Bool) (u v : Node) → u.0 ≢ v.0 → IsLive g sorts.Node u.0
      → IsLive g sorts.Node v.0
      → IsValid (after_steps g (all_steps g (contraction_of loops u v)))
      → TakesAll (all_steps g (contraction_of loops u v)) g
  takes_contraction true u v apart live_u live_v then =
      let moves : List PlainStep = refusable_steps g (loop_contraction u.0 v.0) in
      let h : Digraph = after_steps g moves in
      let turn = steps_in_turn g (loop_contraction u.0 v.0) in
      let all = contraction_moves true u v g valid live_u in
      let takes = moves_first moves (EraseNode v.0 ∷ []) all
      (subst (λ steps. IsValid (after_steps g steps)) turn then) in
      let live = live_after moves g sorts.Node v.0 (moves_refusable moves g all) live_v in
      let can : CanTake (EraseNode v.0) h = (live, all_moved u.0 v.0 g valid apart live_u) in
      subst (λ steps. TakesAll steps g) (sym turn)
      (takes_both moves (EraseNode v.0 ∷ []) g takes
      (can, (valid_lost (EraseNode v.0) h refl (valid_last moves g valid takes) can, tt)))
  takes_contraction false u v apart live_u live_v then =
      let moves : List PlainStep = refusable_steps g (contraction u.0 v.0) in
      let h : Digraph = after_steps g moves in
      let turn = steps_in_turn g (contraction u.0 v.0) in
      let all = contraction_moves false u v g valid live_u in
      let takes = moves_first moves (all_steps h (node_erasure v.0)) all
      (subst (λ steps. IsValid (after_steps g steps)) turn then) in
      let live = live_after moves g sorts.Node v.0 (moves_refusable moves g all) live_v in
      subst (λ steps. TakesAll steps g) (sym turn)
      (takes_both moves (all_steps h (node_erasure v.0)) g takes
      (takes_node_erasure h (valid_last moves g valid takes) v.0 live))

-- ---- those that begin with a new node

module _ (g : Digraph) (valid : IsValid g) where
  abbrev new : ℕ
  new = new_node g

  abbrev h : Digraph
  h = add_node g

  new_live : IsLive h sorts.Node new
  new_live = (added_items_are_live g 0 0).0

  pub takes_arc_split : (arc : ℕ) → IsLive g sorts.Arc arc
      → IsValid (after_steps g (all_steps g (arc_split g arc)))
      → TakesAll (all_steps g (arc_split g arc)) g
  takes_arc_split arc live then =
      let few = then.few_stamps in
      let h_valid = node_added g valid then.few_nodes (omega (arith, few)) in
      let k : Digraph = after_step h (MoveTo arc new) in
      let k_valid : IsValid k =
      valid_moved_target h arc h_valid live new new_live (omega (arith, few)) in
      let end = live_items_stay g AddNode sorts.Node (target_of g arc) refl
      (live_ends g arc valid live).1 in (
        tt,
        (
          h_valid,
          (
            (live, new_live),
            (
              k_valid,
              (
                (new_live, end),
                (
                  arc_added k k_valid new (target_of g arc) new_live end then.few_arcs
                      (omega (arith, few)),
                  tt,
                ),
              ),
            ),
          ),
        ),
      )

  module _ (node : ℕ) (live : IsLive g sorts.Node node) where
    abbrev moves : List PlainStep
    moves = sources_to new (out_arcs g node)

    are_moves : AllOf (IsMoveAt h) moves
    are_moves = sources_move h new (out_arcs g node) new_live (outs_live g node valid)

    -- the node is added and takes over the arcs, where what follows uses no id of a node
    record Begins : Type 0 where
      pub added : IsValid h
      pub taken : TakesAll moves h

    begins : (sure : List PlainStep)
        → ((k : Digraph) → (after_steps k sure).used_nodes ≡ k.used_nodes)
        → IsValid (after_steps h (moves ++ sure)) → Begins
    begins sure keeps then =
        let lead = steps_lead_on h moves sure in
        let used = ap (λ (k : Digraph). k.used_nodes) lead ∙ keeps (after_steps h moves)
        ∙ moves_use new (out_arcs g node) h in
        let rise = stamps_rise (moves ++ sure) h in
        let few = then.few_stamps in
        let h_valid = node_added g valid (subst (λ n. n ≤ MAX_NODES) used then.few_nodes)
        (omega (arith, rise, few)) in
        record { added = h_valid; taken = moves_first h h_valid moves sure are_moves then }

  pub takes_node_split : (node : ℕ) (connect : Bool) → IsLive g sorts.Node node
      → IsValid (after_steps g (all_steps g (node_split g node connect)))
      → TakesAll (all_steps g (node_split g node connect)) g
  takes_node_split node false live then =
      let b = begins node live [] (λ k. refl) then in
      (tt, (b.added, takes_both (moves node live) [] h b.taken tt))
  takes_node_split node true live then =
      let last : List PlainStep = AddArc node new ∷ [] in
      let b = begins node live last (λ k. refl) then in
      let all = moves_refusable (moves node live) h (are_moves node live) in
      let k : Digraph = after_steps h (moves node live) in
      let k_valid = valid_last (moves node live) h b.added b.taken in
      let from = live_after (moves node live) h sorts.Node node all
      (live_items_stay g AddNode sorts.Node node refl live) in
      let to = live_after (moves node live) h sorts.Node new all new_live in
      let later : IsValid (after_steps k last) =
      subst IsValid (steps_lead_on h (moves node live) last) then in
      let few = later.few_stamps in
      let added = arc_added k k_valid node new from to later.few_arcs (omega (arith, few)) in (
        tt,
        (
          b.added,
          takes_both (moves node live) last h b.taken
              ((from, to), (added, tt)),
        ),
      )
