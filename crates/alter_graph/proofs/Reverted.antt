-- The parts of a restore make a whole.
use Rattle.std.proofs.Common.{◌≡◌, IsTrue, List, [], ◌++◌, map, filter}
use Rattle.std.proofs.Common.{Contains, sym, ap, subst, ◌∙◌, arith}
use Rattle.std.specs.Prelude.{not}
use Rattle.std.proofs.lemmas.List.{append-nil}
use Rattle.base_items.specs.declared.items.ItemSort.{ItemSort}
use Rattle.base_items.specs.declared.items.ItemSort.TheVariants as sorts
use Rattle.plain_digraph.specs.Digraph.{Digraph}
use Rattle.plain_digraph.specs.Items.{facts}
use Rattle.plain_digraph.specs.Lists.{AllOf}
use Rattle.plain_digraph.specs.PlainSteps.{PlainStep, EraseArc, EraseNode}
use Rattle.plain_digraph.specs.Copies.{copy_of}
use Rattle.plain_digraph.specs.Alterations.{restoring, all_steps}
use Rattle.plain_digraph.proofs.SameLists.{same_facts_same_lists}
use Rattle.observe_core.proofs.ItemLemmas.{all_at}
use Rattle.alter_graph.specs.declared.snaps.SnapKeys.{SnapKeys}
use Rattle.notify_chain.specs.Seats.{AllSeats, Steady}
use Rattle.alter_graph.specs.Chains.{ChainsSeen}
use Rattle.alter_graph.specs.Present.{present_of}
use Rattle.alter_graph.specs.Snaps.{added_of, kept_of, Saved, saved_by, is_valid, node_half}
use Rattle.alter_graph.specs.Snaps.{arc_half, IsSnap, Follows}
use Rattle.alter_graph.specs.Snapping.{forgotten}
use Rattle.alter_graph.specs.Attaching.{uses_key}
use Rattle.alter_graph.specs.State.{State, IsInStep, SnapsStay}
use Rattle.alter_graph.specs.Outcome.{Goes, Happens}
use Rattle.alter_graph.specs.Verdict.{guards_of, Passes}
use Rattle.alter_graph.specs.Restoring.{places, PlacesBack, restoring_steps, Restores, IsMaking}
use Rattle.alter_graph.specs.Restoring.{HasStampsFor}
use Rattle.alter_graph.proofs.Parting.{goes_both, graph_on}
use Rattle.alter_graph.proofs.Keeping.{follow_each}
use Rattle.alter_graph.proofs.Reseated.{filtered}
use Rattle.alter_graph.proofs.Replaced.{valid_placed}
use Rattle.alter_graph.proofs.Declined.{placed_stamps}
use Rattle.alter_graph.proofs.Tied.{making_on, places_tied, refusable_tied, arcs_tied, nodes_tied}
use Rattle.alter_graph.proofs.Tied.{steps_tied}
use Rattle.alter_graph.proofs.Added.{all_saved}

-- the copy of a snapshot without added items and kept facts is what is there
present_is_saved : (s : State) (k : SnapKeys) → IsInStep s → Contains s.chains.snaps k
    → added_of (node_half k s.chains) ≡ [] → added_of (arc_half k s.chains) ≡ []
    → kept_of (arc_half k s.chains) ≡ []
    → saved_by k (present_of s.graph) s.chains
    ≡ record { nodes = facts s.graph sorts.Node; arcs = facts s.graph sorts.Arc }
present_is_saved s k h there no_nodes no_arcs back =
    let p = present_of s.graph in
    let snap = all_at (IsSnap p s.chains) k s.chains.snaps h.seats.snaps.each there in
    let x = all_saved (node_half k s.chains) p.nodes snap.nodes.half no_nodes snap.still in
    let y = all_saved (arc_half k s.chains) p.arcs snap.arcs.half no_arcs back in
    λ i. record { nodes = x i; arcs = y i }

module _ (k : SnapKeys) (s t u v : State) (there : Contains s.chains.snaps k)
    (first : PlacesBack k s t)
    (arcs : Goes (map EraseArc (added_of (arc_half k t.chains))) t u)
    (nodes : Goes (map EraseNode (added_of (node_half k u.chains))) u v)
    (same_nodes : node_half k u.chains ≡ node_half k t.chains) where
  pub all_go : Goes (restoring_steps k s.chains) s v
  all_go =
      let some = subst (λ l. Goes (map EraseArc l) t u) first.added arcs in
      let last = subst (λ h. Goes (map EraseNode (added_of h)) u v) (same_nodes ∙ first.nodes)
      nodes in
      let gone : List PlainStep = map EraseArc (added_of (arc_half k s.chains)) in
      let too : List PlainStep = map EraseNode (added_of (node_half k s.chains)) in
      goes_both (places k s.chains ++ gone) too s u v
      (goes_both (places k s.chains) gone s t u first.alters.goes some) last

  -- enough stamps were left
  has_stamps : HasStampsFor k s
  has_stamps =
      let few = first.alters.goes.in_step.valid.few_stamps in
      let e = ap (λ (g : Digraph). g.stamps)
      (graph_on (places k s.chains) s t first.alters.goes.took)
      ∙ placed_stamps (kept_of (arc_half k s.chains)) s.graph in
      omega (arith, few, e)

  -- the steps are those of the restoring of the copy
  pub happens : IsInStep s → IsTrue (is_valid k u.chains) → AllSeats Steady s.chains.arcs.seats
      → AllSeats Steady t.chains.arcs.seats → AllSeats Steady u.chains.nodes.seats
      → (making : Digraph) → IsMaking k s making → Happens (restoring (copy_of making)) s v
  happens at valid_u steady_s steady_t steady_u making is =
      let goes = first.alters.goes in
      let valid_t = valid_placed s t k there goes.snaps first.valid in
      let there_t = subst (λ l. Contains l k) (sym goes.snaps.names) there in
      let is_t = making_on k making (places k s.chains) s t goes.snaps there valid_t is in
      let there_u = subst (λ l. Contains l k) (sym arcs.snaps.names) there_t in
      let gone = map EraseArc (added_of (arc_half k t.chains)) in
      let is_u = making_on k making gone t u arcs.snaps there_t valid_u is_t in
      let too = map EraseNode (added_of (node_half k u.chains)) in
      let all : places k s.chains ++ gone ++ too ≡ all_steps s.graph (restoring (copy_of making)) =
      steps_tied making s.graph t.graph u.graph (places k s.chains) gone too
      (places_tied k making s at there is steady_s) (graph_on (places k s.chains) s t goes.took)
      (arcs_tied k making t goes.in_step there_t is_t steady_t) (graph_on gone t u arcs.took)
      (nodes_tied k making u arcs.in_step there_u is_u steady_u) in
      record {
        goes = subst (λ l. Goes l s v) all
            (goes_both (places k s.chains ++ gone) too s u v
            (goes_both (places k s.chains) gone s t u goes arcs) nodes);
        passes = subst (λ l. Passes (guards_of s.chains) l s.graph)
            (refusable_tied k making s at there is steady_s) first.alters.passes;
      }

  -- the other snapshots follow the steps
  others : (w : State) → w.chains ≡ forgotten k v.chains → SnapsStay w.chains.snaps v w
      → AllOf (Follows (restoring_steps k s.chains) (present_of s.graph) s.chains
      (present_of w.graph) w.chains) w.chains.snaps
  others w gone stay =
      let steps = restoring_steps k s.chains in
      let follow = Follows steps (present_of s.graph) s.chains (present_of v.graph) v.chains in
      let left : AllOf follow (forgotten k v.chains).snaps =
      filtered follow (λ j. not (uses_key sorts.Arc k.arcs.0 j))
      (filter (λ j. not (uses_key sorts.Node k.nodes.0 j)) v.chains.snaps)
      (filtered follow (λ j. not (uses_key sorts.Node k.nodes.0 j)) v.chains.snaps
      (subst (AllOf follow) (sym all_go.snaps.names) all_go.snaps.each)) in
      subst (λ l. AllOf (Follows l (present_of s.graph) s.chains (present_of w.graph) w.chains)
      w.chains.snaps) (append-nil steps)
      (follow_each steps [] s v w w.chains.snaps
      (subst (λ (c : ChainsSeen). AllOf follow c.snaps) (sym gone) left) stay)

  module _ (still : Contains v.chains.snaps k) (valid : IsTrue (is_valid k v.chains))
      (no_nodes : added_of (node_half k v.chains) ≡ [])
      (no_arcs : added_of (arc_half k v.chains) ≡ [])
      (back : kept_of (arc_half k v.chains) ≡ []) where
    copied : record { nodes = facts v.graph sorts.Node; arcs = facts v.graph sorts.Arc }
        ≡ saved_by k (present_of s.graph) s.chains
    copied =
        let one = all_at (Follows (restoring_steps k s.chains) (present_of s.graph) s.chains
        (present_of v.graph) v.chains) k s.chains.snaps all_go.snaps.each there in
        sym (present_is_saved v k all_go.in_step still no_nodes no_arcs back) ∙ one.copy valid

    pub restores : (w : State) → w.graph ≡ v.graph → w.chains ≡ forgotten k v.chains
        → IsInStep w → SnapsStay w.chains.snaps v w
        → ((making : Digraph) → IsMaking k s making → Happens (restoring (copy_of making)) s v)
        → Restores k s w
    restores w graph gone at stay tied =
        let n = ap (λ (g : Digraph). facts g sorts.Node) graph
        ∙ ap (λ (c : Saved). c.nodes) copied in
        let a = ap (λ (g : Digraph). facts g sorts.Arc) graph
        ∙ ap (λ (c : Saved). c.arcs) copied in
        record {
          valid = first.valid;
          room = has_stamps;
          passes = first.alters.passes;
          restored = v;
          goes = all_go;
          happens = tied;
          graph = graph;
          gone = gone;
          others = others w gone stay;
          nodes = n;
          arcs = a;
          lists = λ making is. same_facts_same_lists making w.graph is.valid at.valid
              (alike making (n ∙ is.nodes) (a ∙ is.arcs));
          in_step = at;
        }
      where
        alike : (making : Digraph) → facts w.graph sorts.Node ≡ facts making sorts.Node
            → facts w.graph sorts.Arc ≡ facts making sorts.Arc
            → (sort : ItemSort) → facts w.graph sort ≡ facts making sort
        alike making x y sorts.Node = x
        alike making x y sorts.Arc = y
