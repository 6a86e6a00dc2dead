-- The moves of a contraction, and what is left at the node that goes.
use Rattle.std.proofs.Common.{◌≡◌, ◌≢◌, ℕ, Bool, true, false, ◌==◌, List, [], ◌∷◌, ◌++◌, filter}
use Rattle.std.proofs.Common.{map, arith}
use Rattle.std.proofs.Common.{refl, sym, ap, subst, ◌∙◌}
use Rattle.std.specs.Prelude.{cond, not}
use Rattle.std.proofs.lemmas.Grind.{common_steps}
use Rattle.std.proofs.lemmas.Bool.{ne_eqb}
use Rattle.base_items.specs.declared.items.Node.{Node}
use Rattle.base_items.specs.declared.items.ItemSort.TheVariants as sorts
use Rattle.plain_digraph.specs.Lists.{AllOf, has, without}
use Rattle.plain_digraph.specs.Digraph.{Digraph}
use Rattle.plain_digraph.specs.Items.{IsLive, source_of, target_of, out_arcs, in_arcs}
use Rattle.plain_digraph.specs.Steps.{move_from, move_to}
use Rattle.plain_digraph.specs.PlainSteps.{PlainStep, EraseArc, EraseNode, MoveFrom, MoveTo}
use Rattle.plain_digraph.specs.PlainSteps.{is_refusable, after_step, after_steps}
use Rattle.plain_digraph.specs.Alterations.{all_steps, refusable_steps, unrolled, node_erasure}
use Rattle.plain_digraph.specs.Alterations.{sources_to, targets_to, is_neither, contraction}
use Rattle.plain_digraph.specs.Alterations.{loop_contraction}
use Rattle.plain_digraph.specs.Valid.{IsValid}
use Rattle.plain_digraph.proofs.Contracted.{contraction_is_known, loop_contraction_is_known}
use Rattle.plain_digraph.proofs.StepLiving.{live_items_stay}
use Rattle.plain_digraph.proofs.StepOrders.{moved_source_lists, moved_target_lists, all_if_each}
use Rattle.plain_digraph.proofs.Unrolled.{steps_lead_on, steps_in_turn}
use Rattle.observe_core.proofs.ItemLemmas.{all_more}
use Rattle.alter_graph.specs.State.{State}
use Rattle.alter_graph.specs.Outcome.{Goes, Alters, Happens}
use Rattle.alter_graph.specs.Contraction.{contraction_of}
use Rattle.alter_graph.proofs.Parting.{AllRefusable, goes_both, graph_on}
use Rattle.alter_graph.proofs.Moves.{IsMoveAt, outs_live, ins_live, filter_all, sources_move}
use Rattle.alter_graph.proofs.Moves.{targets_move, moves_both, live_after, moves_refusable}

-- ---- the steps

-- all are moves of live arcs to the live node
pub contraction_moves : (loops : Bool) (u v : Node) (g : Digraph) → IsValid g
    → IsLive g sorts.Node u.0 → AllOf (IsMoveAt g) (refusable_steps g (contraction_of loops u v))
contraction_moves true u v g valid live =
    subst (AllOf (IsMoveAt g)) (sym (loop_contraction_is_known g u.0 v.0 valid))
    (moves_both (IsMoveAt g) (sources_to u.0 (out_arcs g v.0)) (targets_to u.0 (in_arcs g v.0))
    (sources_move g u.0 (out_arcs g v.0) live (outs_live g v.0 valid))
    (targets_move g u.0 (in_arcs g v.0) live (ins_live g v.0 valid)))
contraction_moves false u v g valid live =
    let out : List ℕ = filter (λ arc. is_neither u.0 v.0 (target_of g arc)) (out_arcs g v.0) in
    let into : List ℕ = filter (λ arc. is_neither u.0 v.0 (source_of g arc)) (in_arcs g v.0) in
    subst (AllOf (IsMoveAt g)) (sym (contraction_is_known g u.0 v.0 valid))
    (moves_both (IsMoveAt g) (sources_to u.0 out) (targets_to u.0 into)
    (sources_move g u.0 out live (filter_all (IsLive g sorts.Arc) _ (out_arcs g v.0)
    (outs_live g v.0 valid)))
    (targets_move g u.0 into live (filter_all (IsLive g sorts.Arc) _ (in_arcs g v.0)
    (ins_live g v.0 valid))))

-- ---- nothing is left where all arcs moved

abbrev withouts : List ℕ → List ℕ → List ℕ
withouts [] xs = xs
withouts (a ∷ arcs) xs = withouts arcs (without xs a)

others_in : (a : ℕ) (arcs xs : List ℕ) → AllOf (λ x. has (a ∷ arcs) x ≡ true) xs
    → AllOf (λ x. has arcs x ≡ true) (without xs a)
others_in a arcs [] h = tt
others_in a arcs (x ∷ xs) h =
    let r = others_in a arcs xs h.1 in
    elim (x == a) as (λ b. (x == a) ≡ b → AllOf (λ x. has arcs x ≡ true)
    (cond (not b) (x ∷ without xs a) (without xs a))) [
      | true ↦ λ e. r
      | false ↦ λ e.
          let h0 = h.0 in
          (grind (arith, common_steps, e, h0), r)
    ] refl

withouts_none : (arcs xs : List ℕ) → AllOf (λ x. has arcs x ≡ true) xs → withouts arcs xs ≡ []
withouts_none [] [] h = refl
withouts_none [] (x ∷ xs) h = cc
withouts_none (a ∷ arcs) xs h = withouts_none arcs (without xs a) (others_in a arcs xs h)

all_gone : (xs : List ℕ) → withouts xs xs ≡ []
all_gone xs = withouts_none xs xs (all_if_each (λ x. has xs x ≡ true) xs (λ x at. at))

live_stay : (g : Digraph) (step : PlainStep) (arcs : List ℕ)
    → is_refusable step ≡ true
    → AllOf (IsLive g sorts.Arc) arcs
    → AllOf (IsLive (after_step g step) sorts.Arc) arcs
live_stay g step arcs r all =
    all_more (λ arc live. live_items_stay g step sorts.Arc arc r live) arcs all

module _ (u v : ℕ) (apart : u ≢ v) where
  away : (arc : ℕ) (xs : List ℕ)
      → cond (u == v) (arc ∷ without xs arc) (without xs arc) ≡ without xs arc
  away arc xs = ap (λ b. cond b (arc ∷ without xs arc) (without xs arc)) (ne_eqb u v apart)

  sources_away : (arcs : List ℕ) (g : Digraph) → AllOf (IsLive g sorts.Arc) arcs
      → (out_arcs (after_steps g (sources_to u arcs)) v ≡ withouts arcs (out_arcs g v))
      × (in_arcs (after_steps g (sources_to u arcs)) v ≡ in_arcs g v)
  sources_away [] g all = (refl, refl)
  sources_away (arc ∷ arcs) g all =
      let one = moved_source_lists g arc u v all.0 in
      let rest = sources_away arcs (move_from g arc u)
      (live_stay g (MoveFrom arc u) arcs refl all.1) in (
        rest.0 ∙ ap (withouts arcs) (one.0 ∙ away arc (out_arcs g v)),
        rest.1 ∙ one.1,
      )

  targets_away : (arcs : List ℕ) (g : Digraph) → AllOf (IsLive g sorts.Arc) arcs
      → (out_arcs (after_steps g (targets_to u arcs)) v ≡ out_arcs g v)
      × (in_arcs (after_steps g (targets_to u arcs)) v ≡ withouts arcs (in_arcs g v))
  targets_away [] g all = (refl, refl)
  targets_away (arc ∷ arcs) g all =
      let one = moved_target_lists g arc u v all.0 in
      let rest = targets_away arcs (move_to g arc u)
      (live_stay g (MoveTo arc u) arcs refl all.1) in (
        rest.0 ∙ one.0,
        rest.1 ∙ ap (withouts arcs) (one.1 ∙ away arc (in_arcs g v)),
      )

live_through : (steps : List PlainStep) (g : Digraph) (arcs : List ℕ)
    → AllRefusable steps → AllOf (IsLive g sorts.Arc) arcs
    → AllOf (IsLive (after_steps g steps) sorts.Arc) arcs
live_through steps g arcs r all =
    all_more (λ arc live. live_after steps g sorts.Arc arc r live)
    arcs all

pub all_moved : (u v : ℕ) (g : Digraph) → IsValid g → u ≢ v → IsLive g sorts.Node u
    → (out_arcs (after_steps g (refusable_steps g (loop_contraction u v))) v ≡ [])
    × (in_arcs (after_steps g (refusable_steps g (loop_contraction u v))) v ≡ [])
all_moved u v g valid apart live =
    let out : List PlainStep = sources_to u (out_arcs g v) in
    let into : List PlainStep = targets_to u (in_arcs g v) in
    let h : Digraph = after_steps g out in
    let e : after_steps g (refusable_steps g (loop_contraction u v)) ≡ after_steps h into =
    ap (after_steps g) (loop_contraction_is_known g u v valid) ∙ steps_lead_on g out into in
    let first = sources_away u v apart (out_arcs g v) g (outs_live g v valid) in
    let r = moves_refusable out g
    (sources_move g u (out_arcs g v) live (outs_live g v valid)) in
    let second = targets_away u v apart (in_arcs g v) h
    (live_through out g (in_arcs g v) r (ins_live g v valid)) in (
      ap (λ x. out_arcs x v) e ∙ second.0 ∙ first.0 ∙ all_gone (out_arcs g v),
      ap (λ x. in_arcs x v) e ∙ second.1 ∙ ap (withouts (in_arcs g v)) first.1
          ∙ all_gone (in_arcs g v),
    )

-- ---- the whole

-- an erasure of a node without arcs is that of the node alone
alone_erased : (g : Digraph) (n : ℕ) → out_arcs g n ≡ [] → in_arcs g n ≡ []
    → all_steps g (node_erasure n) ≡ EraseNode n ∷ []
alone_erased g n out into =
    ap (λ xs. map EraseArc xs ++ unrolled
    (after_steps g (map EraseArc xs))
    ((λ h. map EraseArc (in_arcs h n)) ∷ (λ h. EraseNode n ∷ []) ∷ [])) out
    ∙ ap (λ xs. map EraseArc xs ++ EraseNode n ∷ []) into

pub contracted : (loops : Bool) (u v : Node) (s t w : State) → u.0 ≢ v.0 → IsValid s.graph
    → IsLive s.graph sorts.Node u.0
    → Alters (refusable_steps s.graph (contraction_of loops u v))
    (refusable_steps s.graph (contraction_of loops u v)) s t
    → Goes (all_steps t.graph (node_erasure v.0)) t w → Happens (contraction_of loops u v) s w
contracted true u v s t w apart valid live moves erased =
    let steps : List PlainStep = refusable_steps s.graph (loop_contraction u.0 v.0) in
    let m = graph_on steps s t moves.goes.took in
    let none = all_moved u.0 v.0 s.graph valid apart live in
    let e : all_steps t.graph (node_erasure v.0) ≡ EraseNode v.0 ∷ [] =
    alone_erased t.graph v.0 (ap (λ x. out_arcs x v.0) m ∙ none.0)
    (ap (λ x. in_arcs x v.0) m ∙ none.1) in
    record {
      goes = subst (λ l. Goes l s w) (sym (steps_in_turn s.graph (loop_contraction u.0 v.0)))
          (goes_both steps (EraseNode v.0 ∷ []) s t w moves.goes
          (subst (λ l. Goes l t w) e erased));
      passes = moves.passes;
    }
contracted false u v s t w apart valid live moves erased =
    let steps : List PlainStep = refusable_steps s.graph (contraction u.0 v.0) in
    let m = graph_on steps s t moves.goes.took in
    record {
      goes = subst (λ l. Goes l s w) (sym (steps_in_turn s.graph (contraction u.0 v.0)))
          (goes_both steps
          (all_steps (after_steps s.graph steps) (node_erasure v.0)) s t w moves.goes
          (subst (λ g. Goes (all_steps g (node_erasure v.0)) t w) m erased));
      passes = moves.passes;
    }
