use Rattle.std.proofs.Common.{◌≡◌, length, map, Some, None, sym, ap, subst, ◌∙◌, arith}
use Rattle.base_items.specs.declared.items.ItemSort.TheVariants as sorts
use Rattle.list_digraph.specs.Roomy.{Roomy}
use Rattle.plain_digraph.specs.Lists.{first, all_but_first, AllOf}
use Rattle.plain_digraph.specs.Items.{IsLive, out_arcs, source_of}
use Rattle.plain_digraph.specs.PlainSteps.{EraseArc}
use Rattle.plain_digraph.proofs.StepOrders.{erased_from_front, all_listed_are_own}
use Rattle.plain_digraph.proofs.StepLiving.{erased_arc_leaves}
use Rattle.alter_graph.specs.State.{State, state_of}
use Rattle.alter_graph.specs.Outcome.{Goes}
use Rattle.alter_graph.proofs.Sameness.{same_refl}
use Rattle.alter_graph.proofs.Parting.{goes_none}
use Rattle.alter_graph.proofs.Emptying.{first_is, first_none, one_more}
use Rattle.alter_graph.proofs.graph.Alterable.erase_out.Goals as goal

pub loop-arc-init : goal.loop-arc-init
loop-arc-init g c = record { in_step = c.requires.in_step; node = c.requires.node; rest = λ t h. h }

pub first_out-requires : goal.first_out-requires
first_out-requires g c =
    subst (λ (x : Roomy). IsLive x.graph sorts.Node c.args.n.0) (sym c.graph.ensures)
    c.loop-arc.invariant.node

pub erase_arc-requires-clause-in_step : goal.erase_arc-requires-clause-in_step
erase_arc-requires-clause-in_step g c = c.loop-arc.invariant.in_step

pub erase_arc-requires-clause-arc : goal.erase_arc-requires-clause-arc
erase_arc-requires-clause-arc g c =
    let s : State = state_of g.O.Observer.watch c.loop-arc.self in
    let n = c.args.n.0 in
    let a = c.in-Some.arc.0 in
    let h : first (out_arcs s.graph n) ≡ Some a =
    ap (λ (x : Roomy). first (out_arcs x.graph n)) (sym c.graph.ensures) ∙ sym c.in-Some.ensures in
    (subst (AllOf (λ arc. IsLive s.graph sorts.Arc arc × (source_of s.graph arc ≡ n)))
    (first_is (out_arcs s.graph n) a h)
    (all_listed_are_own s.graph n c.loop-arc.invariant.in_step.valid).0).0.0

pub loop-arc-preserved : goal.loop-arc-preserved
loop-arc-preserved g c =
    let s : State = state_of g.O.Observer.watch c.loop-arc.self in
    let n = c.args.n.0 in
    let a = c.in-Some.arc.0 in
    let h : first (out_arcs s.graph n) ≡ Some a =
    ap (λ (x : Roomy). first (out_arcs x.graph n)) (sym c.graph.ensures) ∙ sym c.in-Some.ensures in
    let e = first_is (out_arcs s.graph n) a h in
    let t : State = state_of g.O.Observer.watch c.erase_arc.new.self in
    let one = c.erase_arc.ensures.erases in
    let left : out_arcs t.graph n ≡ all_but_first (out_arcs s.graph n) =
    ap (λ x. out_arcs x n) one.took.graph
    ∙ (erased_from_front s.graph n a (all_but_first (out_arcs s.graph n))
    c.loop-arc.invariant.in_step.valid).0 e in
    record {
      in_step = one.in_step;
      node = subst (λ x. IsLive x sorts.Node n) (sym one.took.graph)
          ((erased_arc_leaves s.graph a n).2 c.loop-arc.invariant.node);
      rest = λ u more. c.loop-arc.invariant.rest u
          (one_more a (out_arcs s.graph n) (all_but_first (out_arcs s.graph n)) s t u e one
          (subst (λ l. Goes (map EraseArc l) t u) left more));
    }

pub loop-arc-smaller : goal.loop-arc-smaller
loop-arc-smaller g c =
    let s : State = state_of g.O.Observer.watch c.loop-arc.self in
    let n = c.args.n.0 in
    let a = c.in-Some.arc.0 in
    let h : first (out_arcs s.graph n) ≡ Some a =
    ap (λ (x : Roomy). first (out_arcs x.graph n)) (sym c.graph.ensures) ∙ sym c.in-Some.ensures in
    let e = first_is (out_arcs s.graph n) a h in
    let t : State = state_of g.O.Observer.watch c.erase_arc.new.self in
    let one = c.erase_arc.ensures.erases in
    let left : out_arcs t.graph n ≡ all_but_first (out_arcs s.graph n) =
    ap (λ x. out_arcs x n) one.took.graph
    ∙ (erased_from_front s.graph n a (all_but_first (out_arcs s.graph n))
    c.loop-arc.invariant.in_step.valid).0 e in
    let p = ap length e in
    let q = ap length left in
    omega (arith, p, q)

pub returns : goal.returns
returns g c =
    let s : State = state_of g.O.Observer.watch c.loop-arc.self in
    let n = c.args.n.0 in
    let h : first (out_arcs s.graph n) ≡ None =
    ap (λ (x : Roomy). first (out_arcs x.graph n)) (sym c.graph.ensures)
    ∙ sym (rw c.in_default.is at c.first_out.ensures) in
    let e = first_none (out_arcs s.graph n) h in
    record {
      goes = c.loop-arc.invariant.rest s (subst (λ l. Goes (map EraseArc l) s s) (sym e)
          (goes_none s s c.loop-arc.invariant.in_step (same_refl s)));
      node = c.loop-arc.invariant.node;
      none = e;
    }
