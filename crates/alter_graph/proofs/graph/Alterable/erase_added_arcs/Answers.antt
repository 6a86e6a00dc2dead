use Rattle.std.proofs.Common.{◌≡◌, length, map, Some, None, refl, sym, ap, subst, ◌∙◌, arith}
use Rattle.base_items.specs.declared.items.ItemSort.TheVariants as sorts
use Rattle.plain_digraph.specs.Lists.{first, all_but_first}
use Rattle.plain_digraph.specs.PlainSteps.{EraseArc}
use Rattle.alter_graph.specs.Chains.{chains_seen}
use Rattle.alter_graph.specs.State.{State, state_of}
use Rattle.alter_graph.specs.Snaps.{arc_half, added_of}
use Rattle.alter_graph.specs.Outcome.{Goes}
use Rattle.alter_graph.proofs.Sameness.{same_refl}
use Rattle.alter_graph.proofs.Taking.{steady_in}
use Rattle.alter_graph.proofs.Parting.{goes_none}
use Rattle.alter_graph.proofs.Emptying.{first_is, first_none, one_more}
use Rattle.alter_graph.proofs.Added.{arc_lives, still_there, valid_without_arc, fewer_arcs_added}
use Rattle.alter_graph.proofs.Added.{still_back, same_node_half}
use Rattle.alter_graph.proofs.graph.Alterable.erase_added_arcs.Goals as goal

pub loop-id-init : goal.loop-id-init
loop-id-init g c = record {
  in_step = c.requires.in_step;
  there = c.requires.there;
  valid = c.requires.valid;
  back = c.requires.back;
  other = refl;
  rest = λ t h. h;
}

pub erase_arc-requires-clause-in_step : goal.erase_arc-requires-clause-in_step
erase_arc-requires-clause-in_step g c = c.loop-id.invariant.in_step

pub erase_arc-requires-clause-arc : goal.erase_arc-requires-clause-arc
erase_arc-requires-clause-arc g c =
    let w = g.O.Observer.watch in
    let s : State = state_of w c.loop-id.self in
    let k = c.args.name in
    let next : first (added_of (arc_half k s.chains)) ≡ Some c.in-Some.id =
    ap (λ x. first (added_of (arc_half k (chains_seen w x)))) (sym c.chains.ensures)
    ∙ sym c.in-Some.ensures in
    arc_lives s c.loop-id.invariant.in_step k c.loop-id.invariant.there
    (steady_in w sorts.Arc c.loop-id.self.chains) c.in-Some.id next

pub loop-id-preserved : goal.loop-id-preserved
loop-id-preserved g c =
    let w = g.O.Observer.watch in
    let s : State = state_of w c.loop-id.self in
    let k = c.args.name in
    let id = c.in-Some.id in
    let next : first (added_of (arc_half k s.chains)) ≡ Some id =
    ap (λ x. first (added_of (arc_half k (chains_seen w x)))) (sym c.chains.ensures)
    ∙ sym c.in-Some.ensures in
    let t : State = state_of w c.erase_arc.new.self in
    let h = c.loop-id.invariant in
    let steady = steady_in w sorts.Arc c.loop-id.self.chains in
    let one = c.erase_arc.ensures.erases in
    record {
      in_step = one.in_step;
      there = still_there s h.in_step k h.there (EraseArc id) t one;
      valid = valid_without_arc s h.in_step k h.there steady id next t one h.valid;
      back = still_back s h.in_step k h.there steady id next t one h.back;
      other = same_node_half s h.in_step k h.there steady id next t one ∙ h.other;
      rest = λ u more. h.rest u
          (one_more id (added_of (arc_half k s.chains))
          (all_but_first (added_of (arc_half k s.chains))) s t u
          (first_is (added_of (arc_half k s.chains)) id next) one
          (subst (λ l. Goes (map EraseArc l) t u)
          (fewer_arcs_added s h.in_step k h.there steady id next t one) more));
    }

pub loop-id-smaller : goal.loop-id-smaller
loop-id-smaller g c =
    let w = g.O.Observer.watch in
    let s : State = state_of w c.loop-id.self in
    let k = c.args.name in
    let id = c.in-Some.id in
    let next : first (added_of (arc_half k s.chains)) ≡ Some id =
    ap (λ x. first (added_of (arc_half k (chains_seen w x)))) (sym c.chains.ensures)
    ∙ sym c.in-Some.ensures in
    let t : State = state_of w c.erase_arc.new.self in
    let h = c.loop-id.invariant in
    let a = ap length (first_is (added_of (arc_half k s.chains)) id next) in
    let b = ap length (fewer_arcs_added s h.in_step k h.there
    (steady_in w sorts.Arc c.loop-id.self.chains) id next t c.erase_arc.ensures.erases) in
    omega (arith, a, b)

pub returns : goal.returns
returns g c =
    let w = g.O.Observer.watch in
    let s : State = state_of w c.loop-id.self in
    let k = c.args.name in
    let h = c.loop-id.invariant in
    let next : first (added_of (arc_half k s.chains)) ≡ None =
    ap (λ x. first (added_of (arc_half k (chains_seen w x)))) (sym c.chains.ensures)
    ∙ sym c.in_default.ensures in
    let e = first_none (added_of (arc_half k s.chains)) next in
    record {
      goes = h.rest s (subst (λ l. Goes (map EraseArc l) s s) (sym e)
          (goes_none s s h.in_step (same_refl s)));
      there = h.there;
      valid = h.valid;
      back = h.back;
      none = e;
      nodes = h.other;
    }
