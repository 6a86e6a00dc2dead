use Rattle.std.proofs.Common.{◌≡◌, length, map, Some, None, refl, sym, ap, subst, ◌∙◌, arith}
use Rattle.base_items.specs.declared.items.ItemSort.TheVariants as sorts
use Rattle.plain_digraph.specs.Lists.{first, all_but_first}
use Rattle.plain_digraph.specs.PlainSteps.{EraseNode}
use Rattle.alter_graph.specs.Chains.{chains_seen}
use Rattle.alter_graph.specs.State.{State, state_of}
use Rattle.alter_graph.specs.Snaps.{node_half, added_of}
use Rattle.alter_graph.specs.Outcome.{Goes}
use Rattle.alter_graph.proofs.Sameness.{same_refl}
use Rattle.alter_graph.proofs.Taking.{steady_in}
use Rattle.alter_graph.proofs.Parting.{goes_none}
use Rattle.alter_graph.proofs.Emptying.{first_is, first_none}
use Rattle.alter_graph.proofs.Added.{node_lives, still_there, valid_without_node, fewer_nodes_added}
use Rattle.alter_graph.proofs.Added.{stands_alone, same_arc_half, one_node_more}
use Rattle.alter_graph.specs.Snaps.{kept_of}
use Rattle.alter_graph.proofs.graph.Alterable.erase_added_nodes.Goals as goal

pub loop-id-init : goal.loop-id-init
loop-id-init g c = record {
  in_step = c.requires.in_step;
  there = c.requires.there;
  valid = c.requires.valid;
  back = c.requires.back;
  other = refl;
  rest = λ t h. h;
}

pub erase_bare-requires-clause-in_step : goal.erase_bare-requires-clause-in_step
erase_bare-requires-clause-in_step g c = c.loop-id.invariant.in_step

pub erase_bare-requires-clause-node : goal.erase_bare-requires-clause-node
erase_bare-requires-clause-node g c =
    let w = g.O.Observer.watch in
    let s : State = state_of w c.loop-id.self in
    let k = c.args.name in
    let next : first (added_of (node_half k s.chains)) ≡ Some c.in-Some.id =
    ap (λ x. first (added_of (node_half k (chains_seen w x)))) (sym c.chains.ensures)
    ∙ sym c.in-Some.ensures in
    node_lives s c.loop-id.invariant.in_step k c.loop-id.invariant.there
    (steady_in w sorts.Node c.loop-id.self.chains) c.in-Some.id next

pub erase_bare-requires-clause-alone : goal.erase_bare-requires-clause-alone
erase_bare-requires-clause-alone g c =
    let w = g.O.Observer.watch in
    let s : State = state_of w c.loop-id.self in
    let k = c.args.name in
    let next : first (added_of (node_half k s.chains)) ≡ Some c.in-Some.id =
    ap (λ x. first (added_of (node_half k (chains_seen w x)))) (sym c.chains.ensures)
    ∙ sym c.in-Some.ensures in
    let h = c.loop-id.invariant in
    stands_alone s h.in_step k h.there (steady_in w sorts.Node c.loop-id.self.chains)
    c.in-Some.id next h.valid (ap added_of h.other ∙ c.requires.no_arcs) h.back

pub loop-id-preserved : goal.loop-id-preserved
loop-id-preserved g c =
    let w = g.O.Observer.watch in
    let s : State = state_of w c.loop-id.self in
    let k = c.args.name in
    let id = c.in-Some.id in
    let next : first (added_of (node_half k s.chains)) ≡ Some id =
    ap (λ x. first (added_of (node_half k (chains_seen w x)))) (sym c.chains.ensures)
    ∙ sym c.in-Some.ensures in
    let t : State = state_of w c.erase_bare.new.self in
    let h = c.loop-id.invariant in
    let steady = steady_in w sorts.Node c.loop-id.self.chains in
    let one = c.erase_bare.ensures.goes in
    record {
      in_step = one.in_step;
      there = still_there s h.in_step k h.there (EraseNode id) t one;
      valid = valid_without_node s h.in_step k h.there steady id next t one h.valid;
      back = ap kept_of (same_arc_half s h.in_step k h.there steady id next t one) ∙ h.back;
      other = same_arc_half s h.in_step k h.there steady id next t one ∙ h.other;
      rest = λ u more. h.rest u
          (one_node_more id (added_of (node_half k s.chains))
          (all_but_first (added_of (node_half k s.chains))) s t u
          (first_is (added_of (node_half k s.chains)) id next) one
          (subst (λ l. Goes (map EraseNode l) t u)
          (fewer_nodes_added s h.in_step k h.there steady id next t one) more));
    }

pub loop-id-smaller : goal.loop-id-smaller
loop-id-smaller g c =
    let w = g.O.Observer.watch in
    let s : State = state_of w c.loop-id.self in
    let k = c.args.name in
    let id = c.in-Some.id in
    let next : first (added_of (node_half k s.chains)) ≡ Some id =
    ap (λ x. first (added_of (node_half k (chains_seen w x)))) (sym c.chains.ensures)
    ∙ sym c.in-Some.ensures in
    let t : State = state_of w c.erase_bare.new.self in
    let h = c.loop-id.invariant in
    let a = ap length (first_is (added_of (node_half k s.chains)) id next) in
    let b = ap length (fewer_nodes_added s h.in_step k h.there
    (steady_in w sorts.Node c.loop-id.self.chains) id next t c.erase_bare.ensures.goes) in
    omega (arith, a, b)

pub returns : goal.returns
returns g c =
    let w = g.O.Observer.watch in
    let s : State = state_of w c.loop-id.self in
    let k = c.args.name in
    let h = c.loop-id.invariant in
    let next : first (added_of (node_half k s.chains)) ≡ None =
    ap (λ x. first (added_of (node_half k (chains_seen w x)))) (sym c.chains.ensures)
    ∙ sym c.in_default.ensures in
    let e = first_none (added_of (node_half k s.chains)) next in
    record {
      goes = h.rest s (subst (λ l. Goes (map EraseNode l) s s) (sym e)
          (goes_none s s h.in_step (same_refl s)));
      there = h.there;
      valid = h.valid;
      none = e;
      arcs = h.other;
    }
