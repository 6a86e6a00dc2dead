use Rattle.std.proofs.Common.{◌≡◌, ◌∙◌, length, true, false, pos, to_z, of_z, w64}
use Rattle.std.proofs.Common.{sym, ap, subst, arith}
use Rattle.std.proofs.lemmas.Int.{ints}
use Rattle.std.proofs.lemmas.List.{get_or_default}
use Rattle.pivot_flow.proofs.Pricing.{price_small}
use Rattle.pivot_flow.specs.Tree.{task_of, tree_of}
use Rattle.plain_certificates.specs.Feasible.{IsBarrier}
use Rattle.plain_certificates.specs.Tables.{at}
use Rattle.static_digraph.specs.Fixed.{graph_of}
use Rattle.net_simplex.proofs.Answered.{is_barrier}
use Rattle.net_simplex.specs.Told.{AreSides, IsSide}
use Rattle.net_simplex.specs.Network.{IsNetwork}
use Rattle.net_simplex.proofs.answer.barred.Goals as goal

pub sides_of-requires : goal.sides_of-requires
sides_of-requires c =
    let price = ap length c.deref.ensures.value in
    let all = c.requires.prices in
    let count = c.node_count.ensures.count in
    omega (arith, price, all, count)

pub barrier_of-barrier-requires-clause-nodes : goal.barrier_of-barrier-requires-clause-nodes
barrier_of-barrier-requires-clause-nodes c =
    ap length c.from_vec.ensures ∙ (c.in_ok-side.ensures.all ∙ c.node_count.ensures.count)

pub returns : goal.returns
returns c =
    let g = graph_of c.args.g.now in
    let plan = c.args.plan.now in
    let run = c.args.solved.now in
    let ready = c.requires.ready in
    let b = c.barrier_of-barrier.result in
    let over = c.is_side-over.result in
    let v = c.args.v in
    λ bounds weights cost task weighed solved.
    (let t = task_of solved.count run.flow.ends.items plan.caps.items in
    let h = tree_of run.tree.parent.items run.tree.arc.items run.tree.depth.items in
    let y = at (pos 0) run.flow.price.items in
    let last = solved.last in
    let told = c.barrier_of-barrier.ensures.told in
    let sides : AreSides g.nodes y over b.nodes =
    rw (c.barrier_of-barrier.ensures.nodes, c.from_vec.ensures)
    (rw (c.node_count.ensures.count, c.deref.ensures.value) at c.in_ok-side.ensures) in
    let nodes = last.rooted.nodes in
    let node = c.requires.node in
    let prices = c.requires.prices in
    let small = price_small t (at (pos 0) weights) h y last.running.state.hung
    last.running.state.priced last.costed v (omega (arith, node, nodes)) in
    let small_low = small.0 in
    let small_high = small.1 in
    let read = c.index.ensures
    ∙ get_or_default run.flow.price.items v c.index.result.now (pos 0) (omega (arith, node, prices))
    in
    let price_is : to_z w64 (of_z w64 c.index.result.now) ≡ y v =
    omega (arith, ints, read, small_low, small_high) in
    let low = subst (λ p. IsSide true p over) price_is c.is_side-over.ensures in
    let network : IsNetwork g bounds t = record {
      rooted = last.rooted;
      ends = ready.ends;
      spans = task.spans;
      rim_open = ready.caps.rim;
    } in
    let barrier = is_barrier g bounds (at (pos 0) plan.excess.items) t (at (pos 0) weights) h
    (at 0 run.flow.sent.items) y run.endless network task.excess last c.requires.stopped
    (at (pos 0) plan.lower.items) (at (pos 0) plan.upper.items) (at (pos 0) plan.supply.items)
    task.lower weighed task.upper task.supply b over v told sides node c.requires.short low in
    record {
      shows = (
        sides.all,
        subst (λ o. IsBarrier g bounds o (at false b.nodes) b.supply b.limit) (sym told.over_is)
            barrier,
      );
      basic = tt;
    })
