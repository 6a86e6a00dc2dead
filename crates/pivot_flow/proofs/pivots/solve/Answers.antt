use Rattle.std.proofs.Common.{length, arith}
use Rattle.pivot_flow.proofs.Basics.{basic_state}
use Rattle.pivot_flow.proofs.Opening.{roomy_same}
use Rattle.pivot_flow.proofs.Pricing.{price_small}
use Rattle.pivot_flow.proofs.Recasting.{own_sends, sends_back}
use Rattle.pivot_flow.specs.Spread.{price_at}
use Rattle.pivot_flow.specs.State.{sends_of}
use Rattle.pivot_flow.specs.Tree.{at, task_of, tree_of}
use Rattle.pivot_flow.proofs.pivots.solve.Goals as goal

pub seek-requires-clause-prices : goal.seek-requires-clause-prices
seek-requires-clause-prices c v q =
    let n = length c.args.parent.now in
    let l = c.loop-entering in
    let st = l.invariant.state in
    price_small (task_of n c.args.ends.now c.args.cap.now) (price_at c.args.cost.now)
    (tree_of l.parent l.arc l.depth) (price_at l.price) st.hung st.priced c.requires.costed v
    (let a = l.auto.price in let b = c.requires.lens in omega (arith, a, b, q))

pub pivot-requires-clause-state : goal.pivot-requires-clause-state
pivot-requires-clause-state c =
    let n = length c.args.parent.now in
    let t = task_of n c.args.ends.now c.args.cap.now in
    let l = c.loop-entering in
    let lens = l.auto.parent in
    rw lens (own_sends t (sends_of t (at c.args.flow.now)) (price_at c.args.cost.now)
    (tree_of l.parent l.arc l.depth) (at l.flow) (price_at l.price) l.invariant.state)

pub pivot-requires-clause-roomy : goal.pivot-requires-clause-roomy
pivot-requires-clause-roomy c =
    let n = length c.args.parent.now in
    let t = task_of n c.args.ends.now c.args.cap.now in
    let l = c.loop-entering in
    let lens = l.auto.parent in
    rw lens (roomy_same t (sends_of t (at c.args.flow.now)) (sends_of t (at l.flow))
    l.invariant.state.held.met c.requires.roomy)

pub loop-entering-preserved : goal.loop-entering-preserved
loop-entering-preserved c =
    let n = length c.args.parent.now in
    let t = task_of n c.args.ends.now c.args.cap.now in
    let l = c.loop-entering in
    let lens = l.auto.parent in
    let new = c.pivot.new in
    let state = rw lens at c.pivot.ensures.state in
    record {
      start = c.next_start-start.ensures;
      free = rw lens at c.pivot.ensures.free;
      kids = rw lens at c.pivot.ensures.kids;
      state = sends_back t (sends_of t (at c.args.flow.now)) (price_at c.args.cost.now)
          (tree_of l.parent l.arc l.depth) (tree_of new.parent new.arc new.depth) (at l.flow)
          (at new.flow) (price_at l.price) (price_at new.price) l.invariant.state state;
    }

pub returns-then-found-ge-ENDLESS-clause-basic : goal.returns-then-found-ge-ENDLESS-clause-basic
returns-then-found-ge-ENDLESS-clause-basic c =
    let t = task_of (length c.args.parent.now) c.args.ends.now c.args.cap.now in
    let l = c.loop-entering in
    let sends = sends_of t (at c.args.flow.now) in
    basic_state t sends sends (tree_of l.parent l.arc l.depth) (at l.flow)
    l.invariant.state.hung l.invariant.state.held

pub returns-clause-basic : goal.returns-clause-basic
returns-clause-basic c =
    let t = task_of (length c.args.parent.now) c.args.ends.now c.args.cap.now in
    let l = c.loop-entering in
    let sends = sends_of t (at c.args.flow.now) in
    basic_state t sends sends (tree_of l.parent l.arc l.depth) (at l.flow)
    l.invariant.state.hung l.invariant.state.held
