use Rattle.std.proofs.Common.{◌≡◌, length, arith}
use Rattle.push_flow.proofs.Scan.{given_back, owned}
use Rattle.push_flow.specs.Held.{supply_of}
use Rattle.push_flow.specs.Slices.{at, task_of}
use Rattle.push_flow.proofs.settle.turn.Goals as goal

pub loop-i-preserved : goal.loop-i-preserved
loop-i-preserved c =
    let n = length c.args.height.now in
    let t = task_of n c.args.ends.now c.args.cap.now in
    let S = supply_of t (at c.args.flow.now) (at c.args.excess.now) (at c.args.want.now) in
    let l = c.loop-i in
    let new = c.visit-tail.new in
    let lens : length l.height ≡ n =
    (let a = l.auto.height in let b = c.discharge-tail.auto.height in omega (arith, a, b)) in
    let held = rw lens at c.visit-tail.ensures.held in
    let toil_is = rw lens at c.visit-tail.ensures.toil in
    let less = l.invariant.toil in
    let left = l.invariant.i in
    record {
      held = given_back t S (at l.flow) (at l.excess) (at l.want) (at l.height) (at new.flow)
          (at new.excess) (at new.want) (at new.height) l.invariant.held held;
      toil = omega (arith, toil_is, less);
      ring = rw lens at c.visit-tail.ensures.ring.1;
      tail = c.visit-tail.ensures.ring.0;
      i = omega (arith, left);
    }

pub loop-fuel-preserved : goal.loop-fuel-preserved
loop-fuel-preserved c =
    let n = length c.args.height.now in
    let t = task_of n c.args.ends.now c.args.cap.now in
    let S = supply_of t (at c.args.flow.now) (at c.args.excess.now) (at c.args.want.now) in
    let l = c.loop-fuel in
    let v = c.visit-tail-in-loop-fuel in
    let new = v.new in
    let lens : length l.height ≡ n =
    (let a = l.auto.height in let b = c.loop-i.auto.height in let d =
    c.discharge-tail.auto.height in omega (arith, a, b, d)) in
    let held = rw lens at v.ensures.held in
    let toil_is = rw lens at v.ensures.toil in
    let less = l.invariant.toil in
    record {
      held = given_back t S (at l.flow) (at l.excess) (at l.want) (at l.height) (at new.flow)
          (at new.excess) (at new.want) (at new.height) l.invariant.held held;
      toil = omega (arith, toil_is, less);
      ring = rw lens at v.ensures.ring.1;
      tail = v.ensures.ring.0;
      head = c.after-head.ensures;
    }

pub visit-tail-requires-in-loop-fuel-clause-held : goal.visit-tail-requires-in-loop-fuel-clause-held
visit-tail-requires-in-loop-fuel-clause-held c =
    let n = length c.args.height.now in
    let t = task_of n c.args.ends.now c.args.cap.now in
    let S = supply_of t (at c.args.flow.now) (at c.args.excess.now) (at c.args.want.now) in
    let l = c.loop-fuel in
    let lens : length l.height ≡ n =
    (let a = l.auto.height in let b = c.loop-i.auto.height in let d =
    c.discharge-tail.auto.height in omega (arith, a, b, d)) in
    rw lens (owned t S (at l.flow) (at l.excess) (at l.want) (at l.height) l.invariant.held)
