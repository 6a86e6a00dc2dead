use Rattle.std.proofs.Common.{length, arith}
use Rattle.push_flow.proofs.Waving.{tail_small}
use Rattle.push_flow.specs.Slices.{at, task_of}
use Rattle.push_flow.proofs.wave.wave.Goals as goal

pub bounds-queue-head : goal.bounds-queue-head
bounds-queue-head c =
    let l = c.loop-head in
    let t = task_of (length c.args.height.now) c.args.ends.now c.args.cap.now in
    let small = tail_small t (at c.args.flow.now) (at c.args.excess.now) (at c.args.want.now)
    (at c.args.before.now) (at l.height) (at l.queue) l.found l.head l.tail l.invariant in
    let a = c.loop-head-test.true in
    let b = c.requires.lens in
    let d = l.auto.queue in
    let e = c.roots-tail.auto.queue in
    omega (arith, small, a, b, d, e)

pub loop-head-smaller : goal.loop-head-smaller
loop-head-smaller c =
    let l = c.loop-head in
    let t = task_of (length c.args.height.now) c.args.ends.now c.args.cap.now in
    let small = tail_small t (at c.args.flow.now) (at c.args.excess.now) (at c.args.want.now)
    (at c.args.before.now) (at l.height) (at l.queue) l.found l.head l.tail l.invariant in
    let a = c.loop-head-test.true in
    omega (arith, small, a)
