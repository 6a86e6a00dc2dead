use Rattle.std.proofs.Common.{◌≡◌, ◌<◌, length, arith}
use Rattle.push_flow.proofs.Lists.{at-set}
use Rattle.push_flow.proofs.Waving.{roots_begin, root_more, root_else}
use Rattle.push_flow.specs.Slices.{at}
use Rattle.push_flow.proofs.wave.roots.Goals as goal

pub loop-v-init : goal.loop-v-init
loop-v-init c = record {
  inside = omega arith;
  roots = roots_begin (length c.args.want.now) (at c.args.want.now) (at c.args.height.now)
      (at c.args.queue.now);
}

pub loop-v-preserved-then-want-v-gt0 : goal.loop-v-preserved-then-want-v-gt0
loop-v-preserved-then-want-v-gt0 c =
    let l = c.loop-v in
    let n = length c.args.want.now in
    let r = l.invariant.roots in
    let inside = c.loop-v-test.true in
    let lens = c.requires.lens in
    let in_height : l.v < length l.height =
    (let a = l.auto.height in omega (arith, a, inside, lens)) in
    let in_queue : l.tail < length l.queue =
    (let a = l.auto.queue in let b = r.ordered in omega (arith, a, b, inside, lens)) in
    record {
      inside = omega (arith, inside);
      roots = rw (at-set l.height l.v 0 in_height, at-set l.queue l.tail l.v in_queue)
          (root_more n (at c.args.want.now) (at l.height) (at l.queue) l.v l.tail r
          c.if-want-v-gt0.true);
    }

pub loop-v-preserved : goal.loop-v-preserved
loop-v-preserved c =
    let l = c.loop-v in
    let n = length c.args.want.now in
    let r = l.invariant.roots in
    let inside = c.loop-v-test.true in
    let lens = c.requires.lens in
    let in_height : l.v < length l.height =
    (let a = l.auto.height in omega (arith, a, inside, lens)) in
    let none : at c.args.want.now l.v ≡ 0 = (let a = c.if-want-v-gt0.false in omega (arith, a)) in
    record {
      inside = omega (arith, inside);
      roots = rw (at-set l.height l.v n in_height)
          (root_else n (at c.args.want.now) (at l.height) (at l.queue) l.v l.tail r none);
    }
