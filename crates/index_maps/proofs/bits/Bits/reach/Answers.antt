use Rattle.std.proofs.Common.{◌+◌, ◌*◌, ◌/◌, ◌≤◌, vec_len, refl, arith}
use Rattle.index_maps.proofs.LevelLemmas.{sums_same}
use Rattle.index_maps.proofs.bits.Bits.reach.Goals as goal

pub invariant_of-self-in-Break-branch-2 : goal.invariant_of-self-in-Break-branch-2
invariant_of-self-in-Break-branch-2 c =
    let self = c.args.self.now in
    let at = c.args.at in
    let tops = c.reach.new.words in
    let words = c.reach-2.new.words in
    let room : at / 64 / 64 / 64 + 1 ≤ vec_len tops = c.in_ok-reach.ensures.room in
    record {
      summed = sums_same self.words.items words.items self.items.items self.items.items self.summed
          c.reach-2.ensures.same (λ w. refl);
      topped = sums_same self.tops.items tops.items self.words.items words.items self.topped
          c.reach.ensures.same c.reach-2.ensures.same;
      under = omega (arith, self.under, c.reach-2.ensures.more);
      below = c.reach-2.ensures.bound (64 * vec_len tops)
          (omega (arith, self.below, c.reach.ensures.more)) (omega (arith, room));
      small = self.small;
      smaller = c.reach-2.ensures.bound 67108864 self.smaller (omega (arith, c.ranges.at));
      smallest = c.reach.ensures.bound 67108864 self.smallest (omega (arith, c.ranges.at));
    }

pub invariant_of-self-2 : goal.invariant_of-self-2
invariant_of-self-2 c =
    let self = c.args.self.now in
    let at = c.args.at in
    let tops = c.reach.new.words in
    let words = c.reach-2.new.words in
    let items = c.reach-3.new.words in
    let room : at / 64 / 64 / 64 + 1 ≤ vec_len tops = c.in_ok-reach.ensures.room in
    let more : at / 64 / 64 + 1 ≤ vec_len words = c.in_ok-reach-2.ensures.room in
    record {
      summed = sums_same self.words.items words.items self.items.items items.items self.summed
          c.reach-2.ensures.same c.reach-3.ensures.same;
      topped = sums_same self.tops.items tops.items self.words.items words.items self.topped
          c.reach.ensures.same c.reach-2.ensures.same;
      under = c.reach-3.ensures.bound (64 * vec_len words)
          (omega (arith, self.under, c.reach-2.ensures.more)) (omega (arith, more));
      below = c.reach-2.ensures.bound (64 * vec_len tops)
          (omega (arith, self.below, c.reach.ensures.more)) (omega (arith, room));
      small = c.reach-3.ensures.bound 67108864 self.small (omega (arith, c.ranges.at));
      smaller = c.reach-2.ensures.bound 67108864 self.smaller (omega (arith, c.ranges.at));
      smallest = c.reach.ensures.bound 67108864 self.smallest (omega (arith, c.ranges.at));
    }
