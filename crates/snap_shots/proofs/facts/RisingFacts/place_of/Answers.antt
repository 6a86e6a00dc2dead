use Rattle.std.proofs.Common.{◌≤◌, ◌<◌, ◌+◌, ◌-◌, ◌/◌, length, get_or, ap, arith}
use Rattle.base_items.specs.declared.items.Fact.{Fact}
use Rattle.snap_shots.specs.FactViews.{facts_in}
use Rattle.snap_shots.proofs.RankLemmas.{rank-within, rank-past, rank-before, read, no_fact}
use Rattle.snap_shots.proofs.facts.RisingFacts.place_of.Goals as goal

pub loop-low-init : goal.loop-low-init
loop-low-init c =
    let most = rank-within c.args.id (facts_in c.args.self.now) in
    record { least = omega arith; most = omega (arith, most); within = omega arith }

pub loop-low-preserved-then-index-id : goal.loop-low-preserved-then-index-id
loop-low-preserved-then-index-id c =
    let self = c.args.self.now in
    let fs = facts_in self in
    let was = c.loop-low.invariant in
    let m = c.loop-low.low + (c.loop-low.high - c.loop-low.low) / 2 in
    let l : m < length fs = omega (arith, was.within) in
    let e = read m c.index.result.now no_fact fs l c.index.ensures in
    let below : (get_or fs m no_fact).id < c.args.id =
    let i = ap (λ (f : Fact). f.id) e in omega (arith, i, c.if-index-id.true) in
    let past = rank-past 0 c.args.id m no_fact fs self.rising l below in
    record { least = omega (arith, past); most = was.most; within = was.within }

pub loop-low-preserved : goal.loop-low-preserved
loop-low-preserved c =
    let self = c.args.self.now in
    let fs = facts_in self in
    let was = c.loop-low.invariant in
    let m = c.loop-low.low + (c.loop-low.high - c.loop-low.low) / 2 in
    let l : m < length fs = omega (arith, was.within) in
    let e = read m c.index.result.now no_fact fs l c.index.ensures in
    let above : c.args.id ≤ (get_or fs m no_fact).id =
    let i = ap (λ (f : Fact). f.id) e in omega (arith, i, c.if-index-id.false) in
    record {
      least = was.least;
      most = rank-before c.args.id m no_fact fs l above;
      within =
          omega (arith, l);
    }
