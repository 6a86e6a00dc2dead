use Rattle.std.proofs.Common.{◌≡◌, ◌≤ℤ◌, ◌<ℤ◌, FitsSigned, pos, false, sym, subst}
use Rattle.std.proofs.Common.{rules, arith}
use Rattle.std.specs.Int.{w128}
use Rattle.std.proofs.lemmas.Int.{ints, to_z-of_z}
use Rattle.plain_certificates.specs.Tables.{at}
use Rattle.plain_certificates.specs.Walks.{along}
use Rattle.pace_search.specs.Answers.{IsNegativeRound, Shows}
use Rattle.static_digraph.specs.Fixed.{graph_of}
use Rattle.flow_mincost.proofs.DropLengths.{all_carry, levels, no_turn, roomy_round}
use Rattle.flow_mincost.proofs.Evened.{ones_floor, ones_less}
use Rattle.flow_mincost.proofs.Lowers.{prices_kept}
use Rattle.flow_mincost.proofs.Onward.{free_round}
use Rattle.flow_mincost.proofs.Pushed.{gap_less, keeps_round}
use Rattle.flow_mincost.specs.Pushing.{IsPushed, IsRoomy}
use Rattle.flow_mincost.proofs.lowering.lower.Goals as goal

pub returns-in-Potential-clause-ends : goal.returns-in-Potential-clause-ends
returns-in-Potential-clause-ends c =
    let g = graph_of c.args.g.now in
    let cap = at 0 c.args.cap.now in
    let cost = at (pos 0) c.args.cost.now in
    let old = c.cycles.sent in
    let lens = c.in_ok-lens.lens.items in
    let are = c.in_ok-lens.ensures in
    let shown = subst (λ found. Shows g (at (pos 0) lens) found) c.in-Potential.is
    (subst (λ xs. Shows g (at (pos 0) xs) c.in_ok-negative_cycle.field-0) c.deref.ensures.value
    c.in_ok-negative_cycle.ensures) in
    levels g cap (at 0 old) lens are (at (pos 0) c.in-Potential.field-0.items) shown.1

pub returns-then-cost_along-lt0-clause-ends : goal.returns-then-cost_along-lt0-clause-ends
returns-then-cost_along-lt0-clause-ends c =
    let g = graph_of c.args.g.now in
    let cap = at 0 c.args.cap.now in
    let cost = at (pos 0) c.args.cost.now in
    let old = c.cycles.sent in
    let lens = c.in_ok-lens.lens.items in
    let are = c.in_ok-lens.ensures in
    let round = c.in-Cycle.cycle.items in
    let is : IsNegativeRound g (at (pos 0) lens) round =
    subst (λ found. Shows g (at (pos 0) lens) found) c.in-Cycle.is
    (subst (λ xs. Shows g (at (pos 0) xs) c.in_ok-negative_cycle.field-0) c.deref.ensures.value
    c.in_ok-negative_cycle.ensures) in
    let carry = all_carry g cap (at 0 old) lens are round is in
    let sum = subst (λ xs. c.cost_along.result ≡ along cost xs) c.deref-in-Cycle.ensures.value
    c.cost_along.ensures in
    let fits : FitsSigned w128 c.cost_along.result = search rules in
    let same = to_z-of_z w128 c.cost_along.result fits in
    let test = c.if-cost_along-lt0.true in
    let less : along cost round <ℤ pos 0 = omega (arith, ints, sum, same, test) in
    free_round g (at (pos 0) lens) round is (no_turn g cap (at 0 old) lens are)
    (λ k d l. (carry k d l).arc) cap cost (λ k d l. (carry k d l).open_cap) less

pub push_round-requires-clause-roomy : goal.push_round-requires-clause-roomy
push_round-requires-clause-roomy c =
    let g = graph_of c.args.g.now in
    let cap = at 0 c.args.cap.now in
    let cost = at (pos 0) c.args.cost.now in
    let old = c.cycles.sent in
    let lens = c.in_ok-lens.lens.items in
    let are = c.in_ok-lens.ensures in
    let round = c.in-Cycle.cycle.items in
    let is : IsNegativeRound g (at (pos 0) lens) round =
    subst (λ found. Shows g (at (pos 0) lens) found) c.in-Cycle.is
    (subst (λ xs. Shows g (at (pos 0) xs) c.in_ok-negative_cycle.field-0) c.deref.ensures.value
    c.in_ok-negative_cycle.ensures) in
    let carry = all_carry g cap (at 0 old) lens are round is in
    subst (IsRoomy g cap (at 0 old) false) (sym c.deref-in-Cycle-2.ensures.value)
    (roomy_round g cap (at 0 old) lens are round is)

pub cycles-smaller : goal.cycles-smaller
cycles-smaller c =
    let g = graph_of c.args.g.now in
    let cap = at 0 c.args.cap.now in
    let cost = at (pos 0) c.args.cost.now in
    let old = c.cycles.sent in
    let lens = c.in_ok-lens.lens.items in
    let are = c.in_ok-lens.ensures in
    let round = c.in-Cycle.cycle.items in
    let is : IsNegativeRound g (at (pos 0) lens) round =
    subst (λ found. Shows g (at (pos 0) lens) found) c.in-Cycle.is
    (subst (λ xs. Shows g (at (pos 0) xs) c.in_ok-negative_cycle.field-0) c.deref.ensures.value
    c.in_ok-negative_cycle.ensures) in
    let carry = all_carry g cap (at 0 old) lens are round is in
    let new = c.push_round.new.sent in
    let pushed : IsPushed g c.args.cap.now false round old new =
    subst (λ xs. IsPushed g c.args.cap.now false xs old new) c.deref-in-Cycle-2.ensures.value
    c.push_round.ensures in
    let roomy = roomy_round g cap (at 0 old) lens are round is in
    gap_less g c.args.cap.now false round old new roomy pushed is.node is.closed (λ _. pos 1)
    (pos 0)
    (ones_less g (λ _. pos 1) round (λ k d l. (carry k d l).arc) is.node is.closed is.nonempty)
    (ones_floor g (at 0 new))

pub cycles-preserved : goal.cycles-preserved
cycles-preserved c =
    let g = graph_of c.args.g.now in
    let cap = at 0 c.args.cap.now in
    let cost = at (pos 0) c.args.cost.now in
    let old = c.cycles.sent in
    let lens = c.in_ok-lens.lens.items in
    let are = c.in_ok-lens.ensures in
    let round = c.in-Cycle.cycle.items in
    let is : IsNegativeRound g (at (pos 0) lens) round =
    subst (λ found. Shows g (at (pos 0) lens) found) c.in-Cycle.is
    (subst (λ xs. Shows g (at (pos 0) xs) c.in_ok-negative_cycle.field-0) c.deref.ensures.value
    c.in_ok-negative_cycle.ensures) in
    let carry = all_carry g cap (at 0 old) lens are round is in
    let new = c.push_round.new.sent in
    let pushed : IsPushed g c.args.cap.now false round old new =
    subst (λ xs. IsPushed g c.args.cap.now false xs old new) c.deref-in-Cycle-2.ensures.value
    c.push_round.ensures in
    let roomy = roomy_round g cap (at 0 old) lens are round is in
    let was = c.cycles.invariant in
    let sum = subst (λ xs. c.cost_along.result ≡ along cost xs) c.deref-in-Cycle.ensures.value
    c.cost_along.ensures in
    let fits : FitsSigned w128 c.cost_along.result = search rules in
    let same = to_z-of_z w128 c.cost_along.result fits in
    let test = c.if-cost_along-lt0.false in
    let more : pos 0 ≤ℤ along cost round = omega (arith, ints, sum, same, test) in
    record {
      keeps = keeps_round g c.args.cap.now false round old new roomy pushed is.node is.closed
          c.args.sent.now was.keeps;
      prices = λ pi begun. prices_kept g c.args.cap.now cost pi round old new carry is.node
          is.closed more pushed (was.prices pi begun);
    }
