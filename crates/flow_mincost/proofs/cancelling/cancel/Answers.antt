use Rattle.std.proofs.Common.{◌≡◌, ◌<◌, ◌≤ℤ◌, ◌*◌, ◌∙◌, All, pos, negsuc, true}
use Rattle.std.proofs.Common.{sym, subst, arith}
use Rattle.std.specs.List.{list_all}
use Rattle.std.proofs.lemmas.Int.{ints}
use Rattle.plain_certificates.proofs.Products.{one_times}
use Rattle.plain_certificates.specs.Pushes.{along_trail}
use Rattle.plain_certificates.specs.Tables.{at}
use Rattle.pace_search.specs.Answers.{IsNegativeRound, Shows, none}
use Rattle.pace_search.specs.Paces.{pace_at, paces_at}
use Rattle.static_digraph.specs.Fixed.{graph_of}
use Rattle.flow_mincost.proofs.CostLengths.{no_turn, prices, roomy_round, round_saves}
use Rattle.flow_mincost.proofs.CostLengths.{values_small}
use Rattle.flow_mincost.proofs.LengthCases.{lengths_high, lengths_low}
use Rattle.flow_mincost.proofs.Onward.{along_of, free_round, open_paces}
use Rattle.flow_mincost.proofs.Pushed.{above_floor, gap_less, keeps_round}
use Rattle.flow_mincost.specs.Pushing.{IsPushed, IsRoomy}
use Rattle.flow_mincost.specs.Rooms.{is_open}
use Rattle.flow_mincost.specs.Sent.{floor_of}
use Rattle.flow_mincost.proofs.cancelling.cancel.Goals as goal

pub negative_cycle-requires-clause-low : goal.negative_cycle-requires-clause-low
negative_cycle-requires-clause-low c =
    let g = graph_of c.args.g.now in
    let cap = at 0 c.args.cap.now in
    let cost = at (pos 0) c.args.cost.now in
    let sent = at 0 c.cycles.sent in
    let lens = c.in_ok-lens.lens.items in
    subst (All (λ l. negsuc 68719476735 ≤ℤ l)) (sym c.deref.ensures.value)
    (lengths_low (2 * g.arcs) _ _ lens c.in_ok-lens.ensures
    (values_small g cap cost sent lens c.in_ok-lens.ensures c.requires.cost.small))

pub negative_cycle-requires-clause-high : goal.negative_cycle-requires-clause-high
negative_cycle-requires-clause-high c =
    let g = graph_of c.args.g.now in
    let cap = at 0 c.args.cap.now in
    let cost = at (pos 0) c.args.cost.now in
    let sent = at 0 c.cycles.sent in
    let lens = c.in_ok-lens.lens.items in
    subst (All (λ l. l ≤ℤ none)) (sym c.deref.ensures.value)
    (lengths_high (2 * g.arcs) _ _ lens c.in_ok-lens.ensures
    (values_small g cap cost sent lens c.in_ok-lens.ensures c.requires.cost.small))

pub returns-in-Potential-clause-ends : goal.returns-in-Potential-clause-ends
returns-in-Potential-clause-ends c =
    let g = graph_of c.args.g.now in
    let cap = at 0 c.args.cap.now in
    let cost = at (pos 0) c.args.cost.now in
    let lens = c.in_ok-lens.lens.items in
    let shown = subst (λ found. Shows g (at (pos 0) lens) found) c.in-Potential.is
    (subst (λ xs. Shows g (at (pos 0) xs) c.in_ok-pi.field-0) c.deref.ensures.value
    c.in_ok-pi.ensures) in
    prices g cap cost (at 0 c.cycles.sent) lens c.in_ok-lens.ensures c.requires.cost.small
    c.in-Potential.pi.items shown.0 shown.1

pub returns-then-are_open-clause-ends : goal.returns-then-are_open-clause-ends
returns-then-are_open-clause-ends c =
    let g = graph_of c.args.g.now in
    let cap = at 0 c.args.cap.now in
    let cost = at (pos 0) c.args.cost.now in
    let sent = at 0 c.cycles.sent in
    let lens = c.in_ok-lens.lens.items in
    let round = c.in-Cycle.round.items in
    let are = c.in_ok-lens.ensures in
    let small = c.requires.cost.small in
    let is : IsNegativeRound g (at (pos 0) lens) round =
    subst (λ found. Shows g (at (pos 0) lens) found) c.in-Cycle.is
    (subst (λ xs. Shows g (at (pos 0) xs) c.in_ok-pi.field-0) c.deref.ensures.value
    c.in_ok-pi.ensures) in
    let opens : list_all (λ k. is_open cap (pace_at g k)) round ≡ true =
    subst (λ xs. list_all (λ k. is_open cap (pace_at g k)) xs ≡ true)
    c.deref-in-Cycle.ensures.value (sym c.are_open.ensures ∙ c.if-are_open.true) in
    let both = open_paces g cap round opens in
    let arcs : All (λ k. k < g.arcs) round = λ k d l. (both k d l).0 in
    let saves = round_saves g cap cost sent lens are small round is in
    let same = along_of g cost round arcs in
    free_round g (at (pos 0) lens) round is (no_turn g cap cost sent lens are small) arcs cap cost
    (λ k d l. (both k d l).1) (omega (arith, ints, saves, same))

pub push_round-requires : goal.push_round-requires
push_round-requires c =
    let g = graph_of c.args.g.now in
    let cap = at 0 c.args.cap.now in
    let cost = at (pos 0) c.args.cost.now in
    let sent = at 0 c.cycles.sent in
    let lens = c.in_ok-lens.lens.items in
    let round = c.in-Cycle.round.items in
    let is : IsNegativeRound g (at (pos 0) lens) round =
    subst (λ found. Shows g (at (pos 0) lens) found) c.in-Cycle.is
    (subst (λ xs. Shows g (at (pos 0) xs) c.in_ok-pi.field-0) c.deref.ensures.value
    c.in_ok-pi.ensures) in
    record {
      within = c.cycles.invariant.within;
      roomy = subst (IsRoomy g cap sent true) (sym c.deref-in-Cycle-2.ensures.value)
          (roomy_round g cap cost sent lens c.in_ok-lens.ensures c.requires.cost.small round is);
    }

pub cycles-smaller : goal.cycles-smaller
cycles-smaller c =
    let g = graph_of c.args.g.now in
    let cap = at 0 c.args.cap.now in
    let cost = at (pos 0) c.args.cost.now in
    let old = c.cycles.sent in
    let lens = c.in_ok-lens.lens.items in
    let round = c.in-Cycle.round.items in
    let are = c.in_ok-lens.ensures in
    let small = c.requires.cost.small in
    let is : IsNegativeRound g (at (pos 0) lens) round =
    subst (λ found. Shows g (at (pos 0) lens) found) c.in-Cycle.is
    (subst (λ xs. Shows g (at (pos 0) xs) c.in_ok-pi.field-0) c.deref.ensures.value
    c.in_ok-pi.ensures) in
    let roomy = roomy_round g cap cost (at 0 old) lens are small round is in
    let new = c.push_round.new.sent in
    let pushed : IsPushed g c.args.cap.now true round old new =
    subst (λ xs. IsPushed g c.args.cap.now true xs old new) c.deref-in-Cycle-2.ensures.value
    c.push_round.ensures in
    let saves = round_saves g cap cost (at 0 old) lens are small round is in
    let once = one_times (along_trail cost (paces_at g round)) in
    gap_less g c.args.cap.now true round old new roomy pushed is.node is.closed cost (floor_of g)
    (omega (arith, ints, saves, once))
    (above_floor g c.args.cap.now new cost small pushed.within)

pub cycles-preserved : goal.cycles-preserved
cycles-preserved c =
    let g = graph_of c.args.g.now in
    let cap = at 0 c.args.cap.now in
    let cost = at (pos 0) c.args.cost.now in
    let old = c.cycles.sent in
    let lens = c.in_ok-lens.lens.items in
    let round = c.in-Cycle.round.items in
    let is : IsNegativeRound g (at (pos 0) lens) round =
    subst (λ found. Shows g (at (pos 0) lens) found) c.in-Cycle.is
    (subst (λ xs. Shows g (at (pos 0) xs) c.in_ok-pi.field-0) c.deref.ensures.value
    c.in_ok-pi.ensures) in
    let roomy = roomy_round g cap cost (at 0 old) lens c.in_ok-lens.ensures
    c.requires.cost.small round is in
    let new = c.push_round.new.sent in
    let pushed : IsPushed g c.args.cap.now true round old new =
    subst (λ xs. IsPushed g c.args.cap.now true xs old new) c.deref-in-Cycle-2.ensures.value
    c.push_round.ensures in
    keeps_round g c.args.cap.now true round old new roomy pushed is.node is.closed
    c.args.sent.now c.cycles.invariant
