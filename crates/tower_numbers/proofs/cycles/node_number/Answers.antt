use Rattle.std.proofs.Common.{◌≡◌, ◌<◌, true, sym, ◌∙◌, Some, None, length, arith}
use Rattle.std.specs.Prelude.{◌==◌}
use Rattle.std.proofs.lemmas.Bool.{eq-eqb}
use Rattle.plain_certificates.specs.Tables.{at}
use Rattle.view_numbers.specs.Breaches.{NoneBefore}
use Rattle.tower_numbers.proofs.Firsts.{place_found}
use Rattle.tower_numbers.proofs.cycles.node_number.Goals as goal

pub returns-then-node_item-node : goal.returns-then-node_item-node
returns-then-node_item-node c =
    let nodes = c.args.g.now.nodes in
    let k = c.loop-number.number in
    let count = c.node_count-count.ensures.count in
    let within : k < length nodes = omega (arith, count, c.loop-number-test.true) in
    let here : (at 0 nodes k == c.args.node) ≡ true =
    eq-eqb (at 0 nodes k) c.args.node (sym c.node_item.ensures ∙ c.if-node_item-node.true) in
    sym (place_found 0 (λ other. other == c.args.node) nodes (Some k)
    (within, here, c.loop-number.invariant.none))

pub returns : goal.returns
returns c =
    let nodes = c.args.g.now.nodes in
    let count = c.node_count-count.ensures.count in
    let none : NoneBefore (length nodes) (λ k. at 0 nodes k == c.args.node) =
    (λ k below. c.loop-number.invariant.none k
    (omega (arith, count, c.loop-number-test.false, below))) in
    count ∙ sym (place_found 0 (λ other. other == c.args.node) nodes None none)
