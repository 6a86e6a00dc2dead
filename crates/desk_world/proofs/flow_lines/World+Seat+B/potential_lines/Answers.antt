use Rattle.std.proofs.Common.{◌≡◌, ◌∷◌, ◌++◌, [], map, get_or, pos, sym, ap, ◌∙◌, arith}
use Rattle.std.proofs.Common.{FitsSigned, w64, rules}
use Rattle.std.specs.List.{range_with_len}
use Rattle.std.proofs.lemmas.Int.{to_z-of_z}
use Rattle.std.proofs.lemmas.List.FromFn.{map-range_with_len_more}
use Rattle.plain_certificates.specs.Numbered.{Numbered}
use Rattle.plain_world.specs.Queries.{graph}
use Rattle.desk_seats.specs.contracts.seat.SeatObserver.TheImpl.{watch-value}
use Rattle.desk_world.specs.Plain.{plain_of}
use Rattle.desk_world.proofs.FlowLines.{line_of_price}
use Rattle.desk_world.proofs.flow_lines.World+Seat+B.potential_lines.Goals as goal

pub loop-number-preserved : goal.loop-number-preserved
loop-number-preserved g c =
    let w = (watch-value g.row.B g.B.Observer g.B.Observer-dict g.B.Destruct-dict).it in
    let world = plain_of w c.args.self.now in
    let view = c.args.asked.now.view.now in
    let prices = c.as_slice-prices.result.now in
    let n = c.loop-number.number in
    let price = get_or prices n (pos 0) in
    let fits : FitsSigned w64 price = search rules in
    c.in_ok-push.ensures.items
    ∙ (λ i. c.loop-number.invariant i
    ++ record { node = c.in_ok-node.ensures i; pi = to_z-of_z w64 price fits i } ∷ [])
    ∙ sym (map-range_with_len_more (line_of_price world view prices) 0 n n (omega arith))

pub returns : goal.returns
returns g c =
    let w = (watch-value g.row.B g.B.Observer g.B.Observer-dict g.B.Destruct-dict).it in
    let world = plain_of w c.args.self.now in
    let view = c.args.asked.now.view.now in
    let same = ap (λ (h : Numbered). h.nodes) c.requires.asks.numbers.graph in
    let count = c.node_count-count.ensures.count in
    let test = c.loop-number-test.false in
    let most = c.loop-number.auto in
    let size : c.loop-number.number ≡ (graph world view).nodes =
    omega (arith, same, count, test, most) in
    c.from_vec.ensures ∙ c.loop-number.invariant
    ∙ (λ i. map (line_of_price world view (c.as_slice-prices.ensures i))
    (range_with_len 0 (size i)))
