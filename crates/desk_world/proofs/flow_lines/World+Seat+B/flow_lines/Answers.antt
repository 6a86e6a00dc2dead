use Rattle.std.proofs.Common.{◌≡◌, filter, length, map, ap, ◌∙◌}
use Rattle.std.specs.List.{range_with_len}
use Rattle.std.proofs.lemmas.List.{take_all}
use Rattle.plain_world.specs.Queries.{graph}
use Rattle.flow_replies.specs.Numbers.{carries}
use Rattle.desk_seats.specs.contracts.seat.SeatObserver.TheImpl.{watch-value}
use Rattle.desk_world.specs.Plain.{plain_of}
use Rattle.desk_world.proofs.FlowLines.{line_of_flow}
use Rattle.desk_world.proofs.flow_lines.World+Seat+B.flow_lines.Goals as goal

pub returns : goal.returns
returns g c =
    let w = (watch-value g.row.B g.B.Observer g.B.Observer-dict g.B.Destruct-dict).it in
    let world = plain_of w c.args.self.now in
    let view = c.args.asked.now.view.now in
    let flows = c.as_slice-flows.ensures in
    let size : length c.as_slice-flows.result.now ≡ (graph world view).arcs =
    ap length flows ∙ c.requires.all in
    c.from_vec.ensures ∙ c.loop-number.invariant
    ∙ ap (map (line_of_flow world view c.as_slice-flows.result.now))
    (take_all c.loop-number.number-index c.as_slice-arcs.result.now c.loop-number-test.false
    ∙ c.as_slice-arcs.ensures.value ∙ c.in_ok-numbers.ensures.numbers)
    ∙ (λ i. map (line_of_flow world view (flows i))
    (filter (carries (flows i)) (range_with_len 0 (size i))))
