use Rattle.std.proofs.Common.{◌∷◌, ◌++◌, [], get_or, map, take, sym, ap, ◌∙◌}
use Rattle.std.proofs.lemmas.List.{map_push, take_all, take_more}
use Rattle.plain_world.specs.Queries.{pair_line, on_left}
use Rattle.desk_seats.specs.contracts.seat.SeatObserver.TheImpl.{watch-value}
use Rattle.desk_world.specs.Plain.{plain_of}
use Rattle.desk_world.proofs.flow_lines.World+Seat+B.pair_lines.Goals as goal

pub loop-number-preserved : goal.loop-number-preserved
loop-number-preserved g c side is =
    let w = (watch-value g.row.B g.B.Observer g.B.Observer-dict g.B.Destruct-dict).it in
    let world = plain_of w c.args.self.now in
    let view = c.args.asked.now.view.now in
    let F = pair_line world view (on_left world view side) in
    let arcs = c.as_slice-arcs.result.now in
    let k = c.loop-number.number-index in
    c.in_ok-push.ensures.items
    ∙ (λ i. c.loop-number.invariant side is i ++ c.in_ok-line.ensures side is i ∷ [])
    ∙ sym (map_push F (take k arcs) (get_or arcs k 0))
    ∙ ap (map F) (sym (take_more arcs k 0 c.loop-number-test.true))

pub returns : goal.returns
returns g c side is =
    let w = (watch-value g.row.B g.B.Observer g.B.Observer-dict g.B.Destruct-dict).it in
    let world = plain_of w c.args.self.now in
    let view = c.args.asked.now.view.now in
    c.from_vec.ensures ∙ c.loop-number.invariant side is
    ∙ ap (map (pair_line world view (on_left world view side)))
    (take_all c.loop-number.number-index c.as_slice-arcs.result.now c.loop-number-test.false
    ∙ c.as_slice-arcs.ensures)
