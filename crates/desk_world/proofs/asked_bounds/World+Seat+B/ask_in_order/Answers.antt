use Rattle.std.proofs.Common.{◌<◌, ◌∙◌, None, Some, ap, subst, sym, arith}
use Rattle.std.specs.Option.{option_copied}
use Rattle.plain_certificates.specs.Numbered.{Numbered}
use Rattle.flow_replies.specs.Absent.{AreAll}
use Rattle.desk_seats.specs.contracts.seat.SeatObserver.TheImpl.{watch-value}
use Rattle.desk_world.specs.Plain.{plain_of}
use Rattle.desk_world.proofs.BoundsAsked.{ordered, crossed, crosses_by}
use Rattle.desk_world.proofs.asked_bounds.World+Seat+B.ask_in_order.Goals as goal

pub first_out_of_order-requires : goal.first_out_of_order-requires
first_out_of_order-requires g c =
    let same = c.arc_count-count.ensures.count
    ∙ ap (λ (n : Numbered). n.arcs) c.requires.asks.numbers.graph in
    record {
      lower = subst (λ n. AreAll n (option_copied c.args.lower)) (sym same) c.requires.lower;
      upper = subst (λ n. AreAll n (option_copied c.args.upper)) (sym same) c.requires.upper;
    }

pub overflow_cast-arc : goal.overflow_cast-arc
overflow_cast-arc g c =
    let few = c.arc_count-count.ensures.few in
    let within = c.in-Some.ensures.0 in
    omega (arith, few, within)

pub name_of_arc-requires : goal.name_of_arc-requires
name_of_arc-requires g c = record {
  in_step = c.requires.in_step;
  asks = c.requires.asks;
  arc = subst (λ n. c.in-Some.arc < n) (c.arc_count-count.ensures.count
      ∙ ap (λ (n : Numbered). n.arcs) c.requires.asks.numbers.graph) c.in-Some.ensures.0;
}

pub returns-in_ok-name-in-Some : goal.returns-in_ok-name-in-Some
returns-in_ok-name-in-Some g c low up lower_is upper_is =
    let w = (watch-value g.row.B g.B.Observer g.B.Observer-dict g.B.Destruct-dict).it in
    let world = plain_of w c.args.self.now in
    let view = c.args.asked.now.view.now in
    crossed world view low up c.in-Some.arc c.in_ok-name-in-Some.name
    (crosses_by world view low up c.arc_count-count.result (c.arc_count-count.ensures.count
    ∙ ap (λ (n : Numbered). n.arcs) c.requires.asks.numbers.graph) (option_copied c.args.lower)
    (option_copied c.args.upper) lower_is upper_is (Some c.in-Some.arc) c.in-Some.ensures)
    c.in_ok-name-in-Some.ensures

pub returns-in-None : goal.returns-in-None
returns-in-None g c low up lower_is upper_is =
    let w = (watch-value g.row.B g.B.Observer g.B.Observer-dict g.B.Destruct-dict).it in
    let world = plain_of w c.args.self.now in
    let view = c.args.asked.now.view.now in
    ordered world view low up
    (crosses_by world view low up c.arc_count-count.result (c.arc_count-count.ensures.count
    ∙ ap (λ (n : Numbered). n.arcs) c.requires.asks.numbers.graph) (option_copied c.args.lower)
    (option_copied c.args.upper) lower_is upper_is None c.in-None.ensures)
