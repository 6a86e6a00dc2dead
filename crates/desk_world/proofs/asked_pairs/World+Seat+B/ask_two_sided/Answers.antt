use Rattle.std.proofs.Common.{◌≡◌, ◌<◌, false, length, ap, sym, ◌∙◌, subst}
use Rattle.plain_certificates.specs.Numbered.{Numbered}
use Rattle.plain_certificates.specs.Tables.{at}
use Rattle.desk_seats.specs.contracts.seat.SeatObserver.TheImpl.{watch-value}
use Rattle.flow_replies.proofs.SamePairs.{two_sided}
use Rattle.static_digraph.specs.Fixed.{graph_of}
use Rattle.desk_world.specs.Plain.{plain_of}
use Rattle.desk_world.proofs.PairsTold.{sides_joined, side_broken, view_is_shown}
use Rattle.desk_world.proofs.asked_pairs.World+Seat+B.ask_two_sided.Goals as goal

pub first_one_sided-requires : goal.first_one_sided-requires
first_one_sided-requires g c =
    c.requires.all ∙ ap (λ (h : Numbered). h.nodes) (sym c.requires.asks.numbers.graph)

pub name_of_arc-requires : goal.name_of_arc-requires
name_of_arc-requires g c = record {
  in_step = c.requires.in_step;
  asks = c.requires.asks;
  arc = subst (λ (h : Numbered). c.in-Some.arc < h.arcs) c.requires.asks.numbers.graph
      c.in-Some.ensures.0;
}

pub returns-in_ok-name-in-Some-clause-meets : goal.returns-in_ok-name-in-Some-clause-meets
returns-in_ok-name-in-Some-clause-meets g c side is =
    let w = (watch-value g.row.B g.B.Observer g.B.Observer-dict g.B.Destruct-dict).it in
    let world = plain_of w c.args.self.now in
    let view = c.args.asked.now.view.now in
    side_broken world view side c.args.left.now is c.args.asked.now.fixed
    c.requires.asks.numbers.graph (view_is_shown world view c.requires.in_step.valid)
    c.in-Some.arc c.in_ok-name-in-Some.name c.in-Some.ensures c.in_ok-name-in-Some.ensures

pub returns-in-None : goal.returns-in-None
returns-in-None g c =
    let w = (watch-value g.row.B g.B.Observer g.B.Observer-dict g.B.Destruct-dict).it in
    let world = plain_of w c.args.self.now in
    let view = c.args.asked.now.view.now in
    record {
      meets = λ side is. sides_joined world view side c.args.left.now is c.args.asked.now.fixed
          c.requires.asks.numbers.graph (view_is_shown world view c.requires.in_step.valid)
          c.in-None.ensures;
      two_sided = two_sided (graph_of c.args.asked.now.fixed) c.args.left.now c.in-None.ensures;
    }
