use Rattle.std.proofs.Common.{◌≡◌, ap, sym, subst, ◌∙◌, length, false}
use Rattle.plain_certificates.specs.Pairings.{IsBipartite}
use Rattle.plain_certificates.specs.Tables.{at}
use Rattle.pair_match.specs.Answers.{IsAnswer}
use Rattle.static_digraph.specs.Fixed.{graph_of}
use Rattle.desk_seats.specs.contracts.seat.SeatObserver.TheImpl.{watch-value}
use Rattle.desk_world.specs.Plain.{plain_of}
use Rattle.desk_world.proofs.PairsTold.{own_sides, own_all, sides_all, own_below, own_hall}
use Rattle.desk_world.proofs.PairsTold.{pair_answered}
use Rattle.desk_world.proofs.asked_pairs.World+Seat+B.pair.Goals as goal

pub largest-requires : goal.largest-requires
largest-requires g c =
    let w = (watch-value g.row.B g.B.Observer g.B.Observer-dict g.B.Destruct-dict).it in
    let world = plain_of w c.args.self.now in
    let view = c.args.view.now in
    let left = c.args.left.now in
    let read = c.in_ok-read.read in
    let asks = c.in_ok-read.ensures.asks in
    let sides = c.as_slice-sides.ensures.value in
    record {
      sizes = ap length sides ∙ own_all world view left read asks;
      sides = subst (λ xs. IsBipartite (graph_of read.asked.fixed) (at false xs)) (sym sides)
          asks.two_sided;
    }

pub pair_lines-requires : goal.pair_lines-requires
pair_lines-requires g c =
    let w = (watch-value g.row.B g.B.Observer g.B.Observer-dict g.B.Destruct-dict).it in
    let world = plain_of w c.args.self.now in
    let view = c.args.view.now in
    let left = c.args.left.now in
    let read = c.in_ok-read.read in
    let asks = c.in_ok-read.ensures.asks in
    let pairing = c.in_ok-pairing.pairing in
    let sides = c.as_slice-sides.ensures.value in
    record {
      in_step = c.requires;
      asks = asks.asks;
      all = ap length sides ∙ sides_all world view left read asks;
      below = own_below world view left read asks pairing.arcs pairing.hall
          (subst (λ xs. IsAnswer (graph_of read.asked.fixed) (at false xs) pairing.arcs
          pairing.hall) sides c.in_ok-pairing.ensures);
    }

pub names_in-requires : goal.names_in-requires
names_in-requires g c =
    let w = (watch-value g.row.B g.B.Observer g.B.Observer-dict g.B.Destruct-dict).it in
    let world = plain_of w c.args.self.now in
    let read = c.in_ok-read.read in
    let asks = c.in_ok-read.ensures.asks in
    let pairing = c.in_ok-pairing.pairing in
    let sides = c.as_slice-sides.ensures.value in
    record {
      in_step = c.requires;
      asks = asks.asks;
      all = own_hall world c.args.view.now c.args.left.now read asks pairing.arcs pairing.hall
          (subst (λ xs. IsAnswer (graph_of read.asked.fixed) (at false xs) pairing.arcs
          pairing.hall) sides c.in_ok-pairing.ensures);
    }

pub returns : goal.returns
returns g c =
    let w = (watch-value g.row.B g.B.Observer g.B.Observer-dict g.B.Destruct-dict).it in
    let world = plain_of w c.args.self.now in
    let view = c.args.view.now in
    let left = c.args.left.now in
    let read = c.in_ok-read.read in
    let asks = c.in_ok-read.ensures.asks in
    let pairing = c.in_ok-pairing.pairing in
    let sides = c.as_slice-sides.ensures.value in
    pair_answered world view left read asks pairing.arcs pairing.hall
    (subst (λ xs. IsAnswer (graph_of read.asked.fixed) (at false xs) pairing.arcs pairing.hall)
    sides c.in_ok-pairing.ensures)
    c.in_ok-read.ensures.meets c.in_ok-lines.lines c.in_ok-hall.hall
    (c.in_ok-lines.ensures left (sides ∙ own_sides world view left read asks))
    c.in_ok-hall.ensures
