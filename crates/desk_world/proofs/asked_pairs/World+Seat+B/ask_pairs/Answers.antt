use Rattle.std.proofs.Common.{◌≡◌, ap, subst, ◌∙◌, false, None}
use Rattle.plain_certificates.specs.Pairings.{IsBipartite}
use Rattle.plain_certificates.specs.Tables.{at}
use Rattle.static_digraph.specs.Fixed.{graph_of}
use Rattle.desk_seats.specs.contracts.seat.SeatObserver.TheImpl.{watch-value}
use Rattle.plain_world.specs.Demands as demands
use Rattle.plain_world.specs.Demands.{pair_demands}
use Rattle.plain_world.specs.Refusals.{breach}
use Rattle.desk_world.specs.AskedViews.{left_nodes}
use Rattle.desk_world.specs.Faults.{Is, MeetsAll}
use Rattle.desk_world.specs.Plain.{plain_of}
use Rattle.desk_world.proofs.Handed.{handed_on}
use Rattle.desk_world.proofs.PairsTold.{pairs_met, pairs_unmet}
use Rattle.desk_world.proofs.asked_pairs.World+Seat+B.ask_pairs.Goals as goal

pub returns-clause-asks : goal.returns-clause-asks
returns-clause-asks g c =
    let w = (watch-value g.row.B g.B.Observer g.B.Observer-dict g.B.Destruct-dict).it in
    let world = plain_of w c.args.self.now in
    record {
      asks = c.in_ok-asked.ensures.asks;
      view_is = c.in_ok-asked.ensures.view;
      left = c.in_ok-sides.ensures
          ∙ ap (λ v. left_nodes world v c.args.left.now) c.in_ok-asked.ensures.view;
      two_sided = subst (λ xs. IsBipartite (graph_of c.in_ok-asked.asked.fixed) (at false xs))
          c.as_slice.ensures.value c.in_ok-ask_two_sided.ensures.two_sided;
    }

pub returns-clause-meets : goal.returns-clause-meets
returns-clause-meets g c =
    let w = (watch-value g.row.B g.B.Observer g.B.Observer-dict g.B.Destruct-dict).it in
    let world = plain_of w c.args.self.now in
    let left = c.args.left.now in
    pairs_met world c.args.view.now left c.in_ok-ask_view.ensures c.in_ok-ask_map.ensures
    c.in_ok-ask_type.ensures c.in_ok-asked.ensures.meets
    (subst (λ v. breach world (demands.JoinsSides v left) ≡ None) c.in_ok-asked.ensures.view
    (c.in_ok-ask_two_sided.ensures.meets left
    (c.as_slice.ensures.value ∙ c.in_ok-sides.ensures)))

pub returns-in_err-ask_two_sided-clause-meets : goal.returns-in_err-ask_two_sided-clause-meets
returns-in_err-ask_two_sided-clause-meets g c =
    let w = (watch-value g.row.B g.B.Observer g.B.Observer-dict g.B.Destruct-dict).it in
    let world = plain_of w c.args.self.now in
    let view = c.args.view.now in
    let left = c.args.left.now in
    let fault = c.in_err-ask_two_sided.field-0.0 in
    handed_on (MeetsAll world (pair_demands view left None))
    c.from_residual-in_err-ask_two_sided.result fault
    c.from_residual-in_err-ask_two_sided.ensures.1
    (pairs_unmet world view left c.in_ok-ask_view.ensures c.in_ok-ask_map.ensures
    c.in_ok-ask_type.ensures c.in_ok-asked.ensures.meets fault
    (subst (λ v. Is (breach world (demands.JoinsSides v left)) fault) c.in_ok-asked.ensures.view
    (c.in_err-ask_two_sided.ensures.meets left
    (c.as_slice.ensures.value ∙ c.in_ok-sides.ensures))))
