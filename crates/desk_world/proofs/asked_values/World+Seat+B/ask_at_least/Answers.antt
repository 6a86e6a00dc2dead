use Rattle.std.proofs.Common.{ℤ, pos, None, Some, length, ap, subst, arith, w64}
use Rattle.std.proofs.lemmas.Int.{to_z_pos}
use Rattle.plain_certificates.specs.Numbered.{Numbered}
use Rattle.view_numbers.specs.Breaches.{IsFirst, is_under}
use Rattle.tower_numbers.proofs.Ranges.{none_under}
use Rattle.desk_seats.specs.contracts.seat.SeatObserver.TheImpl.{watch-value}
use Rattle.desk_world.specs.Plain.{plain_of}
use Rattle.desk_world.proofs.AskedInts.{arcs_at_least, arc_below}
use Rattle.desk_world.proofs.asked_values.World+Seat+B.ask_at_least.Goals as goal

pub overflow_cast-arc : goal.overflow_cast-arc
overflow_cast-arc g c =
    let all = c.requires.all in
    let same = ap (λ (n : Numbered). n.arcs) c.requires.asks.numbers.graph in
    let count = c.arc_count.ensures.count in
    let few = c.arc_count.ensures.few in
    let within = c.in-Some.ensures.0 in
    omega (arith, all, same, count, few, within)

pub returns-in_ok-name-in-Some-clause-meets : goal.returns-in_ok-name-in-Some-clause-meets
returns-in_ok-name-in-Some-clause-meets g c map are =
    let w = (watch-value g.row.B g.B.Observer g.B.Observer-dict g.B.Destruct-dict).it in
    arc_below (plain_of w c.args.self.now) c.args.asked.now.view.now map c.args.values.now are
    c.args.least c.in-Some.arc c.in_ok-name-in-Some.name
    (subst (λ (x : ℤ). IsFirst (length c.args.values.now) (is_under c.args.values.now x)
    (Some c.in-Some.arc)) (to_z_pos w64 c.args.least (omega (arith, c.ranges.least.fits)))
    c.in-Some.ensures)
    c.in_ok-name-in-Some.ensures

pub returns-in-None-clause-meets : goal.returns-in-None-clause-meets
returns-in-None-clause-meets g c map are =
    let w = (watch-value g.row.B g.B.Observer g.B.Observer-dict g.B.Destruct-dict).it in
    arcs_at_least (plain_of w c.args.self.now) c.args.asked.now.view.now map c.args.values.now are
    c.args.least
    (subst (λ (x : ℤ). IsFirst (length c.args.values.now) (is_under c.args.values.now x) None)
    (to_z_pos w64 c.args.least (omega (arith, c.ranges.least.fits))) c.in-None.ensures)

pub returns-in-None-clause-least : goal.returns-in-None-clause-least
returns-in-None-clause-least g c =
    none_under c.args.values.now (pos c.args.least)
    (subst (λ (x : ℤ). IsFirst (length c.args.values.now) (is_under c.args.values.now x) None)
    (to_z_pos w64 c.args.least (omega (arith, c.ranges.least.fits))) c.in-None.ensures)
