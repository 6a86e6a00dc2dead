use Rattle.std.proofs.Common.{◌≡◌, ℕ, ◌<◌, List, length, map, sym, ap, subst, ◌∙◌}
use Rattle.std.specs.Prelude.{IfOk}
use Rattle.plain_certificates.specs.Numbered.{Numbered}
use Rattle.plain_certificates.specs.Tables.{at}
use Rattle.plain_digraph.specs.Lists.{AllOf}
use Rattle.static_digraph.specs.Fixed.{graph_of}
use Rattle.tower_numbers.specs.Told.{fact_at}
use Rattle.view_tower.specs.Layers.{tower_of}
use Rattle.desk_seats.specs.contracts.seat.SeatObserver.TheImpl.{watch-value}
use Rattle.desk_world.specs.Naming.{called_arc, ComesFromLive}
use Rattle.desk_world.specs.Plain.{plain_of}
use Rattle.desk_world.proofs.AskedCycles.{turned_inside, turned_live, cycle_told}
use Rattle.desk_world.proofs.asked_views.World+Seat+B.lines_of_cycle.Goals as goal

pub facts_of-requires : goal.facts_of-requires
facts_of-requires g c =
    let w = (watch-value g.row.B g.B.Observer g.B.Observer-dict g.B.Destruct-dict).it in
    let world = plain_of w c.args.self.now in
    let asked = c.args.asked.now in
    subst (λ (xs : List ℕ). (k : ℕ) → k < length xs → at 0 xs k < (graph_of asked.fixed).arcs)
    (sym c.as_slice.ensures)
    (subst (λ (n : Numbered). (k : ℕ) → k < length c.in_ok-turned.turned
    → at 0 c.in_ok-turned.turned k < n.arcs) (sym c.requires.asks.numbers.graph)
    (turned_inside world c.requires.in_step.valid asked c.requires.asks c.args.cycle.now
    c.in_ok-turned.turned c.requires.cycle c.in_ok-turned.ensures))

pub arc_lines-requires-clause-live : goal.arc_lines-requires-clause-live
arc_lines-requires-clause-live g c =
    let w = (watch-value g.row.B g.B.Observer g.B.Observer-dict g.B.Destruct-dict).it in
    let world = plain_of w c.args.self.now in
    let asked = c.args.asked.now in
    subst (AllOf (ComesFromLive world.graph (tower_of c.as_slice-2.result.now)))
    (sym (c.as_slice-3.ensures.value ∙ c.in_ok-arcs.ensures
    ∙ ap (map (fact_at asked.fixed)) c.as_slice.ensures))
    (subst (λ ls. AllOf (ComesFromLive world.graph (tower_of ls))
    (map (fact_at asked.fixed) c.in_ok-turned.turned)) (sym c.as_slice-2.ensures.value)
    (turned_live world c.requires.in_step.valid asked c.requires.asks c.args.cycle.now
    c.in_ok-turned.turned c.requires.cycle c.in_ok-turned.ensures))

pub returns : goal.returns
returns g c =
    let w = (watch-value g.row.B g.B.Observer g.B.Observer-dict g.B.Destruct-dict).it in
    let world = plain_of w c.args.self.now in
    let asked = c.args.asked.now in
    subst (λ told. IfOk c.arc_lines.result (λ lines. lines ≡ told))
    ((λ i. map (called_arc world (tower_of (c.as_slice-2.ensures.value i)))
    (c.as_slice-3.ensures.value i))
    ∙ ap (map (called_arc world (tower_of asked.layers.items)))
    (c.in_ok-arcs.ensures ∙ ap (map (fact_at asked.fixed)) c.as_slice.ensures)
    ∙ cycle_told world c.requires.in_step.valid asked c.requires.asks c.args.cycle.now
    c.in_ok-turned.turned c.requires.cycle c.in_ok-turned.ensures)
    c.arc_lines.ensures
