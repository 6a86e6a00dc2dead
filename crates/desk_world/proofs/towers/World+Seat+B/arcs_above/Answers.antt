use Rattle.std.proofs.Common.{◌≡◌, map, ap, subst, None}
use Rattle.std.specs.Prelude.{IfOk, IfErr, OnOk}
use Rattle.list_digraph.specs.Roomy.{Roomy}
use Rattle.plain_views.specs.Shown.{Shown}
use Rattle.view_numbers.specs.Listed.{facts_of}
use Rattle.view_tower.specs.Layers.{tower_of}
use Rattle.desk_seats.specs.contracts.seat.SeatObserver.TheImpl.{watch-value}
use Rattle.desk_world.specs.Faults.{Is}
use Rattle.desk_world.specs.Naming.{called_arc}
use Rattle.desk_world.specs.Plain.{plain_of}
use Rattle.desk_world.specs.Shown.{fault_of_size}
use Rattle.desk_world.proofs.ShownLive.{all_eight, tower_lives}
use Rattle.desk_world.proofs.towers.World+Seat+B.arcs_above.Goals as goal

pub arcs_shown-requires-clause-live : goal.arcs_shown-requires-clause-live
arcs_shown-requires-clause-live g c =
    let graph = c.args.self.now.graph.graph.graph in
    let layers = c.args.layers.now in
    let values = g.V.Values.values c.args.values.now in
    let shows = all_eight values graph c.graph.result.now.graph layers _ c.requires.few
    (ap (λ (r : Roomy). r.graph) c.graph.ensures) c.four-top.ensures.shows in
    tower_lives values graph c.requires.in_step.valid.graph_ok (tower_of layers) _ shows

pub returns-clause-lines : goal.returns-clause-lines
returns-clause-lines g c =
    let w = (watch-value g.row.B g.B.Observer g.B.Observer-dict g.B.Destruct-dict).it in
    let world = plain_of w c.args.self.now in
    let graph = c.args.self.now.graph.graph.graph in
    let layers = c.args.layers.now in
    let values = g.V.Values.values c.args.values.now in
    let shows = all_eight values graph c.graph.result.now.graph layers _ c.requires.few
    (ap (λ (r : Roomy). r.graph) c.graph.ensures) c.four-top.ensures.shows in
    subst (λ (p : Shown). IfOk c.arcs_shown.result (λ lines. lines
    ≡ map (called_arc world (tower_of layers)) (facts_of p))) shows c.arcs_shown.ensures.lines

pub returns-clause-small : goal.returns-clause-small
returns-clause-small g c =
    let graph = c.args.self.now.graph.graph.graph in
    let layers = c.args.layers.now in
    let values = g.V.Values.values c.args.values.now in
    let shows = all_eight values graph c.graph.result.now.graph layers _ c.requires.few
    (ap (λ (r : Roomy). r.graph) c.graph.ensures) c.four-top.ensures.shows in
    subst (λ (p : Shown). OnOk c.arcs_shown.result (fault_of_size p ≡ None)) shows
    c.arcs_shown.ensures.small

pub returns-clause-full : goal.returns-clause-full
returns-clause-full g c =
    let graph = c.args.self.now.graph.graph.graph in
    let layers = c.args.layers.now in
    let values = g.V.Values.values c.args.values.now in
    let shows = all_eight values graph c.graph.result.now.graph layers _ c.requires.few
    (ap (λ (r : Roomy). r.graph) c.graph.ensures) c.four-top.ensures.shows in
    subst (λ (p : Shown). IfErr c.arcs_shown.result (Is (fault_of_size p))) shows
    c.arcs_shown.ensures.full
