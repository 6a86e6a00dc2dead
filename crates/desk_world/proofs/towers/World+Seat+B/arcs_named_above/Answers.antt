use Rattle.std.proofs.Common.{◌≡◌, map, ap, subst, None}
use Rattle.std.specs.Prelude.{IfOk, IfErr, OnOk, is_some, unwrap_or, true}
use Rattle.report_text.specs.declared.faults.Fault.TheVariants as faults
use Rattle.list_digraph.specs.Roomy.{Roomy}
use Rattle.plain_views.specs.Shown.{Shown}
use Rattle.plain_world.specs.Refusals.{unless}
use Rattle.view_numbers.specs.Listed.{fact_shown}
use Rattle.view_tower.specs.Layers.{tower_of}
use Rattle.desk_seats.specs.contracts.seat.SeatObserver.TheImpl.{watch-value}
use Rattle.desk_world.specs.Faults.{Is}
use Rattle.desk_world.specs.Naming.{called_arc}
use Rattle.desk_world.specs.NodeWords.{node_called_so}
use Rattle.desk_world.specs.Plain.{plain_of}
use Rattle.desk_world.specs.Shown.{arcs_at}
use Rattle.desk_world.proofs.ShownLive.{all_eight, tower_lives}
use Rattle.desk_world.proofs.towers.World+Seat+B.arcs_named_above.Goals as goal

pub arcs_named-requires-clause-live : goal.arcs_named-requires-clause-live
arcs_named-requires-clause-live g c =
    let graph = c.args.self.now.graph.graph.graph in
    let layers = c.args.layers.now in
    let values = g.V.Values.values c.args.values.now in
    let shows = all_eight values graph c.graph.result.now.graph layers _ c.requires.few
    (ap (λ (r : Roomy). r.graph) c.graph.ensures) c.four-top.ensures.shows in
    tower_lives values graph c.requires.in_step.valid.graph_ok (tower_of layers) _ shows

pub returns-clause-lines : goal.returns-clause-lines
returns-clause-lines g c =
    let w = (watch-value g.row.B g.B.Observer g.B.Observer-dict g.B.Destruct-dict).it in
    let world = plain_of w c.args.self.now in
    let graph = c.args.self.now.graph.graph.graph in
    let layers = c.args.layers.now in
    let values = g.V.Values.values c.args.values.now in
    let shows = all_eight values graph c.graph.result.now.graph layers _ c.requires.few
    (ap (λ (r : Roomy). r.graph) c.graph.ensures) c.four-top.ensures.shows in
    subst (λ (p : Shown). IfOk c.arcs_named.result (λ lines. lines
    ≡ map (called_arc world (tower_of layers)) (map fact_shown (arcs_at c.args.way p
    (unwrap_or (node_called_so world (tower_of layers) p c.args.name.now) 0))))) shows
    c.arcs_named.ensures.lines

pub returns-clause-there : goal.returns-clause-there
returns-clause-there g c =
    let w = (watch-value g.row.B g.B.Observer g.B.Observer-dict g.B.Destruct-dict).it in
    let world = plain_of w c.args.self.now in
    let graph = c.args.self.now.graph.graph.graph in
    let layers = c.args.layers.now in
    let values = g.V.Values.values c.args.values.now in
    let shows = all_eight values graph c.graph.result.now.graph layers _ c.requires.few
    (ap (λ (r : Roomy). r.graph) c.graph.ensures) c.four-top.ensures.shows in
    subst (λ (p : Shown). OnOk c.arcs_named.result
    (is_some (node_called_so world (tower_of layers) p c.args.name.now) ≡ true)) shows
    c.arcs_named.ensures.there

pub returns-clause-unknown : goal.returns-clause-unknown
returns-clause-unknown g c =
    let w = (watch-value g.row.B g.B.Observer g.B.Observer-dict g.B.Destruct-dict).it in
    let world = plain_of w c.args.self.now in
    let graph = c.args.self.now.graph.graph.graph in
    let layers = c.args.layers.now in
    let values = g.V.Values.values c.args.values.now in
    let shows = all_eight values graph c.graph.result.now.graph layers _ c.requires.few
    (ap (λ (r : Roomy). r.graph) c.graph.ensures) c.four-top.ensures.shows in
    subst (λ (p : Shown). IfErr c.arcs_named.result
    (Is (unless (is_some (node_called_so world (tower_of layers) p c.args.name.now))
    (faults.Unknown c.args.name.now)))) shows c.arcs_named.ensures.unknown
