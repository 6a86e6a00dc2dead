use Rattle.std.proofs.Common.{ap, not, is_some, ◌∙◌}
use Rattle.base_items.specs.declared.items.ItemSort.TheVariants as sorts
use Rattle.observe_core.specs.Seen.{Seen}
use Rattle.desk_seats.specs.Forms.{nodes_form, arcs_form}
use Rattle.desk_seats.specs.declared.seat.Seat.TheVariants.{KeptNodes, KeptArcs}
use Rattle.desk_seats.specs.contracts.seat.SeatObserver.TheImpl.{watch-value}
use Rattle.desk_world.proofs.KeptComing.{new_nodes, new_arcs, nodes_untold, arcs_untold}
use Rattle.desk_world.proofs.KeptComing.{opposite, seats_come, taken_back}
use Rattle.desk_world.proofs.kept_seats.attach_seats.Goals as goal

pub returns-in-Ok-clause-came : goal.returns-in-Ok-clause-came
returns-in-Ok-clause-came g c =
    let w = (watch-value g.row.B g.B.Observer g.B.Observer-dict g.B.Destruct-dict).it in
    let m = c.args.maps.now in
    let nodes = w (KeptNodes c.new.result) in
    let arcs = w (KeptArcs c.new-2.result) in
    let nodes_play = (nodes_untold (not (is_some m.node_filter)) nodes.seen
    (ap (λ (s : Seen). record s { form = nodes_form }) c.new.ensures
    ∙ ap new_nodes (opposite _ _ c.is_none.ensures))).plays in
    let arcs_play = (arcs_untold m.shape (not (is_some m.arc_filter)) arcs.seen
    (ap (λ (s : Seen). record s { form = arcs_form }) c.new-2.ensures
    ∙ ap (new_arcs m.shape) (opposite _ _ c.is_none-2.ensures))).plays in
    seats_come w c.args.graph.now c.attach.new.graph c.attach-2.new.graph m c.in_ok-nodes.nodes
    c.in-Ok.arcs nodes arcs c.in_ok-nodes.ensures.attaches c.in-Ok.ensures.attaches nodes_play
    arcs_play

pub returns-in-Err-clause-same : goal.returns-in-Err-clause-same
returns-in-Err-clause-same g c =
    let w = (watch-value g.row.B g.B.Observer g.B.Observer-dict g.B.Destruct-dict).it in
    taken_back w c.args.graph.now c.attach.new.graph c.attach-2.new.graph c.detach.new.self
    c.in_ok-nodes.nodes.0 (w (KeptNodes c.new.result)) c.requires.in_step
    c.in_ok-nodes.ensures.attaches c.in-Err.ensures.same c.detach.ensures.graph
    c.detach.ensures.detached
