use Rattle.std.proofs.Common.{ap, ◌∙◌}
use Rattle.plain_digraph.specs.Rising.{without_item}
use Rattle.notify_chain.specs.Seats.{seat_key, seats}
use Rattle.alter_graph.proofs.Snapping.{without_last}
use Rattle.alter_graph.proofs.chains.Chains.snapshot.Goals as goal

pub returns-in-Err-attach-clause-same : goal.returns-in-Err-attach-clause-same
returns-in-Err-attach-clause-same g c =
    let w = g.O.Observer.watch in
    let seated = c.in-Ok.ensures.ok in
    let nodes = c.detach.ensures.others ∙ ap (without_item seat_key c.in-Ok.key.0) seated.last
    ∙ without_last c.in-Ok.key.0 (seats w c.self.inside.nodes) seated.seat seated.is_new
    seated.name in
    let nodes_left = c.detach.ensures.left ∙ c.in-Ok.ensures.left in
    let arcs = c.in-Err-attach.ensures.err in
    let arcs_left = c.in-Err-attach.ensures.left in
    let names = c.reserve.ensures.items in
    rw (← c.self.view_is) (λ i. record {
      nodes = record { seats = nodes i; left = nodes_left i };
      arcs = record { seats = arcs i; left = arcs_left i };
      snaps = names i;
    })
