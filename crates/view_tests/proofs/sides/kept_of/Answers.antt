use Rattle.std.proofs.Common.{◌≡◌, ◌∙◌, Some, sym, ap}
use Rattle.std.specs.Option.{option_copied}
use Rattle.notify_chain.specs.Seats.{seat_seen}
use Rattle.kept_views.specs.Views.{nodes_of, arcs_of}
use Rattle.view_tests.specs.declared.sides.Side.{Side}
use Rattle.view_tests.specs.Sides.{watched}
use Rattle.view_tests.proofs.Placed.{are_of}
use Rattle.view_tests.proofs.sides.kept_of.Goals as goal

pub new-requires : goal.new-requires
new-requires c =
    let n = c.in-Some-Nodes.nodes in
    let k = c.in-Some-Arcs.arcs in
    let on_nodes = c.args.nodes.0 in
    let on_arcs = c.args.arcs.0 in
    c.ends_are_held.ensures c.args.all.now.graph.graph (nodes_of n) (arcs_of k) c.requires.valid
    (are_of c.args.all.now on_nodes on_arcs n k c.requires
    (sym (ap (λ (s : Side). seat_seen watched on_nodes (Some s)) c.in-Some-Nodes.field-0-is)
    ∙ sym (ap (λ r. seat_seen watched on_nodes (option_copied r)) c.in-Some-Nodes.is)
    ∙ c.seat.ensures)
    (sym (ap (λ (s : Side). seat_seen watched on_arcs (Some s)) c.in-Some-Arcs.field-0-is)
    ∙ sym (ap (λ r. seat_seen watched on_arcs (option_copied r)) c.in-Some-Arcs.is)
    ∙ c.seat-2.ensures))
