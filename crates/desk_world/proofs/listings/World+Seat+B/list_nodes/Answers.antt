use Rattle.std.proofs.Common.{ap, ◌∙◌}
use Rattle.base_items.specs.declared.items.ItemSort.TheVariants.{Node}
use Rattle.plain_digraph.specs.Items.{ids}
use Rattle.list_digraph.specs.Roomy.{Roomy}
use Rattle.desk_seats.specs.contracts.seat.SeatObserver.TheImpl.{watch-value}
use Rattle.desk_world.specs.Plain.{plain_of}
use Rattle.desk_world.proofs.Ordered.{live_at}
use Rattle.desk_world.proofs.listings.World+Seat+B.list_nodes.Goals as goal

pub label_in-label-requires-clause-live : goal.label_in-label-requires-clause-live
label_in-label-requires-clause-live g c =
    let w = (watch-value g.row.B g.B.Observer g.B.Observer-dict g.B.Destruct-dict).it in
    live_at (plain_of w c.args.self.now) Node c.requires.seats.graph.valid
    c.as_slice-id-items.result.now (c.as_slice-id-items.ensures.value ∙ c.in_ok-nodes.ensures
    ∙ ap (λ (r : Roomy). ids r.graph.nodes) c.graph.ensures)
    c.loop-id.id-index c.loop-id-test.true
