use Rattle.std.proofs.Common.{◌≡◌, Some, sym, ap, ◌∙◌}
use Rattle.base_items.specs.declared.items.ItemSort.TheVariants.{Node, Arc}
use Rattle.plain_digraph.specs.Items.{fact_of}
use Rattle.list_digraph.specs.Roomy.{Roomy}
use Rattle.plain_world.specs.World.{label_of}
use Rattle.desk_seats.specs.contracts.seat.SeatObserver.TheImpl.{watch-value}
use Rattle.desk_world.specs.Plain.{plain_of}
use Rattle.desk_world.proofs.ArcEnds.{told_there, ends_live, source_told, target_told}
use Rattle.desk_world.proofs.listings.World+Seat+B.see_arc.Goals as goal

pub unreachable-requires : goal.unreachable-requires
unreachable-requires g c =
    let graph = c.args.self.now.graph.graph.graph in
    let asked = c.fact.ensures
    ∙ ap (λ (r : Roomy). fact_of r.graph Arc c.args.id) c.graph.ensures in
    told_there graph c.args.id c.requires.in_step.seats.graph.valid c.requires.live
    (sym asked ∙ c.in_default.is)

pub label_in-from-requires-clause-live : goal.label_in-from-requires-clause-live
label_in-from-requires-clause-live g c =
    let graph = c.args.self.now.graph.graph.graph in
    let told : fact_of graph Arc c.args.id ≡ Some c.in-Some.fact =
    sym (c.fact.ensures ∙ ap (λ (r : Roomy). fact_of r.graph Arc c.args.id) c.graph.ensures)
    ∙ c.in-Some.is in
    (ends_live graph c.args.id c.in-Some.fact told c.requires.in_step.seats.graph.valid).0

pub label_in-to-requires-clause-live : goal.label_in-to-requires-clause-live
label_in-to-requires-clause-live g c =
    let graph = c.args.self.now.graph.graph.graph in
    let told : fact_of graph Arc c.args.id ≡ Some c.in-Some.fact =
    sym (c.fact.ensures ∙ ap (λ (r : Roomy). fact_of r.graph Arc c.args.id) c.graph.ensures)
    ∙ c.in-Some.is in
    (ends_live graph c.args.id c.in-Some.fact told c.requires.in_step.seats.graph.valid).1

pub returns : goal.returns
returns g c =
    let w = (watch-value g.row.B g.B.Observer g.B.Observer-dict g.B.Destruct-dict).it in
    let world = plain_of w c.args.self.now in
    let graph = c.args.self.now.graph.graph.graph in
    let id = c.args.id in
    let told : fact_of graph Arc id ≡ Some c.in-Some.fact =
    sym (c.fact.ensures ∙ ap (λ (r : Roomy). fact_of r.graph Arc id) c.graph.ensures)
    ∙ c.in-Some.is in
    let name = c.label_in-name.ensures in
    let from = c.label_in-from.ensures
    ∙ ap (label_of world Node) (source_told graph id c.in-Some.fact told) in
    let to = c.label_in-to.ensures
    ∙ ap (label_of world Node) (target_told graph id c.in-Some.fact told) in
    (λ i. record { id = id; name = name i; from = from i; to = to i })
