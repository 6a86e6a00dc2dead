use Rattle.std.proofs.Common.{◌≡◌, map, Vec, Global, Some, None, sym, ap, ◌∙◌, arith}
use Rattle.base_items.specs.declared.items.ItemSort.TheVariants.{Arc}
use Rattle.lgf_file.specs.declared.documents.Link.{Link}
use Rattle.plain_digraph.specs.Items.{fact_of}
use Rattle.list_digraph.specs.Roomy.{Roomy}
use Rattle.alter_graph.proofs.Listing.{told_live}
use Rattle.plain_world.specs.Documents.{link_of}
use Rattle.desk_seats.specs.contracts.seat.SeatObserver.TheImpl.{watch-value}
use Rattle.desk_world.specs.Plain.{plain_of}
use Rattle.desk_world.specs.RowPlaces.{rising_below}
use Rattle.desk_world.proofs.DocLinks.{from_listed, to_listed, link_told}
use Rattle.desk_world.proofs.RowPlaces.{read_more, read_same}
use Rattle.desk_world.proofs.documents.World+Seat+B.arc_rows.Goals as goal
use Rattle.desk_world.proofs.documents.World+Seat+B.arc_rows.Goals.{
  in-Some+in_ok-values+in_ok-push,
  in_default,
}

pub copy_cells-requires-clause-live : goal.copy_cells-requires-clause-live
copy_cells-requires-clause-live g c =
    let graph = c.args.self.now.graph.graph.graph in
    let told : fact_of graph Arc c.loop-id.id ≡ Some c.in-Some.fact =
    sym (c.fact.ensures
    ∙ ap (λ (r : Roomy). fact_of r.graph Arc c.loop-id.id) c.graph-graph.ensures)
    ∙ c.in-Some.is in
    told_live graph Arc c.requires.in_step.seats.graph.valid c.loop-id.id c.in-Some.fact told

pub bounds-places-fact : goal.bounds-places-fact
bounds-places-fact g c =
    let w = (watch-value g.row.B g.B.Observer g.B.Observer-dict g.B.Destruct-dict).it in
    let graph = c.args.self.now.graph.graph.graph in
    let told : fact_of graph Arc c.loop-id.id ≡ Some c.in-Some.fact =
    sym (c.fact.ensures
    ∙ ap (λ (r : Roomy). fact_of r.graph Arc c.loop-id.id) c.graph-graph.ensures)
    ∙ c.in-Some.is in
    from_listed (plain_of w c.args.self.now) c.requires.in_step.seats.graph.valid c.loop-id.id
    c.in-Some.fact told c.args.places.now c.requires.places

pub bounds-places-fact-in-Some : goal.bounds-places-fact-in-Some
bounds-places-fact-in-Some g c =
    let w = (watch-value g.row.B g.B.Observer g.B.Observer-dict g.B.Destruct-dict).it in
    let graph = c.args.self.now.graph.graph.graph in
    let told : fact_of graph Arc c.loop-id.id ≡ Some c.in-Some.fact =
    sym (c.fact.ensures
    ∙ ap (λ (r : Roomy). fact_of r.graph Arc c.loop-id.id) c.graph-graph.ensures)
    ∙ c.in-Some.is in
    to_listed (plain_of w c.args.self.now) c.requires.in_step.seats.graph.valid c.loop-id.id
    c.in-Some.fact told c.args.places.now c.requires.places

pub loop-id-preserved : goal.loop-id-preserved
loop-id-preserved g c =
    let w = (watch-value g.row.B g.B.Observer g.B.Observer-dict g.B.Destruct-dict).it in
    let self = c.args.self.now in
    let world = plain_of w self in
    let graph = self.graph.graph.graph in
    let id = c.loop-id.id in
    let asked = c.fact.ensures
    ∙ ap (λ (r : Roomy). fact_of r.graph Arc id) c.graph-graph.ensures in
    elim c.match-fact.branch [
      | in-Some+in_ok-values+in_ok-push b ↦
          (let told : fact_of graph Arc id ≡ Some b.in-Some.fact = sym asked ∙ b.in-Some.is in
          ap (λ (v : Vec Link Global). v.items) b.links-is ∙ b.in_ok-push.ensures.items
          ∙ read_more graph Arc (link_of world) id b.in-Some.fact told c.loop-id.links.items
          c.loop-id.invariant _
          (link_told world c.requires.in_step.seats.graph.valid id b.in-Some.fact told
          c.args.places.now c.requires.places b.in_ok-values.values b.in_ok-values.ensures))
      | in_default b ↦
          (let told : fact_of graph Arc id ≡ None = sym asked ∙ b.in_default.is in
          ap (λ (v : Vec Link Global). v.items) b.links-is
          ∙ read_same graph Arc (link_of world) id told c.loop-id.links.items c.loop-id.invariant)
    ]

pub returns : goal.returns
returns g c =
    let w = (watch-value g.row.B g.B.Observer g.B.Observer-dict g.B.Destruct-dict).it in
    let self = c.args.self.now in
    let world = plain_of w self in
    let graph = self.graph.graph.graph in
    let used = c.used-id-end.ensures
    ∙ ap (λ (r : Roomy). r.graph.used_arcs) c.graph-graph.ensures in
    let low = c.loop-id-test.false in
    let high = c.loop-id.auto.id-end in
    c.from_vec.ensures ∙ c.loop-id.invariant
    ∙ ap (λ n. map (link_of world) (rising_below graph Arc n)) (omega (arith, used, low, high))
