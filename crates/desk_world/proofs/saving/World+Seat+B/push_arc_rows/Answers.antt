use Rattle.std.proofs.Common.{◌≡◌, ◌++◌, ℕ, sym, ap, ◌∙◌, arith, Some, None, Vec, Global}
use Rattle.base_items.specs.declared.items.ItemSort.TheVariants.{Arc}
use Rattle.token_text.specs.Lines.{ended}
use Rattle.lgf_file.specs.Documents.{node_labels, link_cells}
use Rattle.lgf_file.specs.Plain.{row_text, cell_text}
use Rattle.lgf_file.specs.declared.documents.Link.{Link}
use Rattle.plain_digraph.specs.Items.{fact_of, rising}
use Rattle.list_digraph.specs.Roomy.{Roomy}
use Rattle.alter_graph.proofs.Listing.{told_live}
use Rattle.plain_world.specs.Documents.{cells_of, doc_of, link_of}
use Rattle.desk_seats.specs.contracts.seat.SeatObserver.TheImpl.{watch-value}
use Rattle.desk_world.specs.Plain.{plain_of}
use Rattle.desk_world.proofs.ArcEnds.{ends_live}
use Rattle.desk_world.proofs.Saved.{lines_made, saved_below, saved_more, saved_same, arc_text}
use Rattle.desk_world.proofs.Saved.{arc_joined}
use Rattle.desk_world.proofs.saving.World+Seat+B.push_arc_rows.Goals as goal
use Rattle.desk_world.proofs.saving.World+Seat+B.push_arc_rows.Goals.{
  in-Some+in_ok-push_cell+in_ok-push_cell-2+in_ok-push_values,
  in_default,
}

pub label_of-requires-clause-live : goal.label_of-requires-clause-live
label_of-requires-clause-live g c =
    let graph = c.args.self.now.graph.graph.graph in
    let id = c.loop-id.id in
    let told : fact_of graph Arc id ≡ Some c.in-Some.fact =
    sym (c.fact.ensures ∙ ap (λ (r : Roomy). fact_of r.graph Arc id) c.graph-graph.ensures)
    ∙ c.in-Some.is in
    (ends_live graph id c.in-Some.fact told c.requires.seats.graph.valid).0

pub label_of-requires-in-Some-clause-live : goal.label_of-requires-in-Some-clause-live
label_of-requires-in-Some-clause-live g c =
    let graph = c.args.self.now.graph.graph.graph in
    let id = c.loop-id.id in
    let told : fact_of graph Arc id ≡ Some c.in-Some.fact =
    sym (c.fact.ensures ∙ ap (λ (r : Roomy). fact_of r.graph Arc id) c.graph-graph.ensures)
    ∙ c.in-Some.is in
    (ends_live graph id c.in-Some.fact told c.requires.seats.graph.valid).1

pub push_values-requires-clause-live : goal.push_values-requires-clause-live
push_values-requires-clause-live g c =
    let graph = c.args.self.now.graph.graph.graph in
    let id = c.loop-id.id in
    let told : fact_of graph Arc id ≡ Some c.in-Some.fact =
    sym (c.fact.ensures ∙ ap (λ (r : Roomy). fact_of r.graph Arc id) c.graph-graph.ensures)
    ∙ c.in-Some.is in
    told_live graph Arc c.requires.seats.graph.valid id c.in-Some.fact told

pub loop-id-preserved : goal.loop-id-preserved
loop-id-preserved g c =
    let w = (watch-value g.row.B g.B.Observer g.B.Observer-dict g.B.Destruct-dict).it in
    let world = plain_of w c.args.self.now in
    let graph = c.args.self.now.graph.graph.graph in
    let id = c.loop-id.id in
    let front = c.args.out.now.items in
    let was = c.loop-id.out.items in
    let asked = c.fact.ensures
    ∙ ap (λ (r : Roomy). fact_of r.graph Arc id) c.graph-graph.ensures in
    elim c.match-fact.branch [
      | in-Some+in_ok-push_cell+in_ok-push_cell-2+in_ok-push_values b ↦
          (let fact = b.in-Some.fact in
          let told : fact_of graph Arc id ≡ Some fact = sym asked ∙ b.in-Some.is in
          let from = b.as_bytes.ensures ∙ b.label_of.ensures in
          let to = b.as_bytes-in-Some.ensures ∙ b.label_of-in-Some.ensures in
          let ends = b.in_ok-push_cell-2.ensures
          ∙ (λ i. (b.in_ok-push_cell.ensures ∙ ap (λ cell. was ++ cell_text cell) from) i
          ++ cell_text (to i)) in
          ap (λ (v : Vec ℕ Global). v.items) b.out-is ∙ b.in_ok-push_values.ensures
          ∙ ap (λ own. own ++ ended (row_text (cells_of world Arc id))) ends
          ∙ arc_joined world c.requires.valid id fact told was
          ∙ saved_more graph Arc (arc_text world) front id fact told was c.loop-id.invariant)
      | in_default b ↦
          (let told : fact_of graph Arc id ≡ None = sym asked ∙ b.in_default.is in
          ap (λ (v : Vec ℕ Global). v.items) b.out-is
          ∙ saved_same graph Arc (arc_text world) front id told was c.loop-id.invariant)
    ]

pub returns : goal.returns
returns g c =
    let w = (watch-value g.row.B g.B.Observer g.B.Observer-dict g.B.Destruct-dict).it in
    let world = plain_of w c.args.self.now in
    let graph = c.args.self.now.graph.graph.graph in
    let front = c.args.out.now.items in
    let labels = node_labels (doc_of world).nodes in
    let used = c.used-id-end.ensures
    ∙ ap (λ (r : Roomy). r.graph.used_arcs) c.graph-graph.ensures in
    let low = c.loop-id-test.false in
    let high = c.loop-id.auto.id-end in
    c.loop-id.invariant
    ∙ ap (saved_below graph Arc (arc_text world) front) (omega (arith, used, low, high))
    ∙ ap (λ own. front ++ own)
    (lines_made (λ (arc : Link). row_text (link_cells labels arc)) (link_of world)
    (rising graph Arc))
