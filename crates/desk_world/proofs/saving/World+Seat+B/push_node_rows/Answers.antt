use Rattle.std.proofs.Common.{◌++◌, List, ℕ, sym, ap, ◌∙◌, arith, is_some, Vec, Global}
use Rattle.base_items.specs.declared.items.ItemSort.TheVariants.{Node}
use Rattle.lgf_file.specs.Plain.{row_text}
use Rattle.plain_digraph.specs.Items.{fact_of, rising}
use Rattle.list_digraph.specs.Roomy.{Roomy}
use Rattle.alter_graph.proofs.Listing.{told_live}
use Rattle.plain_world.specs.Documents.{cells_of}
use Rattle.desk_seats.specs.contracts.seat.SeatObserver.TheImpl.{watch-value}
use Rattle.desk_world.specs.Plain.{plain_of}
use Rattle.desk_world.proofs.RowPlaces.{some_told, none_told}
use Rattle.desk_world.proofs.Saved.{lines_made, saved_below, saved_more, saved_same}
use Rattle.desk_world.proofs.saving.World+Seat+B.push_node_rows.Goals as goal
use Rattle.desk_world.proofs.saving.World+Seat+B.push_node_rows.Goals.{
  then-is_some+in_ok-push_values,
  else-is_some,
}

pub push_values-requires-clause-live : goal.push_values-requires-clause-live
push_values-requires-clause-live g c =
    let graph = c.args.self.now.graph.graph.graph in
    let id = c.loop-id.id in
    let asked = c.fact.ensures
    ∙ ap (λ (r : Roomy). fact_of r.graph Node id) c.graph-graph.ensures in
    let told = some_told (fact_of graph Node id)
    (sym (ap is_some asked) ∙ sym c.is_some.ensures ∙ c.if-is_some.true) in
    told_live graph Node c.requires.seats.graph.valid id told.0 told.1

pub loop-id-preserved : goal.loop-id-preserved
loop-id-preserved g c =
    let w = (watch-value g.row.B g.B.Observer g.B.Observer-dict g.B.Destruct-dict).it in
    let world = plain_of w c.args.self.now in
    let graph = c.args.self.now.graph.graph.graph in
    let id = c.loop-id.id in
    let text : ℕ → List ℕ = λ item. row_text (cells_of world Node item) in
    let front = c.args.out.now.items in
    let asked = c.fact.ensures
    ∙ ap (λ (r : Roomy). fact_of r.graph Node id) c.graph-graph.ensures in
    elim c.if-is_some.branch [
      | then-is_some+in_ok-push_values b ↦
          (let told = some_told (fact_of graph Node id)
          (sym (ap is_some asked) ∙ sym c.is_some.ensures ∙ b.if-is_some.true) in
          ap (λ (v : Vec ℕ Global). v.items) b.out-is ∙ b.in_ok-push_values.ensures
          ∙ saved_more graph Node text front id told.0 told.1 c.loop-id.out.items
          c.loop-id.invariant)
      | else-is_some b ↦
          (let told = none_told (fact_of graph Node id)
          (sym (ap is_some asked) ∙ sym c.is_some.ensures ∙ b.if-is_some.false) in
          ap (λ (v : Vec ℕ Global). v.items) b.out-is
          ∙ saved_same graph Node text front id told c.loop-id.out.items c.loop-id.invariant)
    ]

pub returns : goal.returns
returns g c =
    let w = (watch-value g.row.B g.B.Observer g.B.Observer-dict g.B.Destruct-dict).it in
    let world = plain_of w c.args.self.now in
    let graph = c.args.self.now.graph.graph.graph in
    let front = c.args.out.now.items in
    let text : ℕ → List ℕ = λ item. row_text (cells_of world Node item) in
    let used = c.used-id-end.ensures
    ∙ ap (λ (r : Roomy). r.graph.used_nodes) c.graph-graph.ensures in
    let low = c.loop-id-test.false in
    let high = c.loop-id.auto.id-end in
    c.loop-id.invariant
    ∙ ap (saved_below graph Node text front) (omega (arith, used, low, high))
    ∙ ap (λ own. front ++ own)
    (lines_made row_text (cells_of world Node) (rising graph Node))
