use Rattle.std.proofs.Common.{◌≡◌, ◌∷◌, ◌++◌, [], map, length, List, ℕ, Vec, Global, sym, ap, ◌∙◌}
use Rattle.std.proofs.Common.{arith, zero-add, is_some}
use Rattle.std.specs.List.{range_with_len}
use Rattle.std.proofs.lemmas.List.{length-map}
use Rattle.std.proofs.lemmas.List.FromFn.{map-range_with_len_more}
use Rattle.base_items.specs.declared.items.ItemSort.TheVariants.{Node}
use Rattle.plain_digraph.specs.Items.{fact_of}
use Rattle.list_digraph.specs.Roomy.{Roomy}
use Rattle.alter_graph.proofs.Listing.{told_live}
use Rattle.plain_world.specs.Documents.{cells_of}
use Rattle.desk_seats.specs.contracts.seat.SeatObserver.TheImpl.{watch-value}
use Rattle.desk_world.specs.Plain.{plain_of}
use Rattle.desk_world.specs.RowPlaces.{rising_below}
use Rattle.desk_world.proofs.RowPlaces.{read_more, read_same, few_below, some_told, none_told}
use Rattle.desk_world.proofs.documents.World+Seat+B.node_rows.Goals as goal
use Rattle.desk_world.proofs.documents.World+Seat+B.node_rows.Goals.{
  then-is_some+in_ok-copy_cells+in_ok-push-2,
  else-is_some,
}

pub overflow_cast-place : goal.overflow_cast-place
overflow_cast-place g c =
    let w = (watch-value g.row.B g.B.Observer g.B.Observer-dict g.B.Destruct-dict).it in
    let self = c.args.self.now in
    let graph = self.graph.graph.graph in
    let id = c.loop-id.id in
    let sized = ap length c.loop-id.invariant.rows
    ∙ length-map (rising_below graph Node id) (cells_of (plain_of w self) Node) in
    let few = few_below graph Node id in
    let used = c.used-id-end.ensures
    ∙ ap (λ (r : Roomy). r.graph.used_nodes) c.graph-graph.ensures in
    let most = c.requires.seats.graph.valid.few_nodes in
    let below = c.loop-id-test.true in
    let size = c.len-place.ensures in
    omega (arith, sized, few, used, most, below, size)

pub copy_cells-requires-clause-live : goal.copy_cells-requires-clause-live
copy_cells-requires-clause-live g c =
    let graph = c.args.self.now.graph.graph.graph in
    let id = c.loop-id.id in
    let asked = c.fact.ensures
    ∙ ap (λ (r : Roomy). fact_of r.graph Node id) c.graph-graph.ensures in
    let told = some_told (fact_of graph Node id)
    (sym (ap is_some asked) ∙ sym c.is_some.ensures ∙ c.if-is_some.true) in
    told_live graph Node c.requires.seats.graph.valid id told.0 told.1

pub loop-id-preserved : goal.loop-id-preserved
loop-id-preserved g c =
    let w = (watch-value g.row.B g.B.Observer g.B.Observer-dict g.B.Destruct-dict).it in
    let self = c.args.self.now in
    let world = plain_of w self in
    let graph = self.graph.graph.graph in
    let id = c.loop-id.id in
    let was = c.loop-id.invariant in
    let asked = c.fact.ensures
    ∙ ap (λ (r : Roomy). fact_of r.graph Node id) c.graph-graph.ensures in
    let sized = ap length was.rows
    ∙ length-map (rising_below graph Node id) (cells_of world Node) in
    let size = c.len-place.ensures in
    let here : c.len-place.result ≡ length (rising_below graph Node id) =
    omega (arith, sized, size) in
    let places = c.in_ok-push.ensures.items
    ∙ (λ i. was.places i ++ here i ∷ [])
    ∙ sym (map-range_with_len_more (λ n. length (rising_below graph Node n)) 0 id id
    (zero-add id)) in
    elim c.if-is_some.branch [
      | then-is_some+in_ok-copy_cells+in_ok-push-2 b ↦
          (let told = some_told (fact_of graph Node id)
          (sym (ap is_some asked) ∙ sym c.is_some.ensures ∙ b.if-is_some.true) in
          record {
            rows =
                ap (λ (v : Vec (List (List ℕ)) Global). v.items) b.rows-is
                ∙ b.in_ok-push-2.ensures.items
                ∙ read_more graph Node (cells_of world Node) id told.0 told.1 c.loop-id.rows.items
                was.rows b.in_ok-copy_cells.field-0 b.in_ok-copy_cells.ensures;
            places = places;
          })
      | else-is_some b ↦
          (let told = none_told (fact_of graph Node id)
          (sym (ap is_some asked) ∙ sym c.is_some.ensures ∙ b.if-is_some.false) in
          record {
            rows =
                ap (λ (v : Vec (List (List ℕ)) Global). v.items) b.rows-is
                ∙ read_same graph Node (cells_of world Node) id told c.loop-id.rows.items was.rows;
            places = places;
          })
    ]

pub returns-clause-rows : goal.returns-clause-rows
returns-clause-rows g c =
    let w = (watch-value g.row.B g.B.Observer g.B.Observer-dict g.B.Destruct-dict).it in
    let graph = c.args.self.now.graph.graph.graph in
    let used = c.used-id-end.ensures
    ∙ ap (λ (r : Roomy). r.graph.used_nodes) c.graph-graph.ensures in
    let low = c.loop-id-test.false in
    let high = c.loop-id.auto.id-end in
    c.loop-id.invariant.rows
    ∙ ap (λ n. map (cells_of (plain_of w c.args.self.now) Node) (rising_below graph Node n))
    (omega (arith, used, low, high))

pub returns-clause-places : goal.returns-clause-places
returns-clause-places g c =
    let graph = c.args.self.now.graph.graph.graph in
    let used = c.used-id-end.ensures
    ∙ ap (λ (r : Roomy). r.graph.used_nodes) c.graph-graph.ensures in
    let low = c.loop-id-test.false in
    let high = c.loop-id.auto.id-end in
    c.loop-id.invariant.places
    ∙ ap (λ n. map (λ id. length (rising_below graph Node id)) (range_with_len 0 n))
    (omega (arith, used, low, high))
