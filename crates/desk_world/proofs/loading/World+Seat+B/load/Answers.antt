use Rattle.std.proofs.Common.{◌≡◌, ◌+◌, ◌≤◌, All, sym, ap, ◌∙◌, subst, arith}
use Rattle.base_items.specs.declared.items.ItemSort.TheVariants.{Node, Arc}
use Rattle.base_items.specs.declared.limits.TheConstants.{MAX_NODES, MAX_ARCS}
use Rattle.token_text.specs.Names.{has_twice}
use Rattle.lgf_file.specs.Documents.{label_place}
use Rattle.plain_world.specs.World.{World}
use Rattle.plain_world.specs.Effects.{with_maps}
use Rattle.plain_world.specs.Valid.{IsWorld}
use Rattle.alter_graph.specs.State.{State}
use Rattle.desk_seats.specs.contracts.seat.SeatObserver.TheImpl.{watch-value}
use Rattle.desk_world.specs.Blank.{NodesLead, ArcsLead, HasLiveEnds, own_columns}
use Rattle.desk_world.specs.Describing.{new_maps}
use Rattle.desk_world.specs.Loading.{all_described, values_of}
use Rattle.desk_world.specs.Plain.{plain_of, kinds_of}
use Rattle.desk_world.proofs.Filled.{own_differ, ready_alike}
use Rattle.desk_world.proofs.Loaded.{ends_there, rows_ready, links_ready, fifth_is, last, last_is}
use Rattle.desk_world.proofs.Loaded.{last_valid, last_stamps}
use Rattle.desk_world.proofs.loading.World+Seat+B.load.Goals as goal

pub add_nodes-requires : goal.add_nodes-requires
add_nodes-requires g c = record {
  in_step = c.new-graph.ensures.in_step;
  unseen = ap (λ (s : State). s.chains) c.new-graph.ensures.empty;
}

pub add_arcs-requires : goal.add_arcs-requires
add_arcs-requires g c =
    let w = (watch-value g.row.B g.B.Observer g.B.Observer-dict g.B.Destruct-dict).it in
    let doc = c.args.doc in
    let pool = kinds_of w c.args.pool.items in
    let start = ap (λ (s : State). s.graph) c.new-graph.ensures.empty in
    let g0 = c.new-graph.result.graph.graph in
    let g1 = c.add_nodes.new.graph.graph.graph in
    let nodes = subst (λ rows. NodesLead rows g0 g1) c.as_slice-3.ensures
    c.in_ok-add_nodes.ensures.leads in
    record {
      in_step = c.in_ok-add_nodes.ensures.in_step;
      unseen = c.in_ok-add_nodes.ensures.unseen;
      ends = subst (All (HasLiveEnds g1)) (sym c.as_slice-4.ensures)
          (ends_there doc pool c.requires.doc g0 g1 start nodes);
    }

pub over-requires : goal.over-requires
over-requires g c = record {
  in_step = c.in_ok-add_arcs.ensures.in_step;
  unseen = c.in_ok-add_arcs.ensures.unseen;
  names = c.requires.doc.attributes_ok;
  boxes = c.requires.boxes;
}

pub add_columns-requires : goal.add_columns-requires
add_columns-requires g c = record {
  in_step = c.in_ok-world.ensures.in_step;
  no_maps = ap (λ (x : World). x.nodes.maps) c.in_ok-world.ensures.world;
  differ = ap has_twice (c.as_slice-5.ensures ∙ c.without_label-columns.ensures)
      ∙ own_differ c.args.doc.nodes.columns c.requires.doc.nodes_ok.columns_ok;
}

pub add_columns-requires-2 : goal.add_columns-requires-2
add_columns-requires-2 g c =
    let w = (watch-value g.row.B g.B.Observer g.B.Observer-dict g.B.Destruct-dict).it in
    record {
      in_step = c.in_ok-add_columns.ensures.in_step;
      no_maps = ap (λ (x : World). x.arcs.maps)
          (c.in_ok-add_columns.ensures.made)
          ∙ ap (λ (x : World). x.arcs.maps) c.in_ok-world.ensures.world;
      differ = ap has_twice (c.as_slice-6.ensures ∙ c.without_label-arc_columns.ensures)
          ∙ own_differ c.args.doc.arc_columns c.requires.doc.arcs_ok.columns_ok;
    }

pub describe_nodes-requires : goal.describe_nodes-requires
describe_nodes-requires g c =
    let w = (watch-value g.row.B g.B.Observer g.B.Observer-dict g.B.Destruct-dict).it in
    let doc = c.args.doc in
    let pool = kinds_of w c.args.pool.items in
    let start = ap (λ (s : State). s.graph) c.new-graph.ensures.empty in
    let g0 = c.new-graph.result.graph.graph in
    let g1 = c.add_nodes.new.graph.graph.graph in
    let nodes = subst (λ rows. NodesLead rows g0 g1) c.as_slice-3.ensures
    c.in_ok-add_nodes.ensures.leads in
    let g2 = c.add_arcs.new.graph.graph.graph in
    let arcs = subst (λ links. ArcsLead links g1 g2) c.as_slice-4.ensures
    c.in_ok-add_arcs.ensures.leads in
    let valid = c.add_arcs.ensures.in_step.valid in
    let p0 = plain_of w c.in_ok-world.world in
    let p1 = plain_of w c.add_columns.new.self in
    let p2 = plain_of w c.add_columns-2.new.self in
    let first = c.in_ok-world.ensures.world in
    let columns = c.as_slice-5.ensures ∙ c.without_label-columns.ensures in
    let second = c.in_ok-add_columns.ensures.made
    ∙ ap (λ own. with_maps p0 Node (new_maps p0 Node own)) columns in
    let arc_columns = c.as_slice-6.ensures ∙ c.without_label-arc_columns.ensures in
    let third = c.in_ok-add_columns-2.ensures.made
    ∙ ap (λ own. with_maps p1 Arc (new_maps p1 Arc own)) arc_columns in
    let at = c.find_label-node_place.ensures ∙ ap label_place c.as_slice.ensures in
    let few = c.requires.doc.nodes_ok.few in
    record {
      in_step = c.in_ok-add_columns-2.ensures.in_step;
      ready = ready_alike Node (label_place doc.nodes.columns) c.find_label-node_place.result
          (own_columns doc.nodes.columns) c.as_slice-7.result.now p2 0 doc.nodes.rows at
          (c.as_slice-7.ensures ∙ c.without_label-columns.ensures)
          (rows_ready doc pool c.requires.doc g0 g1 start nodes g2 arcs valid p0 p1 p2 first second
          third);
      few = omega (arith, few);
    }

pub describe_arcs-requires : goal.describe_arcs-requires
describe_arcs-requires g c =
    let w = (watch-value g.row.B g.B.Observer g.B.Observer-dict g.B.Destruct-dict).it in
    let doc = c.args.doc in
    let pool = kinds_of w c.args.pool.items in
    let start = ap (λ (s : State). s.graph) c.new-graph.ensures.empty in
    let g0 = c.new-graph.result.graph.graph in
    let g1 = c.add_nodes.new.graph.graph.graph in
    let nodes = subst (λ rows. NodesLead rows g0 g1) c.as_slice-3.ensures
    c.in_ok-add_nodes.ensures.leads in
    let g2 = c.add_arcs.new.graph.graph.graph in
    let arcs = subst (λ links. ArcsLead links g1 g2) c.as_slice-4.ensures
    c.in_ok-add_arcs.ensures.leads in
    let valid = c.add_arcs.ensures.in_step.valid in
    let p0 = plain_of w c.in_ok-world.world in
    let p1 = plain_of w c.add_columns.new.self in
    let p2 = plain_of w c.add_columns-2.new.self in
    let first = c.in_ok-world.ensures.world in
    let columns = c.as_slice-5.ensures ∙ c.without_label-columns.ensures in
    let second = c.in_ok-add_columns.ensures.made
    ∙ ap (λ own. with_maps p0 Node (new_maps p0 Node own)) columns in
    let arc_columns = c.as_slice-6.ensures ∙ c.without_label-arc_columns.ensures in
    let third = c.in_ok-add_columns-2.ensures.made
    ∙ ap (λ own. with_maps p1 Arc (new_maps p1 Arc own)) arc_columns in
    let at = c.find_label-node_place.ensures ∙ ap label_place c.as_slice.ensures in
    let p3 = plain_of w c.describe_nodes.new.self in
    let fourth = c.in_ok-describe_nodes.ensures.told
    ∙ ap (λ own. all_described Node own p2 0 doc.nodes.rows) at in
    let arc_at = c.find_label-arc_place.ensures ∙ ap label_place c.as_slice-2.ensures in
    let few = c.requires.doc.arcs_ok.few in
    record {
      in_step = c.in_ok-describe_nodes.ensures.in_step;
      ready = ready_alike Arc (label_place doc.arc_columns) c.find_label-arc_place.result
          (own_columns doc.arc_columns) c.as_slice-8.result.now p3 0 (values_of doc.arcs) arc_at
          (c.as_slice-8.ensures ∙ c.without_label-arc_columns.ensures)
          (links_ready doc pool c.requires.doc g0 g1 start nodes g2 arcs valid p0 p1 p2 first second
          third p3 fourth);
      few = few;
    }

pub returns : goal.returns
returns g c =
    let w = (watch-value g.row.B g.B.Observer g.B.Observer-dict g.B.Destruct-dict).it in
    let doc = c.args.doc in
    let pool = kinds_of w c.args.pool.items in
    let start = ap (λ (s : State). s.graph) c.new-graph.ensures.empty in
    let g0 = c.new-graph.result.graph.graph in
    let g1 = c.add_nodes.new.graph.graph.graph in
    let nodes = subst (λ rows. NodesLead rows g0 g1) c.as_slice-3.ensures
    c.in_ok-add_nodes.ensures.leads in
    let g2 = c.add_arcs.new.graph.graph.graph in
    let arcs = subst (λ links. ArcsLead links g1 g2) c.as_slice-4.ensures
    c.in_ok-add_arcs.ensures.leads in
    let valid = c.add_arcs.ensures.in_step.valid in
    let p0 = plain_of w c.in_ok-world.world in
    let p1 = plain_of w c.add_columns.new.self in
    let p2 = plain_of w c.add_columns-2.new.self in
    let first = c.in_ok-world.ensures.world in
    let columns = c.as_slice-5.ensures ∙ c.without_label-columns.ensures in
    let second = c.in_ok-add_columns.ensures.made
    ∙ ap (λ own. with_maps p0 Node (new_maps p0 Node own)) columns in
    let arc_columns = c.as_slice-6.ensures ∙ c.without_label-arc_columns.ensures in
    let third = c.in_ok-add_columns-2.ensures.made
    ∙ ap (λ own. with_maps p1 Arc (new_maps p1 Arc own)) arc_columns in
    let at = c.find_label-node_place.ensures ∙ ap label_place c.as_slice.ensures in
    let p3 = plain_of w c.describe_nodes.new.self in
    let fourth = c.in_ok-describe_nodes.ensures.told
    ∙ ap (λ own. all_described Node own p2 0 doc.nodes.rows) at in
    let arc_at = c.find_label-arc_place.ensures ∙ ap label_place c.as_slice-2.ensures in
    let p4 = plain_of w c.describe_arcs.new.self in
    let is : p4 ≡ last doc pool c.requires.doc =
    fifth_is doc pool c.requires.doc g0 g1 start nodes g2 arcs valid p0 p1 p2 first second third
    p3 fourth p4
    (c.in_ok-describe_arcs.ensures.told
    ∙ ap (λ own. all_described Arc own p3 0 (values_of doc.arcs)) arc_at) in
    record {
      loaded = is ∙ last_is doc pool c.requires.doc;
      boxes = ap (λ v. v.items) (c.in_ok-describe_arcs.ensures.pool
          ∙ c.in_ok-describe_nodes.ensures.pool ∙ c.in_ok-add_columns-2.ensures.pool
          ∙ c.in_ok-add_columns.ensures.pool) ∙ c.in_ok-world.ensures.boxes;
      in_step = record {
        seats = c.in_ok-describe_arcs.ensures.in_step;
        valid = subst IsWorld (sym is) (last_valid doc pool c.requires.doc);
      };
      stamps = subst (λ (x : World). x.graph.stamps ≤ MAX_NODES + MAX_ARCS) (sym is)
          (last_stamps doc pool c.requires.doc);
    }
