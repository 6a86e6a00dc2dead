use Rattle.std.proofs.Common.{pos, sym, ap, ◌∙◌, subst}
use Rattle.base_items.specs.declared.items.ItemSort.TheVariants.{Arc}
use Rattle.script_words.specs.declared.commands.MapType.TheVariants.{Ints}
use Rattle.plain_digraph.specs.Items.{all_arcs}
use Rattle.plain_digraph.specs.Lists.{AllOf}
use Rattle.plain_views.specs.Marks.{arc_origin}
use Rattle.plain_views.specs.TowerLaws.{IsLiveOrigin}
use Rattle.view_tower.specs.Layers.{tower_of}
use Rattle.desk_seats.specs.contracts.seat.SeatObserver.TheImpl.{watch-value}
use Rattle.desk_world.specs.Flows.{with_ints, flow_by}
use Rattle.desk_world.specs.Plain.{plain_of}
use Rattle.desk_world.specs.Values.{HasType}
use Rattle.desk_world.proofs.FlowWrites.{ints_typed, ints_again}
use Rattle.desk_world.proofs.flows.World+Seat+B.write_flow.Goals as goal

pub clear_flow-requires : goal.clear_flow-requires
clear_flow-requires g c = record {
  in_step = c.requires.in_step;
  of_type = c.requires.of_type;
  order = c.deref.ensures.value ∙ c.in_ok-order.ensures
      ∙ ap (λ d. all_arcs d.graph) c.graph.ensures;
}

pub put_flow-requires : goal.put_flow-requires
put_flow-requires g c =
    let w = (watch-value g.row.B g.B.Observer g.B.Observer-dict g.B.Destruct-dict).it in
    let world = plain_of w c.args.self.now in
    let map = c.args.map.now in
    let tower = tower_of c.args.layers.now in
    let cleared = c.clear_flow.ensures.cleared in
    record {
      in_step = c.clear_flow.ensures.in_step;
      of_type = subst (λ x. HasType x Arc map Ints) (sym cleared)
          (ints_typed world map c.requires.of_type (λ _. pos 0));
      cleared = cleared ∙ sym (ints_again world map (λ _. pos 0) (λ _. pos 0))
          ∙ ap (λ x. with_ints x map (λ _. pos 0)) (sym cleared);
      sizes = c.requires.sizes;
      live = subst (λ d. AllOf (λ arc. IsLiveOrigin d.graph (arc_origin tower arc)) c.args.arcs.now)
          (sym c.clear_flow.ensures.graph) c.requires.live;
    }

pub returns : goal.returns
returns g c =
    let w = (watch-value g.row.B g.B.Observer g.B.Observer-dict g.B.Destruct-dict).it in
    let world = plain_of w c.args.self.now in
    let map = c.args.map.now in
    let tower = tower_of c.args.layers.now in
    let flow = flow_by tower c.args.arcs.now c.args.flow.now in
    record {
      written = c.put_flow.ensures.written
          ∙ ap (λ x. with_ints x map flow) c.clear_flow.ensures.cleared
          ∙ ints_again world map (λ _. pos 0) flow;
      same = tt;
      in_step = c.put_flow.ensures.in_step;
      graph = c.put_flow.ensures.graph ∙ c.clear_flow.ensures.graph;
    }
