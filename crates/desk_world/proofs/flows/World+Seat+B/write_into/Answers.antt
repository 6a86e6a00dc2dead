use Rattle.std.proofs.Common.{◌≡◌, pos, length, sym, ap, subst, ◌∙◌}
use Rattle.std.specs.Prelude.{IfSome, OnOk}
use Rattle.base_items.specs.declared.items.ItemSort.TheVariants.{Arc}
use Rattle.script_words.specs.declared.commands.MapType.TheVariants.{Ints}
use Rattle.plain_certificates.specs.Tables.{at}
use Rattle.plain_digraph.specs.Lists.{AllOf}
use Rattle.plain_views.specs.Marks.{arc_origin}
use Rattle.plain_views.specs.Shown.{ShownArc}
use Rattle.plain_views.specs.TowerLaws.{IsLiveOrigin}
use Rattle.plain_world.specs.Queries.{with_flow}
use Rattle.plain_world.specs.Views.{arcs_of}
use Rattle.std.proofs.lemmas.List.{length-map}
use Rattle.view_tower.specs.Layers.{tower_of}
use Rattle.desk_seats.specs.contracts.seat.SeatObserver.TheImpl.{watch-value}
use Rattle.desk_world.specs.Flows.{with_ints, flow_by}
use Rattle.desk_world.specs.Plain.{plain_of}
use Rattle.desk_world.specs.Values.{HasType}
use Rattle.desk_world.proofs.FlowInto.{arcs_come, written_flow}
use Rattle.desk_world.proofs.flows.World+Seat+B.write_into.Goals as goal

pub write_flow-requires : goal.write_flow-requires
write_flow-requires g c =
    let w = (watch-value g.row.B g.B.Observer g.B.Observer-dict g.B.Destruct-dict).it in
    let world = plain_of w c.args.self.now in
    let asked = c.args.asked.now in
    let asks = c.requires.asks in
    let layers = c.as_slice-layers.ensures.value in
    let arcs = c.as_slice.ensures.value ∙ c.in_ok-arcs.ensures in
    record {
      in_step = c.requires.in_step;
      of_type = subst (λ o. IfSome o (λ map. HasType world Arc map Ints)) c.in-Some.is
          c.requires.takes;
      sizes = ap length c.as_slice-2.ensures ∙ c.requires.sizes
          ∙ sym (ap length (arcs ∙ asks.numbers.arcs)
          ∙ length-map (arcs_of world asked.view.now) (λ (arc : ShownArc). arc.id));
      live = subst (λ ids. AllOf (λ arc. IsLiveOrigin world.graph
          (arc_origin (tower_of c.as_slice-layers.result.now) arc)) ids) (sym arcs)
          (subst (λ ls. AllOf (λ arc. IsLiveOrigin world.graph (arc_origin (tower_of ls) arc))
          asked.fixed.arcs) (sym layers)
          (arcs_come world asked asks c.requires.in_step.valid));
    }

pub returns-clause-written : goal.returns-clause-written
returns-clause-written g c =
    let w = (watch-value g.row.B g.B.Observer g.B.Observer-dict g.B.Destruct-dict).it in
    let world = plain_of w c.args.self.now in
    let asked = c.args.asked.now in
    let asks = c.requires.asks in
    let layers = c.as_slice-layers.ensures.value in
    let arcs = c.as_slice.ensures.value ∙ c.in_ok-arcs.ensures in
    let map = c.in-Some.map in
    let flow = c.args.flow.now in
    let told = (λ i. with_ints world map
    (flow_by (tower_of (layers i)) (arcs i) (c.as_slice-2.ensures i)))
    ∙ written_flow world asked asks flow c.requires.sizes map
    ∙ ap (λ o. with_flow world asked.view.now o (at (pos 0) flow)) (sym c.in-Some.is) in
    subst (λ then. OnOk c.write_flow.result (plain_of w c.write_flow.new.self ≡ then)) told
    c.write_flow.ensures.written
