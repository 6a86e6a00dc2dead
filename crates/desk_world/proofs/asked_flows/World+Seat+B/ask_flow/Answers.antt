use Rattle.std.proofs.Common.{◌≡◌, ◌≤ℤ◌, pos, All, None, length, sym, ap, refl, subst, ◌∙◌}
use Rattle.std.proofs.lemmas.List.{length-map}
use Rattle.base_items.specs.declared.items.ItemSort.TheVariants.{Arc}
use Rattle.script_words.specs.declared.commands.MapType.TheVariants.{Ints}
use Rattle.desk_seats.specs.contracts.seat.SeatObserver.TheImpl.{watch-value}
use Rattle.plain_world.specs.Demands as demands
use Rattle.plain_world.specs.Refusals.{breach}
use Rattle.desk_world.specs.Faults.{Is}
use Rattle.desk_world.specs.Plain.{plain_of}
use Rattle.desk_world.proofs.DemandParts.{one_met, met_next}
use Rattle.desk_world.proofs.FlowAsked.{flow_parts, numbers_apart, names_met, maps_met, nodes_met}
use Rattle.desk_world.proofs.FlowAsked.{flow_met, part_unmet, flow_unmet, given_takes}
use Rattle.desk_world.proofs.PathsTold.{lengths_read, place_is, start_read, start_inside}
use Rattle.desk_world.proofs.asked_flows.World+Seat+B.ask_flow.Goals as goal

pub returns-in_err-ask_view-clause-meets : goal.returns-in_err-ask_view-clause-meets
returns-in_err-ask_view-clause-meets g c =
    let w = (watch-value g.row.B g.B.Observer g.B.Observer-dict g.B.Destruct-dict).it in
    let world = plain_of w c.args.self.now in
    let view = c.args.view.now in
    let cap = c.args.cap.now in
    let s = c.args.s.now in
    let t = c.args.t.now in
    let into = c.args.into.now in
    flow_unmet view cap s t world into c.from_residual.result _
    c.from_residual.ensures.1 (demands.There demands.Views view) 0 tt refl
    c.in_err-ask_view.ensures

pub returns-in_err-ask_map-clause-meets : goal.returns-in_err-ask_map-clause-meets
returns-in_err-ask_map-clause-meets g c =
    let w = (watch-value g.row.B g.B.Observer g.B.Observer-dict g.B.Destruct-dict).it in
    let world = plain_of w c.args.self.now in
    let view = c.args.view.now in
    let cap = c.args.cap.now in
    let s = c.args.s.now in
    let t = c.args.t.now in
    let into = c.args.into.now in
    let seen = one_met world (demands.There demands.Views view) c.in_ok-ask_view.ensures in
    flow_unmet view cap s t world into c.from_residual-in_err-ask_map.result _
    c.from_residual-in_err-ask_map.ensures.1 (demands.There (demands.Maps Arc) cap) 1 (seen, tt)
    refl c.in_err-ask_map.ensures

pub returns-in_err-from-clause-meets : goal.returns-in_err-from-clause-meets
returns-in_err-from-clause-meets g c =
    let w = (watch-value g.row.B g.B.Observer g.B.Observer-dict g.B.Destruct-dict).it in
    let world = plain_of w c.args.self.now in
    let view = c.args.view.now in
    let cap = c.args.cap.now in
    let s = c.args.s.now in
    let t = c.args.t.now in
    let into = c.args.into.now in
    let seen = one_met world (demands.There demands.Views view) c.in_ok-ask_view.ensures in
    let there = one_met world (demands.There (demands.Maps Arc) cap) c.in_ok-ask_map.ensures in
    flow_unmet view cap s t world into c.from_residual-in_err-from.result _
    c.from_residual-in_err-from.ensures.1 (demands.There (demands.NodesOf view) s) 2
    (seen, (there, tt)) refl c.in_err-from.ensures.meets

pub returns-in_err-to-clause-meets : goal.returns-in_err-to-clause-meets
returns-in_err-to-clause-meets g c =
    let w = (watch-value g.row.B g.B.Observer g.B.Observer-dict g.B.Destruct-dict).it in
    let world = plain_of w c.args.self.now in
    let view = c.args.view.now in
    let cap = c.args.cap.now in
    let s = c.args.s.now in
    let t = c.args.t.now in
    let into = c.args.into.now in
    let seen = one_met world (demands.There demands.Views view) c.in_ok-ask_view.ensures in
    let there = one_met world (demands.There (demands.Maps Arc) cap) c.in_ok-ask_map.ensures in
    let from = one_met world (demands.There (demands.NodesOf view) s)
    c.in_ok-from.ensures.meets in
    flow_unmet view cap s t world into c.from_residual-in_err-to.result _
    c.from_residual-in_err-to.ensures.1 (demands.There (demands.NodesOf view) t) 3
    (seen, (there, (from, tt))) refl c.in_err-to.ensures.meets

pub returns-in_err-ask_given-clause-meets : goal.returns-in_err-ask_given-clause-meets
returns-in_err-ask_given-clause-meets g c =
    let w = (watch-value g.row.B g.B.Observer g.B.Observer-dict g.B.Destruct-dict).it in
    let world = plain_of w c.args.self.now in
    let view = c.args.view.now in
    let cap = c.args.cap.now in
    let s = c.args.s.now in
    let t = c.args.t.now in
    let into = c.args.into.now in
    let names = names_met view cap s t world into c.in_ok-ask_view.ensures
    c.in_ok-ask_map.ensures c.in_ok-from.ensures.meets c.in_ok-to.ensures.meets in
    part_unmet view cap s t world into c.from_residual-in_err-ask_given.result _
    c.from_residual-in_err-ask_given.ensures.1 4 names c.in_err-ask_given.ensures

pub returns-in_err-ask_type-clause-meets : goal.returns-in_err-ask_type-clause-meets
returns-in_err-ask_type-clause-meets g c =
    let w = (watch-value g.row.B g.B.Observer g.B.Observer-dict g.B.Destruct-dict).it in
    let world = plain_of w c.args.self.now in
    let view = c.args.view.now in
    let cap = c.args.cap.now in
    let s = c.args.s.now in
    let t = c.args.t.now in
    let into = c.args.into.now in
    let names = names_met view cap s t world into c.in_ok-ask_view.ensures
    c.in_ok-ask_map.ensures c.in_ok-from.ensures.meets c.in_ok-to.ensures.meets in
    let given = met_next world (flow_parts view cap s t into) 4 names
    c.in_ok-ask_given.ensures in
    flow_unmet view cap s t world into c.from_residual-in_err-ask_type.result _
    c.from_residual-in_err-ask_type.ensures.1 (demands.HasType Arc Ints cap) 5 given refl
    c.in_err-ask_type.ensures

pub returns-in_err-ask_given_flow-clause-meets : goal.returns-in_err-ask_given_flow-clause-meets
returns-in_err-ask_given_flow-clause-meets g c =
    let w = (watch-value g.row.B g.B.Observer g.B.Observer-dict g.B.Destruct-dict).it in
    let world = plain_of w c.args.self.now in
    let view = c.args.view.now in
    let cap = c.args.cap.now in
    let s = c.args.s.now in
    let t = c.args.t.now in
    let into = c.args.into.now in
    let names = names_met view cap s t world into c.in_ok-ask_view.ensures
    c.in_ok-ask_map.ensures c.in_ok-from.ensures.meets c.in_ok-to.ensures.meets in
    let given = met_next world (flow_parts view cap s t into) 4 names
    c.in_ok-ask_given.ensures in
    let typed = met_next world (flow_parts view cap s t into) 5 given
    (one_met world (demands.HasType Arc Ints cap) c.in_ok-ask_type.ensures) in
    part_unmet view cap s t world into c.from_residual-in_err-ask_given_flow.result _
    c.from_residual-in_err-ask_given_flow.ensures.1 6 typed c.in_err-ask_given_flow.ensures

pub returns-in_err-asked-clause-meets : goal.returns-in_err-asked-clause-meets
returns-in_err-asked-clause-meets g c =
    let w = (watch-value g.row.B g.B.Observer g.B.Observer-dict g.B.Destruct-dict).it in
    let world = plain_of w c.args.self.now in
    let view = c.args.view.now in
    let cap = c.args.cap.now in
    let s = c.args.s.now in
    let t = c.args.t.now in
    let into = c.args.into.now in
    let names = names_met view cap s t world into c.in_ok-ask_view.ensures
    c.in_ok-ask_map.ensures c.in_ok-from.ensures.meets c.in_ok-to.ensures.meets in
    let maps = maps_met view cap s t world into names c.in_ok-ask_given.ensures
    c.in_ok-ask_type.ensures c.in_ok-ask_given_flow.ensures in
    flow_unmet view cap s t world into c.from_residual-in_err-asked.result _
    c.from_residual-in_err-asked.ensures.1 (demands.IsSmall view) 7 maps refl
    c.in_err-asked.ensures.meets

pub returns-in_err-ask_differ-clause-meets : goal.returns-in_err-ask_differ-clause-meets
returns-in_err-ask_differ-clause-meets g c =
    let w = (watch-value g.row.B g.B.Observer g.B.Observer-dict g.B.Destruct-dict).it in
    let world = plain_of w c.args.self.now in
    let view = c.args.view.now in
    let cap = c.args.cap.now in
    let s = c.args.s.now in
    let t = c.args.t.now in
    let into = c.args.into.now in
    let names = names_met view cap s t world into c.in_ok-ask_view.ensures
    c.in_ok-ask_map.ensures c.in_ok-from.ensures.meets c.in_ok-to.ensures.meets in
    let maps = maps_met view cap s t world into names c.in_ok-ask_given.ensures
    c.in_ok-ask_type.ensures c.in_ok-ask_given_flow.ensures in
    let small = met_next world (flow_parts view cap s t into) 7 maps
    (one_met world (demands.IsSmall view) c.in_ok-asked.ensures.meets) in
    flow_unmet view cap s t world into c.from_residual-in_err-ask_differ.result _
    c.from_residual-in_err-ask_differ.ensures.1 (demands.Differ s t) 8 small refl
    (c.in_err-ask_differ.ensures world)

pub returns-in_err-caps-clause-meets : goal.returns-in_err-caps-clause-meets
returns-in_err-caps-clause-meets g c =
    let w = (watch-value g.row.B g.B.Observer g.B.Observer-dict g.B.Destruct-dict).it in
    let world = plain_of w c.args.self.now in
    let view = c.args.view.now in
    let cap = c.args.cap.now in
    let s = c.args.s.now in
    let t = c.args.t.now in
    let into = c.args.into.now in
    let names = names_met view cap s t world into c.in_ok-ask_view.ensures
    c.in_ok-ask_map.ensures c.in_ok-from.ensures.meets c.in_ok-to.ensures.meets in
    let maps = maps_met view cap s t world into names c.in_ok-ask_given.ensures
    c.in_ok-ask_type.ensures c.in_ok-ask_given_flow.ensures in
    let nodes = nodes_met view cap s t world into maps c.in_ok-asked.ensures.meets
    (c.in_ok-ask_differ.ensures world) in
    let fault = c.in_err-caps.field-0.0 in
    flow_unmet view cap s t world into c.from_residual-in_err-caps.result fault
    c.from_residual-in_err-caps.ensures.1 (demands.ArcsInRange view cap) 9 nodes refl
    (subst (λ v. Is (breach world (demands.ArcsInRange v cap)) fault) c.in_ok-asked.ensures.view
    c.in_err-caps.ensures.meets)

pub ask_at_least-requires : goal.ask_at_least-requires
ask_at_least-requires g c = record {
  in_step = c.requires;
  asks = c.in_ok-asked.ensures.asks;
  all = ap length (c.as_slice.ensures.value ∙ c.in_ok-caps.ensures.ints) ∙ length-map _ _;
}

pub returns-in_err-ask_at_least-clause-meets : goal.returns-in_err-ask_at_least-clause-meets
returns-in_err-ask_at_least-clause-meets g c =
    let w = (watch-value g.row.B g.B.Observer g.B.Observer-dict g.B.Destruct-dict).it in
    let world = plain_of w c.args.self.now in
    let view = c.args.view.now in
    let cap = c.args.cap.now in
    let s = c.args.s.now in
    let t = c.args.t.now in
    let into = c.args.into.now in
    let names = names_met view cap s t world into c.in_ok-ask_view.ensures
    c.in_ok-ask_map.ensures c.in_ok-from.ensures.meets c.in_ok-to.ensures.meets in
    let maps = maps_met view cap s t world into names c.in_ok-ask_given.ensures
    c.in_ok-ask_type.ensures c.in_ok-ask_given_flow.ensures in
    let nodes = nodes_met view cap s t world into maps c.in_ok-asked.ensures.meets
    (c.in_ok-ask_differ.ensures world) in
    let within = subst (λ v. breach world (demands.ArcsInRange v cap) ≡ None)
    c.in_ok-asked.ensures.view c.in_ok-caps.ensures.meets in
    let all = met_next world (flow_parts view cap s t into) 9 nodes
    (one_met world (demands.ArcsInRange view cap) within) in
    let fault = c.in_err-ask_at_least.field-0.0 in
    flow_unmet view cap s t world into c.from_residual-in_err-ask_at_least.result fault
    c.from_residual-in_err-ask_at_least.ensures.1 (demands.ArcsAtLeast view 0 cap) 10 all refl
    (subst (λ v. Is (breach world (demands.ArcsAtLeast v 0 cap)) fault)
    c.in_ok-asked.ensures.view (c.in_err-ask_at_least.ensures.meets cap
    (c.as_slice.ensures.value ∙ c.in_ok-caps.ensures.ints)))

pub returns-clause-meets : goal.returns-clause-meets
returns-clause-meets g c =
    let w = (watch-value g.row.B g.B.Observer g.B.Observer-dict g.B.Destruct-dict).it in
    let world = plain_of w c.args.self.now in
    let view = c.args.view.now in
    let cap = c.args.cap.now in
    let s = c.args.s.now in
    let t = c.args.t.now in
    let into = c.args.into.now in
    let names = names_met view cap s t world into c.in_ok-ask_view.ensures
    c.in_ok-ask_map.ensures c.in_ok-from.ensures.meets c.in_ok-to.ensures.meets in
    let maps = maps_met view cap s t world into names c.in_ok-ask_given.ensures
    c.in_ok-ask_type.ensures c.in_ok-ask_given_flow.ensures in
    let nodes = nodes_met view cap s t world into maps c.in_ok-asked.ensures.meets
    (c.in_ok-ask_differ.ensures world) in
    let within = subst (λ v. breach world (demands.ArcsInRange v cap) ≡ None)
    c.in_ok-asked.ensures.view c.in_ok-caps.ensures.meets in
    flow_met view cap s t world into nodes within
    (subst (λ v. breach world (demands.ArcsAtLeast v 0 cap) ≡ None)
    c.in_ok-asked.ensures.view (c.in_ok-ask_at_least.ensures.meets cap
    (c.as_slice.ensures.value ∙ c.in_ok-caps.ensures.ints)))

pub returns-clause-takes : goal.returns-clause-takes
returns-clause-takes g c =
    let w = (watch-value g.row.B g.B.Observer g.B.Observer-dict g.B.Destruct-dict).it in
    let world = plain_of w c.args.self.now in
    given_takes c.args.view.now c.args.cap.now c.args.s.now c.args.t.now world c.args.into.now
    c.in_ok-ask_given_flow.ensures

pub returns-clause-asks : goal.returns-clause-asks
returns-clause-asks g c =
    let w = (watch-value g.row.B g.B.Observer g.B.Observer-dict g.B.Destruct-dict).it in
    let world = plain_of w c.args.self.now in
    let view = c.args.view.now in
    let cap = c.args.cap.now in
    let s = c.args.s.now in
    let t = c.args.t.now in
    let asked = c.in_ok-asked.asked in
    let asks = c.in_ok-asked.ensures.asks in
    let view_is = c.in_ok-asked.ensures.view in
    let from = c.in_ok-from.from in
    let to = c.in_ok-to.to in
    let source = c.node_number-source.result in
    let target = c.node_number-target.result in
    let s_named = c.in_ok-from.ensures.found in
    let t_named = c.in_ok-to.ensures.found in
    let source_is = c.node_number-source.ensures in
    let target_is = c.node_number-target.ensures in
    record {
      asks = asks;
      view_is = view_is;
      caps = lengths_read world view cap s asked asks view_is c.in_ok-caps.caps.items
          c.in_ok-caps.ensures.ints;
      small = c.in_ok-caps.ensures.small;
      least = subst (All (λ x. pos 0 ≤ℤ x)) c.as_slice.ensures.value
          c.in_ok-ask_at_least.ensures.least;
      source_is = start_read world view cap s asked asks view_is from source s_named source_is;
      target_is = start_read world view cap t asked asks view_is to target t_named target_is;
      source_inside = start_inside world view cap s asked asks view_is from source s_named
          source_is;
      target_inside = start_inside world view cap t asked asks view_is to target t_named
          target_is;
      apart = λ same. numbers_apart world view s t from to s_named t_named
          (c.in_ok-ask_differ.ensures world)
          (sym (place_is world view cap s asked asks view_is from source s_named source_is)
          ∙ same ∙ place_is world view cap t asked asks view_is to target t_named target_is);
    }
