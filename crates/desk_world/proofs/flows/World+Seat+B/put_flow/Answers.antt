use Rattle.std.proofs.Common.{suc, ◌≡◌, ◌<◌, ◌-◌, ◌∷◌, drop, drop-cons, get_or, length, refl, sym}
use Rattle.std.proofs.Common.{ap, ◌∙◌, subst, arith, pos, FitsSigned, w64, rules}
use Rattle.std.proofs.lemmas.Int.{to_z-of_z}
use Rattle.std.proofs.lemmas.List.{drop_all}
use Rattle.base_items.specs.declared.items.ItemSort.TheVariants.{Arc}
use Rattle.script_words.specs.declared.commands.MapType.TheVariants.{Ints}
use Rattle.plain_views.specs.Marks.{arc_origin}
use Rattle.plain_views.specs.TowerLaws.{IsLiveOrigin}
use Rattle.plain_world.proofs.Named.{live_listed}
use Rattle.view_tower.specs.Layers.{tower_of, origin_of}
use Rattle.desk_seats.specs.contracts.seat.SeatObserver.TheImpl.{watch-value}
use Rattle.desk_world.specs.Flows.{with_ints, flow_by, with_flow_at}
use Rattle.desk_world.specs.Plain.{plain_of}
use Rattle.desk_world.specs.Values.{HasType}
use Rattle.desk_world.proofs.FlowWrites.{ints_typed}
use Rattle.desk_world.proofs.FlowSpread.{flow_next, all_of_at}
use Rattle.desk_world.proofs.flows.World+Seat+B.put_flow.Goals as goal

pub loop-left-init : goal.loop-left-init
loop-left-init g c =
    let w = (watch-value g.row.B g.B.Observer g.B.Observer-dict g.B.Destruct-dict).it in
    let world = plain_of w c.args.self.now in
    let arcs = c.args.arcs.now in
    let n = length arcs in
    record {
      inside = omega arith;
      in_step = c.requires.in_step;
      written = subst (λ xs. world ≡ with_ints world c.args.map.now
          (flow_by (tower_of c.args.layers.now) xs (drop n c.args.flow.now)))
          (sym (drop_all n arcs (omega arith))) c.requires.cleared;
      graph = refl;
    }

pub put_flow_at-requires : goal.put_flow_at-requires
put_flow_at-requires g c =
    let w = (watch-value g.row.B g.B.Observer g.B.Observer-dict g.B.Destruct-dict).it in
    let world = plain_of w c.args.self.now in
    let map = c.args.map.now in
    let tower = tower_of c.args.layers.now in
    let arcs = c.args.arcs.now in
    let flow = c.args.flow.now in
    let left = c.loop-left.left in
    let test = c.loop-left-test.true in
    let inside = c.loop-left.invariant.inside in
    record {
      in_step = c.loop-left.invariant.in_step;
      of_type = subst (λ x. HasType x Arc map Ints) (sym c.loop-left.invariant.written)
          (ints_typed world map c.requires.of_type
          (flow_by tower (drop left arcs) (drop left flow)));
      live = subst (λ d. IsLiveOrigin d.graph (origin_of c.arc_from.result))
          (sym c.loop-left.invariant.graph)
          (subst (IsLiveOrigin c.args.self.now.graph.graph.graph) (sym c.arc_from.ensures)
          (all_of_at (λ arc. IsLiveOrigin c.args.self.now.graph.graph.graph
          (arc_origin tower arc)) arcs (left - 1) (omega (arith, test, inside)) c.requires.live));
    }

pub loop-left-preserved : goal.loop-left-preserved
loop-left-preserved g c =
    let w = (watch-value g.row.B g.B.Observer g.B.Observer-dict g.B.Destruct-dict).it in
    let world = plain_of w c.args.self.now in
    let map = c.args.map.now in
    let tower = tower_of c.args.layers.now in
    let arcs = c.args.arcs.now in
    let flow = c.args.flow.now in
    let left = c.loop-left.left in
    let test = c.loop-left-test.true in
    let inside = c.loop-left.invariant.inside in
    let sizes = c.requires.sizes in
    let k = left - 1 in
    let in_arcs : k < length arcs = omega (arith, test, inside) in
    let in_flow : k < length flow = omega (arith, test, inside, sizes) in
    let back : suc k ≡ left = omega (arith, test) in
    let id = get_or arcs k 0 in
    let x = get_or flow k (pos 0) in
    let fits : FitsSigned w64 x = search rules in
    let arcs_are : drop k arcs ≡ id ∷ drop left arcs =
    drop-cons arcs k 0 in_arcs ∙ ap (λ n. id ∷ drop n arcs) back in
    let flow_are : drop k flow ≡ x ∷ drop left flow =
    drop-cons flow k (pos 0) in_flow ∙ ap (λ n. x ∷ drop n flow) back in
    let live = all_of_at (λ arc. IsLiveOrigin c.args.self.now.graph.graph.graph
    (arc_origin tower arc)) arcs k in_arcs c.requires.live in
    let now = plain_of w c.loop-left.self in
    let later = plain_of w c.put_flow_at.new.self in
    let told : later ≡ with_flow_at now map (origin_of c.arc_from.result) x =
    rw (to_z-of_z w64 x fits) at c.put_flow_at.ensures.put in
    let wrote : later ≡ with_flow_at now map (arc_origin tower id) x =
    told ∙ ap (λ o. with_flow_at now map o x) c.arc_from.ensures in
    record {
      inside = omega (arith, inside);
      in_step = c.put_flow_at.ensures.in_step;
      written = flow_next tower world map id x (drop left arcs) (drop left flow) now later
          (λ arc is. live_listed world Arc arc c.requires.in_step.graph.valid is) live
          c.loop-left.invariant.written wrote
          ∙ (λ i. with_ints world map (flow_by tower (sym arcs_are i) (sym flow_are i)));
      graph = c.put_flow_at.ensures.graph ∙ c.loop-left.invariant.graph;
    }

pub returns-clause-written : goal.returns-clause-written
returns-clause-written g c =
    let w = (watch-value g.row.B g.B.Observer g.B.Observer-dict g.B.Destruct-dict).it in
    let world = plain_of w c.args.self.now in
    let test = c.loop-left-test.false in
    let none : c.loop-left.left ≡ 0 = omega (arith, test) in
    subst (λ n. plain_of w c.loop-left.self ≡ with_ints world c.args.map.now
    (flow_by (tower_of c.args.layers.now) (drop n c.args.arcs.now) (drop n c.args.flow.now)))
    none c.loop-left.invariant.written
