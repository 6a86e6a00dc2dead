use Rattle.std.proofs.Common.{◌≡◌, ℕ, List, length, drop, refl, sym, ◌∙◌, ap}
use Rattle.std.proofs.Common.{subst, arith}
use Rattle.std.proofs.lemmas.List.{take_at}
use Rattle.plain_certificates.specs.Cuts.{IsCut}
use Rattle.plain_certificates.specs.Numbered.{net}
use Rattle.plain_certificates.specs.Rooms.{as_flow}
use Rattle.static_digraph.specs.Fixed.{graph_of}
use Rattle.push_flow.specs.Search.{side_of}
use Rattle.push_flow.specs.declared.push.Ends.{Ends}
use Rattle.push_flow.specs.Slices.{at, ends_at, graph_of as graph_in}
use Rattle.flow_rows.proofs.Carrying.{cut_carried}
use Rattle.flow_preflow.proofs.Sums.{light}
use Rattle.flow_preflow.proofs.found.find.Goals as goal

pub find_cut-requires-clause-light : goal.find_cut-requires-clause-light
find_cut-requires-clause-light c =
    let ends = ap length c.deref.ensures.value in
    let all = c.requires.network.ends_all in
    let caps = c.requires.caps in
    let few = c.arc_count.ensures.few in
    let count = c.arc_count.ensures.count in
    light c.args.cap.now (length c.deref.result.now) (omega (arith, ends, all, caps))
    (omega (arith, ends, all, few, count)) c.requires.high

pub returns : goal.returns
returns c =
    let g = graph_of c.args.g.now in
    let net' = c.requires.network in
    let E = c.deref.result.now in
    let new = c.find_cut.new in
    let count = c.node_count-nodes.ensures.count in
    let caps = c.requires.caps in
    let a = c.find_cut.auto.flow in
    let b = c.deref_mut.ensures.len in
    let d = c.in_ok-flow.ensures.len in
    let p = c.find_cut.auto.side in
    let q = c.deref_mut-8.ensures.len in
    let r = c.in_ok-side.ensures.len in
    let x = c.deref_mut-5.ensures.len in
    let y = c.in_ok-height.ensures.len in
    let flow_is = take_at new.flow (drop (length new.flow) c.in_ok-flow.flow.items)
    c.in_ok-flow.flow.len (omega (arith, a, b)) in
    let side_is = take_at new.side (drop (length new.side) c.in_ok-side.side.items)
    c.in_ok-side.side.len (omega (arith, p, q)) in
    let n_is : length c.deref_mut-5.result.now ≡ g.nodes = omega (arith, x, y, count) in
    let same = c.deref.ensures.value in
    let cut : IsCut (graph_in g.nodes E) (as_flow (at c.args.cap.now)) c.args.s c.args.t
    (as_flow (at new.flow)) (side_of g.nodes (at new.side))
    (net (graph_in g.nodes E) (as_flow (at new.flow)) c.args.s) =
    subst (λ (n : ℕ). IsCut (graph_in n E) (as_flow (at c.args.cap.now)) c.args.s c.args.t
    (as_flow (at new.flow)) (side_of n (at new.side))
    (net (graph_in n E) (as_flow (at new.flow)) c.args.s)) n_is c.find_cut.ensures in
    rw (flow_is, side_is) (record {
      flow_all = omega (arith, a, b, d, caps);
      height_all = omega (arith, p, q, r, count);
      cut = cut_carried g (graph_in g.nodes E) (ap length same ∙ net'.ends_all)
          (λ k l. subst (λ (xs : List Ends). ((ends_at xs k).from ≡ g.from k)
          × ((ends_at xs k).to ≡ g.to k)) (sym same) (net'.ends_are k l))
          refl (as_flow (at c.args.cap.now)) c.args.s c.args.t (as_flow (at new.flow))
          (side_of g.nodes (at new.side)) cut;
    })
