use Rattle.std.proofs.Common.{◌≡◌, ◌<◌, [], ◌∷◌, length, length-append}
use Rattle.std.proofs.Common.{get_or, take, map, option_map, refl, sym, ap, subst, ◌∙◌}
use Rattle.std.proofs.Common.{arith}
use Rattle.std.specs.List.{flat_map}
use Rattle.plain_digraph.specs.Lists.{after, first}
use Rattle.plain_views.specs.Shown.{arcs_from, out_ids}
use Rattle.view_numbers.specs.Listed.{IsGathering, fact_shown, fact_at}
use Rattle.view_numbers.proofs.Walking.{ahead_shorter}
use Rattle.view_numbers.proofs.Gathering.{gather_begins, gather_more, gather_left}
use Rattle.view_numbers.proofs.Gathering.{out_differ, out_there}
use Rattle.view_numbers.proofs.listing.list_arcs.Goals as goal

pub loop-next-init : goal.loop-next-init
loop-next-init g c =
    let p = g.G.Shown.graph c.args.g.now in
    let shown = g.met.G.Shown.valid c.args.g.now in
    let i = c.loop-node.node-index in
    let l = c.loop-node-test.true in
    let is = c.requires in
    let met = c.loop-node.arcs.items in
    let gathered = subst (λ ns. met ≡ map fact_shown (flat_map (arcs_from p) (take i ns))) is
    c.loop-node.invariant.gathered in
    let begun = gather_begins p shown i met (subst (λ ns. i < length ns) is l) gathered in
    rw c.first_out-next.ensures (record {
      inside = l;
      gathering = subst
          (λ ns. IsGathering p i (get_or ns i 0) met (first (out_ids p (get_or ns i 0))))
          (sym is) begun;
      few = c.loop-node.invariant.few;
    })

pub returns-then-len-clause-full : goal.returns-then-len-clause-full
returns-then-len-clause-full g c =
    let p = g.G.Shown.graph c.args.g.now in
    let shown = g.met.G.Shown.valid c.args.g.now in
    let i = c.loop-node.node-index in
    let node = get_or c.args.nodes.now i 0 in
    let met = c.loop-next.arcs.items in
    let gathering =
    subst (λ next. IsGathering p i node met (option_map (λ a. a.0) next)) c.in-Some.is
    c.loop-next.invariant.gathering in
    let l = subst (λ ns. i < length ns) c.requires c.loop-next.invariant.inside in
    let left = gather_left p shown i node met c.in-Some.a.0 l gathering in
    let full = c.if-len.true in
    let len = c.len.ensures in
    omega (arith, left, full, len)

pub ends-requires : goal.ends-requires
ends-requires g c =
    let p = g.G.Shown.graph c.args.g.now in
    let shown = g.met.G.Shown.valid c.args.g.now in
    let i = c.loop-node.node-index in
    let node = get_or c.args.nodes.now i 0 in
    let gathering =
    subst (λ next. IsGathering p i node c.loop-next.arcs.items (option_map (λ a. a.0) next))
    c.in-Some.is c.loop-next.invariant.gathering in
    (out_there p shown node c.in-Some.a.0 (gathering.there c.in-Some.a.0 refl)).0

pub next_out-next-requires : goal.next_out-next-requires
next_out-next-requires g c =
    let p = g.G.Shown.graph c.args.g.now in
    let shown = g.met.G.Shown.valid c.args.g.now in
    let i = c.loop-node.node-index in
    let node = get_or c.args.nodes.now i 0 in
    let gathering =
    subst (λ next. IsGathering p i node c.loop-next.arcs.items (option_map (λ a. a.0) next))
    c.in-Some.is c.loop-next.invariant.gathering in
    (out_there p shown node c.in-Some.a.0 (gathering.there c.in-Some.a.0 refl)).0

pub loop-next-smaller : goal.loop-next-smaller
loop-next-smaller g c =
    let p = g.G.Shown.graph c.args.g.now in
    let shown = g.met.G.Shown.valid c.args.g.now in
    let i = c.loop-node.node-index in
    let node = get_or c.args.nodes.now i 0 in
    let id = c.in-Some.a.0 in
    let gathering =
    subst (λ next. IsGathering p i node c.loop-next.arcs.items (option_map (λ a. a.0) next))
    c.in-Some.is c.loop-next.invariant.gathering in
    let there = gathering.there id refl in
    let source = (out_there p shown node id there).1 in
    let next : option_map (λ a. a.0) c.next_out-next.result ≡ after (out_ids p node) id =
    c.next_out-next.ensures ∙ ap (λ v. after (out_ids p v) id) source in
    rw (c.in-Some.is, next) (ahead_shorter (out_ids p node) id (out_differ p shown node) there)

pub loop-next-preserved : goal.loop-next-preserved
loop-next-preserved g c =
    let p = g.G.Shown.graph c.args.g.now in
    let shown = g.met.G.Shown.valid c.args.g.now in
    let i = c.loop-node.node-index in
    let node = get_or c.args.nodes.now i 0 in
    let id = c.in-Some.a.0 in
    let met = c.loop-next.arcs.items in
    let gathering =
    subst (λ next. IsGathering p i node met (option_map (λ a. a.0) next)) c.in-Some.is
    c.loop-next.invariant.gathering in
    let there = gathering.there id refl in
    let source = (out_there p shown node id there).1 in
    let next : option_map (λ a. a.0) c.next_out-next.result ≡ after (out_ids p node) id =
    c.next_out-next.ensures ∙ ap (λ v. after (out_ids p v) id) source in
    let few = c.loop-next.invariant.few in
    let off = c.if-len.false in
    let len = c.len.ensures in
    rw (c.in_ok-push.ensures.items, next, c.ends.ensures.from, c.ends.ensures.to) (record {
      inside = c.loop-next.invariant.inside;
      gathering = gather_more p shown i node met id gathering;
      few = (let size =
          length-append met (fact_at p id ∷ []) in omega (arith, few, off, len, size));
    })
