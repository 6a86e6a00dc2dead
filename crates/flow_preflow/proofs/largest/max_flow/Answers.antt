use Rattle.std.proofs.Common.{◌≡◌, ◌≤◌, ◌<◌, ◌^◌, All, List, ℕ, length, to_z, of_z, w64}
use Rattle.std.proofs.Common.{sym, ◌∙◌, ap, subst, arith, map, pos, eqb}
use Rattle.std.proofs.lemmas.Int.{ints, to_z-of_z}
use Rattle.std.proofs.lemmas.List.{length-map}
use Rattle.plain_certificates.specs.Numbered.{net}
use Rattle.plain_certificates.specs.Rooms.{as_flow}
use Rattle.static_digraph.specs.Fixed.{graph_of}
use Rattle.push_flow.specs.declared.push.Ends.{Ends}
use Rattle.push_flow.specs.Slices.{at, graph_of as graph_in}
use Rattle.flow_rows.proofs.Carrying.{net_carried}
use Rattle.flow_preflow.proofs.Telling.{caps_short, flow_short, told}
use Rattle.flow_preflow.specs.Answers.{IsFound}
use Rattle.flow_preflow.proofs.largest.max_flow.Goals as goal

pub find-requires-clause-high : goal.find-requires-clause-high
find-requires-clause-high c =
    subst (All (λ x. x ≤ 2 ^ 36)) (sym c.deref.ensures.value)
    (caps_short c.args.cap.now c.in_ok-caps.caps.items c.in_ok-caps.ensures c.requires.high)

pub sent_by-value-requires-clause-short : goal.sent_by-value-requires-clause-short
sent_by-value-requires-clause-short c =
    let g = graph_of c.args.g.now in
    let caps = c.in_ok-caps.caps.items in
    let flow = c.in_ok-found.found.flow.items in
    let side = c.in_ok-found.found.side.items in
    let high = caps_short c.args.cap.now caps c.in_ok-caps.ensures c.requires.high in
    let size : length caps ≡ g.arcs =
    sym (length-map caps pos) ∙ (ap length c.in_ok-caps.ensures ∙ c.requires.caps) in
    let found = subst (λ (xs : List ℕ). IsFound g xs c.args.s c.args.t flow side)
    c.deref.ensures.value c.in_ok-found.ensures in
    subst (All (λ x. x ≤ 2 ^ 36)) (sym c.deref-3.ensures.value)
    (flow_short g caps c.args.s c.args.t flow side found size high)

pub signed-requires : goal.signed-requires
signed-requires c =
    let g = graph_of c.args.g.now in
    let caps = c.in_ok-caps.caps.items in
    let flow = c.in_ok-found.found.flow.items in
    let side = c.in_ok-found.found.side.items in
    let high = caps_short c.args.cap.now caps c.in_ok-caps.ensures c.requires.high in
    let size : length caps ≡ g.arcs =
    sym (length-map caps pos) ∙ (ap length c.in_ok-caps.ensures ∙ c.requires.caps) in
    let found = subst (λ (xs : List ℕ). IsFound g xs c.args.s c.args.t flow side)
    c.deref.ensures.value c.in_ok-found.ensures in
    let short = flow_short g caps c.args.s c.args.t flow side found size high in
    subst (All (λ x. x < 2 ^ 63)) (sym c.deref-4.ensures.value)
    (λ k d l. (let low = short k d l in omega (arith, low)))

pub returns : goal.returns
returns c =
    let g = graph_of c.args.g.now in
    let caps = c.in_ok-caps.caps.items in
    let flow = c.in_ok-found.found.flow.items in
    let side = c.in_ok-found.found.side.items in
    let found = subst (λ (xs : List ℕ). IsFound g xs c.args.s c.args.t flow side)
    c.deref.ensures.value c.in_ok-found.ensures in
    let net' = c.in_ok-net.ensures in
    let ends = c.in_ok-net.net.ends.items in
    let count = c.node_count-nodes.ensures.count in
    let value : c.sent_by-value.result ≡ net g (as_flow (at flow)) c.args.s =
    c.sent_by-value.ensures.is
    ∙ (ap (λ (xs : List ℕ). net (graph_in 0 c.deref-2.result.now) (as_flow (at xs)) c.args.s)
    c.deref-3.ensures.value
    ∙ (ap (λ (xs : List Ends). net (graph_in 0 xs) (as_flow (at flow)) c.args.s)
    c.deref-2.ensures.value
    ∙ net_carried g (graph_in 0 ends) net'.ends_all net'.ends_are (as_flow (at flow)) c.args.s)) in
    let flows : c.in_ok-flow.flow ≡ map pos flow =
    c.in_ok-flow.ensures ∙ ap (λ (xs : List ℕ). map pos xs) c.deref-4.ensures.value in
    let sides : c.in_ok-side.side ≡ map (λ h. eqb h g.nodes) side =
    c.in_ok-side.ensures
    ∙ (ap (λ (xs : List ℕ). map (λ h. eqb h c.node_count-nodes.result) xs) c.deref-5.ensures.value
    ∙ ap (λ (n : ℕ). map (λ h. eqb h n) side) count) in
    let low = c.sent_by-value.ensures.low in
    let high = c.sent_by-value.ensures.high in
    let same : to_z w64 (of_z w64 c.sent_by-value.result) ≡ c.sent_by-value.result =
    to_z-of_z w64 c.sent_by-value.result (search (arith, ints, low, high)) in
    rw (same, flows, sides)
    (told g caps c.args.s c.args.t flow side found c.args.cap.now c.sent_by-value.result
    c.requires.nodes.0 c.in_ok-caps.ensures value)
