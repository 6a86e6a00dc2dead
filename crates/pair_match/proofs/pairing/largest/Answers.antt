use Rattle.std.proofs.Common.{◌∙◌, ◌&&◌, length, map, filter, not, eqb}
use Rattle.std.proofs.Common.{ap, arith}
use Rattle.std.specs.List.{range_with_len}
use Rattle.plain_certificates.specs.Tables.{at}
use Rattle.static_digraph.specs.Fixed.{graph_of}
use Rattle.pair_match.proofs.Runs.{first_run, flow_long, second_run, sent_excess, sent_height, told}
use Rattle.pair_match.specs.Facing.{flags}
use Rattle.pair_match.proofs.pairing.largest.Goals as goal

pub left_to_right-requires : goal.left_to_right-requires
left_to_right-requires c k l =
    let net' = c.in_ok-laid.ensures in
    let size = net'.ends_all in
    let from = (net'.ends_are k (omega (arith, l, size))).0 in
    let inside = (net'.within k (omega (arith, l, size))).0 in
    let all = c.requires.sizes in
    omega (arith, from, inside, all)

pub settle-requires : goal.settle-requires
settle-requires c =
    let g = graph_of c.args.g.now in
    let few = c.node_count.ensures.few in
    let count = c.node_count.ensures.count in
    let net = c.in_ok-net.net in
    first_run g c.args.left.now c.requires.sizes (omega (arith, few, count))
    c.arc_count-arcs.ensures.ends c.requires.sides net.ends.items net.start.items net.row.items
    (c.in_ok-net.ensures g c.in_ok-laid.ensures) c.in_ok-caps.caps.items c.arc_count-arcs.result
    c.arc_count-arcs.ensures.count (c.in_ok-caps.ensures.items_if_clones_equal (λ y e. e))
    c.in_ok-begun.begun c.in_ok-begun.ensures c.deref.result.now c.deref.ensures.value

pub stuck_left-requires : goal.stuck_left-requires
stuck_left-requires c =
    let g = graph_of c.args.g.now in
    let few = c.node_count.ensures.few in
    let count = c.node_count.ensures.count in
    let net = c.in_ok-net.net in
    ap length c.deref-2.ensures.value
    ∙ sent_height g c.args.left.now c.requires.sizes (omega (arith, few, count))
    c.arc_count-arcs.ensures.ends c.requires.sides net.ends.items net.start.items net.row.items
    (c.in_ok-net.ensures g c.in_ok-laid.ensures) c.in_ok-caps.caps.items c.arc_count-arcs.result
    c.arc_count-arcs.ensures.count (c.in_ok-caps.ensures.items_if_clones_equal (λ y e. e))
    c.in_ok-begun.begun c.in_ok-begun.ensures c.deref.result.now c.deref.ensures.value
    c.in_ok-sent.sent c.in_ok-sent.ensures

pub second_load-requires : goal.second_load-requires
second_load-requires c =
    let g = graph_of c.args.g.now in
    let few = c.node_count.ensures.few in
    let count = c.node_count.ensures.count in
    let net = c.in_ok-net.net in
    sent_excess g c.args.left.now c.requires.sizes (omega (arith, few, count))
    c.arc_count-arcs.ensures.ends c.requires.sides net.ends.items net.start.items net.row.items
    (c.in_ok-net.ensures g c.in_ok-laid.ensures) c.in_ok-caps.caps.items c.arc_count-arcs.result
    c.arc_count-arcs.ensures.count (c.in_ok-caps.ensures.items_if_clones_equal (λ y e. e))
    c.in_ok-begun.begun c.in_ok-begun.ensures c.deref.result.now c.deref.ensures.value
    c.in_ok-sent.sent c.in_ok-sent.ensures

pub settle-requires-2 : goal.settle-requires-2
settle-requires-2 c =
    let g = graph_of c.args.g.now in
    let few = c.node_count.ensures.few in
    let count = c.node_count.ensures.count in
    let net = c.in_ok-net.net in
    second_run g c.args.left.now c.requires.sizes (omega (arith, few, count))
    c.arc_count-arcs.ensures.ends c.requires.sides net.ends.items net.start.items net.row.items
    (c.in_ok-net.ensures g c.in_ok-laid.ensures) c.in_ok-caps.caps.items c.arc_count-arcs.result
    c.arc_count-arcs.ensures.count (c.in_ok-caps.ensures.items_if_clones_equal (λ y e. e))
    c.in_ok-begun.begun c.in_ok-begun.ensures c.deref.result.now c.deref.ensures.value
    c.in_ok-sent.sent c.in_ok-sent.ensures c.in_ok-again.again c.in_ok-again.ensures
    c.deref-3.result.now c.deref-3.ensures.value

pub arcs_in_use-requires : goal.arcs_in_use-requires
arcs_in_use-requires c =
    let g = graph_of c.args.g.now in
    let few = c.node_count.ensures.few in
    let count = c.node_count.ensures.count in
    let few_arcs = c.arc_count-arcs.ensures.few in
    let arcs = c.arc_count-arcs.ensures.count in
    let net = c.in_ok-net.net in
    let same = ap length c.deref-4.ensures.value in
    let long = flow_long g c.args.left.now c.requires.sizes (omega (arith, few, count))
    c.arc_count-arcs.ensures.ends c.requires.sides net.ends.items net.start.items net.row.items
    (c.in_ok-net.ensures g c.in_ok-laid.ensures) c.in_ok-caps.caps.items c.arc_count-arcs.result
    c.arc_count-arcs.ensures.count (c.in_ok-caps.ensures.items_if_clones_equal (λ y e. e))
    c.in_ok-begun.begun c.in_ok-begun.ensures c.deref.result.now c.deref.ensures.value
    c.in_ok-sent.sent c.in_ok-sent.ensures c.in_ok-again.again c.in_ok-again.ensures
    c.deref-3.result.now c.deref-3.ensures.value c.in_ok-ended.ended c.in_ok-ended.ensures in
    omega (arith, same, long, few_arcs, arcs)

pub returns : goal.returns
returns c =
    let g = graph_of c.args.g.now in
    let left = c.args.left.now in
    let few = c.node_count.ensures.few in
    let count = c.node_count.ensures.count in
    let net = c.in_ok-net.net in
    let pairs = c.in_ok-pairs.ensures
    ∙ ap (λ xs. filter (λ k. not (eqb (at 0 xs k) 0)) (range_with_len 0 (length xs)))
    c.deref-4.ensures.value in
    let hall = c.in_ok-hall.ensures
    ∙ ap (λ xs. map (λ v. flags left v && eqb (at 0 xs v) (length left))
    (range_with_len 0 (length left))) c.deref-2.ensures.value in
    let shown = told g left c.requires.sizes (omega (arith, few, count))
    c.arc_count-arcs.ensures.ends c.requires.sides net.ends.items net.start.items net.row.items
    (c.in_ok-net.ensures g c.in_ok-laid.ensures) c.in_ok-caps.caps.items c.arc_count-arcs.result
    c.arc_count-arcs.ensures.count (c.in_ok-caps.ensures.items_if_clones_equal (λ y e. e))
    c.in_ok-begun.begun c.in_ok-begun.ensures c.deref.result.now c.deref.ensures.value
    c.in_ok-sent.sent c.in_ok-sent.ensures c.in_ok-again.again c.in_ok-again.ensures
    c.deref-3.result.now c.deref-3.ensures.value c.in_ok-ended.ended c.in_ok-ended.ensures in
    rw (pairs, hall) shown
