use Rattle.std.proofs.Common.{inl, ℕ, ◌+◌, ◌*◌, ◌<◌, ◌^◌, length, ◌+ℤ◌, refl, arith, to_z, of_z}
use Rattle.std.proofs.Common.{pos}
use Rattle.std.proofs.Common.{w64}
use Rattle.std.proofs.Math.ListN.{set, length-set}
use Rattle.std.proofs.lemmas.Int.{to_z-of_z}
use Rattle.plain_certificates.proofs.Tables.{at-set}
use Rattle.plain_certificates.specs.Tables.{set_at}
use Rattle.pivot_flow.proofs.StrollSteps.{after_first, low_depth, open_w, stroll_begins}
use Rattle.pivot_flow.proofs.StrollSteps.{stroll_ends, turn_first, turn_next}
use Rattle.pivot_flow.proofs.Strolling.{node_done, tail_small}
use Rattle.pivot_flow.specs.Kids.{bare, links_of}
use Rattle.pivot_flow.specs.Spread.{price_at}
use Rattle.pivot_flow.specs.Tree.{at}
use Rattle.pivot_flow.proofs.spread.spread.Goals as goal

pub loop-head-init : goal.loop-head-init
loop-head-init c =
    let n = length c.args.parent.now in
    let k = links_of c.args.first.now c.args.next.now c.args.prev.now in
    let p = at c.args.parent.now in
    let inner = c.args.inner in
    let outer = p inner in
    let by = to_z w64 (of_z w64 c.args.by) in
    let d₀ = at c.args.depth.now in
    let y₀ = price_at c.args.price.now in
    let sizes = c.requires.lens in
    let node : inner < n = c.requires.cut.low.0 in
    let in_queue : 0 < length c.args.queue.now = omega (arith, sizes, node) in
    let in_depth : inner < length c.args.depth.now = omega (arith, sizes, node) in
    let in_price : inner < length c.args.price.now = omega (arith, sizes, node) in
    let start = stroll_begins (bare n) k p (at c.args.queue.now) d₀ y₀ inner outer by
    c.requires.kids c.requires.cut in
    rw (
      c.queued-tail.ensures.queue,
      c.raise.ensures,
      at-set 0 c.args.queue.now 0
          (at c.args.first.now inner) in_queue,
      at-set 0 c.args.depth.now inner (d₀ outer + 1)
          in_depth,
      at-set (pos 0) c.args.price.now inner (y₀ inner +ℤ by) in_price,
    )
    (after_first (bare n) k p (at c.args.queue.now) d₀ (set_at d₀ inner (d₀ outer + 1)) y₀
    (set_at y₀ inner (y₀ inner +ℤ by)) inner outer by 0 0 c.queued-tail.result inner 2 start
    start.begins (omega arith) (inl refl) c.queued-tail.ensures.none c.queued-tail.ensures.one)

pub offset_bounds-queue-head : goal.offset_bounds-queue-head
offset_bounds-queue-head c =
    let n = length c.args.parent.now in
    let k = links_of c.args.first.now c.args.next.now c.args.prev.now in
    let p = at c.args.parent.now in
    let l = c.loop-head in
    let inner = c.args.inner in
    let outer = p inner in
    let by = to_z w64 (of_z w64 c.args.by) in
    let inside = c.loop-head-test.true in
    let st = l.invariant in
    let sizes = c.requires.sizes in
    let small : l.tail < n = tail_small (bare n) k p (at l.queue) (at c.args.depth.now) (at l.depth)
    (price_at c.args.price.now) (price_at l.price) inner outer by l.head l.tail l.last 2 st in
    let fits : l.head * 4 < 2 ^ 64 = omega (arith, inside, small, sizes) in
    omega (arith, fits)

pub bounds-queue-head : goal.bounds-queue-head
bounds-queue-head c =
    let n = length c.args.parent.now in
    let k = links_of c.args.first.now c.args.next.now c.args.prev.now in
    let p = at c.args.parent.now in
    let l = c.loop-head in
    let inner = c.args.inner in
    let outer = p inner in
    let by = to_z w64 (of_z w64 c.args.by) in
    let inside = c.loop-head-test.true in
    let st = l.invariant in
    let lens = c.requires.lens in
    let small : l.tail < n = tail_small (bare n) k p (at l.queue) (at c.args.depth.now) (at l.depth)
    (price_at c.args.price.now) (price_at l.price) inner outer by l.head l.tail l.last 2 st in
    let queue_a = l.auto.queue in
    let queue_b = c.queued-tail.auto.queue in
    omega (arith, inside, small, queue_a, queue_b, lens)

pub bounds-parent-w : goal.bounds-parent-w
bounds-parent-w c =
    let n = length c.args.parent.now in
    let l = c.loop-head in
    let w = at l.queue l.head in
    let inside = c.loop-head-test.true in
    let st = l.invariant in
    let sw = (st.listed l.head inside).0 in
    let node : w < n = (st.node w sw).0.0 in
    node

pub bounds-depth-parent : goal.bounds-depth-parent
bounds-depth-parent c =
    let n = length c.args.parent.now in
    let k = links_of c.args.first.now c.args.next.now c.args.prev.now in
    let p = at c.args.parent.now in
    let l = c.loop-head in
    let inner = c.args.inner in
    let outer = p inner in
    let by = to_z w64 (of_z w64 c.args.by) in
    let w = at l.queue l.head in
    let inside = c.loop-head-test.true in
    let st = l.invariant in
    let sw = (st.listed l.head inside).0 in
    let lens = c.requires.lens in
    let depth_a = simp (length-set {A = ℕ}) at l.auto.depth in
    let up =
    (node_done (bare n) k p (at l.queue) (at c.args.depth.now) (at l.depth)
    (price_at c.args.price.now) (price_at l.price) inner outer by l.head l.tail l.last 2 st
    (p w) (st.up w sw).0).0 in
    omega (arith, up, depth_a, lens)

pub overflow_add-depth-in-loop-head : goal.overflow_add-depth-in-loop-head
overflow_add-depth-in-loop-head c =
    let n = length c.args.parent.now in
    let k = links_of c.args.first.now c.args.next.now c.args.prev.now in
    let p = at c.args.parent.now in
    let l = c.loop-head in
    let inner = c.args.inner in
    let outer = p inner in
    let by = to_z w64 (of_z w64 c.args.by) in
    let w = at l.queue l.head in
    let inside = c.loop-head-test.true in
    let st = l.invariant in
    let sizes = c.requires.sizes in
    let small : l.tail < n = tail_small (bare n) k p (at l.queue) (at c.args.depth.now) (at l.depth)
    (price_at c.args.price.now) (price_at l.price) inner outer by l.head l.tail l.last 2 st in
    let low = low_depth (bare n) k p (at l.queue) (at c.args.depth.now) (at l.depth)
    (price_at c.args.price.now) (price_at l.price) inner outer by l.head l.tail l.last w st
    inside refl in
    let start = c.requires.depths outer c.requires.cut.outer_node in
    let fits : at l.depth (p w) + 1 < 2 ^ 32 = omega (arith, low, start, small, sizes) in
    omega (arith, fits)

pub bounds-depth-w : goal.bounds-depth-w
bounds-depth-w c =
    let n = length c.args.parent.now in
    let l = c.loop-head in
    let w = at l.queue l.head in
    let inside = c.loop-head-test.true in
    let st = l.invariant in
    let sw = (st.listed l.head inside).0 in
    let node : w < n = (st.node w sw).0.0 in
    let lens = c.requires.lens in
    let depth_a = simp (length-set {A = ℕ}) at l.auto.depth in
    omega (arith, node, depth_a, lens)

pub raise-requires-in-loop-head-clause-node : goal.raise-requires-in-loop-head-clause-node
raise-requires-in-loop-head-clause-node c =
    let n = length c.args.parent.now in
    let l = c.loop-head in
    let w = at l.queue l.head in
    let inside = c.loop-head-test.true in
    let st = l.invariant in
    let sw = (st.listed l.head inside).0 in
    let node : w < n = (st.node w sw).0.0 in
    let lens = c.requires.lens in
    let price_a = l.auto.price in
    let price_b = c.raise.auto.price in
    omega (arith, node, price_a, price_b, lens)

pub raise-requires-in-loop-head-clause-price : goal.raise-requires-in-loop-head-clause-price
raise-requires-in-loop-head-clause-price c =
    let n = length c.args.parent.now in
    let k = links_of c.args.first.now c.args.next.now c.args.prev.now in
    let p = at c.args.parent.now in
    let l = c.loop-head in
    let inner = c.args.inner in
    let outer = p inner in
    let by = to_z w64 (of_z w64 c.args.by) in
    let w = at l.queue l.head in
    let inside = c.loop-head-test.true in
    let st = l.invariant in
    let sw = (st.listed l.head inside).0 in
    let node : w < n = (st.node w sw).0.0 in
    let is =
    (st.same w (open_w (bare n) k p (at l.queue) (at c.args.depth.now) (at l.depth)
    (price_at c.args.price.now) (price_at l.price) inner outer by l.head l.tail l.last w st
    inside refl)).1 in
    rw is (c.requires.prices w node)

pub bounds-first-w : goal.bounds-first-w
bounds-first-w c =
    let n = length c.args.parent.now in
    let l = c.loop-head in
    let w = at l.queue l.head in
    let inside = c.loop-head-test.true in
    let st = l.invariant in
    let sw = (st.listed l.head inside).0 in
    let node : w < n = (st.node w sw).0.0 in
    let sizes = c.requires.sizes in
    omega (arith, node, sizes)

pub queued-mid-requires : goal.queued-mid-requires
queued-mid-requires c =
    let n = length c.args.parent.now in
    let k = links_of c.args.first.now c.args.next.now c.args.prev.now in
    let p = at c.args.parent.now in
    let l = c.loop-head in
    let inner = c.args.inner in
    let outer = p inner in
    let by = to_z w64 (of_z w64 c.args.by) in
    let st = l.invariant in
    let sizes = c.requires.sizes in
    let lens = c.requires.lens in
    let small : l.tail < n = tail_small (bare n) k p (at l.queue) (at c.args.depth.now) (at l.depth)
    (price_at c.args.price.now) (price_at l.price) inner outer by l.head l.tail l.last 2 st in
    let queue_a = l.auto.queue in
    let queue_b = c.queued-tail.auto.queue in
    record {
      room = (
        omega (arith, small, queue_a, queue_b, lens),
        omega (arith, queue_a, queue_b, lens, sizes),
      );
    }

pub bounds-next-w : goal.bounds-next-w
bounds-next-w c =
    let n = length c.args.parent.now in
    let l = c.loop-head in
    let w = at l.queue l.head in
    let inside = c.loop-head-test.true in
    let st = l.invariant in
    let sw = (st.listed l.head inside).0 in
    let node : w < n = (st.node w sw).0.0 in
    let sizes = c.requires.sizes in
    omega (arith, node, sizes)

pub queued-tail-requires-in-loop-head : goal.queued-tail-requires-in-loop-head
queued-tail-requires-in-loop-head c =
    let n = length c.args.parent.now in
    let k = links_of c.args.first.now c.args.next.now c.args.prev.now in
    let p = at c.args.parent.now in
    let l = c.loop-head in
    let inner = c.args.inner in
    let outer = p inner in
    let by = to_z w64 (of_z w64 c.args.by) in
    let w = at l.queue l.head in
    let inside = c.loop-head-test.true in
    let st = l.invariant in
    let sizes = c.requires.sizes in
    let lens = c.requires.lens in
    let queue_a = l.auto.queue in
    let queue_b = c.queued-tail.auto.queue in
    let mid = turn_first (bare n) k p (at l.queue) (at c.args.depth.now) (at l.depth)
    (price_at c.args.price.now) (price_at l.price) inner outer by l.head l.tail
    c.queued-mid.result l.last w st inside refl c.queued-mid.ensures.none
    c.queued-mid.ensures.one in
    let room : c.queued-mid.result < n =
    tail_small (bare n) k p (set_at (at l.queue) l.tail (k.first w)) (at c.args.depth.now)
    (set_at (at l.depth) w (at l.depth (p w) + 1)) (price_at c.args.price.now)
    (set_at (price_at l.price) w (price_at l.price w +ℤ by)) inner outer by (l.head + 1)
    c.queued-mid.result w 1 mid in
    let queue_c = c.queued-mid.auto.queue in
    record {
      room = (
        omega (arith, room, queue_a, queue_b, queue_c, lens),
        omega
            (arith, queue_a, queue_b, queue_c, lens, sizes),
      );
    }

pub loop-head-smaller : goal.loop-head-smaller
loop-head-smaller c =
    let n = length c.args.parent.now in
    let k = links_of c.args.first.now c.args.next.now c.args.prev.now in
    let p = at c.args.parent.now in
    let l = c.loop-head in
    let inner = c.args.inner in
    let outer = p inner in
    let by = to_z w64 (of_z w64 c.args.by) in
    let inside = c.loop-head-test.true in
    let st = l.invariant in
    let small : l.tail < n = tail_small (bare n) k p (at l.queue) (at c.args.depth.now) (at l.depth)
    (price_at c.args.price.now) (price_at l.price) inner outer by l.head l.tail l.last 2 st in
    omega (arith, inside, small)

pub loop-head-preserved : goal.loop-head-preserved
loop-head-preserved c =
    let n = length c.args.parent.now in
    let k = links_of c.args.first.now c.args.next.now c.args.prev.now in
    let p = at c.args.parent.now in
    let l = c.loop-head in
    let inner = c.args.inner in
    let outer = p inner in
    let by = to_z w64 (of_z w64 c.args.by) in
    let w = at l.queue l.head in
    let inside = c.loop-head-test.true in
    let st = l.invariant in
    let sw = (st.listed l.head inside).0 in
    let node : w < n = (st.node w sw).0.0 in
    let lens = c.requires.lens in
    let small : l.tail < n = tail_small (bare n) k p (at l.queue) (at c.args.depth.now) (at l.depth)
    (price_at c.args.price.now) (price_at l.price) inner outer by l.head l.tail l.last 2 st in
    let queue_a = l.auto.queue in
    let queue_b = c.queued-tail.auto.queue in
    let depth_a = simp (length-set {A = ℕ}) at l.auto.depth in
    let price_a = l.auto.price in
    let price_b = c.raise.auto.price in
    let mid = turn_first (bare n) k p (at l.queue) (at c.args.depth.now) (at l.depth)
    (price_at c.args.price.now) (price_at l.price) inner outer by l.head l.tail
    c.queued-mid.result l.last w st inside refl c.queued-mid.ensures.none
    c.queued-mid.ensures.one in
    let room : c.queued-mid.result < n =
    tail_small (bare n) k p (set_at (at l.queue) l.tail (k.first w)) (at c.args.depth.now)
    (set_at (at l.depth) w (at l.depth (p w) + 1)) (price_at c.args.price.now)
    (set_at (price_at l.price) w (price_at l.price w +ℤ by)) inner outer by (l.head + 1)
    c.queued-mid.result w 1 mid in
    let next = turn_next (bare n) k p (at l.queue) (at c.args.depth.now) (at l.depth)
    (price_at c.args.price.now) (price_at l.price) inner outer by l.head l.tail
    c.queued-mid.result c.queued-tail-in-loop-head.result l.last w st inside refl
    c.queued-mid.ensures.none c.queued-mid.ensures.one c.queued-tail-in-loop-head.ensures.none
    c.queued-tail-in-loop-head.ensures.one in
    let in_mid : c.queued-mid.result < length (set l.queue l.tail (k.first w)) =
    rw (length-set l.queue l.tail (k.first w)) (omega (arith, room, queue_a, queue_b, lens)) in
    let in_queue : l.tail < length l.queue = omega (arith, small, queue_a, queue_b, lens) in
    let in_depth : w < length l.depth = omega (arith, node, depth_a, lens) in
    let in_price : w < length l.price = omega (arith, node, price_a, price_b, lens) in
    rw (
      c.queued-tail-in-loop-head.ensures.queue,
      c.queued-mid.ensures.queue,
      c.raise-in-loop-head.ensures,
      at-set 0 (set l.queue l.tail (k.first w)) c.queued-mid.result
          (k.next w) in_mid,
      at-set 0 l.queue l.tail (k.first w) in_queue,
      at-set 0 l.depth w
          (at l.depth (p w) + 1) in_depth,
      at-set (pos 0) l.price w (price_at l.price w +ℤ by)
          in_price,
    )
    next

pub returns : goal.returns
returns c =
    let n = length c.args.parent.now in
    let l = c.loop-head in
    let st = rw (to_z-of_z w64 c.args.by c.ranges.by) at l.invariant in
    stroll_ends (bare n) (links_of c.args.first.now c.args.next.now c.args.prev.now)
    (at c.args.parent.now) (at l.queue) (at c.args.depth.now) (at l.depth)
    (price_at c.args.price.now) (price_at l.price) c.args.inner
    (at c.args.parent.now c.args.inner) c.args.by l.head l.tail l.last st c.loop-head-test.false
    c.requires.top
