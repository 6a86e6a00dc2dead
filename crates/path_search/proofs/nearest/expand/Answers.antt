use Rattle.std.proofs.Common.{ℕ, ◌+◌, length, get_or, sym}
use Rattle.std.proofs.Common.{◌∙◌, ap, subst, arith}
use Rattle.std.specs.BinaryHeap.{heap_items}
use Rattle.std.proofs.Math.ListN.{length-set}
use Rattle.std.proofs.lemmas.List.{take_all}
use Rattle.std.proofs.lemmas.List.Sorted.{length_permutation}
use Rattle.plain_certificates.specs.Tables.{at}
use Rattle.static_digraph.specs.Fixed.{graph_of}
use Rattle.path_search.specs.Queue.{entries_of}
use Rattle.path_search.specs.Search.{IsRow}
use Rattle.path_search.specs.Steps.{Relaxes}
use Rattle.path_search.proofs.RowsRead.{row_is}
use Rattle.path_search.proofs.Expanding.{relax_kept, relax_nearer, relax_all, row_small}
use Rattle.path_search.proofs.nearest.expand.Goals as goal
use Rattle.path_search.proofs.nearest.expand.Goals.{then-next-dist+in_ok-push, else-next-dist}

pub ends-v-requires : goal.ends-v-requires
ends-v-requires c =
    let g = graph_of c.args.g.now in
    let row = subst (IsRow g c.args.u) (sym c.out_row-row.ensures) (row_is g c.args.u) in
    (row.from_it c.loop-arc.arc-index 0 c.loop-arc-test.true).0

pub bounds-len-arc : goal.bounds-len-arc
bounds-len-arc c =
    let g = graph_of c.args.g.now in
    let row = subst (IsRow g c.args.u) (sym c.out_row-row.ensures) (row_is g c.args.u) in
    let l = (row.from_it c.loop-arc.arc-index 0 c.loop-arc-test.true).0 in
    let size = c.requires.sizes.lens in
    omega (arith, l, size)

pub bounds-dist-v : goal.bounds-dist-v
bounds-dist-v c =
    let g = graph_of c.args.g.now in
    let row = subst (IsRow g c.args.u) (sym c.out_row-row.ensures) (row_is g c.args.u) in
    let l = (row.from_it c.loop-arc.arc-index 0 c.loop-arc-test.true).0 in
    let node = (c.requires.sizes.ends (get_or c.out_row-row.result.now c.loop-arc.arc-index 0)
    l).1 in
    let size = c.loop-arc.invariant.sizes.dists in
    let v = c.ends-v.ensures.to in
    omega (arith, node, size, v)

pub loop-arc-preserved : goal.loop-arc-preserved
loop-arc-preserved c =
    let g = graph_of c.args.g.now in
    let len = at 0 c.args.len.now in
    let now = c.out_row-row.result.now in
    let i = c.loop-arc.arc-index in
    let k : ℕ = get_or now i 0 in
    let row = subst (IsRow g c.args.u) (sym c.out_row-row.ensures) (row_is g c.args.u) in
    let here = row.from_it i 0 c.loop-arc-test.true in
    let node = (c.requires.sizes.ends k here.0).1 in
    let was = c.loop-arc.invariant in
    elim c.if-next-dist.branch [
      | then-next-dist+in_ok-push w ↦
          (let to = c.ends-v.ensures.to in
          let less = rw to at w.if-next-dist.true in
          let perm = rw to at w.in_ok-push.ensures.ok in
          let short = c.requires.short k 0
          (let size = c.requires.sizes.lens in let l = here.0 in omega (arith, l, size)) in
          let grew = length_permutation _ _ perm in
          let dists = was.sizes.dists in
          let vias = was.sizes.vias in
          rw (w.dist-is, w.via-is, w.queue-is, to) (record {
            sizes = record {
              ends = was.sizes.ends;
              lens = was.sizes.lens;
              dists = length-set c.loop-arc.dist (g.to k) (c.args.near + len k) ∙ dists;
              vias = length-set c.loop-arc.via (g.to k) k ∙ vias;
            };
            search = relax_nearer g len c.args.u c.args.near (at 0 c.args.dist.now)
                (at 0 c.args.via.now)
                (entries_of (heap_items c.args.queue.now.heap)) now i c.loop-arc-test.true here.1
                c.loop-arc.dist c.loop-arc.via (entries_of (heap_items c.loop-arc.queue.heap))
                (entries_of (heap_items w.push.new.self.heap)) here.0 less short node
                (omega (arith, node, dists)) (omega (arith, node, vias)) perm was.search;
            grows = (let grows = was.grows in omega (arith, grows, grew));
          }))
      | else-next-dist w ↦
          (let le = rw c.ends-v.ensures.to at w.if-next-dist.false in
          rw (w.dist-is, w.via-is, w.queue-is) (record {
            sizes = was.sizes;
            search = relax_kept g len c.args.u c.args.near (at 0 c.args.dist.now)
                (at 0 c.args.via.now)
                (entries_of (heap_items c.args.queue.now.heap)) now i c.loop-arc-test.true here.1
                (at 0 c.loop-arc.dist) (at 0 c.loop-arc.via)
                (entries_of (heap_items c.loop-arc.queue.heap))
                le was.search;
            grows = (let grows = was.grows in omega (arith, grows));
          }))
    ]

pub returns-clause-search : goal.returns-clause-search
returns-clause-search c =
    let g = graph_of c.args.g.now in
    let len = at 0 c.args.len.now in
    let now = c.out_row-row.result.now in
    let row = subst (IsRow g c.args.u) (sym c.out_row-row.ensures) (row_is g c.args.u) in
    let over = c.loop-arc-test.false in
    let all = take_all c.loop-arc.arc-index now over in
    let before = entries_of (heap_items c.args.queue.now.heap) in
    let after = entries_of (heap_items c.loop-arc.queue.heap) in
    relax_all g len c.args.u c.args.near
    (at 0 c.args.dist.now) (at 0 c.args.via.now) (at 0 c.loop-arc.dist) (at 0 c.loop-arc.via)
    before after now row
    (subst (λ xs. Relaxes g len c.args.u c.args.near xs (at 0 c.args.dist.now) (at 0 c.args.via.now)
    before (at 0 c.loop-arc.dist) (at 0 c.loop-arc.via) after) all c.loop-arc.invariant.search)

pub returns-clause-grows : goal.returns-clause-grows
returns-clause-grows c =
    let small = row_small (at 0 c.args.g.now.from) c.args.u 0 (length c.args.g.now.arcs) in
    let size = ap length c.out_row-row.ensures in
    let grows = c.loop-arc.invariant.grows in
    let at_end = c.loop-arc.auto.arc-index-end in
    omega (arith, small, size, grows, at_end)
