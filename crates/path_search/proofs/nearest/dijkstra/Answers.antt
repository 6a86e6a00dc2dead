use Rattle.std.proofs.Common.{◌≡◌, ◌≤◌, ◌^◌, All, length, [], ◌∷◌, refl, sym, ◌∙◌, ap}
use Rattle.std.proofs.Common.{subst, arith}
use Rattle.std.proofs.Math.ListN.{set, replicate}
use Rattle.std.proofs.lemmas.List.{take_at}
use Rattle.std.specs.BinaryHeap.{heap_items}
use Rattle.plain_certificates.specs.Tables.{at}
use Rattle.static_digraph.specs.Fixed.{graph_of}
use Rattle.path_search.specs.Queue.{entries_of}
use Rattle.path_search.specs.Search.{IsFound, Settled}
use Rattle.pace_search.specs.Tree.{far}
use Rattle.path_search.proofs.Settling.{begun, reordered}
use Rattle.path_search.proofs.Answered.{answer, lens_short, if_ok}
use Rattle.path_search.proofs.nearest.dijkstra.Goals as goal

pub search-requires-clause-short : goal.search-requires-clause-short
search-requires-clause-short c =
    subst (All (λ l. l ≤ 2 ^ 36)) (sym c.deref.ensures.value)
    (lens_short c.args.len.now c.in_ok-lens.lens.items c.in_ok-lens.ensures c.requires.high)

pub search-requires-clause-begun : goal.search-requires-clause-begun
search-requires-clause-begun c =
    let g = graph_of c.args.g.now in
    let len = at 0 c.deref.result.now in
    let s = c.args.s in
    let n = g.nodes in
    let count = c.node_count-nodes.ensures.count in
    let turn : c.deref_mut.result.now ≡ replicate n 0 = c.deref_mut.ensures.value
    ∙ (c.in_ok-turn.ensures.items_if_clones_equal (λ y e. e) ∙ ap (λ m. replicate m 0) count) in
    let via : c.deref_mut-3.result.now ≡ replicate n 0 = c.deref_mut-3.ensures.value
    ∙ (c.in_ok-via.ensures.items_if_clones_equal (λ y e. e) ∙ ap (λ m. replicate m 0) count) in
    let dist : c.deref_mut-2.result.now ≡ set (replicate n far) s 0 = c.deref_mut-2.ensures.value
    ∙ ap (λ xs. set xs s 0)
    (c.in_ok-dist.ensures.items_if_clones_equal (λ y e. e) ∙ ap (λ m. replicate m far) count) in
    let perm = rw c.new-queue.ensures at c.in_ok-push.ensures.ok in
    rw (turn, via, dist)
    (reordered g len s (Settled g (at 0 (replicate n 0))) (at 0 (set (replicate n far) s 0))
    (at 0 (replicate n 0)) (at 0 (replicate n 0)) 0 0 0
    ((0, s) ∷ []) (entries_of (heap_items c.push.new.self.heap)) perm
    (begun g len s n refl c.requires.start))

pub returns : goal.returns
returns c =
    let g = graph_of c.args.g.now in
    let count = c.node_count-nodes.ensures.count in
    let dist : c.deref-2.result.now ≡ c.search.new.dist = c.deref-2.ensures.value
    ∙ take_at c.search.new.dist _ c.in_ok-dist.dist.len
    (let a = c.search.auto.dist in let b = c.deref_mut-2.ensures.len in omega (arith, a, b)) in
    let via : c.deref-3.result.now ≡ c.search.new.via = c.deref-3.ensures.value
    ∙ take_at c.search.new.via _ c.in_ok-via.via.len
    (let a = c.search.auto.via in let b = c.deref_mut-3.ensures.len in omega (arith, a, b)) in
    let sizes : length c.search.new.dist ≡ g.nodes =
    (let a = c.search.auto.dist in
    let b = c.deref_mut-2.ensures.len in
    let d = c.in_ok-dist.ensures.len in
    omega (arith, a, b, d, count)) in
    let lens = c.deref.ensures.value in
    let few = c.node_count-nodes.ensures.few in
    let short = lens_short c.args.len.now c.in_ok-lens.lens.items c.in_ok-lens.ensures
    c.requires.high in
    if_ok c.paths_of.result
    (λ paths tells. answer g c.in_ok-lens.lens.items c.args.len.now c.args.s c.search.new.dist
    c.search.new.via c.search.new.turn paths.dist paths.via c.arc_count.ensures.ends
    c.requires.start
    sizes (omega (arith, few, count)) c.requires.lengths c.in_ok-lens.ensures short
    (subst (λ xs. IsFound g (at 0 xs) c.args.s (at 0 c.search.new.dist) (at 0 c.search.new.via)
    (at 0 c.search.new.turn)) lens c.in_ok-search.ensures)
    (rw (dist, via) at tells))
    c.paths_of.ensures
