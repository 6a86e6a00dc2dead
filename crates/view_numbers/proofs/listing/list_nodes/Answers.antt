use Rattle.std.proofs.Common.{◌≤◌, [], ◌∷◌, length, length-append, option_map}
use Rattle.std.proofs.Common.{refl, subst, arith}
use Rattle.view_numbers.specs.Listed.{IsWalking}
use Rattle.view_numbers.proofs.Walking.{walk_more, ahead_shorter, walk_ends, walk_left}
use Rattle.view_numbers.proofs.listing.list_nodes.Goals as goal

pub returns-then-len-clause-full : goal.returns-then-len-clause-full
returns-then-len-clause-full g c =
    let p = g.G.Shown.graph c.args.g.now in
    let shown = g.met.G.Shown.valid c.args.g.now in
    let walking =
    subst (λ next. IsWalking p.nodes c.loop-next.nodes.items (option_map (λ n. n.0) next))
    c.in-Some.is c.loop-next.invariant.walking in
    let left = walk_left p.nodes c.loop-next.nodes.items c.in-Some.n.0 shown.nodes_differ walking in
    let full = c.if-len.true in
    let len = c.len.ensures in
    omega (arith, left, full, len)

pub loop-next-smaller : goal.loop-next-smaller
loop-next-smaller g c =
    let p = g.G.Shown.graph c.args.g.now in
    let shown = g.met.G.Shown.valid c.args.g.now in
    let walking =
    subst (λ next. IsWalking p.nodes c.loop-next.nodes.items (option_map (λ n. n.0) next))
    c.in-Some.is c.loop-next.invariant.walking in
    let shorter =
    ahead_shorter p.nodes c.in-Some.n.0 shown.nodes_differ (walking.there c.in-Some.n.0 refl) in
    rw (c.in-Some.is, c.next_node-next.ensures) shorter

pub loop-next-preserved : goal.loop-next-preserved
loop-next-preserved g c =
    let p = g.G.Shown.graph c.args.g.now in
    let shown = g.met.G.Shown.valid c.args.g.now in
    let walking =
    subst (λ next. IsWalking p.nodes c.loop-next.nodes.items (option_map (λ n. n.0) next))
    c.in-Some.is c.loop-next.invariant.walking in
    let few = c.loop-next.invariant.few in
    let off = c.if-len.false in
    let len = c.len.ensures in
    let size = length-append c.loop-next.nodes.items (c.in-Some.n.0 ∷ []) in
    rw (c.in_ok-push.ensures.items, c.next_node-next.ensures) (record {
      walking = walk_more p.nodes c.loop-next.nodes.items c.in-Some.n.0 shown.nodes_differ walking;
      few = omega (arith, few, off, len, size);
    })

pub returns-clause-few : goal.returns-clause-few
returns-clause-few g c =
    let p = g.G.Shown.graph c.args.g.now in
    let walking =
    subst (λ next. IsWalking p.nodes c.loop-next.nodes.items (option_map (λ n. n.0) next))
    c.in_default.is c.loop-next.invariant.walking in
    subst (λ ids. length ids ≤ 1048576) (walk_ends p.nodes c.loop-next.nodes.items walking)
    c.loop-next.invariant.few
