use Rattle.std.proofs.Common.{◌+◌, ◌-◌, ◌≡◌, ◌<◌, ◌^◌, ◌∙◌, ℕ, length, arith}
use Rattle.std.proofs.Math.ListN.{set, length-set}
use Rattle.plain_certificates.specs.Tables.{at}
use Rattle.static_digraph.specs.Fixed.{graph_of}
use Rattle.pace_search.specs.Paces.{pace_graph}
use Rattle.pace_search.specs.Tree.{shift}
use Rattle.pace_search.proofs.RoundSteps.{within_more, within_set, weight_less, state_set}
use Rattle.pace_search.proofs.RoundSteps.{round_less, round_kept}
use Rattle.pace_search.proofs.rounds.relax_all.Goals as goal
use Rattle.pace_search.proofs.rounds.relax_all.Goals.{then-near-lt-FAR+then-next-dist}
use Rattle.pace_search.proofs.rounds.relax_all.Goals.{then-near-lt-FAR+else-next-dist}
use Rattle.pace_search.proofs.rounds.relax_all.Goals.{else-near-lt-FAR}

pub loop-pace-preserved : goal.loop-pace-preserved
loop-pace-preserved c =
    let g = pace_graph (graph_of c.args.g.now) (length c.args.len.now) in
    let len = at 0 c.args.len.now in
    let k = c.loop-pace.pace in
    let was = c.loop-pace.invariant in
    let l = c.loop-pace-test.true in
    let inside : k < g.arcs = omega (arith, l) in
    let from = c.pace_ends-u.ensures.from in
    let to = c.pace_ends-u.ensures.to in
    let dist = c.loop-pace.dist in
    let via = c.loop-pace.via in
    let node = (c.requires.sizes.ends k inside).1 in
    let source = (c.requires.sizes.ends k inside).0 in
    let sizes = was.sizes.dists in
    let few = c.requires.paced.few_nodes in
    let many = c.requires.paced.few in
    let more = within_more (g.nodes + k) (g.nodes + (k + 1)) dist (omega arith) was.within in
    elim c.if-near-lt-FAR.branch [
      | then-near-lt-FAR+then-next-dist w ↦
          (let near : at 0 dist (g.from k) < 2 ^ 62 = rw from at w.if-near-lt-FAR.true in
          let low = was.within.low (g.from k) 0 (omega (arith, source, sizes)) in
          let next : ℕ = at 0 dist (g.from k) + len k - 68719476736 in
          let sum : next + shift ≡ at 0 dist (g.from k) + len k =
          omega (arith, low, few, many, inside) in
          let less : next < at 0 dist (g.to k) = rw (from, to) at w.if-next-dist.true in
          let top = was.within.high (g.to k) 0 (omega (arith, node, sizes)) in
          let here : g.to k < length dist = omega (arith, node, sizes) in
          let falls = weight_less dist (g.to k) next here less in
          rw (w.dist-is, w.via-is, w.changed-is, from, to) (record {
            below = omega (arith, inside);
            sizes = record {
              ends = was.sizes.ends;
              lens = was.sizes.lens;
              dists = length-set dist (g.to k) next ∙ sizes;
              vias = length-set via (g.to k) k ∙ was.sizes.vias;
            };
            within = within_more (g.nodes + k + 1) (g.nodes + (k + 1)) (set dist (g.to k) next)
                (omega arith) (within_set (g.nodes + k) dist (g.to k) next here
                (omega (arith, sum, low)) (omega (arith, less, top)) was.within);
            tree = λ first was_tree. state_set g len first dist via k next was.sizes.ends sizes
                was.sizes.vias inside near sum less (omega (arith, less, top))
                (was.tree first was_tree);
            round = round_less g len k c.args.dist.now c.args.via.now dist via
                (set dist (g.to k) next) c.loop-pace.changed falls was.round;
          }))
      | then-near-lt-FAR+else-next-dist w ↦
          (let far_off = rw (from, to) at w.if-next-dist.false in
          let low = was.within.low (g.from k) 0 (omega (arith, source, sizes)) in
          rw (w.dist-is, w.via-is, w.changed-is) (record {
            below = omega (arith, inside);
            sizes = was.sizes;
            within = more;
            tree = was.tree;
            round = round_kept g len k c.args.dist.now c.args.via.now dist via c.loop-pace.changed
                (λ near. omega (arith, far_off, low, few, many, inside)) was.round;
          }))
      | else-near-lt-FAR w ↦
          (let off = rw from at w.if-near-lt-FAR.false in
          rw (w.dist-is, w.via-is, w.changed-is) (record {
            below = omega (arith, inside);
            sizes = was.sizes;
            within = more;
            tree = was.tree;
            round = round_kept g len k c.args.dist.now c.args.via.now dist via c.loop-pace.changed
                (λ near. absurd (omega (arith, off, near))) was.round;
          }))
    ]
