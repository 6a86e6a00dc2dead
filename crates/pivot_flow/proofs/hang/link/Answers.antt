use Rattle.std.proofs.Common.{◌-◌, ◌<◌, length, arith}
use Rattle.std.proofs.Math.ListN.{set, length-set}
use Rattle.plain_certificates.proofs.Tables.{at-set}
use Rattle.pivot_flow.proofs.Linking.{linked}
use Rattle.pivot_flow.specs.Kids.{bare, links_of}
use Rattle.pivot_flow.specs.Tree.{at}
use Rattle.pivot_flow.proofs.hang.link.Goals as goal

pub returns-clause-kids : goal.returns-clause-kids
returns-clause-kids c =
    let n = length c.args.parent.now in
    let l = links_of c.args.first.now c.args.next.now c.args.prev.now in
    let v = c.args.v in
    let u = c.args.u in
    let low = c.requires.child in
    let sizes = c.requires.sizes in
    let node : v < n = low.0 in
    let lu : u < n = c.requires.node in
    let in_prev : l.first u < length c.args.prev.now =
    (let q = (c.requires.kids.nodes u lu).0 in omega (arith, q, sizes)) in
    let in_prev_v : v < length (set c.args.prev.now (l.first u) v) =
    rw (length-set c.args.prev.now (l.first u) v) (omega (arith, node, sizes)) in
    let in_first : u < length c.args.first.now = omega (arith, lu, sizes) in
    let in_next : v < length c.args.next.now = omega (arith, node, sizes) in
    let top : n - 1 < n = omega (arith, node) in
    rw (
      at-set 0 c.args.first.now u v in_first,
      at-set 0 c.args.next.now v (l.first u) in_next,
      at-set 0 (set c.args.prev.now (l.first u) v) v (n - 1) in_prev_v,
      at-set 0 c.args.prev.now
          (l.first u) v in_prev,
      at-set 0 c.args.parent.now v u node,
    )
    (linked (bare n) l (at c.args.parent.now) v u c.requires.kids low lu top)
