use Rattle.std.proofs.Common.{◌-◌, ◌<◌, length, arith}
use Rattle.plain_certificates.proofs.Tables.{at-set}
use Rattle.plain_certificates.specs.Tables.{set_at}
use Rattle.pivot_flow.proofs.Linking.{cond_false, cond_true, unlinked}
use Rattle.pivot_flow.specs.Kids.{bare, links_of}
use Rattle.pivot_flow.specs.Tree.{at}
use Rattle.pivot_flow.proofs.hang.unlink.Goals as goal

pub returns-then-before-root : goal.returns-then-before-root
returns-then-before-root c =
    let l = links_of c.args.first.now c.args.next.now c.args.prev.now in
    let p = at c.args.parent.now in
    let v = c.args.v in
    let low = c.requires.child in
    let sizes = c.requires.sizes in
    let node : v < length c.args.parent.now = low.0 in
    let in_first : p v < length c.args.first.now =
    (let q = c.requires.parent in omega (arith, q, sizes)) in
    let in_next : l.prev v < length c.args.next.now =
    (let q = (c.requires.kids.nodes v node).1.1 in omega (arith, q, sizes)) in
    let in_prev : l.next v < length c.args.prev.now =
    (let q = (c.requires.kids.nodes v node).1.0 in omega (arith, q, sizes)) in
    let e = c.if-before-root.true in
    let u = rw (cond_true (set_at l.first (p v) (l.next v)) l.first (l.prev v)
    (length c.args.parent.now - 1) e) at (unlinked (bare (length c.args.parent.now)) l p v
    c.requires.kids low) in
    rw (
      at-set 0 c.args.first.now (p v) (l.next v) in_first,
      at-set 0 c.args.next.now (l.prev v)
          (l.next v) in_next,
      at-set 0 c.args.prev.now (l.next v) (l.prev v) in_prev,
    ) u

pub returns-else-before-root : goal.returns-else-before-root
returns-else-before-root c =
    let l = links_of c.args.first.now c.args.next.now c.args.prev.now in
    let p = at c.args.parent.now in
    let v = c.args.v in
    let low = c.requires.child in
    let sizes = c.requires.sizes in
    let node : v < length c.args.parent.now = low.0 in
    let in_next : l.prev v < length c.args.next.now =
    (let q = (c.requires.kids.nodes v node).1.1 in omega (arith, q, sizes)) in
    let in_prev : l.next v < length c.args.prev.now =
    (let q = (c.requires.kids.nodes v node).1.0 in omega (arith, q, sizes)) in
    let e = c.if-before-root.false in
    let u = rw (cond_false (set_at l.first (p v) (l.next v)) l.first (l.prev v)
    (length c.args.parent.now - 1) e) at (unlinked (bare (length c.args.parent.now)) l p v
    c.requires.kids low) in
    rw (
      at-set 0 c.args.next.now (l.prev v) (l.next v) in_next,
      at-set 0 c.args.prev.now (l.next v)
          (l.prev v) in_prev,
    ) u
