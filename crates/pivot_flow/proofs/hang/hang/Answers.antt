use Rattle.std.proofs.Common.{◌≢◌, ◌<◌, [], length, ap, arith}
use Rattle.plain_certificates.proofs.Forest.{over_same}
use Rattle.plain_certificates.proofs.Tables.{at-set}
use Rattle.pivot_flow.proofs.Above.{over_parent}
use Rattle.pivot_flow.proofs.Turning.{turn_begins, turn_ends, turn_low, turn_step}
use Rattle.pivot_flow.specs.Tree.{at, forest_of, task_of, tree_of}
use Rattle.pivot_flow.proofs.hang.hang.Goals as goal

pub loop-child-init : goal.loop-child-init
loop-child-init c =
    let t = task_of (length c.args.parent.now) c.args.ends.now [] in
    let h = tree_of c.args.parent.now c.args.arc.now c.args.depth.now in
    record {
      turning = turn_begins t h c.args.inner c.args.outer c.args.entering c.requires.hung
          c.requires.inside.0;
      kids = c.requires.kids;
      above = (let fall = c.requires.hung.falls c.args.x c.requires.cut in let o =
          c.requires.over.high in omega (arith, fall, o));
    }

pub unlink-requires-clause-parent : goal.unlink-requires-clause-parent
unlink-requires-clause-parent c =
    let t = task_of (length c.args.parent.now) c.args.ends.now [] in
    let h = tree_of c.args.parent.now c.args.arc.now c.args.depth.now in
    let l = c.loop-child in
    let fall = c.requires.hung.falls c.args.x c.requires.cut in
    let up = over_parent t h c.args.inner c.args.x c.requires.hung c.requires.cut c.requires.over in
    let off : l.child ≢ h.parent c.args.x =
    λ e. (let d = ap h.depth e in let test = c.loop-child-test.true in
    absurd (omega (arith, d, test, fall))) in
    let low = turn_low t h (at l.parent) (at l.arc) c.args.inner c.args.outer c.args.entering
    l.child l.hook l.by (h.parent c.args.x) c.requires.hung l.invariant.turning up
    l.invariant.above off in
    let kept = (l.invariant.turning.kept l.child (λ _. omega arith)).0 in
    let lens = l.auto.parent in
    let node = c.requires.hung.parent l.child low in
    omega (arith, kept, lens, node)

pub loop-child-preserved : goal.loop-child-preserved
loop-child-preserved c =
    let t = task_of (length c.args.parent.now) c.args.ends.now [] in
    let h = tree_of c.args.parent.now c.args.arc.now c.args.depth.now in
    let l = c.loop-child in
    let fall = c.requires.hung.falls c.args.x c.requires.cut in
    let up = over_parent t h c.args.inner c.args.x c.requires.hung c.requires.cut c.requires.over in
    let test = c.loop-child-test.true in
    let off : l.child ≢ h.parent c.args.x =
    λ e. (let d = ap h.depth e in absurd (omega (arith, d, test, fall))) in
    let low = turn_low t h (at l.parent) (at l.arc) c.args.inner c.args.outer c.args.entering
    l.child l.hook l.by (h.parent c.args.x) c.requires.hung l.invariant.turning up
    l.invariant.above off in
    let step = turn_step t h (at l.parent) (at l.arc) c.args.inner c.args.outer c.args.entering
    l.child l.hook l.by (h.parent c.args.x) c.requires.hung l.invariant.turning up
    l.invariant.above off in
    let kept = l.invariant.turning.kept l.child (λ _. omega arith) in
    let lens = l.auto.parent in
    let arcs = l.auto.arc in
    let node : l.child < length l.parent = (let q = low.0 in omega (arith, q, lens)) in
    let in_arc : l.child < length l.arc =
    (let q = low.0 in let z = c.requires.nodes in omega (arith, q, arcs, z)) in
    let here = c.requires.hung.falls l.child low in
    let same = ap h.depth kept.0 in
    record {
      turning =
          rw (
            c.link.ensures.parent,
            at-set 0 l.parent l.child l.hook node,
            at-set 0 l.arc l.child
                l.by in_arc,
            kept.0,
            kept.1,
          ) step;
      kids = rw lens at c.link.ensures.kids;
      above = (let z = l.invariant.above in omega (arith, here, same, test, fall));
    }

pub returns-clause-turned : goal.returns-clause-turned
returns-clause-turned c =
    let t = task_of (length c.args.parent.now) c.args.ends.now [] in
    let h = tree_of c.args.parent.now c.args.arc.now c.args.depth.now in
    let l = c.loop-child in
    let fall = c.requires.hung.falls c.args.x c.requires.cut in
    let up = over_parent t h c.args.inner c.args.x c.requires.hung c.requires.cut c.requires.over in
    let test = c.loop-child-test.false in
    let above = l.invariant.above in
    let is = over_same (forest_of h) c.args.inner l.child (h.parent c.args.x)
    l.invariant.turning.over up (omega (arith, test, above, fall)) in
    turn_ends t h (at l.parent) (at l.arc) c.args.inner c.args.outer c.args.entering c.args.x
    l.child l.hook l.by c.requires.hung c.requires.cut c.requires.over is l.invariant.turning
