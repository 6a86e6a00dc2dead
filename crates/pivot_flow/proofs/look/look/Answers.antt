use Rattle.std.proofs.Common.{length}
use Rattle.pivot_flow.proofs.look.look.Goals.{then-found-step, else-found-step, then-found-step-2}
use Rattle.pivot_flow.proofs.look.look.Goals.{else-found-step-2}
use Rattle.pivot_flow.proofs.Looking.{look_left, look_left_new, look_right, look_right_new}
use Rattle.pivot_flow.specs.Tree.{at, task_of, tree_of}
use Rattle.pivot_flow.proofs.look.look.Goals as goal

pub loop-a-preserved-then-depth-a : goal.loop-a-preserved-then-depth-a
loop-a-preserved-then-depth-a c =
    let t = task_of (length c.args.parent.now) c.args.ends.now c.args.cap.now in
    let h = tree_of c.args.parent.now c.args.arc.now c.args.depth.now in
    let l = c.loop-a in
    elim c.if-found-step.branch [
      | then-found-step w ↦
          rw (w.step-is, w.leaves-is, c.room_to-found.ensures)
          (look_left_new t h (at c.args.flow.now) c.args.i c.args.j c.args.room l.a l.b l.step
          l.leaves c.requires.hung l.invariant c.loop-a-test.true c.if-depth-a.true
          (rw (← c.room_to-found.ensures) w.if-found-step.true))
      | else-found-step w ↦
          rw (w.step-is, w.leaves-is)
          (look_left t h (at c.args.flow.now) c.args.i c.args.j c.args.room l.a l.b l.step l.leaves
          c.requires.hung l.invariant c.loop-a-test.true c.if-depth-a.true
          (rw (← c.room_to-found.ensures) w.if-found-step.false))
    ]

pub loop-a-preserved : goal.loop-a-preserved
loop-a-preserved c =
    let t = task_of (length c.args.parent.now) c.args.ends.now c.args.cap.now in
    let h = tree_of c.args.parent.now c.args.arc.now c.args.depth.now in
    let l = c.loop-a in
    elim c.if-found-step-2.branch [
      | then-found-step-2 w ↦
          rw (w.step-is, w.leaves-is, c.room_from-found.ensures)
          (look_right_new t h (at c.args.flow.now) c.args.i c.args.j c.args.room l.a l.b l.step
          l.leaves c.requires.hung l.invariant c.loop-a-test.true c.if-depth-a.false
          (rw (← c.room_from-found.ensures) w.if-found-step-2.true))
      | else-found-step-2 w ↦
          rw (w.step-is, w.leaves-is)
          (look_right t h (at c.args.flow.now) c.args.i c.args.j c.args.room l.a l.b l.step l.leaves
          c.requires.hung l.invariant c.loop-a-test.true c.if-depth-a.false
          (rw (← c.room_from-found.ensures) w.if-found-step-2.false))
    ]
