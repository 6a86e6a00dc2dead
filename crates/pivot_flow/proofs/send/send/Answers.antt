use Rattle.std.proofs.Common.{◌≡◌, ◌<◌, length, arith}
use Rattle.plain_certificates.proofs.Tables.{at-set}
use Rattle.plain_certificates.specs.Rooms.{sent_from, sent_to}
use Rattle.pivot_flow.proofs.Looking.{left_low, right_low}
use Rattle.pivot_flow.proofs.Rounding.{between_begins, between_ends, between_left, between_right}
use Rattle.pivot_flow.proofs.Rounding.{room_left, room_right, send_begins, send_left, send_right}
use Rattle.pivot_flow.specs.Tree.{at, task_of, tree_of}
use Rattle.pivot_flow.proofs.send.send.Goals as goal

pub loop-a-init : goal.loop-a-init
loop-a-init c =
    let t = task_of (length c.args.parent.now) c.args.ends.now c.args.cap.now in
    let h = tree_of c.args.parent.now c.args.arc.now c.args.depth.now in
    record {
      sent = send_begins t h (at c.args.flow.now) c.args.i c.args.j c.args.found.now.step
          c.requires.within;
      on = between_begins t h (at c.args.flow.now) c.args.i c.args.j c.args.found.now.apex
          c.args.found.now.step c.requires.ends_in.0 c.requires.ends_in.1 c.requires.can;
    }

pub send_to-requires-clause-room : goal.send_to-requires-clause-room
send_to-requires-clause-room c =
    let t = task_of (length c.args.parent.now) c.args.ends.now c.args.cap.now in
    let h = tree_of c.args.parent.now c.args.arc.now c.args.depth.now in
    let l = c.loop-a in
    let low = left_low t h l.a l.b c.requires.hung l.invariant.on.a_node l.invariant.on.b_node
    c.loop-a-test.true c.if-depth-a.true in
    room_left t h (at c.args.flow.now) (at l.flow) c.args.i c.args.j c.args.found.now.apex l.a l.b
    c.args.found.now.step c.requires.hung c.requires.can l.invariant.on l.invariant.sent
    c.loop-a-test.true c.if-depth-a.true low

pub send_from-requires-clause-room : goal.send_from-requires-clause-room
send_from-requires-clause-room c =
    let t = task_of (length c.args.parent.now) c.args.ends.now c.args.cap.now in
    let h = tree_of c.args.parent.now c.args.arc.now c.args.depth.now in
    let l = c.loop-a in
    let low = right_low t h l.a l.b c.requires.hung l.invariant.on.b_node c.if-depth-a.false in
    room_right t h (at c.args.flow.now) (at l.flow) c.args.i c.args.j c.args.found.now.apex l.a l.b
    c.args.found.now.step c.requires.hung c.requires.can l.invariant.on l.invariant.sent
    c.loop-a-test.true c.if-depth-a.false low

pub loop-a-smaller-then-depth-a : goal.loop-a-smaller-then-depth-a
loop-a-smaller-then-depth-a c =
    let t = task_of (length c.args.parent.now) c.args.ends.now c.args.cap.now in
    let h = tree_of c.args.parent.now c.args.arc.now c.args.depth.now in
    let l = c.loop-a in
    let low = left_low t h l.a l.b c.requires.hung l.invariant.on.a_node l.invariant.on.b_node
    c.loop-a-test.true c.if-depth-a.true in
    let fall = c.requires.hung.falls l.a low in
    omega (arith, fall)

pub loop-a-preserved-then-depth-a : goal.loop-a-preserved-then-depth-a
loop-a-preserved-then-depth-a c =
    let t = task_of (length c.args.parent.now) c.args.ends.now c.args.cap.now in
    let h = tree_of c.args.parent.now c.args.arc.now c.args.depth.now in
    let l = c.loop-a in
    let low = left_low t h l.a l.b c.requires.hung l.invariant.on.a_node l.invariant.on.b_node
    c.loop-a-test.true c.if-depth-a.true in
    let arc_in = c.requires.hung.arc l.a low in
    let in_flow : h.arc l.a < length l.flow =
    (let z = c.requires.sizes.1 in let y = l.auto.flow in omega (arith, z, y, arc_in)) in
    record {
      sent = rw (
        c.send_to.ensures,
        at-set 0 l.flow (h.arc l.a)
            (sent_to t.net (at l.flow) (h.arc l.a) l.a c.args.found.now.step) in_flow,
      )
          (send_left t h (at c.args.flow.now) (at l.flow) c.args.i c.args.j c.args.found.now.apex
          l.a l.b c.args.found.now.step c.requires.hung c.requires.can l.invariant.on
          l.invariant.sent c.loop-a-test.true c.if-depth-a.true);
      on = between_left t h (at c.args.flow.now) (at l.flow) c.args.i c.args.j c.args.found.now.apex
          l.a l.b c.args.found.now.step c.requires.hung c.requires.can l.invariant.on
          l.invariant.sent c.loop-a-test.true c.if-depth-a.true;
    }

pub loop-a-preserved : goal.loop-a-preserved
loop-a-preserved c =
    let t = task_of (length c.args.parent.now) c.args.ends.now c.args.cap.now in
    let h = tree_of c.args.parent.now c.args.arc.now c.args.depth.now in
    let l = c.loop-a in
    let low = right_low t h l.a l.b c.requires.hung l.invariant.on.b_node c.if-depth-a.false in
    let arc_in = c.requires.hung.arc l.b low in
    let in_flow : h.arc l.b < length l.flow =
    (let z = c.requires.sizes.1 in let y = l.auto.flow in omega (arith, z, y, arc_in)) in
    record {
      sent = rw (
        c.send_from.ensures,
        at-set 0 l.flow (h.arc l.b)
            (sent_from t.net (at l.flow) (h.arc l.b) l.b c.args.found.now.step) in_flow,
      )
          (send_right t h (at c.args.flow.now) (at l.flow) c.args.i c.args.j c.args.found.now.apex
          l.a l.b c.args.found.now.step c.requires.hung c.requires.can l.invariant.on
          l.invariant.sent c.loop-a-test.true c.if-depth-a.false);
      on = between_right t h (at c.args.flow.now) (at l.flow) c.args.i c.args.j
          c.args.found.now.apex l.a l.b c.args.found.now.step c.requires.hung c.requires.can
          l.invariant.on l.invariant.sent c.loop-a-test.true c.if-depth-a.false;
    }

pub returns : goal.returns
returns c =
    let t = task_of (length c.args.parent.now) c.args.ends.now c.args.cap.now in
    let h = tree_of c.args.parent.now c.args.arc.now c.args.depth.now in
    let l = c.loop-a in
    let both : l.a ≡ l.b = c.loop-a-test.false in
    let on = rw (← both) at l.invariant.on in
    let sent = rw (← both) at l.invariant.sent in
    let is = between_ends t h (at c.args.flow.now) c.args.i c.args.j c.args.found.now.apex l.a
    c.args.found.now.step c.requires.can on in
    rw (← is) sent
