use Rattle.std.proofs.Common.{◌≡◌, inl, inr, ℕ, ◌+◌, ◌-◌, ◌<◌, ◌≤◌, length, sym, ap}
use Rattle.std.proofs.Common.{subst, ◌≢◌, ◌∙◌, arith}
use Rattle.plain_certificates.specs.Rooms.{room_from, sent_from}
use Rattle.push_flow.proofs.Lists.{at-set}
use Rattle.push_flow.proofs.Pushing.{small_then, flow_then, excess_lists, excess_then, want_then}
use Rattle.push_flow.proofs.Scan.{risen, risen_toil, scan_held, scan_toil, scan_pushes}
use Rattle.push_flow.specs.Held.{supply_of, toil}
use Rattle.push_flow.specs.Slices.{at, spoke_at, task_of}
use Rattle.push_flow.proofs.discharge.discharge.Goals as goal

pub push-requires-clause-small : goal.push-requires-clause-small
push-requires-clause-small c =
    let n = length c.args.height.now in
    let t = task_of n c.args.ends.now c.args.cap.now in
    let S = supply_of t (at c.args.flow.now) (at c.args.excess.now) (at c.args.want.now) in
    let l = c.loop-p in
    let v = c.args.v in
    let sc = l.invariant.scan in
    let s = spoke_at c.args.row.now l.p in
    let in_row = c.requires.rows.inside v l.p c.requires.node sc.begun c.loop-p-test.true in
    let room = c.room_from-room.ensures in
    let least = c.less_of-step.ensures in
    let step = c.less_of-step.result in
    let down : at c.args.height.now v ≡ at c.args.height.now s.far + 1 = sym c.if-over-here.false in
    let le : step ≤ room_from t.graph t.cap (at l.flow) s.arc v = rw (← room) least.0 in
    small_then t S (at l.flow) (at l.excess) (at l.want) (at c.args.height.now) s.arc v s.far step
    sc.held in_row.0 c.requires.node in_row.1 in_row.2 down le least.1

pub returns-then-excess-v-eq0-clause-held : goal.returns-then-excess-v-eq0-clause-held
returns-then-excess-v-eq0-clause-held c =
    let n = length c.args.height.now in
    let t = task_of n c.args.ends.now c.args.cap.now in
    let S = supply_of t (at c.args.flow.now) (at c.args.excess.now) (at c.args.want.now) in
    let l = c.loop-p in
    let v = c.args.v in
    let sc = l.invariant.scan in
    let s = spoke_at c.args.row.now l.p in
    let in_row = c.requires.rows.inside v l.p c.requires.node sc.begun c.loop-p-test.true in
    let room = c.room_from-room.ensures in
    let least = c.less_of-step.ensures in
    let step = c.less_of-step.result in
    let down : at c.args.height.now v ≡ at c.args.height.now s.far + 1 = sym c.if-over-here.false in
    let le : step ≤ room_from t.graph t.cap (at l.flow) s.arc v = rw (← room) least.0 in
    let some : 0 < step =
    (let a = sc.has in let b =
    c.if-room-eq0.false in elim least.2
    [ inl x ↦ omega (arith, x, b) | inr x ↦ omega (arith, x, a) ]) in
    let in_flow : s.arc < length l.flow =
    (let z = c.requires.sizes in let y = l.auto.flow in let q =
    in_row.0 in omega (arith, z, y, q)) in
    let in_v : v < length l.excess =
    (let z = c.requires.lens in let y = l.auto.excess in let q =
    c.requires.node in omega (arith, z, y, q)) in
    let in_u : s.far < length l.excess =
    (let z = c.requires.lens in let y = l.auto.excess in let q =
    in_row.1 in omega (arith, z, y, q)) in
    let in_want : s.far < length l.want =
    (let z = c.requires.lens in let y = l.auto.want in let q =
    in_row.1 in omega (arith, z, y, q)) in
    let e_flow : at c.push.new.flow ≡ flow_then t (at l.flow) s.arc v step =
    rw c.push.ensures.flow
    (at-set l.flow s.arc (sent_from t.graph (at l.flow) s.arc v step) in_flow) in
    let e_want : at c.push.new.want ≡ want_then (at l.want) s.far step =
    rw c.push.ensures.want (at-set l.want s.far (at l.want s.far - step) in_want) in
    let off : s.far ≢ v =
    (λ z. (let a = ap (at c.args.height.now) z in absurd (omega (arith, a, down)))) in
    let e_excess : at c.push.new.excess ≡ excess_then (at l.excess) (at l.want) v s.far step =
    rw c.push.ensures.excess (excess_lists l.excess l.want v s.far step in_v in_u off) in
    rw (e_flow, e_excess, e_want)
    (scan_held t S (at c.args.start.now) (spoke_at c.args.row.now) (at l.flow) (at l.excess)
    (at l.want) (at c.args.height.now) v l.p l.least
    (toil n (at c.args.excess.now) (at c.args.height.now)) sc step in_row.0 c.requires.node
    in_row.1 in_row.2 down le least.1)

pub returns-then-excess-v-eq0-clause-toil : goal.returns-then-excess-v-eq0-clause-toil
returns-then-excess-v-eq0-clause-toil c =
    let n = length c.args.height.now in
    let t = task_of n c.args.ends.now c.args.cap.now in
    let S = supply_of t (at c.args.flow.now) (at c.args.excess.now) (at c.args.want.now) in
    let l = c.loop-p in
    let v = c.args.v in
    let sc = l.invariant.scan in
    let s = spoke_at c.args.row.now l.p in
    let in_row = c.requires.rows.inside v l.p c.requires.node sc.begun c.loop-p-test.true in
    let room = c.room_from-room.ensures in
    let least = c.less_of-step.ensures in
    let step = c.less_of-step.result in
    let down : at c.args.height.now v ≡ at c.args.height.now s.far + 1 = sym c.if-over-here.false in
    let le : step ≤ room_from t.graph t.cap (at l.flow) s.arc v = rw (← room) least.0 in
    let some : 0 < step =
    (let a = sc.has in let b =
    c.if-room-eq0.false in elim least.2
    [ inl x ↦ omega (arith, x, b) | inr x ↦ omega (arith, x, a) ]) in
    let in_flow : s.arc < length l.flow =
    (let z = c.requires.sizes in let y = l.auto.flow in let q =
    in_row.0 in omega (arith, z, y, q)) in
    let in_v : v < length l.excess =
    (let z = c.requires.lens in let y = l.auto.excess in let q =
    c.requires.node in omega (arith, z, y, q)) in
    let in_u : s.far < length l.excess =
    (let z = c.requires.lens in let y = l.auto.excess in let q =
    in_row.1 in omega (arith, z, y, q)) in
    let in_want : s.far < length l.want =
    (let z = c.requires.lens in let y = l.auto.want in let q =
    in_row.1 in omega (arith, z, y, q)) in
    let e_flow : at c.push.new.flow ≡ flow_then t (at l.flow) s.arc v step =
    rw c.push.ensures.flow
    (at-set l.flow s.arc (sent_from t.graph (at l.flow) s.arc v step) in_flow) in
    let e_want : at c.push.new.want ≡ want_then (at l.want) s.far step =
    rw c.push.ensures.want (at-set l.want s.far (at l.want s.far - step) in_want) in
    let off : s.far ≢ v =
    (λ z. (let a = ap (at c.args.height.now) z in absurd (omega (arith, a, down)))) in
    let e_excess : at c.push.new.excess ≡ excess_then (at l.excess) (at l.want) v s.far step =
    rw c.push.ensures.excess (excess_lists l.excess l.want v s.far step in_v in_u off) in
    subst (λ e. toil n e (at c.args.height.now) < toil n (at c.args.excess.now)
    (at c.args.height.now)) (sym e_excess)
    (scan_toil t S (at c.args.start.now) (spoke_at c.args.row.now) (at l.flow) (at l.excess)
    (at l.want) (at c.args.height.now) v l.p l.least
    (toil n (at c.args.excess.now) (at c.args.height.now)) sc step in_row.0 c.requires.node
    in_row.1 in_row.2 down le least.1 some)

pub loop-p-preserved : goal.loop-p-preserved
loop-p-preserved c =
    let n = length c.args.height.now in
    let t = task_of n c.args.ends.now c.args.cap.now in
    let S = supply_of t (at c.args.flow.now) (at c.args.excess.now) (at c.args.want.now) in
    let l = c.loop-p in
    let v = c.args.v in
    let sc = l.invariant.scan in
    let s = spoke_at c.args.row.now l.p in
    let in_row = c.requires.rows.inside v l.p c.requires.node sc.begun c.loop-p-test.true in
    let room = c.room_from-room.ensures in
    let least = c.less_of-step.ensures in
    let step = c.less_of-step.result in
    let down : at c.args.height.now v ≡ at c.args.height.now s.far + 1 = sym c.if-over-here.false in
    let le : step ≤ room_from t.graph t.cap (at l.flow) s.arc v = rw (← room) least.0 in
    let some : 0 < step =
    (let a = sc.has in let b =
    c.if-room-eq0.false in elim least.2
    [ inl x ↦ omega (arith, x, b) | inr x ↦ omega (arith, x, a) ]) in
    let in_flow : s.arc < length l.flow =
    (let z = c.requires.sizes in let y = l.auto.flow in let q =
    in_row.0 in omega (arith, z, y, q)) in
    let in_v : v < length l.excess =
    (let z = c.requires.lens in let y = l.auto.excess in let q =
    c.requires.node in omega (arith, z, y, q)) in
    let in_u : s.far < length l.excess =
    (let z = c.requires.lens in let y = l.auto.excess in let q =
    in_row.1 in omega (arith, z, y, q)) in
    let in_want : s.far < length l.want =
    (let z = c.requires.lens in let y = l.auto.want in let q =
    in_row.1 in omega (arith, z, y, q)) in
    let e_flow : at c.push.new.flow ≡ flow_then t (at l.flow) s.arc v step =
    rw c.push.ensures.flow
    (at-set l.flow s.arc (sent_from t.graph (at l.flow) s.arc v step) in_flow) in
    let e_want : at c.push.new.want ≡ want_then (at l.want) s.far step =
    rw c.push.ensures.want (at-set l.want s.far (at l.want s.far - step) in_want) in
    let off : s.far ≢ v =
    (λ z. (let a = ap (at c.args.height.now) z in absurd (omega (arith, a, down)))) in
    let e_excess : at c.push.new.excess ≡ excess_then (at l.excess) (at l.want) v s.far step =
    rw c.push.ensures.excess (excess_lists l.excess l.want v s.far step in_v in_u off) in
    let left : 0 < at c.push.new.excess v = (let a = c.if-excess-v-eq0.false in omega (arith, a)) in
    record {
      scan = rw (e_flow, e_excess, e_want)
          (scan_pushes t S (at c.args.start.now) (spoke_at c.args.row.now) (at l.flow) (at l.excess)
          (at l.want) (at c.args.height.now) v l.p l.least
          (toil n (at c.args.excess.now) (at c.args.height.now)) sc step in_row.0 c.requires.node
          in_row.1 in_row.2 down le least.1 some
          (elim least.2 [ inl x ↦ inl (x ∙ room) | inr x ↦ inr x ])
          (subst (λ (e : ℕ → ℕ). 0 < e v) e_excess left));
      ring = c.queued-tail.ensures.nodes;
      tail = c.queued-tail.ensures.tail;
    }

pub returns-clause-held : goal.returns-clause-held
returns-clause-held c =
    let n = length c.args.height.now in
    let t = task_of n c.args.ends.now c.args.cap.now in
    let S = supply_of t (at c.args.flow.now) (at c.args.excess.now) (at c.args.want.now) in
    let l = c.loop-p in
    let v = c.args.v in
    let sc = l.invariant.scan in
    rw (at-set c.args.height.now v l.least c.requires.node)
    (risen t S (at c.args.start.now) (spoke_at c.args.row.now) (length c.args.row.now) (at l.flow)
    (at l.excess) (at l.want) (at c.args.height.now) v l.p l.least
    (toil n (at c.args.excess.now) (at c.args.height.now)) c.requires.rows c.requires.node sc
    c.loop-p-test.false)

pub returns-clause-toil : goal.returns-clause-toil
returns-clause-toil c =
    let n = length c.args.height.now in
    let t = task_of n c.args.ends.now c.args.cap.now in
    let S = supply_of t (at c.args.flow.now) (at c.args.excess.now) (at c.args.want.now) in
    let l = c.loop-p in
    let v = c.args.v in
    let sc = l.invariant.scan in
    subst (λ h. toil n (at l.excess) h < toil n (at c.args.excess.now) (at c.args.height.now))
    (sym (at-set c.args.height.now v l.least c.requires.node))
    (risen_toil t S (at c.args.start.now) (spoke_at c.args.row.now) (at l.flow) (at l.excess)
    (at l.want) (at c.args.height.now) v l.p l.least
    (toil n (at c.args.excess.now) (at c.args.height.now)) c.requires.node sc)
