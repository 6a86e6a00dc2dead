use Rattle.std.proofs.Common.{◌≡◌, ◌≢◌, ℕ, ◌<◌, ◌≤◌, ◌+◌, length, arith, sym, ◌∙◌, ap, refl, subst}
use Rattle.plain_certificates.proofs.Tables.{set_at-other}
use Rattle.plain_certificates.specs.Rooms.{room_to}
use Rattle.push_flow.proofs.Lists.{at-set}
use Rattle.push_flow.proofs.Waving.{at_p, reach_old, reach_full, reach_more, reach_new, reach_ends}
use Rattle.push_flow.proofs.Waving.{tail_small}
use Rattle.push_flow.specs.Held.{supply_of}
use Rattle.push_flow.specs.Slices.{at, spoke_at, task_of}
use Rattle.push_flow.proofs.wave.reach.Goals as goal

pub loop-p-init : goal.loop-p-init
loop-p-init c = record {
  reach = record {
    wave = c.requires.wave;
    inside = c.requires.here.0;
    begun = omega arith;
    passed = λ i a b room. absurd (omega (arith, a, b));
  };
  same_v = refl;
  same_over = refl;
}

pub loop-p-preserved-then-height-spoke : goal.loop-p-preserved-then-height-spoke
loop-p-preserved-then-height-spoke c =
    let n = length c.args.height.now in
    let t = task_of n c.args.ends.now c.args.cap.now in
    let S = supply_of t (at c.args.flow.now) (at c.args.excess.now) (at c.args.want.now) in
    let l = c.loop-p in
    let v = at c.args.queue.now c.args.head in
    let h = at l.height in
    let q = at l.queue in
    let r = l.invariant.reach in
    let s = spoke_at c.args.row.now l.p in
    let is_v : q c.args.head ≡ v = l.invariant.same_v in
    let lp = subst (λ x. l.p < at c.args.start.now (x + 1)) (sym is_v) c.loop-p-test.true in
    record {
      reach = reach_old t S (at c.args.start.now) (spoke_at c.args.row.now) (length c.args.row.now)
          (at c.args.flow.now) (at c.args.excess.now) (at c.args.want.now) (at c.args.before.now) h
          q c.args.found c.args.head l.tail l.p c.requires.held c.requires.rows r lp
          c.if-height-spoke.true;
      same_v = l.invariant.same_v;
      same_over = l.invariant.same_over;
    }

pub loop-p-preserved-then-room-eq0 : goal.loop-p-preserved-then-room-eq0
loop-p-preserved-then-room-eq0 c =
    let n = length c.args.height.now in
    let t = task_of n c.args.ends.now c.args.cap.now in
    let S = supply_of t (at c.args.flow.now) (at c.args.excess.now) (at c.args.want.now) in
    let l = c.loop-p in
    let v = at c.args.queue.now c.args.head in
    let h = at l.height in
    let q = at l.queue in
    let r = l.invariant.reach in
    let s = spoke_at c.args.row.now l.p in
    let is_v : q c.args.head ≡ v = l.invariant.same_v in
    let lp = subst (λ x. l.p < at c.args.start.now (x + 1)) (sym is_v) c.loop-p-test.true in
    let none : room_to t.graph t.cap (at c.args.flow.now) s.arc v ≡ 0 = sym c.room_to-room.ensures
    ∙ c.if-room-eq0.true in
    record {
      reach = reach_full t S (at c.args.start.now) (spoke_at c.args.row.now) (length c.args.row.now)
          (at c.args.flow.now) (at c.args.excess.now) (at c.args.want.now) (at c.args.before.now) h
          q c.args.found c.args.head l.tail l.p c.requires.held c.requires.rows r lp
          (subst (λ x. room_to t.graph t.cap (at c.args.flow.now) s.arc x ≡ 0) (sym is_v) none);
      same_v = l.invariant.same_v;
      same_over = l.invariant.same_over;
    }

pub loop-p-preserved : goal.loop-p-preserved
loop-p-preserved c =
    let n = length c.args.height.now in
    let t = task_of n c.args.ends.now c.args.cap.now in
    let S = supply_of t (at c.args.flow.now) (at c.args.excess.now) (at c.args.want.now) in
    let l = c.loop-p in
    let v = at c.args.queue.now c.args.head in
    let h = at l.height in
    let q = at l.queue in
    let r = l.invariant.reach in
    let s = spoke_at c.args.row.now l.p in
    let is_v : q c.args.head ≡ v = l.invariant.same_v in
    let lp = subst (λ x. l.p < at c.args.start.now (x + 1)) (sym is_v) c.loop-p-test.true in
    let in_row =
    at_p t S (at c.args.start.now) (spoke_at c.args.row.now) (length c.args.row.now)
    (at c.args.flow.now) (at c.args.excess.now) (at c.args.want.now) (at c.args.before.now) h q
    c.args.found c.args.head l.tail l.p c.requires.held c.requires.rows r lp in
    let room0 = c.if-room-eq0.false in
    let room1 = c.room_to-room.ensures in
    let room : 0 < room_to t.graph t.cap (at c.args.flow.now) s.arc (q c.args.head) =
    subst (λ x. 0 < room_to t.graph t.cap (at c.args.flow.now) s.arc x) (sym is_v)
    (let a = room1 in omega (arith, room0, a)) in
    let far_high = c.if-height-spoke.false in
    let far_top = r.wave.high s.far in_row.1 in
    let fresh : h s.far ≡ n = omega (arith, far_high, far_top) in
    let small = reach_more t S (at c.args.start.now) (spoke_at c.args.row.now)
    (length c.args.row.now) (at c.args.flow.now) (at c.args.excess.now) (at c.args.want.now)
    (at c.args.before.now) h q c.args.found c.args.head l.tail l.p c.requires.held
    c.requires.rows r lp fresh room in
    let in_height : s.far < length l.height =
    (let a = l.auto.height in let b = in_row.1 in omega (arith, a, b)) in
    let in_queue : l.tail < length l.queue =
    (let a = l.auto.queue in let b = c.requires.lens in omega (arith, a, b, small)) in
    let over : at c.args.height.now v + 1 ≡ h (q c.args.head) + 1 = sym l.invariant.same_over
    ∙ ap (λ x. h x + 1) (sym is_v) in
    let got = reach_new t S (at c.args.start.now) (spoke_at c.args.row.now) (length c.args.row.now)
    (at c.args.flow.now) (at c.args.excess.now) (at c.args.want.now) (at c.args.before.now) h q
    c.args.found c.args.head l.tail l.p c.requires.held c.requires.rows r lp fresh room in
    let off_v : v ≢ s.far =
    (λ z. (let a = (r.wave.low c.args.head r.inside).1 in let b : h (q c.args.head) ≡ h s.far =
    ap h (is_v ∙ z) in absurd (omega (arith, a, b, fresh)))) in
    let off_head : c.args.head ≢ l.tail =
    (λ z. (let a = r.inside in absurd (omega (arith, z, a)))) in
    record {
      reach = rw (
        at-set l.height s.far (at c.args.height.now v + 1) in_height,
        at-set l.queue l.tail s.far in_queue,
        over,
      ) got;
      same_v = subst (λ (x : ℕ → ℕ). x c.args.head ≡ v) (sym (at-set l.queue l.tail s.far in_queue))
          (set_at-other q l.tail s.far c.args.head off_head ∙ is_v);
      same_over = subst (λ (x : ℕ → ℕ). x v + 1 ≡ at c.args.height.now v + 1)
          (sym (at-set l.height s.far (at c.args.height.now v + 1) in_height))
          (ap (λ x. x + 1) (set_at-other h s.far (at c.args.height.now v + 1) v off_v)
          ∙ l.invariant.same_over);
    }

pub bounds-queue-tail : goal.bounds-queue-tail
bounds-queue-tail c =
    let n = length c.args.height.now in
    let t = task_of n c.args.ends.now c.args.cap.now in
    let S = supply_of t (at c.args.flow.now) (at c.args.excess.now) (at c.args.want.now) in
    let l = c.loop-p in
    let v = at c.args.queue.now c.args.head in
    let h = at l.height in
    let q = at l.queue in
    let r = l.invariant.reach in
    let s = spoke_at c.args.row.now l.p in
    let is_v : q c.args.head ≡ v = l.invariant.same_v in
    let lp = subst (λ x. l.p < at c.args.start.now (x + 1)) (sym is_v) c.loop-p-test.true in
    let in_row =
    at_p t S (at c.args.start.now) (spoke_at c.args.row.now) (length c.args.row.now)
    (at c.args.flow.now) (at c.args.excess.now) (at c.args.want.now) (at c.args.before.now) h q
    c.args.found c.args.head l.tail l.p c.requires.held c.requires.rows r lp in
    let room0 = c.if-room-eq0.false in
    let room1 = c.room_to-room.ensures in
    let room : 0 < room_to t.graph t.cap (at c.args.flow.now) s.arc (q c.args.head) =
    subst (λ x. 0 < room_to t.graph t.cap (at c.args.flow.now) s.arc x) (sym is_v)
    (let a = room1 in omega (arith, room0, a)) in
    let far_high = c.if-height-spoke.false in
    let far_top = r.wave.high s.far in_row.1 in
    let fresh : h s.far ≡ n = omega (arith, far_high, far_top) in
    let small = reach_more t S (at c.args.start.now) (spoke_at c.args.row.now)
    (length c.args.row.now) (at c.args.flow.now) (at c.args.excess.now) (at c.args.want.now)
    (at c.args.before.now) h q c.args.found c.args.head l.tail l.p c.requires.held
    c.requires.rows r lp fresh room in
    let in_height : s.far < length l.height =
    (let a = l.auto.height in let b = in_row.1 in omega (arith, a, b)) in
    let in_queue : l.tail < length l.queue =
    (let a = l.auto.queue in let b = c.requires.lens in omega (arith, a, b, small)) in
    in_queue

pub overflow_add-tail : goal.overflow_add-tail
overflow_add-tail c =
    let n = length c.args.height.now in
    let t = task_of n c.args.ends.now c.args.cap.now in
    let S = supply_of t (at c.args.flow.now) (at c.args.excess.now) (at c.args.want.now) in
    let l = c.loop-p in
    let v = at c.args.queue.now c.args.head in
    let h = at l.height in
    let q = at l.queue in
    let r = l.invariant.reach in
    let s = spoke_at c.args.row.now l.p in
    let is_v : q c.args.head ≡ v = l.invariant.same_v in
    let lp = subst (λ x. l.p < at c.args.start.now (x + 1)) (sym is_v) c.loop-p-test.true in
    let in_row =
    at_p t S (at c.args.start.now) (spoke_at c.args.row.now) (length c.args.row.now)
    (at c.args.flow.now) (at c.args.excess.now) (at c.args.want.now) (at c.args.before.now) h q
    c.args.found c.args.head l.tail l.p c.requires.held c.requires.rows r lp in
    let room0 = c.if-room-eq0.false in
    let room1 = c.room_to-room.ensures in
    let room : 0 < room_to t.graph t.cap (at c.args.flow.now) s.arc (q c.args.head) =
    subst (λ x. 0 < room_to t.graph t.cap (at c.args.flow.now) s.arc x) (sym is_v)
    (let a = room1 in omega (arith, room0, a)) in
    let far_high = c.if-height-spoke.false in
    let far_top = r.wave.high s.far in_row.1 in
    let fresh : h s.far ≡ n = omega (arith, far_high, far_top) in
    let small = reach_more t S (at c.args.start.now) (spoke_at c.args.row.now)
    (length c.args.row.now) (at c.args.flow.now) (at c.args.excess.now) (at c.args.want.now)
    (at c.args.before.now) h q c.args.found c.args.head l.tail l.p c.requires.held
    c.requires.rows r lp fresh room in
    let in_height : s.far < length l.height =
    (let a = l.auto.height in let b = in_row.1 in omega (arith, a, b)) in
    let in_queue : l.tail < length l.queue =
    (let a = l.auto.queue in let b = c.requires.lens in omega (arith, a, b, small)) in
    (let b = c.requires.lens in omega (arith, b, small))

pub bounds-queue-head : goal.bounds-queue-head
bounds-queue-head c =
    let t = task_of (length c.args.height.now) c.args.ends.now c.args.cap.now in
    let small = tail_small t (at c.args.flow.now) (at c.args.excess.now) (at c.args.want.now)
    (at c.args.before.now) (at c.args.height.now) (at c.args.queue.now) c.args.found c.args.head
    c.args.tail c.requires.wave in
    let a = c.requires.here.0 in
    let b = c.requires.lens in
    omega (arith, small, a, b)

pub returns : goal.returns
returns c =
    let n = length c.args.height.now in
    let t = task_of n c.args.ends.now c.args.cap.now in
    let S = supply_of t (at c.args.flow.now) (at c.args.excess.now) (at c.args.want.now) in
    let l = c.loop-p in
    let v = at c.args.queue.now c.args.head in
    let h = at l.height in
    let q = at l.queue in
    let r = l.invariant.reach in
    let is_v : q c.args.head ≡ v = l.invariant.same_v in
    reach_ends t (at c.args.start.now) (spoke_at c.args.row.now) (length c.args.row.now)
    (at c.args.flow.now) (at c.args.excess.now) (at c.args.want.now) (at c.args.before.now) h q
    c.args.found c.args.head l.tail l.p c.requires.rows r
    (subst (λ x. at c.args.start.now (x + 1) ≤ l.p) (sym is_v) c.loop-p-test.false)
    (λ z. ap (at c.args.excess.now) is_v ∙ c.requires.here.1 z)
