use Rattle.std.proofs.Common.{◌≡◌, length, arith, sym, ap, subst}
use Rattle.push_flow.proofs.Scan.{given_back, owned}
use Rattle.push_flow.proofs.Waving.{tail_small, ends_nodes, wave_held, wave_toil, wave_shut}
use Rattle.push_flow.proofs.Waving.{wave_quiet}
use Rattle.push_flow.specs.Held.{supply_of, toil, IsHeld}
use Rattle.push_flow.specs.Slices.{at, task_of}
use Rattle.push_flow.proofs.settle.solve.Goals as goal

pub turn-requires-clause-held : goal.turn-requires-clause-held
turn-requires-clause-held c =
    let n = length c.args.height.now in
    let t = task_of n c.args.ends.now c.args.cap.now in
    let S = supply_of t (at c.args.flow.now) (at c.args.excess.now) (at c.args.want.now) in
    let l = c.loop-waved in
    let wv = l.invariant.wave in
    let was = l.invariant.was in
    let lens : length l.height ≡ n =
    (let a = l.auto.height in let b = c.wave-waved.auto.height in omega (arith, a, b)) in
    let nodes = ends_nodes n c.args.ends.now c.args.cap.now c.requires.ends_in in
    let held = wave_held t S (at l.flow) (at l.excess) (at l.want) (at l.before) (at l.height)
    (at l.queue) l.waved.found l.waved.tail l.waved.tail was wv (omega arith) nodes in
    rw lens (owned t S (at l.flow) (at l.excess) (at l.want) (at l.height) held)

pub turn-requires-clause-queue : goal.turn-requires-clause-queue
turn-requires-clause-queue c =
    let n = length c.args.height.now in
    let t = task_of n c.args.ends.now c.args.cap.now in
    let S = supply_of t (at c.args.flow.now) (at c.args.excess.now) (at c.args.want.now) in
    let l = c.loop-waved in
    let wv = l.invariant.wave in
    let was = l.invariant.was in
    let lens : length l.height ≡ n =
    (let a = l.auto.height in let b = c.wave-waved.auto.height in omega (arith, a, b)) in
    let nodes = ends_nodes n c.args.ends.now c.args.cap.now c.requires.ends_in in
    let held = wave_held t S (at l.flow) (at l.excess) (at l.want) (at l.before) (at l.height)
    (at l.queue) l.waved.found l.waved.tail l.waved.tail was wv (omega arith) nodes in
    let small = tail_small t (at l.flow) (at l.excess) (at l.want) (at l.before) (at l.height)
    (at l.queue) l.waved.found l.waved.tail l.waved.tail wv in
    let a = l.auto.queue in
    let b = c.wave-waved.auto.queue in
    let d = c.requires.more in
    (omega (arith, small, a, b, d), λ i li. rw lens (wv.listed i li).0)

pub wave-waved-requires-in-loop-waved-clause-held :
    goal.wave-waved-requires-in-loop-waved-clause-held
wave-waved-requires-in-loop-waved-clause-held c =
    let n = length c.args.height.now in
    let t = task_of n c.args.ends.now c.args.cap.now in
    let S = supply_of t (at c.args.flow.now) (at c.args.excess.now) (at c.args.want.now) in
    let l = c.loop-waved in
    let wv = l.invariant.wave in
    let was = l.invariant.was in
    let lens : length l.height ≡ n =
    (let a = l.auto.height in let b = c.wave-waved.auto.height in omega (arith, a, b)) in
    let nodes = ends_nodes n c.args.ends.now c.args.cap.now c.requires.ends_in in
    let held = wave_held t S (at l.flow) (at l.excess) (at l.want) (at l.before) (at l.height)
    (at l.queue) l.waved.found l.waved.tail l.waved.tail was wv (omega arith) nodes in
    let new = c.turn.new in
    let lens_turn : length new.height ≡ n =
    (let a = c.turn.auto.height in omega (arith, a, lens)) in
    let same : c.copy_from_slice-in-loop-waved.new.self ≡ new.height =
    c.copy_from_slice-in-loop-waved.ensures.after in
    let pushed = rw lens at c.turn.ensures.held in
    let now = given_back t S (at l.flow) (at l.excess) (at l.want) (at l.height) (at new.flow)
    (at new.excess) (at new.want) (at new.height) held pushed in
    rw (lens_turn, same) (owned t S (at new.flow) (at new.excess) (at new.want) (at new.height) now)

pub loop-waved-smaller : goal.loop-waved-smaller
loop-waved-smaller c =
    let n = length c.args.height.now in
    let t = task_of n c.args.ends.now c.args.cap.now in
    let S = supply_of t (at c.args.flow.now) (at c.args.excess.now) (at c.args.want.now) in
    let l = c.loop-waved in
    let wv = l.invariant.wave in
    let was = l.invariant.was in
    let lens : length l.height ≡ n =
    (let a = l.auto.height in let b = c.wave-waved.auto.height in omega (arith, a, b)) in
    let nodes = ends_nodes n c.args.ends.now c.args.cap.now c.requires.ends_in in
    let held = wave_held t S (at l.flow) (at l.excess) (at l.want) (at l.before) (at l.height)
    (at l.queue) l.waved.found l.waved.tail l.waved.tail was wv (omega arith) nodes in
    let new = c.turn.new in
    let lens_turn : length new.height ≡ n =
    (let a = c.turn.auto.height in omega (arith, a, lens)) in
    let same : c.copy_from_slice-in-loop-waved.new.self ≡ new.height =
    c.copy_from_slice-in-loop-waved.ensures.after in
    let pushed = rw lens at c.turn.ensures.held in
    let now = given_back t S (at l.flow) (at l.excess) (at l.want) (at l.height) (at new.flow)
    (at new.excess) (at new.want) (at new.height) held pushed in
    let last = c.wave-waved-in-loop-waved in
    let wave = rw lens_turn at last.ensures in
    let was' : IsHeld t S (at new.flow) (at new.excess) (at new.want)
    (at c.copy_from_slice-in-loop-waved.new.self) =
    subst (λ x. IsHeld t S (at new.flow) (at new.excess) (at new.want) (at x)) (sym same) now in
    let falls = wave_toil t S (at new.flow) (at new.excess) (at new.want)
    (at c.copy_from_slice-in-loop-waved.new.self) (at last.new.height) (at last.new.queue)
    last.result.found last.result.tail last.result.tail was' wave (omega arith) in
    let is : toil n (at new.excess) (at c.copy_from_slice-in-loop-waved.new.self)
    ≡ toil n (at new.excess) (at new.height) = ap (λ x. toil n (at new.excess) (at x)) same in
    let less = rw lens at c.turn.ensures.toil in
    omega (arith, falls, is, less)

pub loop-waved-preserved : goal.loop-waved-preserved
loop-waved-preserved c =
    let n = length c.args.height.now in
    let t = task_of n c.args.ends.now c.args.cap.now in
    let S = supply_of t (at c.args.flow.now) (at c.args.excess.now) (at c.args.want.now) in
    let l = c.loop-waved in
    let wv = l.invariant.wave in
    let was = l.invariant.was in
    let lens : length l.height ≡ n =
    (let a = l.auto.height in let b = c.wave-waved.auto.height in omega (arith, a, b)) in
    let nodes = ends_nodes n c.args.ends.now c.args.cap.now c.requires.ends_in in
    let held = wave_held t S (at l.flow) (at l.excess) (at l.want) (at l.before) (at l.height)
    (at l.queue) l.waved.found l.waved.tail l.waved.tail was wv (omega arith) nodes in
    let new = c.turn.new in
    let lens_turn : length new.height ≡ n =
    (let a = c.turn.auto.height in omega (arith, a, lens)) in
    let same : c.copy_from_slice-in-loop-waved.new.self ≡ new.height =
    c.copy_from_slice-in-loop-waved.ensures.after in
    let pushed = rw lens at c.turn.ensures.held in
    let now = given_back t S (at l.flow) (at l.excess) (at l.want) (at l.height) (at new.flow)
    (at new.excess) (at new.want) (at new.height) held pushed in
    let last = c.wave-waved-in-loop-waved in
    let wave = rw lens_turn at last.ensures in
    record {
      was = subst (λ x. IsHeld t S (at new.flow) (at new.excess) (at new.want) (at x)) (sym same)
          now;
      wave = wave;
      ring = rw lens at c.turn.ensures.ring;
    }

pub returns-clause-held : goal.returns-clause-held
returns-clause-held c =
    let n = length c.args.height.now in
    let t = task_of n c.args.ends.now c.args.cap.now in
    let S = supply_of t (at c.args.flow.now) (at c.args.excess.now) (at c.args.want.now) in
    let l = c.loop-waved in
    let wv = l.invariant.wave in
    let was = l.invariant.was in
    let lens : length l.height ≡ n =
    (let a = l.auto.height in let b = c.wave-waved.auto.height in omega (arith, a, b)) in
    let nodes = ends_nodes n c.args.ends.now c.args.cap.now c.requires.ends_in in
    let held = wave_held t S (at l.flow) (at l.excess) (at l.want) (at l.before) (at l.height)
    (at l.queue) l.waved.found l.waved.tail l.waved.tail was wv (omega arith) nodes in
    held

pub returns-clause-shut : goal.returns-clause-shut
returns-clause-shut c =
    let n = length c.args.height.now in
    let t = task_of n c.args.ends.now c.args.cap.now in
    let S = supply_of t (at c.args.flow.now) (at c.args.excess.now) (at c.args.want.now) in
    let l = c.loop-waved in
    let wv = l.invariant.wave in
    let was = l.invariant.was in
    let lens : length l.height ≡ n =
    (let a = l.auto.height in let b = c.wave-waved.auto.height in omega (arith, a, b)) in
    let nodes = ends_nodes n c.args.ends.now c.args.cap.now c.requires.ends_in in
    let held = wave_held t S (at l.flow) (at l.excess) (at l.want) (at l.before) (at l.height)
    (at l.queue) l.waved.found l.waved.tail l.waved.tail was wv (omega arith) nodes in
    wave_shut t S (at l.flow) (at l.excess) (at l.want) (at l.before) (at l.height) (at l.queue)
    l.waved.found l.waved.tail l.waved.tail was wv (omega arith)

pub returns-clause-quiet : goal.returns-clause-quiet
returns-clause-quiet c =
    let n = length c.args.height.now in
    let t = task_of n c.args.ends.now c.args.cap.now in
    let S = supply_of t (at c.args.flow.now) (at c.args.excess.now) (at c.args.want.now) in
    let l = c.loop-waved in
    let wv = l.invariant.wave in
    let was = l.invariant.was in
    let lens : length l.height ≡ n =
    (let a = l.auto.height in let b = c.wave-waved.auto.height in omega (arith, a, b)) in
    let nodes = ends_nodes n c.args.ends.now c.args.cap.now c.requires.ends_in in
    let held = wave_held t S (at l.flow) (at l.excess) (at l.want) (at l.before) (at l.height)
    (at l.queue) l.waved.found l.waved.tail l.waved.tail was wv (omega arith) nodes in
    wave_quiet t S (at l.flow) (at l.excess) (at l.want) (at l.before) (at l.height) (at l.queue)
    l.waved.found l.waved.tail l.waved.tail was wv (omega arith) c.loop-waved-test.false
