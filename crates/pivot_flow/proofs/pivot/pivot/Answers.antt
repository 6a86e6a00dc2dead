use Rattle.std.proofs.Common.{◌≡◌, ◌<◌, length, pos, neg_ℤ, ◌-ℤ◌, arith, to_z, of_z, w64, sym}
use Rattle.std.proofs.Common.{subst}
use Rattle.std.proofs.lemmas.Int.{ints}
use Rattle.pivot_flow.proofs.Pivoted.{depths_small, entered_at, free_kept, prices_small}
use Rattle.pivot_flow.proofs.Pivoting.{can_send, state_after, state_before, state_enters}
use Rattle.pivot_flow.proofs.Pricing.{price_small}
use Rattle.pivot_flow.proofs.Recasting.{rehung_full}
use Rattle.pivot_flow.specs.Enter.{enter_room, head_of, saving, tail_of}
use Rattle.pivot_flow.specs.Spread.{price_at}
use Rattle.pivot_flow.specs.State.{height_of, sends_of}
use Rattle.pivot_flow.specs.Tree.{at, task_of, tree_of}
use Rattle.pivot_flow.proofs.pivot.pivot.Goals as goal

pub saving_of-saving-requires-clause-prices : goal.saving_of-saving-requires-clause-prices
saving_of-saving-requires-clause-prices c v l =
    price_small (task_of (length c.args.parent.now) c.args.ends.now c.args.cap.now)
    (price_at c.args.cost.now) (tree_of c.args.parent.now c.args.arc.now c.args.depth.now)
    (price_at c.args.price.now) c.requires.state.hung c.requires.state.priced c.requires.costed
    v (let a = c.requires.lens in omega (arith, a, l))

pub send-requires-clause-can : goal.send-requires-clause-can
send-requires-clause-can c =
    let t = task_of (length c.args.parent.now) c.args.ends.now c.args.cap.now in
    let h = tree_of c.args.parent.now c.args.arc.now c.args.depth.now in
    let f = at c.args.flow.now in
    let found = c.args.found.now in
    rw (c.tail_of-i.ensures, c.head_of-j.ensures)
    (can_send t h f (tail_of t.net c.args.e c.args.forward) (head_of t.net c.args.e c.args.forward)
    (enter_room t f c.args.e c.args.forward) found.apex found.step found.leaves c.requires.look)

pub rehang-requires-clause-prices : goal.rehang-requires-clause-prices
rehang-requires-clause-prices c =
    let t = task_of (length c.args.parent.now) c.args.ends.now c.args.cap.now in
    prices_small t (sends_of t (at c.args.flow.now)) (price_at c.args.cost.now)
    (tree_of c.args.parent.now c.args.arc.now c.args.depth.now) (at c.args.flow.now)
    (price_at c.args.price.now) c.requires.state c.requires.costed

pub rehang-requires-clause-depths : goal.rehang-requires-clause-depths
rehang-requires-clause-depths c =
    let t = task_of (length c.args.parent.now) c.args.ends.now c.args.cap.now in
    depths_small t (sends_of t (at c.args.flow.now)) (price_at c.args.cost.now)
    (tree_of c.args.parent.now c.args.arc.now c.args.depth.now) (at c.args.flow.now)
    (price_at c.args.price.now) c.requires.state c.requires.costed

pub rehang-requires-in-After-clause-prices : goal.rehang-requires-in-After-clause-prices
rehang-requires-in-After-clause-prices c =
    let t = task_of (length c.args.parent.now) c.args.ends.now c.args.cap.now in
    prices_small t (sends_of t (at c.args.flow.now)) (price_at c.args.cost.now)
    (tree_of c.args.parent.now c.args.arc.now c.args.depth.now) (at c.args.flow.now)
    (price_at c.args.price.now) c.requires.state c.requires.costed

pub rehang-requires-in-After-clause-depths : goal.rehang-requires-in-After-clause-depths
rehang-requires-in-After-clause-depths c =
    let t = task_of (length c.args.parent.now) c.args.ends.now c.args.cap.now in
    depths_small t (sends_of t (at c.args.flow.now)) (price_at c.args.cost.now)
    (tree_of c.args.parent.now c.args.arc.now c.args.depth.now) (at c.args.flow.now)
    (price_at c.args.price.now) c.requires.state c.requires.costed

pub returns-in-Enters : goal.returns-in-Enters
returns-in-Enters c =
    let t = task_of (length c.args.parent.now) c.args.ends.now c.args.cap.now in
    let h = tree_of c.args.parent.now c.args.arc.now c.args.depth.now in
    let f = at c.args.flow.now in
    let g = at c.send.new.flow in
    let cost = price_at c.args.cost.now in
    let y = price_at c.args.price.now in
    let found = c.args.found.now in
    let e = c.args.e in
    let forward = c.args.forward in
    let look = rw c.in-Enters.is at c.requires.look in
    let sent = rw (c.tail_of-i.ensures, c.head_of-j.ensures) at c.send.ensures in
    let moved = entered_at c.send.new.flow c.enter.new.flow e forward found.step c.enter.ensures
    (let a = c.requires.may.arc in let b = c.requires.arcs in let d = c.send.auto.flow in
    omega (arith, a, b, d)) in
    let now = state_enters t (sends_of t f) cost h f g y e forward found.apex found.step
    c.requires.shape c.requires.costed c.requires.state c.requires.may sent look in
    record {
      kids = c.requires.kids;
      free = rw moved (free_kept t cost h f g y e forward found.apex found.step found.leaves
          c.requires.shape c.requires.state c.requires.may c.requires.look sent c.requires.roomy
          c.requires.free c.requires.short);
      state = rw moved now.0;
      falls = subst (λ next. height_of t cost next y < height_of t cost f y) (sym moved) now.1;
    }

pub returns-in-Before : goal.returns-in-Before
returns-in-Before c =
    let n = length c.args.parent.now in
    let es = c.args.ends.now in
    let t = task_of n es c.args.cap.now in
    let h = tree_of c.args.parent.now c.args.arc.now c.args.depth.now in
    let f = at c.args.flow.now in
    let g = at c.send.new.flow in
    let cost = price_at c.args.cost.now in
    let y = price_at c.args.price.now in
    let found = c.args.found.now in
    let e = c.args.e in
    let forward = c.args.forward in
    let x = c.in-Before.x in
    let hung = c.rehang in
    let p = at hung.new.parent in
    let a = at hung.new.arc in
    let d' = at hung.new.depth in
    let y' = price_at hung.new.price in
    let look = rw c.in-Before.is at c.requires.look in
    let sent = rw (c.tail_of-i.ensures, c.head_of-j.ensures) at c.send.ensures in
    let small = c.saving_of-saving.ensures.small in
    let is : c.saving_of-saving.result ≡ saving t.net cost y e forward =
    c.saving_of-saving.ensures.is in
    let again = rehung_full n es c.args.cap.now h p a y y' d' c.tail_of-i.result c.head_of-j.result
    (tail_of t.net e forward) (head_of t.net e forward) e x
    (to_z w64 (of_z w64 c.saving_of-saving.result))
    (saving t.net cost y e forward) c.tail_of-i.ensures c.head_of-j.ensures
    (omega (arith, ints, small, is)) hung.ensures.turned hung.ensures.settled in
    let moved = entered_at c.send.new.flow c.enter.new.flow e forward found.step c.enter.ensures
    (let a = c.requires.may.arc in let b = c.requires.arcs in let d = c.send.auto.flow in
    omega (arith, a, b, d)) in
    let now = state_before t (sends_of t f) cost h f g y e forward found.apex found.step
    c.requires.shape c.requires.costed c.requires.state c.requires.may sent x p a d' y' look
    again.0 again.1 in
    record {
      kids = hung.ensures.kids;
      free = rw moved (free_kept t cost h f g y e forward found.apex found.step found.leaves
          c.requires.shape c.requires.state c.requires.may c.requires.look sent c.requires.roomy
          c.requires.free c.requires.short);
      state = rw moved now.0;
      falls = subst (λ next. height_of t cost next y' < height_of t cost f y) (sym moved) now.1;
    }

pub returns-in-After : goal.returns-in-After
returns-in-After c =
    let n = length c.args.parent.now in
    let es = c.args.ends.now in
    let t = task_of n es c.args.cap.now in
    let h = tree_of c.args.parent.now c.args.arc.now c.args.depth.now in
    let f = at c.args.flow.now in
    let g = at c.send.new.flow in
    let cost = price_at c.args.cost.now in
    let y = price_at c.args.price.now in
    let found = c.args.found.now in
    let e = c.args.e in
    let forward = c.args.forward in
    let x = c.in-After.x in
    let hung = c.rehang-in-After in
    let p = at hung.new.parent in
    let a = at hung.new.arc in
    let d' = at hung.new.depth in
    let y' = price_at hung.new.price in
    let look = rw c.in-After.is at c.requires.look in
    let sent = rw (c.tail_of-i.ensures, c.head_of-j.ensures) at c.send.ensures in
    let small = c.saving_of-saving.ensures.small in
    let is : c.saving_of-saving.result ≡ saving t.net cost y e forward =
    c.saving_of-saving.ensures.is in
    let again = rehung_full n es c.args.cap.now h p a y y' d' c.head_of-j.result c.tail_of-i.result
    (head_of t.net e forward) (tail_of t.net e forward) e x
    (to_z w64 (of_z w64 (pos 0 -ℤ to_z w64 (of_z w64 c.saving_of-saving.result))))
    (neg_ℤ (saving t.net cost y e forward)) c.head_of-j.ensures c.tail_of-i.ensures
    (omega (arith, ints, small, is)) hung.ensures.turned hung.ensures.settled in
    let moved = entered_at c.send.new.flow c.enter.new.flow e forward found.step c.enter.ensures
    (let a = c.requires.may.arc in let b = c.requires.arcs in let d = c.send.auto.flow in
    omega (arith, a, b, d)) in
    let now = state_after t (sends_of t f) cost h f g y e forward found.apex found.step
    c.requires.shape c.requires.costed c.requires.state c.requires.may sent x p a d' y' look
    again.0 again.1 in
    record {
      kids = hung.ensures.kids;
      free = rw moved (free_kept t cost h f g y e forward found.apex found.step found.leaves
          c.requires.shape c.requires.state c.requires.may c.requires.look sent c.requires.roomy
          c.requires.free c.requires.short);
      state = rw moved now.0;
      falls = subst (λ next. height_of t cost next y' < height_of t cost f y) (sym moved) now.1;
    }
