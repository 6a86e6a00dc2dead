use Rattle.std.proofs.Common.{◌≡◌, ◌≢◌, ℕ, ◌+◌, ◌-◌, ◌<◌, List, [], ◌∷◌, ◌++◌, length, drop, true}
use Rattle.std.proofs.Common.{false, None, refl, sym, ap, subst, ◌∙◌, arith, slice_index}
use Rattle.std.proofs.Common.{append_assoc, get_or, zero, suc}
use Rattle.std.specs.List.{remove}
use Rattle.std.proofs.lemmas.List.Edits.{get_or-remove_below, length-remove}
use Rattle.observe_core.specs.Losses.{CanLose, leaves_at}
use Rattle.slab.specs.Slab.{get, ContainsKey}
use Rattle.notify_chain.specs.Seats.{SeatSeen, seat_at, seat_from, seats_of, Became, Each, IsKept}
use Rattle.notify_chain.specs.Leaving.{goes, stayers, goers}
use Rattle.notify_chain.proofs.SeatLemmas.{all_below}
use Rattle.notify_chain.proofs.LeaveLemmas.{kept_removed, kept_changed, stays_step, stays_keys}
use Rattle.notify_chain.proofs.LeaveLemmas.{leaves_step, leaves_keys}
use Rattle.notify_chain.proofs.losing.lose_all.Goals as goal

-- what stands within the list, whatever the default
within : (xs : List ℕ) (i : ℕ) (d : ℕ) → i < length xs → get_or xs i d ≡ slice_index xs i
within [] i d l = absurd (omega (arith, l))
within (x ∷ xs) zero d l = refl
within (x ∷ xs) (suc i) d l = within xs i d (omega (arith, l))

append_nil : (xs : List ℕ) → xs ++ [] ≡ xs
append_nil [] = refl
append_nil (x ∷ xs) = ap (λ l. x ∷ l) (append_nil xs)

drop_all : (xs : List ℕ) → drop (length xs) xs ≡ []
drop_all [] = refl
drop_all (x ∷ xs) = drop_all xs

pub loop-i-init : goal.loop-i-init
loop-i-init g c =
    let n : c.len-i.result ≡ length c.args.order.now.items =
    grind (arith, c.len-i.ensures, c.args.order.now.ok.0) in
    let none : drop c.len-i.result c.args.order.now.items ≡ [] =
    ap (λ n. drop n c.args.order.now.items) n ∙ drop_all c.args.order.now.items in
    record {
      kept = c.requires.kept;
      room = c.requires.room;
      within = omega (arith, n);
      within_old = omega (arith, n);
      front = λ j l. (refl, refl);
      lost = subst
          (λ xs. Each (Became (λ s. s))
          (stayers c.args.loss.now (seats_of g.O.Observer.watch c.args.slab.now xs))
          (seats_of g.O.Observer.watch c.args.slab.now xs)) (sym none) tt;
      left = subst
          (λ xs. c.args.left.now.items ≡ c.args.left.now.items
          ++ goers c.args.loss.now (seats_of g.O.Observer.watch c.args.slab.now xs)) (sym none)
          (sym (append_nil c.args.left.now.items));
    }

pub lose_at-requires-clause-there : goal.lose_at-requires-clause-there
lose_at-requires-clause-there g c =
    let k : c.index-key.result.now ≡ slice_index c.loop-i.order.items (c.loop-i.i - 1) =
    c.index-key.ensures
    ∙ within c.loop-i.order.items (c.loop-i.i - 1) c.index-key.result.now
    (let t = c.loop-i-test.true in let w = c.loop-i.invariant.within in omega (arith, t, w)) in
    subst (ContainsKey c.loop-i.slab) (sym k)
    (c.loop-i.invariant.kept.occupied (c.loop-i.i - 1)
    (let t = c.loop-i-test.true in let w = c.loop-i.invariant.within in omega (arith, t, w)))

pub lose_at-requires-clause-can : goal.lose_at-requires-clause-can
lose_at-requires-clause-can g c =
    let b = g.O.Observer in
    let t = c.loop-i-test.true in
    let w = c.loop-i.invariant.within_old in
    let i = c.loop-i.i - 1 in
    let k : c.index-key.result.now ≡ slice_index c.loop-i.order.items (c.loop-i.i - 1) =
    c.index-key.ensures
    ∙ within c.loop-i.order.items (c.loop-i.i - 1) c.index-key.result.now
    (let t = c.loop-i-test.true in let w = c.loop-i.invariant.within in omega (arith, t, w)) in
    let f = c.loop-i.invariant.front i (omega (arith, t)) in
    let h : CanLose c.args.loss.now
    (seat_at b.watch c.args.slab.now (slice_index c.args.order.now.items i)).seen =
    all_below b.watch (λ s. CanLose c.args.loss.now s.seen) c.args.slab.now
    c.args.order.now.items c.requires.can i (omega (arith, t, w)) in
    subst (λ (s : SeatSeen). CanLose c.args.loss.now s.seen)
    (sym (ap (seat_at b.watch c.loop-i.slab) (k ∙ f.0)
    ∙ ap (seat_from b.watch (slice_index c.args.order.now.items i)) f.1)) h

pub loop-i-preserved : goal.loop-i-preserved
loop-i-preserved g c =
    let b = g.O.Observer in
    let i = c.loop-i.i - 1 in
    let t = c.loop-i-test.true in
    let w = c.loop-i.invariant.within in
    let w0 = c.loop-i.invariant.within_old in
    let up : i + 1 ≡ c.loop-i.i = omega (arith, t) in
    let l : i < length c.loop-i.order.items = omega (arith, t, w) in
    let l0 : i < length c.args.order.now.items = omega (arith, t, w0) in
    let f = c.loop-i.invariant.front i (omega (arith, t)) in
    let k : c.index-key.result.now ≡ slice_index c.loop-i.order.items i = c.index-key.ensures
    ∙ within c.loop-i.order.items i c.index-key.result.now l in
    let seen = rw k at c.lose_at.ensures.lost in
    let leaves = rw k at c.lose_at.ensures.leaves in
    let room = rw k at c.lose_at.ensures.room in
    let reach = rw k at c.lose_at.ensures.reach in
    let others : (m : ℕ) → m ≢ slice_index c.loop-i.order.items i
    → get c.lose_at.new.slab m ≡ get c.loop-i.slab m = λ m n.
    c.lose_at.ensures.elsewhere m (λ e. n (e ∙ k)) in
    let there : ContainsKey c.lose_at.new.slab (slice_index c.loop-i.order.items i) =
    subst (ContainsKey c.lose_at.new.slab) k c.lose_at.ensures.there in
    let stay : goes
    (leaves_at c.args.loss.now
    (seat_at b.watch c.loop-i.slab (slice_index c.loop-i.order.items i)).seen) ≡ false =
    ap goes (sym leaves ∙ c.in_default.is) in
    record {
      kept = kept_changed c.loop-i.slab c.lose_at.new.slab c.loop-i.order.items
          (slice_index c.loop-i.order.items i) c.loop-i.invariant.kept
          (c.loop-i.invariant.kept.occupied i l) there others;
      room = c.loop-i.invariant.room;
      within = omega (arith, w);
      within_old = omega (arith, w0);
      front = λ j m.
          let h = c.loop-i.invariant.front j (omega (arith, m)) in (
            h.0,
            others (slice_index c.args.order.now.items j)
                (λ e. c.requires.kept.distinct j i m l0 (e ∙ f.0)) ∙ h.1,
          );
      lost = stays_step b.watch c.args.loss.now c.args.order.now.items c.loop-i.order.items
          c.args.slab.now c.loop-i.slab c.lose_at.new.slab i l0 l c.loop-i.invariant.kept f.0 f.1
          seen room reach others stay
          (subst (λ n.
          Each (Became (λ s. s))
          (stayers c.args.loss.now
          (seats_of b.watch c.args.slab.now (drop n c.args.order.now.items)))
          (seats_of b.watch c.loop-i.slab (drop n c.loop-i.order.items))) (sym up)
          c.loop-i.invariant.lost);
      left = subst
          (λ n. c.loop-i.left.items ≡ c.args.left.now.items
          ++ goers c.args.loss.now
          (seats_of b.watch c.args.slab.now (drop n c.args.order.now.items))) (sym up)
          c.loop-i.invariant.left
          ∙ ap (λ l. c.args.left.now.items ++ l)
          (sym (stays_keys b.watch c.args.loss.now c.args.order.now.items c.loop-i.order.items
          c.args.slab.now c.loop-i.slab c.lose_at.new.slab i l0 l c.loop-i.invariant.kept f.0 f.1
          seen room reach others stay));
    }

pub loop-i-preserved-in-Ok : goal.loop-i-preserved-in-Ok
loop-i-preserved-in-Ok g c =
    let b = g.O.Observer in
    let i = c.loop-i.i - 1 in
    let t = c.loop-i-test.true in
    let w = c.loop-i.invariant.within in
    let w0 = c.loop-i.invariant.within_old in
    let up : i + 1 ≡ c.loop-i.i = omega (arith, t) in
    let l : i < length c.loop-i.order.items = omega (arith, t, w) in
    let l0 : i < length c.args.order.now.items = omega (arith, t, w0) in
    let f = c.loop-i.invariant.front i (omega (arith, t)) in
    let order = c.loop-i.order.items in
    let k : c.index-key.result.now ≡ slice_index order i = c.index-key.ensures
    ∙ within order i c.index-key.result.now l in
    let seen = rw k at c.lose_at.ensures.lost in
    let leaves = rw k at c.lose_at.ensures.leaves in
    let room = rw k at c.lose_at.ensures.room in
    let reach = rw k at c.lose_at.ensures.reach in
    let others : (m : ℕ) → m ≢ slice_index order i
    → get c.lose_at.new.slab m ≡ get c.loop-i.slab m = λ m n.
    c.lose_at.ensures.elsewhere m (λ e. n (e ∙ k)) in
    let leave : goes
    (leaves_at c.args.loss.now (seat_at b.watch c.loop-i.slab (slice_index order i)).seen)
    ≡ true = ap goes (sym leaves ∙ c.in-Detach.is) in
    let last = c.try_remove.new.self in
    let same : (m : ℕ) → m ≢ slice_index order i → get last m ≡ get c.lose_at.new.slab m = λ m n.
    c.try_remove.ensures.updates.others m (λ e. n (e ∙ k)) in
    let gone : get last (slice_index order i) ≡ None =
    subst (λ n. get last n ≡ None) k c.try_remove.ensures.updates.changed in
    let items : c.remove.new.self.items ≡ remove order i = c.remove.ensures.items in
    let pushed : c.push.new.self.items ≡ c.loop-i.left.items ++ slice_index order i ∷ [] =
    c.in-Ok.ensures.items ∙ ap (λ n. c.loop-i.left.items ++ n ∷ []) k in
    let fewer = length-remove order i l in
    let len = ap length items in
    record {
      kept = subst (IsKept last) (sym items)
          (kept_removed c.loop-i.slab last order i l c.loop-i.invariant.kept gone
          (λ m n. same m n ∙ others m n));
      room = let r = c.loop-i.invariant.room in let p = c.in-Ok.ensures.len in let q =
          c.remove.ensures.len in let e = c.in-Ok.ensures.capacity in omega (arith, r, p, q, e);
      within = omega (arith, w, fewer, len);
      within_old = omega (arith, w0);
      front = λ j m.
          let h = c.loop-i.invariant.front j (omega (arith, m)) in
          let d : slice_index c.args.order.now.items j ≢ slice_index order i = λ e.
          c.requires.kept.distinct j i m l0 (e ∙ f.0) in (
            ap (λ xs. slice_index xs j) items ∙ get_or-remove_below order i 0 j m l ∙ h.0,
            same (slice_index c.args.order.now.items j) d
                ∙ others (slice_index c.args.order.now.items j) d ∙ h.1,
          );
      lost = subst
          (λ xs. Each (Became (λ s. s))
          (stayers c.args.loss.now
          (seats_of b.watch c.args.slab.now (drop i c.args.order.now.items)))
          (seats_of b.watch last (drop i xs))) (sym items)
          (leaves_step b.watch c.args.loss.now c.args.order.now.items order c.args.slab.now
          c.loop-i.slab c.lose_at.new.slab i l0 l c.loop-i.invariant.kept f.0 f.1 seen room
          reach others last same leave
          (subst (λ n.
          Each (Became (λ s. s))
          (stayers c.args.loss.now
          (seats_of b.watch c.args.slab.now (drop n c.args.order.now.items)))
          (seats_of b.watch c.loop-i.slab (drop n order))) (sym up) c.loop-i.invariant.lost));
      left =
          let was : c.loop-i.left.items ≡ c.args.left.now.items
          ++ goers c.args.loss.now
          (seats_of b.watch c.args.slab.now (drop (i + 1) c.args.order.now.items)) =
          subst (λ n. c.loop-i.left.items ≡ c.args.left.now.items
          ++ goers c.args.loss.now
          (seats_of b.watch c.args.slab.now (drop n c.args.order.now.items))) (sym up)
          c.loop-i.invariant.left in
          let keys = leaves_keys b.watch c.args.loss.now c.args.order.now.items order
          c.args.slab.now c.loop-i.slab c.lose_at.new.slab i l0 l c.loop-i.invariant.kept f.0
          f.1 seen room reach others leave in
          pushed ∙ ap (λ l. l ++ slice_index order i ∷ []) was
          ∙ append_assoc c.args.left.now.items
          (goers c.args.loss.now
          (seats_of b.watch c.args.slab.now (drop (i + 1) c.args.order.now.items)))
          (slice_index order i ∷ [])
          ∙ ap (λ l. c.args.left.now.items ++ l) (sym keys);
    }

pub returns : goal.returns
returns g c =
    let z : c.loop-i.i ≡ 0 = let f = c.loop-i-test.false in omega (arith, f) in
    let b = g.O.Observer in
    record {
      kept = c.loop-i.invariant.kept;
      room = c.loop-i.invariant.room;
      lost = subst
          (λ n. Each (Became (λ s. s))
          (stayers c.args.loss.now
          (seats_of b.watch c.args.slab.now (drop n c.args.order.now.items)))
          (seats_of b.watch c.loop-i.slab (drop n c.loop-i.order.items))) z c.loop-i.invariant.lost;
      left = subst
          (λ n. c.loop-i.left.items ≡ c.args.left.now.items
          ++ goers c.args.loss.now
          (seats_of b.watch c.args.slab.now (drop n c.args.order.now.items))) z
          c.loop-i.invariant.left;
    }
