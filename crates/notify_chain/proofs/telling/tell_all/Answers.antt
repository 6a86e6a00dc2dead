use Rattle.std.proofs.Common.{◌≤◌, sym, ap, subst, ◌∙◌, arith, slice_index, inl, inr}
use Rattle.observe_core.specs.Changes.{told}
use Rattle.observe_core.specs.Seen.{Lawful}
use Rattle.notify_chain.specs.Seats.{seat_from, seat_at, Became}
use Rattle.notify_chain.proofs.SeatLemmas.{seat-sound, seat-reaches, could_untell, told_back}
use Rattle.notify_chain.proofs.SeatLemmas.{refused_same, refused_law, refuses_at, split_at}
use Rattle.notify_chain.proofs.SeatLemmas.{became_same, became_refused}
use Rattle.slab.specs.Slab.{get}
use Rattle.notify_chain.proofs.telling.tell_all.Goals as goal

pub take_back-requires-clause-can : goal.take_back-requires-clause-can
take_back-requires-clause-can g c = λ j l.
    let b = g.O.Observer in
    let k = slice_index c.args.order.now j in
    let differ = c.loop-i.invariant.kept.distinct j c.loop-i.i l (omega arith) in
    let e = c.tell_at.ensures.elsewhere k differ in
    let t = c.loop-i.invariant.told j (omega arith) l in
    let t2 = subst
    (λ v. Became (told c.args.change.now) (seat_at b.watch c.args.slab.now k)
    (seat_from b.watch k v)) (sym e) t in
    could_untell c.args.change.now (seat_at b.watch c.args.slab.now k)
    (seat_at b.watch c.tell_at.new.slab k) (c.requires.can j (omega arith))
    (seat-sound b.watch k (get c.args.slab.now k))
    (seat-reaches b.watch k (get c.args.slab.now k)) t2

pub returns-in-Err-clause-err : goal.returns-in-Err-clause-err
returns-in-Err-clause-err g c = λ j z l.
    let b = g.O.Observer in
    let order = c.args.order.now in
    let i = c.loop-i.i in
    let change = c.args.change.now in
    let k = slice_index order j in
    let loop = c.loop-i.invariant in
    elim (split_at j i) as (λ _.
    Became (λ s. s) (seat_at b.watch c.args.slab.now k)
    (seat_at b.watch c.take_back.new.slab k)) [
      | inl m ↦
          let e = c.tell_at.ensures.elsewhere k (loop.kept.distinct j i m (omega arith)) in
          let t2 = subst
          (λ v. Became (told change) (seat_at b.watch c.args.slab.now k)
          (seat_from b.watch k v)) (sym e) (loop.told j z m) in
          told_back change (seat_at b.watch c.args.slab.now k)
          (seat_at b.watch c.tell_at.new.slab k) (seat_at b.watch c.take_back.new.slab k)
          (c.requires.can j l) (seat-sound b.watch k (get c.args.slab.now k)) t2
          (c.take_back.ensures.untold j z m)
      | inr r ↦ elim r as (λ _.
          Became (λ s. s) (seat_at b.watch c.args.slab.now k)
          (seat_at b.watch c.take_back.new.slab k)) [
            | inl same ↦
                subst (λ n. Became (λ s. s) (seat_at b.watch c.args.slab.now (slice_index order n))
                (seat_at b.watch c.take_back.new.slab (slice_index order n))) (sym same)
                (let q = slice_index order i in
                let h = loop.rest i (omega arith) (omega arith) in
                let t = refused_same c.tell_at.result c.in-Err.veto
                (seat_at b.watch c.loop-i.slab q).seen (seat_at b.watch c.tell_at.new.slab q).seen
                (told change (seat_at b.watch c.loop-i.slab q).seen) c.in-Err.is
                c.tell_at.ensures.told in
                became_refused b.watch q (get c.args.slab.now q) (get c.tell_at.new.slab q)
                (get c.take_back.new.slab q)
                (c.take_back.ensures.rest i (omega arith) (omega arith))
                (t ∙ ap (λ v. (seat_from b.watch q v).seen) h)
                (subst (λ v.
                (seat_from b.watch q v).room ≤ (seat_at b.watch c.tell_at.new.slab q).room)
                h c.tell_at.ensures.room)
                (subst (λ v.
                (seat_from b.watch q v).reach ≤ (seat_at b.watch c.tell_at.new.slab q).reach) h
                c.tell_at.ensures.reach))
            | inr m ↦
                let e = c.tell_at.ensures.elsewhere k (λ h. loop.kept.distinct i j m l (sym h)) in
                became_same b.watch k (get c.args.slab.now k) (get c.take_back.new.slab k)
                (c.take_back.ensures.rest j (omega arith) l ∙ e ∙ loop.rest j (omega arith) l)
          ]
    ]

pub returns-in-Err-clause-refuser : goal.returns-in-Err-clause-refuser
returns-in-Err-clause-refuser g c =
    let b = g.O.Observer in
    let order = c.args.order.now in
    let i = c.loop-i.i in
    let change = c.args.change.now in
    let loop = c.loop-i.invariant in
    let q = slice_index order i in
    let h = loop.rest i (omega arith) (omega arith) in
    refuses_at b.watch (told change) c.args.slab.now c.in-Err.veto order i (omega arith)
    (λ j m. let k =
    slice_index order j in subst Lawful (loop.told j (omega arith) m).seen
    (seat-sound b.watch k (get c.loop-i.slab k)).lawful)
    (λ v. subst (λ w. Lawful (told change (seat_from b.watch q w).seen) → ⊥) h
    (refused_law c.tell_at.result c.in-Err.veto (seat_at b.watch c.loop-i.slab q).seen
    (seat_at b.watch c.tell_at.new.slab q).seen
    (told change (seat_at b.watch c.loop-i.slab q).seen) c.in-Err.is c.tell_at.ensures.told v))
